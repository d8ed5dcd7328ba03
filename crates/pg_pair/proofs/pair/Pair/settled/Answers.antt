use Rattle.std.proofs.Common.{subst}
use Rattle.pg_pair.specs.Invariant.{Tied}
use Rattle.pg_pair.proofs.Stored.{kept_headline}
use Rattle.pg_pair.proofs.pair.Pair.settled.Goals as goal

pub returns-clause-headline : goal.returns-clause-headline
returns-clause-headline g c =
    kept_headline c.args.self.now (c.headline.ensures c.args.self.now) (subst (λ p. ∥ Tied p ∥₁) c.self.view_is c.self.invariant.0)
