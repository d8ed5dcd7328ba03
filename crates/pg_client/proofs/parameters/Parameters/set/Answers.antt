use Rattle.std.proofs.Common.{◌∙◌, ap, cond, bytes_eq, List, ℕ, Vec, Global, Some, Option}
use Rattle.pg_client.specs.View.{value_of}
use Rattle.pg_client.proofs.ParameterLaws.{updated}
use Rattle.pg_client.proofs.parameters.Parameters.set.Goals as goal

pub returns-clause-ok : goal.returns-clause-ok
returns-clause-ok c = λ n.
    updated (λ (k : Vec ℕ Global). k.items) c.self.inside.values.entries c.insert.new.self.entries c.args.name.items (Some c.args.value) c.in_ok-insert.ensures.updates.1 c.in_ok-insert.ensures.updates.3 n
    ∙ ap (λ (o : Option (List ℕ)). cond (bytes_eq c.args.name.items n) (Some c.args.value) o) (ap (value_of n) c.self.view_is)
