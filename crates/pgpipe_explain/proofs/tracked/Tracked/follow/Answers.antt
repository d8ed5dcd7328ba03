use Rattle.std.proofs.Common.{◌∙◌, ap, rules}
use Rattle.pgpipe_explain.specs.declared.tracker.Tracker.{Tracker}
use Rattle.pgpipe_explain.specs.Tracker.{after}
use Rattle.pgpipe_explain.proofs.Places.{after_none}
use Rattle.pgpipe_explain.proofs.tracked.Tracked.follow.Goals as goal

pub returns-clause-follows : goal.returns-clause-follows
returns-clause-follows g c =
    after_none c.after-self-inside.result c.self.inside.piece.items (search rules) ∙ c.after-self-inside.ensures
    ∙ ap (λ (t : Tracker). after t c.args.bytes.now) (search rules)
