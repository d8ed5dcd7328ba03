use Rattle.std.proofs.Common.{◌∙◌, ap, rules}
use Rattle.pgpipe_explain.specs.declared.tracker.Tracker.{Tracker}
use Rattle.pgpipe_explain.specs.Tracker.{after}
use Rattle.pgpipe_explain.proofs.Places.{after_none}
use Rattle.pgpipe_explain.proofs.tracked.Tracked.keep.Goals as goal

pub returns-then-is_err-clause-follows : goal.returns-then-is_err-clause-follows
returns-then-is_err-clause-follows g c =
    after_none c.after-self-inside.result c.extend_from_slice.new.self.items (search rules) ∙ c.after-self-inside.ensures
    ∙ ap (λ (t : Tracker). after t c.args.piece.now) (search rules)
