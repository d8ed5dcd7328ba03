use Rattle.std.proofs.Common.{◌≡◌, ◌∙◌, [], refl, sym, rules}
use Rattle.pgpipe_explain.specs.Tracker.{after}
use Rattle.pgpipe_explain.specs.Tracked.{followed}
use Rattle.pgpipe_explain.proofs.Places.{after_none}
use Rattle.pgpipe_explain.proofs.tracked.TrackedSource.receive.Goals as goal

pub returns-in-Ok-eq0-clause-bytes : goal.returns-in-Ok-eq0-clause-bytes
returns-in-Ok-eq0-clause-bytes g c =
    let same : after c.self.inside.tracker c.self.inside.piece.items ≡ followed c.args.self.now = search rules in
    (search rules, same ∙ sym (after_none (followed c.args.self.now) [] refl))

pub returns-in-Err-clause-bytes : goal.returns-in-Err-clause-bytes
returns-in-Err-clause-bytes g c =
    let same : after c.self.inside.tracker c.self.inside.piece.items ≡ followed c.args.self.now = search rules in
    (search rules, same ∙ sym (after_none (followed c.args.self.now) [] refl))
