use Rattle.std.proofs.Common.{rules, ◌≡◌, sym, ap, ◌∙◌, slice_get, Some}
use Rattle.pg_wire.specs.Segment.{asked}
use Rattle.pg_wire.specs.declared.session.Request.{Request}
use Rattle.pg_response.specs.Place.{begins, still_asked}
use Rattle.pg_response.proofs.Steps.{begins_step}
use Rattle.pg_response.proofs.place.Place.begin.Goals as goal

pub returns-in-Some : goal.returns-in-Some
returns-in-Some c =
    let there : slice_get c.in-Group.steps c.args.self.now.answers ≡ Some c.in-Some.step.now = search rules in
    c.begin_answer.ensures
    ∙ sym (ap (λ (r : Request). begins (still_asked (asked r) c.args.self.now.answers) c.args.mark) c.in-Group.is ∙ begins_step c.in-Group.steps c.args.self.now.answers c.in-Some.step.now c.args.mark there)
