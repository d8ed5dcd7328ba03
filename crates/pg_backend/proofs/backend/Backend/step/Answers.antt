use Rattle.std.proofs.Common.{◌≡◌, sym, ◌∙◌, arith}
use Rattle.std.proofs.lemmas.Grind.{common_steps}
use Rattle.pg_backend.proofs.Handling.StepHandled.{step_done, refused_done, refused_is, memory_not_refused}
use Rattle.pg_backend.proofs.backend.Backend.step.Goals as goal

pub returns-then-is_refused-clause-history : goal.returns-then-is_refused-clause-history
returns-then-is_refused-clause-history c =
    let b = c.args.self.now in
    let is = refused_is c.advance-answer.result (sym c.is_refused.ensures ∙ c.if-is_refused.true) in
    let a = rw is at c.advance-answer.ensures.call in
    let back : c.truncate.new.self.items ≡ c.args.out.now.items = grind (arith, common_steps) in
    refused_done b.script b.limit b.left b.log b.stage c.advance-answer.new.self c.give_up.new.self c.args.out.now.items c.truncate.new.self.items c.advance-answer.result is a.1 c.give_up.ensures back

pub returns-else-is_refused-clause-history : goal.returns-else-is_refused-clause-history
returns-else-is_refused-clause-history c =
    let b = c.args.self.now in
    step_done b.script b.limit b.left b.log b.stage c.advance-answer.new.self c.args.out.now.items c.advance-answer.new.out.items c.advance-answer.result c.advance-answer.ensures.sound
    (memory_not_refused c.advance-answer.result (sym c.is_refused.ensures ∙ c.if-is_refused.false)) c.advance-answer.ensures.call
