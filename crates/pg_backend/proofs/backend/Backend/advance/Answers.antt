use Rattle.std.proofs.Common.{rules, ap, ◌∙◌}
use Rattle.std.specs.Prelude.{Ok}
use Rattle.pg_backend.specs.declared.stage.Next.TheVariants as next
use Rattle.pg_backend.specs.declared.stage.BackStage.TheVariants as stage
use Rattle.pg_backend.specs.Stage.{IsSound}
use Rattle.pg_backend.proofs.Machine.OneStep.{first_breaks, open_breaks, took_packet, took_message}
use Rattle.pg_backend.proofs.backend.Backend.advance.Goals as goal

pub returns-in_ok-greet-in-Ok-Some-clause-call : goal.returns-in_ok-greet-in-Ok-Some-clause-call
returns-in_ok-greet-in-Ok-Some-clause-call c =
    let i = c.self.inside in
    took_packet c.args.self.now i.playing i.limit c.in-First.decoder c.next.new.self c.in-Ok-Some.packet (stage.First c.replace-decoder.new.dest) c.greet.new.self c.greet.result _ c.args.out.now.items c.greet.new.out.items
    (search rules) (rw c.in-Ok-Some.field-0-is at c.in-Ok-Some.ensures.call) (rw c.in-Ok-Some.field-0-is at c.in-Ok-Some.ensures.begun) c.in_ok-greet-in-Ok-Some.was (rw c.replace-decoder.ensures.value at c.greet.ensures)

pub returns-in-Err-clause-call : goal.returns-in-Err-clause-call
returns-in-Err-clause-call c =
    let i = c.self.inside in
    let sound : IsSound i.limit (stage.First c.in-First.decoder) = rw c.in-First.is at c.self.invariant.2 in
    first_breaks c.args.self.now i.playing i.limit c.in-First.decoder c.next.new.self c.break_off.new.stage c.in-Err.fault c.args.out.now.items c.break_off.new.out.items c.break_off.result
    (search rules) sound.0 c.in-Err.ensures.call c.break_off.ensures.closed c.break_off.ensures.refuses

pub returns-in-Goes-clause-call : goal.returns-in-Goes-clause-call
returns-in-Goes-clause-call c =
    let i = c.self.inside in
    took_message c.args.self.now i.playing c.take.new.self i.limit c.in-Open.decoder c.next-in-Open.new.self c.in-Open.awaits c.in-Ok-Some-next.message (next.Goes c.in-Goes.next) c.take.result c.args.out.now.items c.take.new.out.items
    (search rules) (rw c.in-Ok-Some-next.field-0-is at c.in-Ok-Some-next.ensures.call) (rw c.in-Ok-Some-next.field-0-is at c.in-Ok-Some-next.ensures.taken) (c.in_ok-next-in-Ok-Some-next.was ∙ ap Ok c.in-Goes.is) (rw c.replace-awaited.ensures.value at c.take.ensures)

pub returns-in-Ends-clause-call : goal.returns-in-Ends-clause-call
returns-in-Ends-clause-call c =
    let i = c.self.inside in
    took_message c.args.self.now i.playing c.take.new.self i.limit c.in-Open.decoder c.next-in-Open.new.self c.in-Open.awaits c.in-Ok-Some-next.message next.Ends c.take.result c.args.out.now.items c.take.new.out.items
    (search rules) (rw c.in-Ok-Some-next.field-0-is at c.in-Ok-Some-next.ensures.call) (rw c.in-Ok-Some-next.field-0-is at c.in-Ok-Some-next.ensures.taken) (c.in_ok-next-in-Ok-Some-next.was ∙ ap Ok c.in-Ends.is) (rw c.replace-awaited.ensures.value at c.take.ensures)

pub returns-in-Strays-clause-call : goal.returns-in-Strays-clause-call
returns-in-Strays-clause-call c =
    let i = c.self.inside in
    took_message c.args.self.now i.playing c.take.new.self i.limit c.in-Open.decoder c.next-in-Open.new.self c.in-Open.awaits c.in-Ok-Some-next.message (next.Strays c.in-Strays.tag) c.take.result c.args.out.now.items c.take.new.out.items
    (search rules) (rw c.in-Ok-Some-next.field-0-is at c.in-Ok-Some-next.ensures.call) (rw c.in-Ok-Some-next.field-0-is at c.in-Ok-Some-next.ensures.taken) (c.in_ok-next-in-Ok-Some-next.was ∙ ap Ok c.in-Strays.is) (rw c.replace-awaited.ensures.value at c.take.ensures)

pub returns-in-Err-next-clause-call : goal.returns-in-Err-next-clause-call
returns-in-Err-next-clause-call c =
    let i = c.self.inside in
    let sound : IsSound i.limit (stage.Open c.in-Open.decoder c.in-Open.awaits) = rw c.in-Open.is at c.self.invariant.2 in
    open_breaks c.args.self.now i.playing i.limit c.in-Open.decoder c.next-in-Open.new.self c.in-Open.awaits c.break_off-in-Err-next.new.stage c.in-Err-next.fault c.args.out.now.items c.break_off-in-Err-next.new.out.items c.break_off-in-Err-next.result
    (search rules) sound.0 c.in-Err-next.ensures.call c.break_off-in-Err-next.ensures.closed c.break_off-in-Err-next.ensures.refuses

pub returns-in-Ok-None-clause-call : goal.returns-in-Ok-None-clause-call
returns-in-Ok-None-clause-call c = search rules
