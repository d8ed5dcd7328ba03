use Rattle.std.proofs.Common.{rules, ◌∙◌}
use Rattle.std.proofs.lemmas.Result.{err_from_is_err_and}
use Rattle.pg_client.specs.declared.connection.feed.Heard.TheVariants as heard
use Rattle.pg_client.specs.Keeping.{queueing}
use Rattle.pg_client.proofs.Hearing.Messages.{as_found, message_heard}
use Rattle.pg_client.proofs.Hearing.Feeding.{goes_from}
use Rattle.pg_client.proofs.Hearing.Lending.{queue_agrees, up_fault, up_item, up_nothing, up_row, up_row_fault}
use Rattle.pg_client.proofs.connection.lend.Connection+Queue.hear_up_to.Goals as goal

pub loop-self-init : goal.loop-self-init
loop-self-init c = (goes_from queueing queue_agrees c.args.self.now c.args.out.now.items, c.requires.is_open, c.requires.empty)

pub returns-in_err-hear_next-clause-up_to : goal.returns-in_err-hear_next-clause-up_to
returns-in_err-hear_next-clause-up_to c =
    let p = err_from_is_err_and c.from_residual.result c.from_residual.ensures.1 in
    rw (p.1, p.2) (up_fault c.args.self.now c.loop-self.self c.args.out.now.items c.loop-self.out.items c.requires.is_open c.loop-self.invariant.0 c.loop-self.invariant.1 c.loop-self.invariant.2 c.hear_next.new.self c.in_err-hear_next.field-0.0 c.hear_next.new.out.items c.in_err-hear_next.ensures)

pub returns-in-Nothing-clause-up_to : goal.returns-in-Nothing-clause-up_to
returns-in-Nothing-clause-up_to c = up_nothing c.args.self.now c.loop-self.self c.args.out.now.items c.loop-self.out.items c.requires.is_open c.loop-self.invariant.0 c.loop-self.invariant.1 c.loop-self.invariant.2 c.hear_next.new.self c.hear_next.new.out.items (as_found queueing _ c.in_ok-hear_next.field-0 heard.Nothing c.in-Nothing.is c.loop-self.self c.hear_next.new.self c.loop-self.out.items c.hear_next.new.out.items c.in_ok-hear_next.ensures)

pub returns-in-Ok-clause-up_to : goal.returns-in-Ok-clause-up_to
returns-in-Ok-clause-up_to c = up_row c.args.self.now c.loop-self.self c.args.out.now.items c.loop-self.out.items c.requires.is_open c.loop-self.invariant.0 c.loop-self.invariant.1 c.loop-self.invariant.2 _ c.hear_next.new.self c.pass_row.new.self c.hear_next.new.out.items (as_found queueing _ c.in_ok-hear_next.field-0 heard.Row c.in-Row.is c.loop-self.self c.hear_next.new.self c.loop-self.out.items c.hear_next.new.out.items c.in_ok-hear_next.ensures) c.self.view_is c.in-Ok.ensures

pub returns-in-Ok-clause-settings : goal.returns-in-Ok-clause-settings
returns-in-Ok-clause-settings c = search rules

pub returns-in-Err-clause-up_to : goal.returns-in-Err-clause-up_to
returns-in-Err-clause-up_to c = up_row_fault c.args.self.now c.loop-self.self c.args.out.now.items c.loop-self.out.items c.requires.is_open c.loop-self.invariant.0 c.loop-self.invariant.1 c.loop-self.invariant.2 _ c.hear_next.new.self c.pass_row.new.self c.close.new.self c.in-Err.fault c.close.result c.hear_next.new.out.items (as_found queueing _ c.in_ok-hear_next.field-0 heard.Row c.in-Row.is c.loop-self.self c.hear_next.new.self c.loop-self.out.items c.hear_next.new.out.items c.in_ok-hear_next.ensures) c.self.view_is c.in-Err.ensures c.close.ensures.fault c.close.ensures.closed

pub returns-in-Some-clause-up_to : goal.returns-in-Some-clause-up_to
returns-in-Some-clause-up_to c = up_item c.args.self.now c.loop-self.self c.args.out.now.items c.loop-self.out.items c.requires.is_open c.loop-self.invariant.0 c.loop-self.invariant.1 c.loop-self.invariant.2 c.hear_next.new.self c.take_item.new.self c.in-Some.item c.hear_next.new.out.items (as_found queueing _ c.in_ok-hear_next.field-0 heard.Message c.in-Message.is c.loop-self.self c.hear_next.new.self c.loop-self.out.items c.hear_next.new.out.items c.in_ok-hear_next.ensures) c.in-Some.ensures.some.0 c.in-Some.ensures.some.1

pub loop-self-preserved : goal.loop-self-preserved
loop-self-preserved c =
    let m = message_heard queueing queue_agrees c.args.self.now c.loop-self.self c.args.out.now.items c.loop-self.out.items c.loop-self.invariant.0 _ c.in_ok-hear_next.field-0 c.hear_next.new.self c.hear_next.new.out.items c.in_ok-hear_next.ensures c.in-Message.is in
    rw c.in_default.ensures.none.1 (m.0, m.2 ∙ c.loop-self.invariant.1, c.in_default.ensures.none.0)
