use Rattle.std.proofs.lemmas.Result.{err_from_is_err_and}
use Rattle.pg_client.proofs.Calling.Encoded.{step_put, step_fault, sync_put}
use Rattle.pg_client.proofs.sending.put_steps.Goals as goal

pub returns-in_err-starved : goal.returns-in_err-starved
returns-in_err-starved c =
    let p = err_from_is_err_and c.from_residual.result c.from_residual.ensures.1 in
    rw (p.1, p.2) (step_fault c.args.steps.now c.loop-step.step-index c.step-item.result c.args.out.now.items c.loop-step.out.items c.put_step.new.out.items c.loop-step.starved c.loop-step.invariant c.in_err-starved.field-0.0 c.put_step.result c.loop-step-test.true c.step-item.is c.put_step.ensures c.in_err-starved.ensures)

pub loop-step-preserved : goal.loop-step-preserved
loop-step-preserved c = step_put c.args.steps.now c.loop-step.step-index c.step-item.result c.args.out.now.items c.loop-step.out.items c.put_step.new.out.items c.loop-step.starved c.loop-step.invariant c.in_ok-starved.starved c.put_step.result c.loop-step-test.true c.step-item.is c.put_step.ensures c.in_ok-starved.ensures

pub returns-then-branch : goal.returns-then-branch
returns-then-branch c =
    sync_put c.args.steps.now c.loop-step.step-index c.args.out.now.items c.loop-step.out.items c.sync.new.buf.items c.loop-step.starved c.loop-step.invariant c.in_ok-starved_after.field-0 c.sync.result c.loop-step-test.false c.sync.ensures c.in_ok-starved_after.ensures c.if-branch.true
