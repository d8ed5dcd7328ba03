use Rattle.std.proofs.lemmas.Result.{err_from_is_err_and}
use Rattle.std.proofs.Common.{false, refl, ◌∙◌}
use Rattle.pg_client.proofs.Hearing.Messages.{all_heard, all_stops, any_heard}
use Rattle.pg_client.proofs.Hearing.Feeding.{goes_from}
use Rattle.pg_client.proofs.connection.Connection.hear_all.Goals as goal

pub loop-init : goal.loop-init
loop-init g c = (goes_from g.K.Keeper.way c.silent.ensures.agrees_as c.args.self.now c.args.out.now.items, c.requires)

pub returns-in_err-hear_next-clause-all : goal.returns-in_err-hear_next-clause-all
returns-in_err-hear_next-clause-all g c =
    let p = err_from_is_err_and c.from_residual.result c.from_residual.ensures.1 in
    rw (p.1, p.2) (all_stops g.K.Keeper.way c.silent.ensures.agrees_as false c.args.self.now c.loop.self c.hear_next.new.self c.in_err-hear_next.field-0.0 c.args.out.now.items c.loop.out.items c.hear_next.new.out.items c.loop.invariant.0 c.in_err-hear_next.ensures)

pub returns-in-Nothing-clause-all : goal.returns-in-Nothing-clause-all
returns-in-Nothing-clause-all g c = all_heard g.K.Keeper.way c.silent.ensures.agrees_as c.args.self.now c.loop.self c.args.out.now.items c.loop.out.items c.loop.invariant.0 _ c.in_ok-hear_next.field-0 c.hear_next.new.self c.hear_next.new.out.items c.in_ok-hear_next.ensures c.in-Nothing.is

pub loop-preserved : goal.loop-preserved
loop-preserved g c =
    let m = any_heard g.K.Keeper.way c.silent.ensures.agrees_as c.args.self.now c.loop.self c.args.out.now.items c.loop.out.items c.loop.invariant.0 _ c.in_ok-hear_next.field-0 c.hear_next.new.self c.hear_next.new.out.items c.in_ok-hear_next.ensures refl c.in-Row.is in
    (m.0, m.2 ∙ c.loop.invariant.1)

pub loop-smaller : goal.loop-smaller
loop-smaller g c = (any_heard g.K.Keeper.way c.silent.ensures.agrees_as c.args.self.now c.loop.self c.args.out.now.items c.loop.out.items c.loop.invariant.0 _ c.in_ok-hear_next.field-0 c.hear_next.new.self c.hear_next.new.out.items c.in_ok-hear_next.ensures refl c.in-Row.is).1
