use Rattle.std.proofs.Common.{refl, sym, inr, ◌∙◌}
use Rattle.pg_drive.proofs.Sessions.{begins_now}
use Rattle.pg_drive.proofs.starting.begin.Goals as goal

pub returns-in-Starting : goal.returns-in-Starting
returns-in-Starting g c = record {
  begins = inr (sym c.phase.ensures ∙ c.in-Starting.is, refl, refl);
  refused = tt;
  err = tt;
}

pub returns-in_default-clause-begins : goal.returns-in_default-clause-begins
returns-in_default-clause-begins g c =
    begins_now g.K.Keeper.way c.start.result c.args.client.now c.start.new.self c.args.out.now.items c.start.new.out.items c.start.ensures.ok c.start.ensures.history
