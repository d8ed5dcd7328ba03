use Rattle.pg_message.proofs.Startups.{with_database}
use Rattle.pg_message.proofs.frontend.startup.Goals as goal

pub returns-in-Some : goal.returns-in-Some
returns-in-Some g c =
    let h = rw (c.has_no_name-no_name.ensures) at c.append_startup-in-Some.ensures in
    rw (c.in-Some.is) (with_database c.args.user.now c.in-Some.name.now (g.P.ParameterList.pairs c.args.pairs) c.args.buf.now.items c.append_startup-in-Some.result c.append_startup-in-Some.new.buf.items h)
