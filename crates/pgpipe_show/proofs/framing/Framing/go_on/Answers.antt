use Rattle.pgpipe_show.proofs.Framings.{now_over}
use Rattle.pgpipe_show.proofs.framing.Framing.go_on.Goals as goal

pub returns-in-Nothing-clause-stands : goal.returns-in-Nothing-clause-stands
returns-in-Nothing-clause-stands c = now_over c.args.self c.upcoming.result c.kept.result c.upcoming.ensures c.in-Nothing.is c.kept.ensures
