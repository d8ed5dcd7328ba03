use Rattle.pg_backend.proofs.Machine.Effects.{admitted}
use Rattle.pg_backend.proofs.backend.Backend.admit.Goals as goal

pub returns : goal.returns
returns c =
    admitted c.args.self.now c.self.inside.playing c.self.inside.limit c.self.inside.stage c.args.decoder c.into_front-decoder.result c.in_ok-awaits.awaits c.args.user.now c.script.result.now c.admit.result c.args.out.now.items c.admit.new.out.items
    c.self.view_is c.into_front-decoder.ensures.value c.script.ensures c.in_ok-awaits.was c.admit.ensures
