use Rattle.std.proofs.Common.{rules}
use Rattle.pg_backend.specs.Backend as backend
use Rattle.pg_client.specs.View as client
use Rattle.pgpipe_loop.specs.Lines.{phase_rows}
use Rattle.pgpipe_loop.proofs.run_loop.telling.phase_lines.Goals as goal

pub returns : goal.returns
returns g c = c.into_text.ensures (phase_rows (client.phase_of c.args.pair.now.client) (backend.phase_of c.args.pair.now.backend.stage)) (search rules)
