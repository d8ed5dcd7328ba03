use Rattle.std.proofs.Common.{[], ◌∷◌, rules}
use Rattle.pgpipe_loop.specs.Trace.{event_row}
use Rattle.pgpipe_loop.proofs.lines.trace.event_line.Goals as goal

pub returns : goal.returns
returns c = c.into_text.ensures (event_row c.args.event.now ∷ []) (search rules)
