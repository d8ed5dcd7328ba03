use Rattle.std.proofs.Common.{[], ◌∷◌, rules}
use Rattle.pgpipe_loop.specs.Lines.{port_row}
use Rattle.pgpipe_loop.proofs.lines.served.port_line.Goals as goal

pub returns : goal.returns
returns c = c.into_text.ensures (port_row c.args.port ∷ []) (search rules)
