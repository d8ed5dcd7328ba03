use Rattle.pgpipe_files.proofs.RowsRead.{Stands}
use Rattle.pgpipe_files.proofs.lines.take_lines.Given as goal

-- the rows that were given are taken
abbrev pub invariant-loop-number : goal.invariant-loop-number
invariant-loop-number g l = Stands g.T.TakesLines.line l.initial.taker l.bytes l.reader l.number l.taker
