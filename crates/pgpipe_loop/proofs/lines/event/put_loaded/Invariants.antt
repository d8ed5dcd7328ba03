use Rattle.std.proofs.Common.{◌≡◌, take}
use Rattle.pgpipe_loop.specs.Lines.{loaded_rows}
use Rattle.pgpipe_loop.specs.Private.Lines.{with_rows}
use Rattle.pgpipe_loop.proofs.lines.event.put_loaded.Given as goal

abbrev pub invariant-loop-i : goal.invariant-loop-i
invariant-loop-i l = l.lines ≡ with_rows l.initial.lines (loaded_rows 1 (take l.i l.log))
