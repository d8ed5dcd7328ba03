-- The rows that a map holds.
use Rattle.std.specs.Prelude.{ℕ, List, map, Vec}
use Rattle.std.specs.declared.alloc.Global.{Global}
use Rattle.pgpipe_show.specs.declared.summary.counts.FrameCount.{FrameCount}
use Rattle.pgpipe_show.specs.Counts.{CountRow}

abbrev pub Entry : Type 0
Entry = Vec ℕ Global × FrameCount

abbrev pub row_of : Entry → CountRow
row_of e = (e.0.items, e.1)

abbrev pub rows_of : List Entry → List CountRow
rows_of entries = map row_of entries
