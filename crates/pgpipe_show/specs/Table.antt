-- The table of what was counted, for a person to read.
use Rattle.std.specs.Prelude.{ℕ, min, List, ◌++◌, length, drop, codes}
use Rattle.std.specs.Fmt.{decimal}
use Rattle.std.specs.List.{flat_map}
use Rattle.pgpipe_show.specs.declared.summary.counts.FrameCount.{FrameCount}
use Rattle.pgpipe_show.specs.Counts.{CountRow, SummaryState}

-- a number in decimal, at the right of twelve places, or in as many as it needs
abbrev pub aligned : ℕ → List ℕ
aligned n = drop (min (length (decimal n)) 12) (codes "            ") ++ decimal n

-- a line: how many messages, how many bytes, and what they are
abbrev pub table_line : FrameCount → List ℕ → List ℕ
table_line c label = aligned c.count ++ aligned c.bytes ++ codes "  " ++ label ++ codes "\n"

-- the line of a row
abbrev pub row_line : CountRow → List ℕ
row_line r = table_line r.1 r.0

-- what stands over the columns
abbrev pub headline : List ℕ
headline = codes "    messages       bytes  name\n"

-- the table: a line for each row, and one for all of them together
abbrev pub table : SummaryState → List ℕ
table s = headline ++ flat_map row_line s.rows ++ table_line s.total (codes "total")
