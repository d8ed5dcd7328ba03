use Rattle.pg_copy_text.proofs.TextSplit.{split-there, split-once}
use Rattle.pg_copy_text.proofs.TextPairs.{lines-there, lines-once}
use Rattle.pg_copy_text.proofs.laws.one_split.Goals as goal

pub returns : goal.returns
returns c = record { there = split-there; one = split-once; lines_there = lines-there; lines_one = lines-once }
