use Rattle.std.proofs.Common.{◌≡◌, map}
use Rattle.pgpipe_lines.specs.AnswerLines.{text_column}
use Rattle.pgpipe_lines.proofs.answer_lines.text_columns.Given as goal

abbrev pub invariant-loop-name : goal.invariant-loop-name
invariant-loop-name l = l.columns ≡ map text_column l.yielded
