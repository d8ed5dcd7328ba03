use Rattle.pgpipe_show.proofs.ColoredLines.{an_error_line, other_line}
use Rattle.pgpipe_show.proofs.laws.a_line.Goals as goal

pub returns-clause-error : goal.returns-clause-error
returns-clause-error c = an_error_line

pub returns-clause-other : goal.returns-clause-other
returns-clause-other c = other_line
