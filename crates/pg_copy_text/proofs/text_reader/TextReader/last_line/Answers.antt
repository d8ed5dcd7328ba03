use Rattle.std.proofs.Common.{length, ap}
use Rattle.pg_copy_text.proofs.TextEnds.{takes-left, takes-none}
use Rattle.pg_copy_text.proofs.text_reader.TextReader.last_line.Goals as goal

pub returns-in-Some : goal.returns-in-Some
returns-in-Some c =
    takes-left c.args.self.now c.take_line.new.self c.in-Some.left c.take_line.result c.requires (rw c.in-Some.is at c.line_left.ensures.left) (rw c.line_left.ensures.state at c.take_line.ensures)

pub returns-in-None : goal.returns-in-None
returns-in-None c =
    rw (c.let_go.ensures, c.line_left.ensures.state) (takes-none c.args.self.now c.requires (ap length (rw c.in-None.is at c.line_left.ensures.left)))
