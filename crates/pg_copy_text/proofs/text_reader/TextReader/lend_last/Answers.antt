use Rattle.std.proofs.Common.{length, refl, ap}
use Rattle.pg_copy_text.specs.Private.TextLine.{let_go}
use Rattle.pg_copy_rows.specs.Lent.{as_next}
use Rattle.pg_copy_text.proofs.TextEnds.{takes-left, takes-none}
use Rattle.pg_copy_text.proofs.text_reader.TextReader.lend_last.Goals as goal

pub returns-in-Some : goal.returns-in-Some
returns-in-Some c =
    let t = rw c.line_left.ensures.state at c.lend_line.ensures in
    (takes-left (let_go c.args.self.now) (let_go c.lend_line.new.self) c.in-Some.left (as_next c.lend_line.result c.lend_line.new.self.held) c.requires (rw c.in-Some.is at c.line_left.ensures.left) t.0, t.1)

pub returns-in-None : goal.returns-in-None
returns-in-None c =
    rw (c.let_go.ensures, c.line_left.ensures.state) (takes-none (let_go c.args.self.now) c.requires (ap length (rw c.in-None.is at c.line_left.ensures.left)), refl)
