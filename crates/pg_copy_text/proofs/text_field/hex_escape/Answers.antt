use Rattle.std.proofs.Common.{ap, sym}
use Rattle.pg_copy_text.specs.Text.{hex_escape}
use Rattle.pg_copy_text.proofs.text_field.hex_escape.Goals as goal

pub returns-in_default : goal.returns-in_default
returns-in_default c = sym (ap hex_escape (c.in_default.ensures 2))
