use Rattle.std.proofs.Common.{sym}
use Rattle.std.specs.Prelude.{option_copied}
use Rattle.pg_values.proofs.values.Values.text.Goals as goal

pub returns-in_err-value : goal.returns-in_err-value
returns-in_err-value c = rw c.from_residual.ensures (sym c.in_err-value.ensures)

pub returns : goal.returns
returns c = (option_copied c.in_ok-value.value, sym c.in_ok-value.ensures, c.of.ensures)
