use Rattle.std.proofs.Common.{ℕ, List, Some, refl, sym, ap}
use Rattle.pg_values.proofs.text.Text.of.Goals as goal

pub returns-in_default : goal.returns-in_default
returns-in_default c = rw c.in_default.is refl

pub returns-in-Ok : goal.returns-in-Ok
returns-in-Ok c = rw c.in-Some.is (ap (λ (l : List ℕ). Some l) (sym c.in-Ok.ensures.cases.0))

pub returns-in-Err : goal.returns-in-Err
returns-in-Err c = rw c.in-Some.is (refl, c.in-Err.ensures.cases.0)
