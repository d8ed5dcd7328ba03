use Rattle.std.proofs.Common.{◌≡◌, ◌++◌}
use Rattle.example_base.specs.Lines.{barred}
use Rattle.example_base.proofs.lines.put_row.Given as goal

-- with the values that are left, the text is that of all
abbrev pub invariant-values : goal.invariant-values
invariant-values l = l.text.items ++ barred l.value-iterator ≡ l.initial.text.items ++ barred l.initial.value-iterator
