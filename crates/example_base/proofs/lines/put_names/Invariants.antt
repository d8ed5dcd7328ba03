use Rattle.std.proofs.Common.{◌≡◌, ◌++◌, map}
use Rattle.std.specs.Slice.Iter.{iter_rest}
use Rattle.example_base.specs.Lines.{barred, name_value}
use Rattle.example_base.proofs.lines.put_names.Given as goal

-- with the names that are left, the text is that of all
abbrev pub invariant-names : goal.invariant-names
invariant-names l = l.text.items ++ barred (map name_value (iter_rest l.column-iterator)) ≡ l.initial.text.items ++ barred (map name_value (iter_rest l.initial.column-iterator))
