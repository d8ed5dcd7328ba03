use Rattle.std.proofs.Common.{◌≡◌, nat_eq}
use Rattle.std.specs.Option.{option_eq}
use Rattle.std.specs.Cmp.Lexicographic.{pointwise}
use Rattle.pg_copy_rows.proofs.row.RowPartialEq.eq.Given as goal

abbrev pub invariant-loop-value : goal.invariant-loop-value
invariant-loop-value l = pointwise (option_eq (pointwise nat_eq)) l.value-iterator l.values ≡ pointwise (option_eq (pointwise nat_eq)) l.self l.other
