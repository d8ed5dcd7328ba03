use Rattle.std.proofs.Common.{◌≡◌, ◌++◌, codes}
use Rattle.std.specs.List.{flat_map}
use Rattle.pgpipe_texts.specs.Backend.{value_text}
use Rattle.pgpipe_texts.proofs.backend.put_further_values.Given as goal

-- with the values that are left, the line is that of all
abbrev pub invariant-values : goal.invariant-values
invariant-values l = l.line.items ++ flat_map (λ v. codes ", " ++ value_text v) l.value-iterator ≡ l.initial.line.items ++ flat_map (λ v. codes ", " ++ value_text v) l.fn.values
