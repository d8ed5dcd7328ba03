-- A row of a text file that is written field by field.
use Rattle.std.specs.Prelude.{ℕ, zero, suc, ◌==◌, nat_lt, if◌then◌else◌, List, ◌∷◌, Option, Some, None}
use Rattle.pg_copy_rows.specs.declared.fault.RowFault.{RowFault}
use Rattle.pg_copy_rows.specs.declared.fault.RowFault.TheVariants as faults
use Rattle.pg_copy_rows.specs.Row.{most_fields}
use Rattle.pg_copy_text.specs.Text.{Options, written_field, is_like_null}

-- a writer's options, and how many fields it has written of a row that isn't ended
pub record RowWriterState : Type 0 where
  pub options : Options
  pub fields : ℕ

-- why a field can't stand in a row after n others, if it can't: it would be one too many, or it is
-- like null
abbrev pub next_fault : Options → ℕ → Option (List ℕ) → Option RowFault
next_fault o n field =
    if nat_lt n most_fields then (if is_like_null o field then Some (faults.LikeNull n) else None)
    else Some (faults.Width (suc n))

-- how a field is written that stands in a row after n others: the delimiter separates it from them
abbrev pub next_written : Options → ℕ → Option (List ℕ) → List ℕ
next_written o zero field = written_field o field
next_written o (suc n) field = o.delimiter ∷ written_field o field

-- why a row of n fields can't be ended, if it can't: it has none
abbrev pub end_fault : ℕ → Option RowFault
end_fault n = if n == 0 then Some (faults.Width 0) else None
