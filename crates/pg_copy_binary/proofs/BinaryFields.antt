-- A row that is written field by field.
use Rattle.std.proofs.Common.{◌≡◌, ℕ, Bool, true, false, cond, List, [], ◌∷◌, ◌++◌, length, Option, Some, None, Ok, refl, sym, ap, ◌∙◌, append_assoc}
use Rattle.std.specs.List.{flat_map, list_any}
use Rattle.std.specs.Int.{w16, to_be_bytes}
use Rattle.std.proofs.lemmas.List.{append-nil}
use Rattle.pg_copy_rows.specs.declared.fault.RowFault.{RowFault}
use Rattle.pg_copy_rows.specs.declared.fault.RowFault.TheVariants as faults
use Rattle.pg_copy_rows.specs.Row.{Row, is_misfit, is_long, width_fault, binary_fault, Writes}
use Rattle.pg_copy_binary.specs.Binary.{value, binary_row}
use Rattle.pg_copy_binary.specs.BinaryLaws.{WritesFields}

none-if : (b : Bool) (f : RowFault) → cond b (Some f) None ≡ None → b ≡ false
none-if true f e = absurd cc
none-if false f e = refl

-- one field more
long-more : (field : Option (List ℕ)) (fields : Row) → is_long field ≡ false → list_any is_long fields ≡ false → list_any is_long (field ∷ fields) ≡ false
long-more field fields e f = rw e f

fields-written : (row : Row) (old new : List ℕ) → WritesFields row old new → (list_any is_long row ≡ false) × (new ≡ old ++ flat_map value row)
fields-written [] old new e = (refl, e ∙ sym (append-nil old))
fields-written (field ∷ fields) old new h =
    let rest = fields-written fields h.0 new h.2 in (
      long-more field fields (none-if (is_long field) faults.FieldLong h.1.0) rest.0,
      rest.1 ∙ ap (λ (x : List ℕ). x ++ flat_map value fields) h.1.1 ∙ append_assoc old (value field) (flat_map value fields),
    )

no-fault : (misfit long : Bool) (n : ℕ) → misfit ≡ false → long ≡ false → ◌≡◌ {A = Option RowFault} (cond misfit (Some (faults.Width n)) (cond long (Some faults.FieldLong) None)) None
no-fault misfit long n e f = rw (e, f) refl

pub fields-row : (row : Row) (old mid new : List ℕ) → Writes (width_fault (length row)) (to_be_bytes w16 (length row)) old (Ok tt) mid → WritesFields row mid new → Writes (binary_fault row) (binary_row row) old (Ok tt) new
fields-row row old mid new h k =
    let rest = fields-written row mid new k in
    let count = to_be_bytes w16 (length row) in (
      no-fault (is_misfit row) (list_any is_long row) (length row) (none-if (is_misfit row) (faults.Width (length row)) h.0) rest.0,
      rest.1 ∙ ap (λ (x : List ℕ). x ++ flat_map value row) h.1 ∙ append_assoc old count (flat_map value row),
    )
