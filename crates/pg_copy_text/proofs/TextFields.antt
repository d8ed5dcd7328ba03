-- A line that is written field by field.
use Rattle.std.proofs.Common.{◌≡◌, ℕ, suc, ◌+◌, ◌<◌, ◌≤◌, Bool, true, false, cond, eqb, ltb, List, [], ◌∷◌, ◌++◌, length, Option, Some, None, Ok, refl, sym, ap, ◌∙◌, append_assoc, arith, inl, inr}
use Rattle.std.specs.List.{flat_map, position_from}
use Rattle.std.proofs.lemmas.List.{append-nil}
use Rattle.std.proofs.lemmas.Bool.{ne_eqb, cases_lt, le-ltb, cond-false}
use Rattle.pg_copy_rows.specs.declared.fault.RowFault.{RowFault}
use Rattle.pg_copy_rows.specs.declared.fault.RowFault.TheVariants as faults
use Rattle.pg_copy_rows.specs.Row.{Row, is_misfit, Writes}
use Rattle.pg_copy_text.specs.Text.{Options, newline, written_field, written_fields, written_row, is_like_null, like_null, text_fault}
use Rattle.pg_copy_text.specs.TextWriter.{next_fault, end_fault}
use Rattle.pg_copy_text.specs.TextLaws.{WritesTextFields}

-- a field that isn't the first
abbrev later_field : Options → Option (List ℕ) → List ℕ
later_field o field = o.delimiter ∷ written_field o field

joined : (o : Options) (field : Option (List ℕ)) (fields : Row) → written_fields o (field ∷ fields) ≡ written_field o field ++ flat_map (later_field o) fields
joined o field [] = sym (append-nil (written_field o field))
joined o field (next ∷ fields) = ap (λ (x : List ℕ). written_field o field ++ (o.delimiter ∷ x)) (joined o next fields)

-- a field that was written could stand in its place
no-fault : (o : Options) (n : ℕ) (field : Option (List ℕ)) → next_fault o n field ≡ None → (n < 32767) × (is_like_null o field ≡ false)
no-fault o n field e = go (ltb n 32767) (is_like_null o field) refl refl e
  where
    go : (few like : Bool) → ltb n 32767 ≡ few → is_like_null o field ≡ like → ◌≡◌ {A = Option RowFault} (cond few (cond like (Some (faults.LikeNull n)) None) (Some (faults.Width (suc n)))) None → (n < 32767) × (is_like_null o field ≡ false)
    go true true f g h = absurd cc
    go true false f g h = (below f, g)
      where
        below : ltb n 32767 ≡ true → n < 32767
        below t = elim (cases_lt n 32767) [
          | inl lt ↦ lt
          | inr le ↦ absurd (clash (sym (le-ltb n 32767 le) ∙ t))
        ]
          where
            clash : false ≡ true → ⊥
            clash x = cc
    go false like f g h = absurd cc

-- fields after the first one
later-written : (o : Options) (n : ℕ) (fields : Row) (old new : List ℕ) → suc n ≤ 32767 → WritesTextFields o (suc n) fields old new
    → (suc n + length fields ≤ 32767) × (position_from (is_like_null o) (suc n) fields ≡ None) × (new ≡ old ++ flat_map (later_field o) fields)
later-written o n [] old new le e = (omega (arith, le), refl, e ∙ sym (append-nil old))
later-written o n (field ∷ fields) old new le h =
    let w = h.1 in
    let stands = no-fault o (suc n) field w.0 in
    let rest = later-written o (suc n) fields h.0 new (omega (arith, stands.0)) h.2 in
    let same : suc n + 1 ≡ suc (suc n) = omega arith in
    let none : position_from (is_like_null o) (suc n + 1) fields ≡ None = ap (λ (k : ℕ). position_from (is_like_null o) k fields) same ∙ rest.1 in (
      omega (arith, rest.0),
      cond-false (is_like_null o field) _ _ stands.1 ∙ none,
      rest.2 ∙ ap (λ (x : List ℕ). x ++ flat_map (later_field o) fields) w.1 ∙ append_assoc old (later_field o field) (flat_map (later_field o) fields),
    )

first-written : (o : Options) (field : Option (List ℕ)) (fields : Row) (old new : List ℕ) → WritesTextFields o 0 (field ∷ fields) old new
    → (1 + length fields ≤ 32767) × (position_from (is_like_null o) 0 (field ∷ fields) ≡ None) × (new ≡ old ++ written_fields o (field ∷ fields))
first-written o field fields old new h =
    let w = h.1 in
    let stands = no-fault o 0 field w.0 in
    let rest = later-written o 0 fields h.0 new (omega arith) h.2 in
    let same : 0 + 1 ≡ 1 = omega arith in
    let none : position_from (is_like_null o) (0 + 1) fields ≡ None = ap (λ (k : ℕ). position_from (is_like_null o) k fields) same ∙ rest.1 in (
      omega (arith, rest.0),
      cond-false (is_like_null o field) _ _ stands.1 ∙ none,
      rest.2 ∙ ap (λ (x : List ℕ). x ++ flat_map (later_field o) fields) w.1 ∙ append_assoc old (written_field o field) (flat_map (later_field o) fields) ∙ ap (λ (x : List ℕ). old ++ x) (sym (joined o field fields)),
    )

pub fields-line : (o : Options) (row : Row) (old mid new : List ℕ) → WritesTextFields o 0 row old mid → Writes (end_fault (length row)) (newline ∷ []) mid (Ok tt) new → Writes (text_fault o row) (written_row o row) old (Ok tt) new
fields-line o [] old mid new h k = absurd (some k.0)
  where
    some : end_fault 0 ≡ None → ⊥
    some e = cc
fields-line o (field ∷ fields) old mid new h k =
    let w = first-written o field fields old mid h in
    let some : eqb (length (field ∷ fields)) 0 ≡ false = ne_eqb (length (field ∷ fields)) 0 (λ e. absurd (omega (arith, e))) in
    let few : ltb 32767 (length (field ∷ fields)) ≡ false = le-ltb 32767 (length (field ∷ fields)) (omega (arith, w.0)) in
    let fits : is_misfit (field ∷ fields) ≡ false = rw (some, few) refl in (
      cond-false (is_misfit (field ∷ fields)) _ _ fits ∙ ap like_null w.1,
      k.1 ∙ ap (λ (x : List ℕ). x ++ newline ∷ []) w.2 ∙ append_assoc old (written_fields o (field ∷ fields)) (newline ∷ []),
    )
