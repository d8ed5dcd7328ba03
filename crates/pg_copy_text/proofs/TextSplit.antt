-- The parts of bytes are one split.
use Rattle.std.proofs.Common.{◌≡◌, ℕ, Bool, true, false, cond, eqb, List, [], ◌∷◌, ◌++◌, length, map, Option, Ok, Err, refl, sym, ap, subst, ◌∙◌, inl, inr}
use Rattle.std.specs.List.{onto_first}
use Rattle.std.proofs.lemmas.Bool.{cases_eq, eq-eqb, ne_eqb, false≢true}
use Rattle.pg_copy_rows.specs.declared.fault.TextFault.TheVariants.{RawReturn, RawNewline, LoneBackslash, Columns}
use Rattle.pg_copy_rows.specs.Row.{Row}
use Rattle.pg_copy_text.specs.Text.{Options, newline, carriage_return, parts_from, parts, has_unit, ends_escaped, field_value, fits_width, line_row}
use Rattle.pg_copy_text.specs.TextLine.{AreUnits, nothing, byte, escape, AreParts, one, lone, more, AreFields}
use Rattle.pg_copy_text.proofs.TextParts.{IsUncut, IsUncut-append, ends_escaped-append, parts-uncut, parts-cut}
use Rattle.pg_copy_text.specs.TextOptions.{AreOptions}
use Rattle.pg_copy_text.proofs.TextEscapes.{field-there}
use Rattle.pg_copy_text.proofs.OptionFacts.{no-backslash}

-- ---- units

units-uncut : (mark : ℕ) (p : List ℕ) → (mark ≡ 92 → ⊥) → AreUnits mark p → IsUncut false mark p × (ends_escaped false p ≡ false)
units-uncut mark _ ne nothing = (tt, refl)
units-uncut mark _ ne (byte b bs n92 nmark h) =
    let u = units-uncut mark bs ne h in
    rw (ne_eqb b 92 n92) ((ne_eqb b mark nmark, u.0), u.1)
units-uncut mark _ ne (escape b bs h) =
    let u = units-uncut mark bs ne h in
    ((ne_eqb 92 mark (λ e. ne (sym e)), u.0), u.1)

-- ---- there

put-byte : (mark b : ℕ) (bytes : List ℕ) (ps : List (List ℕ)) → (b ≡ 92 → ⊥) → (b ≡ mark → ⊥) → AreParts mark bytes ps → AreParts mark (b ∷ bytes) (onto_first b ps)
put-byte mark b _ _ n92 nmark (one p h) = one (b ∷ p) (byte b p n92 nmark h)
put-byte mark b _ _ n92 nmark (lone p h) = lone (b ∷ p) (byte b p n92 nmark h)
put-byte mark b _ _ n92 nmark (more p bytes ps h k) = more (b ∷ p) bytes ps (byte b p n92 nmark h) k

put-escape : (mark b : ℕ) (bytes : List ℕ) (ps : List (List ℕ)) → AreParts mark bytes ps → AreParts mark (92 ∷ b ∷ bytes) (onto_first 92 (onto_first b ps))
put-escape mark b _ _ (one p h) = one (92 ∷ b ∷ p) (escape b p h)
put-escape mark b _ _ (lone p h) = lone (92 ∷ b ∷ p) (escape b p h)
put-escape mark b _ _ (more p bytes ps h k) = more (92 ∷ b ∷ p) bytes ps (escape b p h) k

pub split-there : (mark : ℕ) (bytes : List ℕ) → (mark ≡ 92 → ⊥) → AreParts mark bytes (parts mark bytes)
split-there mark bytes ne = go false bytes
  where
    Due : Bool → List ℕ → Type 0
    Due false bytes = AreParts mark bytes (parts_from false mark bytes)
    Due true bytes = AreParts mark (92 ∷ bytes) (onto_first 92 (parts_from true mark bytes))

    go : (e : Bool) (bytes : List ℕ) → Due e bytes
    go true [] = lone [] nothing
    go true (b ∷ bs) = put-escape mark b bs (parts_from false mark bs) (go false bs)
    go false [] = one [] nothing
    go false (b ∷ bs) = elim (cases_eq b mark) [
      | inl e ↦ rw (eq-eqb b mark e) (subst (λ (m : ℕ). AreParts mark (m ∷ bs) ([] ∷ parts_from false mark bs)) (sym e) (more [] bs (parts_from false mark bs) nothing (go false bs)))
      | inr nmark ↦ rw (ne_eqb b mark nmark) (elim (cases_eq b 92) [
        | inl e ↦ rw (eq-eqb b 92 e) (subst (λ (m : ℕ). AreParts mark (m ∷ bs) (onto_first m (parts_from true mark bs))) (sym e) (go true bs))
        | inr n92 ↦ rw (ne_eqb b 92 n92) (put-byte mark b bs (parts_from false mark bs) n92 nmark (go false bs))
      ])
    ]

-- ---- one

parts-are : (mark : ℕ) (bytes : List ℕ) (ps : List (List ℕ)) → (mark ≡ 92 → ⊥) → AreParts mark bytes ps → parts mark bytes ≡ ps
parts-are mark _ _ ne (one p h) = parts-uncut mark p (units-uncut mark p ne h).0
parts-are mark _ _ ne (lone p h) =
    let u = units-uncut mark p ne h in
    parts-uncut mark (p ++ 92 ∷ []) (IsUncut-append false mark p (92 ∷ []) u.0 (rw u.1 (ne_eqb 92 mark (λ e. ne (sym e)), tt)))
parts-are mark _ _ ne (more p bytes ps h k) =
    let u = units-uncut mark p ne h in
    parts-cut mark p bytes u.0 u.1 ∙ ap (λ (qs : List (List ℕ)). p ∷ qs) (parts-are mark bytes ps ne k)

pub split-once : (mark : ℕ) (bytes : List ℕ) (ps qs : List (List ℕ)) → (mark ≡ 92 → ⊥) → AreParts mark bytes ps → AreParts mark bytes qs → ps ≡ qs
split-once mark bytes ps qs ne h k = sym (parts-are mark bytes ps ne h) ∙ parts-are mark bytes qs ne k

-- ---- the fields of a line

abbrev AreClosed : List (List ℕ) → Type 0
AreClosed [] = Unit {0}
AreClosed (p ∷ ps) = (ends_escaped false p ≡ false) × AreClosed ps

parts-closed : (mark : ℕ) (bytes : List ℕ) (ps : List (List ℕ)) → (mark ≡ 92 → ⊥) → ends_escaped false bytes ≡ false → AreParts mark bytes ps → AreClosed ps
parts-closed mark _ _ ne e (one p h) = (e, tt)
parts-closed mark _ _ ne e (lone p h) =
    let u = units-uncut mark p ne h in
    let last : true ≡ false = ap (λ (x : Bool). ends_escaped x (92 ∷ [])) (sym u.1) ∙ sym (ends_escaped-append false p (92 ∷ [])) ∙ e in
    absurd (false≢true (sym last))
parts-closed mark _ _ ne e (more p bytes ps h k) =
    let u = units-uncut mark p ne h in
    let plain : eqb mark 92 ≡ false = ne_eqb mark 92 ne in
    let after : ends_escaped false bytes ≡ false = ap (λ (x : Bool). ends_escaped x bytes) (sym plain) ∙ ap (λ (x : Bool). ends_escaped x (mark ∷ bytes)) (sym u.1) ∙ sym (ends_escaped-append false p (mark ∷ bytes)) ∙ e in
    (u.1, parts-closed mark bytes ps ne after k)

fields-there : (o : Options) (ps : List (List ℕ)) → AreClosed ps → AreFields o ps (map (field_value o) ps)
fields-there o [] h = tt
fields-there o (p ∷ ps) h = (field-there o p h.0, fields-there o ps h.1)

-- what a line that is read has
line-has : (o : Options) (columns : Option ℕ) (line : List ℕ) (row : Row) → line_row o columns line ≡ Ok row → (ends_escaped false line ≡ false) × (row ≡ map (field_value o) (parts o.delimiter line))
line-has o columns line row e = go (has_unit carriage_return line) (has_unit newline line) (ends_escaped false line) (fits_width columns (length (parts o.delimiter line))) e
  where
    go : (r n l f : Bool) → cond r (Err RawReturn) (cond n (Err RawNewline) (cond l (Err LoneBackslash) (cond f (Ok (map (field_value o) (parts o.delimiter line))) (Err (Columns (length (parts o.delimiter line))))))) ≡ Ok row → (l ≡ false) × (row ≡ map (field_value o) (parts o.delimiter line))
    go true n l f e = absurd cc
    go false true l f e = absurd cc
    go false false true f e = absurd cc
    go false false false true e = (refl, cc)
    go false false false false e = absurd cc

pub line-fields : (o : Options) (columns : Option ℕ) (line : List ℕ) (row : Row) → AreOptions o → line_row o columns line ≡ Ok row → AreFields o (parts o.delimiter line) row
line-fields o columns line row are e =
    let h = line-has o columns line row e in
    let ne = no-backslash o are in
    subst (λ (r : Row). AreFields o (parts o.delimiter line) r) (sym h.1) (fields-there o (parts o.delimiter line) (parts-closed o.delimiter line (parts o.delimiter line) ne h.0 (split-there o.delimiter line ne)))
