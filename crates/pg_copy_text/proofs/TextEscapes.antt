-- The walk over a field's escapes spells exactly what the relation says.
use Rattle.std.proofs.Common.{◌≡◌, ℕ, zero, suc, ◌+◌, ◌%◌, ◌<◌, ◌≤◌, Bool, true, false, eqb, List, [], ◌∷◌, ◌++◌, length, Option, Some, None, refl, sym, ap, subst, ◌∙◌, arith, inl, inr}
use Rattle.std.specs.Prelude.{◌⊎◌}
use Rattle.std.specs.List.{AllByRecursion}
use Rattle.std.specs.Char.{digit_value}
use Rattle.std.specs.Str.{bytes_eq}
use Rattle.std.proofs.lemmas.Bool.{cases_eq, cases_lt, eq-eqb, ne_eqb, cond-true, cond-false}
use Rattle.std.proofs.lemmas.List.{drop_at, length-append}
use Rattle.pg_copy_text.specs.Text.{Options, ends_escaped, letter_value, digits_value, digits_at, hex_escape, escape_by, escape_at, text_after, field_value}
use Rattle.pg_copy_text.specs.TextField.{NoDigit, IsNumeral, IsEscape, octal, hexadecimal, bare_x, letter, IsText, nothing, plain, escaped, IsField}
use Rattle.pg_copy_text.specs.Private.Units.{NoBackslash}
use Rattle.pg_copy_rows.proofs.Bytes.{same-bytes, same-again, other-bytes}
use Rattle.pg_copy_text.proofs.TextValues.{digits-none, digits-some, text_after-drop, same_pair}

-- ---- digits

nothing-taken : (base n : ℕ) → digits_at base n [] ≡ []
nothing-taken base zero = refl
nothing-taken base (suc n) = refl

no-digits : (base n : ℕ) (rest : List ℕ) → NoDigit base rest → digits_at base n rest ≡ []
no-digits base n [] h = nothing-taken base n
no-digits base n (c ∷ bs) h = digits-none base n c bs h

numeral-at : (base n : ℕ) (digits rest : List ℕ) → AllByRecursion (λ c. digit_value c < base) digits → length digits ≤ n → (length digits ≡ n) ⊎ NoDigit base rest → digits_at base n (digits ++ rest) ≡ digits
numeral-at base n [] rest each few (inl e) = ap (λ (k : ℕ). digits_at base k rest) (sym e)
numeral-at base n [] rest each few (inr h) = no-digits base n rest h
numeral-at base zero (c ∷ ds) rest each few all = absurd (omega arith)
numeral-at base (suc n) (c ∷ ds) rest each few all = digits-some base n c (ds ++ rest) each.0 ∙ ap (λ (x : List ℕ). c ∷ x) (numeral-at base n ds rest each.1 (omega arith) (less all))
  where
    less : (suc (length ds) ≡ suc n) ⊎ NoDigit base rest → (length ds ≡ n) ⊎ NoDigit base rest
    less (inl e) = inl (omega arith)
    less (inr h) = inr h

pub numeral-is : (base most : ℕ) (digits rest : List ℕ) → IsNumeral base most digits rest → digits_at base most (digits ++ rest) ≡ digits
numeral-is base most digits rest h = numeral-at base most digits rest h.each h.few h.all

-- the digits at the front, and what comes after them
record Numeral (base n : ℕ) (bytes digits : List ℕ) : Type 0 where
  pub rest : List ℕ
  pub is : bytes ≡ digits ++ rest
  pub each : AllByRecursion (λ c. digit_value c < base) digits
  pub few : length digits ≤ n
  pub all : (length digits ≡ n) ⊎ NoDigit base rest

numeral-split : (base n : ℕ) (bytes : List ℕ) → Numeral base n bytes (digits_at base n bytes)
numeral-split base zero bytes = record { rest = bytes; is = refl; each = tt; few = omega arith; all = inl refl }
numeral-split base (suc n) [] = record { rest = []; is = refl; each = tt; few = omega arith; all = inr tt }
numeral-split base (suc n) (c ∷ bs) = elim (cases_lt (digit_value c) base) [
  | inl lt ↦
      let h = numeral-split base n bs in
      subst (Numeral base (suc n) (c ∷ bs)) (sym (digits-some base n c bs lt)) (record {
        rest = h.rest;
        is = ap (λ (x : List ℕ). c ∷ x) h.is;
        each = (lt, h.each);
        few = omega (arith, h.few);
        all = more h.all;
      })
  | inr le ↦ subst (Numeral base (suc n) (c ∷ bs)) (sym (digits-none base (suc n) c bs le)) (record { rest = c ∷ bs; is = refl; each = tt; few = omega arith; all = inr le })
]
  where
    more : {x : ℕ} {P : Type 0} → (x ≡ n) ⊎ P → (suc x ≡ suc n) ⊎ P
    more {x} {P} (inl e) = inl (ap suc e)
    more {x} {P} (inr h) = inr h

-- ---- escapes

escape-octal : (digits rest : List ℕ) → IsNumeral 8 3 digits rest → escape_at (digits ++ rest) ≡ (digits_value 8 digits % 256, length digits)
escape-octal [] rest h = absurd (omega (arith, h.some))
escape-octal (d ∷ ds) rest h = ap (λ (x : List ℕ). escape_by x ((d ∷ ds) ++ rest)) (numeral-is 8 3 (d ∷ ds) rest h)

escape-x : (bs : List ℕ) → escape_at (120 ∷ bs) ≡ hex_escape (digits_at 16 2 bs)
escape-x bs = ap (λ (x : List ℕ). escape_by x (120 ∷ bs)) (digits-none 8 3 120 bs (omega arith))

hex-some : (digits : List ℕ) → 0 < length digits → hex_escape digits ≡ (digits_value 16 digits, suc (length digits))
hex-some [] lt = absurd (omega arith)
hex-some (d ∷ ds) lt = same_pair (digits_value 16 (d ∷ ds)) (digits_value 16 (d ∷ ds)) (1 + length (d ∷ ds)) (suc (length (d ∷ ds))) refl (omega arith)

pub escape-is : (e rest : List ℕ) (b : ℕ) → IsEscape e rest b → escape_at (e ++ rest) ≡ (b, length e)
escape-is _ _ _ (octal digits rest h) = escape-octal digits rest h
escape-is _ _ _ (hexadecimal digits rest h) = escape-x (digits ++ rest) ∙ ap hex_escape (numeral-is 16 2 digits rest h) ∙ hex-some digits h.some
escape-is _ _ _ (bare_x rest h) = escape-x rest ∙ ap hex_escape (no-digits 16 2 rest h)
escape-is _ _ _ (letter c rest le ne) = ap (λ (x : List ℕ). escape_by x (c ∷ rest)) (digits-none 8 3 c rest le) ∙ cond-false _ _ _ (ne_eqb c 120 ne)

-- an escape stands at the front
record Escape (bytes : List ℕ) : Type 0 where
  pub first : ℕ
  pub more : List ℕ
  pub rest : List ℕ
  pub byte : ℕ
  pub is : bytes ≡ (first ∷ more) ++ rest
  pub escape : IsEscape (first ∷ more) rest byte
  pub raw : NoBackslash more

digit-raw : (base c : ℕ) → base ≤ 16 → digit_value c < base → eqb c 92 ≡ false
digit-raw base c le lt = ne_eqb c 92 (λ e. absurd (high (subst (λ (x : ℕ). digit_value x < base) e lt)))
  where
    high : digit_value 92 < base → ⊥
    high h = omega arith

digits-raw : (base : ℕ) (ds : List ℕ) → base ≤ 16 → AllByRecursion (λ c. digit_value c < base) ds → NoBackslash ds
digits-raw base [] le each = tt
digits-raw base (d ∷ ds) le each = (digit-raw base d le each.0, digits-raw base ds le each.1)

escape-split : (c : ℕ) (bs : List ℕ) → Escape (c ∷ bs)
escape-split c bs = octals (digits_at 8 3 (c ∷ bs)) (numeral-split 8 3 (c ∷ bs)) refl
  where
    hexes : (digits : List ℕ) → c ≡ 120 → Numeral 16 2 bs digits → Escape (c ∷ bs)
    hexes [] x h = record { first = 120; more = []; rest = h.rest; byte = 120; is = ap (λ (y : ℕ). y ∷ bs) x ∙ ap (λ (y : List ℕ). 120 ∷ y) h.is; escape = bare_x h.rest (none h.all); raw = tt }
      where
        none : (◌≡◌ {A = ℕ} 0 2) ⊎ NoDigit 16 h.rest → NoDigit 16 h.rest
        none (inl e) = absurd (omega arith)
        none (inr k) = k
    hexes (d ∷ ds) x h = record { first = 120; more = d ∷ ds; rest = h.rest; byte = digits_value 16 (d ∷ ds); is = ap (λ (y : ℕ). y ∷ bs) x ∙ ap (λ (y : List ℕ). 120 ∷ y) h.is; escape = hexadecimal (d ∷ ds) h.rest (record { each = h.each; some = omega arith; few = h.few; all = h.all }); raw = digits-raw 16 (d ∷ ds) (omega arith) h.each }

    others : 8 ≤ digit_value c → Escape (c ∷ bs)
    others le = elim (cases_eq c 120) [
      | inl x ↦ hexes (digits_at 16 2 bs) x (numeral-split 16 2 bs)
      | inr ne ↦ record { first = c; more = []; rest = bs; byte = letter_value c; is = refl; escape = letter c bs le ne; raw = tt }
    ]

    high : (n : ℕ) → digits_at 8 3 (c ∷ bs) ≡ [] → 8 ≤ digit_value c
    high n e = elim (cases_lt (digit_value c) 8) [
      | inl lt ↦ absurd (clash (sym (digits-some 8 2 c bs lt) ∙ e))
      | inr le ↦ le
    ]
      where
        clash : c ∷ digits_at 8 2 bs ≡ [] → ⊥
        clash f = cc

    octals : (digits : List ℕ) → Numeral 8 3 (c ∷ bs) digits → digits_at 8 3 (c ∷ bs) ≡ digits → Escape (c ∷ bs)
    octals [] h e = others (high 0 e)
    octals (d ∷ ds) h e = record { first = d; more = ds; rest = h.rest; byte = digits_value 8 (d ∷ ds) % 256; is = h.is; escape = octal (d ∷ ds) h.rest (record { each = h.each; some = omega arith; few = h.few; all = h.all }); raw = digits-raw 8 ds (omega arith) h.each.1 }

-- ---- texts

step : (e rest : List ℕ) (b : ℕ) → IsEscape e rest b → text_after 0 (92 ∷ (e ++ rest)) ≡ b ∷ text_after 0 rest
step e rest b h =
    let is = escape-is e rest b h in
    ap (λ (x : ℕ × ℕ). x.0 ∷ text_after x.1 (e ++ rest)) is ∙ ap (λ (x : List ℕ). b ∷ x) (text_after-drop (length e) (e ++ rest) ∙ ap (text_after 0) (drop_at e rest (length e) refl))

pub text-is : (bytes text : List ℕ) → IsText bytes text → text_after 0 bytes ≡ text
text-is _ _ nothing = refl
text-is _ _ (plain b bs text ne h) = cond-false _ _ _ (ne_eqb b 92 ne) ∙ ap (λ (x : List ℕ). b ∷ x) (text-is bs text h)
text-is _ _ (escaped e bs b text is h) = step e bs b is ∙ ap (λ (x : List ℕ). b ∷ x) (text-is bs text h)

raw-closed : (more rest : List ℕ) → NoBackslash more → ends_escaped false (more ++ rest) ≡ ends_escaped false rest
raw-closed [] rest h = refl
raw-closed (b ∷ more) rest h = ap (λ (e : Bool). ends_escaped e (more ++ rest)) h.0 ∙ raw-closed more rest h.1

tail-is : (c d : ℕ) (cs ds : List ℕ) → c ∷ cs ≡ d ∷ ds → cs ≡ ds
tail-is c d cs ds e = cc

-- an escape, and the text after it
there : (b : ℕ) (bs : List ℕ) (n : ℕ) → b ≡ 92 → length bs ≤ n → ends_escaped true bs ≡ false → ((rest : List ℕ) → length rest ≤ n → ends_escaped false rest ≡ false → IsText rest (text_after 0 rest)) → IsText (b ∷ bs) (text_after 0 (b ∷ bs))
there b [] n e le closed h = absurd cc
there b (c ∷ cs) n e le closed h =
    let s = escape-split c cs in
    let after : cs ≡ s.more ++ s.rest = tail-is c s.first cs (s.more ++ s.rest) s.is in
    let whole : ends_escaped false s.rest ≡ false = sym (raw-closed s.more s.rest s.raw) ∙ ap (ends_escaped false) (sym after) ∙ closed in
    let short : length s.rest ≤ n = omega (arith, ap length after, length-append s.more s.rest) in
    let spelled : List ℕ = 92 ∷ ((s.first ∷ s.more) ++ s.rest) in
    let text : IsText spelled (s.byte ∷ text_after 0 s.rest) = escaped (s.first ∷ s.more) s.rest s.byte (text_after 0 s.rest) s.escape (h s.rest short whole) in
    let same : b ∷ c ∷ cs ≡ spelled = ap (λ (x : ℕ). x ∷ c ∷ cs) e ∙ ap (λ (x : List ℕ). 92 ∷ x) s.is in
    subst (λ (x : List ℕ). IsText x (text_after 0 x)) (sym same) (subst (IsText spelled) (sym (step (s.first ∷ s.more) s.rest s.byte s.escape)) text)

pub text-there : (n : ℕ) (bytes : List ℕ) → length bytes ≤ n → ends_escaped false bytes ≡ false → IsText bytes (text_after 0 bytes)
text-there n [] le closed = nothing
text-there zero (b ∷ bs) le closed = absurd (omega arith)
text-there (suc n) (b ∷ bs) le closed = elim (cases_eq b 92) [
  | inl e ↦ there b bs n e (omega arith) (ap (λ (x : Bool). ends_escaped x bs) (sym (eq-eqb b 92 e)) ∙ closed) (λ rest short whole. text-there n rest short whole)
  | inr ne ↦ subst (IsText (b ∷ bs)) (sym (cond-false _ _ _ (ne_eqb b 92 ne))) (plain b bs (text_after 0 bs) ne (text-there n bs (omega arith) (ap (λ (x : Bool). ends_escaped x bs) (sym (ne_eqb b 92 ne)) ∙ closed)))
]

-- ---- fields

pub field-is : (o : Options) (bytes : List ℕ) (v : Option (List ℕ)) → IsField o bytes v → field_value o bytes ≡ v
field-is o bytes None h = cond-true _ _ _ (ap (λ (x : List ℕ). bytes_eq x o.null_mark) h ∙ same-again o.null_mark)
field-is o bytes (Some text) h = cond-false _ _ _ (other-bytes bytes o.null_mark h.0) ∙ ap (λ (x : List ℕ). Some x) (text-is bytes text h.1)

pub field-there : (o : Options) (bytes : List ℕ) → ends_escaped false bytes ≡ false → IsField o bytes (field_value o bytes)
field-there o bytes closed = go (bytes_eq bytes o.null_mark) refl
  where
    go : (t : Bool) → bytes_eq bytes o.null_mark ≡ t → IsField o bytes (field_value o bytes)
    go true e = subst (IsField o bytes) (sym (cond-true _ _ _ e)) (same-bytes bytes o.null_mark e)
    go false e = subst (IsField o bytes) (sym (cond-false _ _ _ e)) ((λ same. clash (sym e ∙ ap (λ (x : List ℕ). bytes_eq x o.null_mark) same ∙ same-again o.null_mark)), text-there (length bytes) bytes (omega arith) closed)
      where
        clash : false ≡ true → ⊥
        clash f = cc

pub field-once : (o : Options) (bytes : List ℕ) (v w : Option (List ℕ)) → IsField o bytes v → IsField o bytes w → v ≡ w
field-once o bytes v w h k = sym (field-is o bytes v h) ∙ field-is o bytes w k
