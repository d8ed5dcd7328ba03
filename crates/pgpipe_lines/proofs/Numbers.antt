-- Numbers in decimal: what `parse` reads of a text is what the definitions say.
use Rattle.std.proofs.Common.{FitsSigned, ◌≡◌, ◌≢◌, ℕ, ◌+◌, ◌<◌, ◌≤◌, ◌^◌, ◌⊎◌, inl, inr, ℤ, pos, neg_ℤ, nat_le, Bool, true, false, if◌then◌else◌, List, [], ◌∷◌, length, drop, get_or, Option, Some, None, Result, Ok, Err, MatchResult, option_map, refl, sym, ap, ◌∙◌, arith}
use Rattle.std.specs.Result.{OkIff}
use Rattle.std.specs.Str.{all_ascii_digits, IsUtf8}
use Rattle.std.specs.Str.Parse.{digits_value, starts_with_minus, ParsesSigned, ParsesUnsigned}
use Rattle.std.proofs.lemmas.Bool.{leb-true, le-leb}
use Rattle.std.proofs.lemmas.Bool.Decides.{nat_tests}
use Rattle.std.proofs.lemmas.Str.{IsUtf8-append, IsUtf8-from_ascii}
use Rattle.std.proofs.lemmas.Str.Parse.{IsNumeralModel, numerals_by_value, tells_all_ascii_digits, not_in_digits, parse_plain, parse_signed_minus, parse_signed_plain}
use Rattle.std.proofs.lemmas.Fmt.{IsAscii-from_digits}
use Rattle.std.specs.Int.{IsInRange, w32}
use Rattle.pgpipe_lines.specs.Arguments.{digits_up_to, signed_number}

own : IsNumeralModel (λ ds. all_ascii_digits ds ≡ true) (digits_value 10)
own = numerals_by_value _ tells_all_ascii_digits

both : (a b : Bool) (n : ℕ) → a ≡ true → b ≡ true → (if a then (if b then Some n else None) else None) ≡ Some n
both a b n e f = rw (e, f)

not_both : (a b : Bool) (n : ℕ) → ((a ≡ true) × (b ≡ true) → ⊥) → (if a then (if b then Some n else None) else None) ≡ None
not_both true true n h = absurd (h (refl, refl))
not_both true false n h = refl
not_both false b n h = refl

pub digits-some : (most : ℕ) (text : List ℕ) → all_ascii_digits text ≡ true → 0 < length text → digits_value 10 text ≤ most → digits_up_to most text ≡ Some (digits_value 10 text)
digits-some most [] a lt le = absurd (omega arith)
digits-some most (d ∷ ds) a lt le = both (all_ascii_digits (d ∷ ds)) (nat_le (digits_value 10 (d ∷ ds)) most) (digits_value 10 (d ∷ ds)) a (le-leb _ _ le)

pub digits-none : (most : ℕ) (text : List ℕ) → ((all_ascii_digits text ≡ true) × (0 < length text) × (digits_value 10 text ≤ most) → ⊥) → digits_up_to most text ≡ None
digits-none most [] h = refl
digits-none most (d ∷ ds) h = not_both (all_ascii_digits (d ∷ ds)) (nat_le (digits_value 10 (d ∷ ds)) most) (digits_value 10 (d ∷ ds)) (λ (p : (all_ascii_digits (d ∷ ds) ≡ true) × (nat_le (digits_value 10 (d ∷ ds)) most ≡ true)). h (p.0, omega arith, leb-true _ _ p.1))

by_digits : {E : Type 0} (most bound : ℕ) (text : List ℕ) (r : Result ℕ E) → bound ≡ most + 1
    → OkIff r ((all_ascii_digits text ≡ true) × (0 < length text) × (digits_value 10 text < bound)) (digits_value 10 text)
    → MatchResult r (λ n. digits_up_to most text ≡ Some n) (λ _. digits_up_to most text ≡ None)
by_digits most bound text (Ok n) e h = digits-some most text h.0.0 h.0.1 (omega (arith, e, h.0.2)) ∙ ap (λ (k : ℕ). Some k) (sym h.1)
by_digits most bound text (Err x) e h = digits-none most text (λ (p : (all_ascii_digits text ≡ true) × (0 < length text) × (digits_value 10 text ≤ most)). h (p.0, p.1, omega (arith, e, p.2)))

pub number-read : {E : Type 0} (k most : ℕ) (bs text : List ℕ) (r : Result ℕ E) → 2 ^ k ≡ most + 1 → ParsesUnsigned k 10 bs r → bs ≡ text → get_or text 0 0 ≢ 43
    → MatchResult r (λ n. digits_up_to most text ≡ Some n) (λ _. digits_up_to most text ≡ None)
number-read k most bs text r e h same plus =
    let h' = rw same at h in
    by_digits most (2 ^ k) text r e (parse_plain own k text r h' plus)

-- what begins with a plus, or isn't UTF-8, is no number
pub no_digits : (most : ℕ) (text : List ℕ) → (get_or text 0 0 ≡ 43) ⊎ (IsUtf8 text → ⊥) → digits_up_to most text ≡ None
no_digits most text (inl h) = digits-none most text (λ (p : (all_ascii_digits text ≡ true) × (0 < length text) × (digits_value 10 text ≤ most)). not_in_digits own text 43 p.0 (λ (q : IsInRange 48 57 43). absurd (omega arith)) 0 p.1 h)
no_digits most text (inr h) = digits-none most text (λ (p : (all_ascii_digits text ≡ true) × (0 < length text) × (digits_value 10 text ≤ most)). h (IsUtf8-from_ascii text (IsAscii-from_digits text (own.to text p.0))))

-- ---- numbers with a sign

minus_first : (text : List ℕ) → starts_with_minus text ≡ true → get_or text 0 0 ≡ 45
minus_first text h = grind (arith, nat_tests)

no_minus_first : (text : List ℕ) → starts_with_minus text ≡ false → get_or text 0 0 ≢ 45
no_minus_first text h = grind (arith, nat_tests)

signed_by : (minus : Bool) (text : List ℕ) → starts_with_minus text ≡ minus → signed_number text ≡ (if minus then option_map (λ n. neg_ℤ (pos n)) (digits_up_to 2147483648 (drop 1 text)) else option_map pos (digits_up_to 2147483647 text))
signed_by minus text h = rw h

-- a text is a number with a sign, by its digits; B says that the number isn't too large
by_signed : {E B : Type 0} (most : ℕ) (sign : ℕ → ℤ) (text : List ℕ) (r : Result ℤ E) → (B → digits_value 10 text ≤ most) → (digits_value 10 text ≤ most → B)
    → OkIff r ((all_ascii_digits text ≡ true) × (0 < length text) × B) (sign (digits_value 10 text))
    → MatchResult r (λ z. option_map sign (digits_up_to most text) ≡ Some z) (λ _. option_map sign (digits_up_to most text) ≡ None)
by_signed most sign text (Ok n) to from h = ap (option_map sign) (digits-some most text h.0.0 h.0.1 (to h.0.2)) ∙ ap (λ (z : ℤ). Some z) (sym h.1)
by_signed most sign text (Err x) to from h = ap (option_map sign) (digits-none most text (λ (p : (all_ascii_digits text ≡ true) × (0 < length text) × (digits_value 10 text ≤ most)). h (p.0, p.1, from p.2)))

weaker : {E : Type 0} (o p : Option ℤ) (r : Result ℤ E) → p ≡ o → MatchResult r (λ z. o ≡ Some z) (λ _. o ≡ None) → MatchResult r (λ z. p ≡ Some z) (λ _. p ≡ None)
weaker o p (Ok z) e h = e ∙ h
weaker o p (Err x) e h = e ∙ h

read_signed : {E : Type 0} (minus : Bool) (text : List ℕ) (r : Result ℤ E) → starts_with_minus text ≡ minus → ParsesSigned w32 10 text r → get_or text 0 0 ≢ 43
    → MatchResult r (λ z. signed_number text ≡ Some z) (λ _. signed_number text ≡ None)
read_signed true text r m h plus =
    weaker (option_map (λ n. neg_ℤ (pos n)) (digits_up_to 2147483648 (drop 1 text))) (signed_number text) r (signed_by true text m)
    (by_signed 2147483648 (λ (n : ℕ). neg_ℤ (pos n)) (drop 1 text) r (λ (le : digits_value 10 (drop 1 text) ≤ 2147483648). le) (λ (le : digits_value 10 (drop 1 text) ≤ 2147483648). le) (parse_signed_minus own w32 text r h (minus_first text m)))
read_signed false text r m h plus =
    weaker (option_map pos (digits_up_to 2147483647 text)) (signed_number text) r (signed_by false text m)
    (by_signed 2147483647 pos text r (λ (lt : digits_value 10 text < 2147483648). omega arith) (λ (le : digits_value 10 text ≤ 2147483647). omega arith) (parse_signed_plain own w32 text r h plus (no_minus_first text m)))

pub signed-fits : (E : Type 0) (bs : List ℕ) (z : ℤ) → ParsesSigned {E = E} w32 10 bs (Ok z) → FitsSigned w32 z
signed-fits E bs z h = rw h.1 h.0.1

pub signed-read : {E : Type 0} (bs text : List ℕ) (r : Result ℤ E) → ParsesSigned w32 10 bs r → bs ≡ text → get_or text 0 0 ≢ 43
    → MatchResult r (λ z. signed_number text ≡ Some z) (λ _. signed_number text ≡ None)
signed-read bs text r h same plus =
    let h' = rw same at h in
    read_signed (starts_with_minus text) text r refl h' plus

no_text : (text : List ℕ) → get_or text 0 0 ≡ 45 → all_ascii_digits (drop 1 text) ≡ true → (get_or text 0 0 ≡ 43) ⊎ (IsUtf8 text → ⊥) → ⊥
unfolding lib.Utf8.encode
no_text text m p (inl h) = absurd (omega arith)
no_text [] m p (inr h) = absurd (omega arith)
no_text (d ∷ ds) m p (inr h) = h (IsUtf8-append (d ∷ []) ds (rw m (45 ∷ [], (refl, refl))) (IsUtf8-from_ascii ds (IsAscii-from_digits ds (own.to ds p))))

none_signed : (minus : Bool) (text : List ℕ) → starts_with_minus text ≡ minus → (get_or text 0 0 ≡ 43) ⊎ (IsUtf8 text → ⊥) → signed_number text ≡ None
none_signed true text m h =
    signed_by true text m ∙ ap (option_map (λ n. neg_ℤ (pos n))) (digits-none 2147483648 (drop 1 text) (λ (p : (all_ascii_digits (drop 1 text) ≡ true) × (0 < length (drop 1 text)) × (digits_value 10 (drop 1 text) ≤ 2147483648)). no_text text (minus_first text m) p.0 h))
none_signed false text m h = signed_by false text m ∙ ap (option_map pos) (no_digits 2147483647 text h)

pub no_signed : (text : List ℕ) → (get_or text 0 0 ≡ 43) ⊎ (IsUtf8 text → ⊥) → signed_number text ≡ None
no_signed text h = none_signed (starts_with_minus text) text refl h
