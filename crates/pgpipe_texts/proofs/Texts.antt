-- What is said of texts that are put together step by step.
use Rattle.std.proofs.Common.{◌≡◌, ℕ, zero, suc, ◌-◌, ◌<◌, ◌≤◌, Bool, true, false, eqb, leb, ltb, List, [], ◌∷◌, ◌++◌, length, take, drop, Some, None, Result, Ok, Err, refl, sym, ap, ◌∙◌, append_assoc, append-nil, take-append-drop, arith, cond}
use Rattle.std.specs.Char.{is_ascii, is_ascii_control}
use Rattle.std.specs.List.{list_all}
use Rattle.std.specs.Prelude.{◌&&◌, ◌||◌, not, OnOk}
use Rattle.std.specs.Str.{IsUtf8, is_utf8}
use Rattle.std.proofs.lemmas.Bool.{and_from, and_left, and_parts, cond-true, cond-false, false≢true, le-leb, lt-leb, ne_eqb, not-true, or_left, true≢false}
use Rattle.std.proofs.lemmas.Str.{IsUtf8-from_is_utf8}
use Rattle.pgpipe_texts.specs.Private.Parts.{PutsSome, control_end, is_unescaped}
use Rattle.pgpipe_texts.specs.Text.{boundary, digits_escape, is_boundary, is_high_control, is_plain, shown_byte, shown_bytes, shown_part}

-- bytes that aren't UTF-8 don't pass the test for it
pub not_utf8 : (bytes : List ℕ) → (IsUtf8 bytes → ⊥) → false ≡ is_utf8 bytes
not_utf8 bytes fails = by_test (is_utf8 bytes) refl
  where
    by_test : (b : Bool) → is_utf8 bytes ≡ b → false ≡ b
    by_test true e = absurd (fails (IsUtf8-from_is_utf8 bytes e))
    by_test false e = refl

-- ---- where a text is cut

-- a place that is no boundary isn't the first, and its boundary is that of the place before
pub step_back : (bytes : List ℕ) (end : ℕ) → is_boundary bytes end ≡ false → (boundary bytes end ≡ boundary bytes (end - 1)) × (0 < end)
unfolding boundary is_boundary
step_back bytes zero fails = absurd (true≢false fails)
step_back bytes (suc n) fails =
    let before : n ≡ suc n - 1 = omega arith in
    (ap (λ (t : Bool). cond t (suc n) (boundary bytes n)) fails ∙ ap (boundary bytes) before, omega arith)

-- a place that is one
pub at_boundary : (bytes : List ℕ) (end : ℕ) → is_boundary bytes end ≡ true → boundary bytes end ≡ end
unfolding boundary is_boundary
at_boundary bytes zero holds = refl
at_boundary bytes (suc n) holds = ap (λ (t : Bool). cond t (suc n) (boundary bytes n)) holds

-- what is shown of a text that is short, and of one that is longer
pub whole_shown : (bytes : List ℕ) → length bytes ≤ 100 → shown_part bytes ≡ bytes
unfolding shown_part
whole_shown bytes short = cond-true _ _ _ (le-leb (length bytes) 100 short)

pub cut_shown : (bytes : List ℕ) → 100 < length bytes → shown_part bytes ≡ take (boundary bytes 100) bytes
unfolding shown_part
cut_shown bytes long = cond-false _ _ _ (lt-leb (length bytes) 100 long)

-- ---- how it is shown

-- two tests that a byte passes
passed : (t x : Bool) → cond t false x ≡ true → (t ≡ false) × (x ≡ true)
passed true x e = absurd (false≢true e)
passed false x e = (refl, e)

-- a byte that is no control byte is none of these
no_control : (b k : ℕ) → is_ascii_control k ≡ true → not (is_ascii_control b) ≡ true → eqb b k ≡ false
no_control b k control none = ne_eqb b k (λ (same : b ≡ k). false≢true (sym (not-true (is_ascii_control b) none) ∙ ap (λ (x : ℕ). is_ascii_control x) same ∙ control))

-- a byte that is shown as it is, whatever stands around it
plain_shown : (utf8 : Bool) (mark b : ℕ) → is_unescaped utf8 mark b ≡ true → shown_byte utf8 mark b ≡ b ∷ []
unfolding shown_byte
plain_shown utf8 mark b h =
    let p : (eqb b 194 ≡ false) × (cond (eqb b 92 || eqb b mark) false (is_plain utf8 b) ≡ true) = passed (eqb b 194) (cond (eqb b 92 || eqb b mark) false (is_plain utf8 b)) h in
    let q : ((eqb b 92 || eqb b mark) ≡ false) × (is_plain utf8 b ≡ true) = passed (eqb b 92 || eqb b mark) (is_plain utf8 b) p.1 in
    let none : not (is_ascii_control b) ≡ true = (and_parts (not (is_ascii_control b)) (is_ascii b || utf8) q.1).0 in
    cond-false (eqb b 9) _ _ (no_control b 9 refl none) ∙ cond-false (eqb b 10) _ _ (no_control b 10 refl none) ∙ cond-false (eqb b 13) _ _ (no_control b 13 refl none) ∙ cond-false (eqb b 92 || eqb b mark) _ _ q.0 ∙ cond-true (is_plain utf8 b) _ _ q.1

-- it begins no control character
begins_none : (utf8 : Bool) (mark b c : ℕ) → is_unescaped utf8 mark b ≡ true → is_high_control b c ≡ false
begins_none utf8 mark b c h =
    let p : (eqb b 194 ≡ false) × (cond (eqb b 92 || eqb b mark) false (is_plain utf8 b) ≡ true) = passed (eqb b 194) (cond (eqb b 92 || eqb b mark) false (is_plain utf8 b)) h in
    and_left (eqb b 194 && leb 128 c) (ltb c 160) (and_left (eqb b 194) (leb 128 c) p.0)

-- such a byte, and then bytes that are all so
unescaped_first : (utf8 : Bool) (mark b : ℕ) (bytes : List ℕ) → is_unescaped utf8 mark b ≡ true → shown_bytes utf8 mark (b ∷ bytes) ≡ b ∷ shown_bytes utf8 mark bytes
unfolding shown_bytes
unescaped_first utf8 mark b [] h = plain_shown utf8 mark b h
unescaped_first utf8 mark b (c ∷ bytes) h = cond-false (is_high_control b c) _ _ (begins_none utf8 mark b c h) ∙ ap (λ (l : List ℕ). l ++ shown_bytes utf8 mark (c ∷ bytes)) (plain_shown utf8 mark b h)

unescaped_run : (utf8 : Bool) (mark : ℕ) (run later : List ℕ) → list_all (is_unescaped utf8 mark) run ≡ true → shown_bytes utf8 mark (run ++ later) ≡ run ++ shown_bytes utf8 mark later
unescaped_run utf8 mark [] later h = refl
unescaped_run utf8 mark (b ∷ run) later h =
    let p : (is_unescaped utf8 mark b ≡ true) × (list_all (is_unescaped utf8 mark) run ≡ true) = and_parts (is_unescaped utf8 mark b) (list_all (is_unescaped utf8 mark) run) h in
    unescaped_first utf8 mark b (run ++ later) p.0 ∙ ap (λ (l : List ℕ). b ∷ l) (unescaped_run utf8 mark run later p.1)

-- a text of such bytes alone, whether or not it is UTF-8
ascii : (t : Bool) → (t || false) ≡ true → t ≡ true
ascii true e = refl
ascii false e = e

unescaped_any : (utf8 : Bool) (mark b : ℕ) → is_unescaped false mark b ≡ true → is_unescaped utf8 mark b ≡ true
unescaped_any utf8 mark b h =
    let p : (eqb b 194 ≡ false) × (cond (eqb b 92 || eqb b mark) false (is_plain false b) ≡ true) = passed (eqb b 194) (cond (eqb b 92 || eqb b mark) false (is_plain false b)) h in
    let q : ((eqb b 92 || eqb b mark) ≡ false) × (is_plain false b ≡ true) = passed (eqb b 92 || eqb b mark) (is_plain false b) p.1 in
    let r : (not (is_ascii_control b) ≡ true) × ((is_ascii b || false) ≡ true) = and_parts (not (is_ascii_control b)) (is_ascii b || false) q.1 in
    cond-false (eqb b 194) _ _ p.0 ∙ cond-false (eqb b 92 || eqb b mark) _ _ q.0 ∙ and_from (not (is_ascii_control b)) (is_ascii b || utf8) r.0 (or_left (is_ascii b) utf8 (ascii (is_ascii b) r.1))

all_any : (utf8 : Bool) (mark : ℕ) (bytes : List ℕ) → list_all (is_unescaped false mark) bytes ≡ true → list_all (is_unescaped utf8 mark) bytes ≡ true
all_any utf8 mark [] h = refl
all_any utf8 mark (b ∷ bytes) h =
    let p : (is_unescaped false mark b ≡ true) × (list_all (is_unescaped false mark) bytes ≡ true) = and_parts (is_unescaped false mark b) (list_all (is_unescaped false mark) bytes) h in
    and_from (is_unescaped utf8 mark b) (list_all (is_unescaped utf8 mark) bytes) (unescaped_any utf8 mark b p.0) (all_any utf8 mark bytes p.1)

pub all_unescaped : (utf8 : Bool) (mark : ℕ) (bytes : List ℕ) → list_all (is_unescaped false mark) bytes ≡ true → shown_bytes utf8 mark bytes ≡ bytes
unfolding shown_bytes
all_unescaped utf8 mark bytes h = ap (shown_bytes utf8 mark) (sym (append-nil bytes)) ∙ unescaped_run utf8 mark bytes [] (all_any utf8 mark bytes h) ∙ append-nil bytes

-- ---- what is put of it at once

-- the bytes in front that are shown as they are
pub run_put : (utf8 : Bool) (mark : ℕ) (bytes old new : List ℕ) (n : ℕ) → 0 < n → n ≤ length bytes → list_all (is_unescaped utf8 mark) (take n bytes) ≡ true → new ≡ old ++ take n bytes → PutsSome utf8 mark bytes old new n
run_put utf8 mark bytes old new n some within all e = record {
  some = some;
  within = within;
  put = ap (λ (l : List ℕ). l ++ shown_bytes utf8 mark (drop n bytes)) e ∙ append_assoc old (take n bytes) (shown_bytes utf8 mark (drop n bytes)) ∙ ap (λ (l : List ℕ). old ++ l) (sym (unescaped_run utf8 mark (take n bytes) (drop n bytes) all) ∙ ap (shown_bytes utf8 mark) (take-append-drop n bytes));
}

-- a control character of two bytes
ended_by : (t : Bool) (b end : ℕ) → Some end ≡ cond t (Some b) None → (t ≡ true) × (b ≡ end)
ended_by true b end e = (refl, cc)
ended_by false b end e = absurd cc

control_shown : (utf8 : Bool) (mark a b : ℕ) (bytes old new : List ℕ) → is_high_control a b ≡ true → new ≡ old ++ (digits_escape a ++ digits_escape b) → PutsSome utf8 mark (a ∷ b ∷ bytes) old new 2
unfolding shown_bytes
control_shown utf8 mark a b bytes old new is e = record {
  some = omega arith;
  within = omega arith;
  put = ap (λ (l : List ℕ). l ++ shown_bytes utf8 mark bytes) e ∙ append_assoc old (digits_escape a ++ digits_escape b) (shown_bytes utf8 mark bytes) ∙ ap (λ (l : List ℕ). old ++ l) (sym (cond-true (is_high_control a b) _ _ is));
}

pub control_put : (utf8 : Bool) (mark a end : ℕ) (later old new : List ℕ) → Some end ≡ control_end a later → new ≡ old ++ (digits_escape a ++ digits_escape end) → PutsSome utf8 mark (a ∷ later) old new 2
control_put utf8 mark a end [] old new is e = absurd cc
control_put utf8 mark a end (b ∷ later) old new is e =
    let p : (is_high_control a b ≡ true) × (b ≡ end) = ended_by (is_high_control a b) b end is in
    control_shown utf8 mark a b later old new p.0 (e ∙ ap (λ (x : ℕ). old ++ (digits_escape a ++ digits_escape x)) (sym p.1))

-- another byte
no_end : (t : Bool) (b : ℕ) → None ≡ cond t (Some b) None → t ≡ false
no_end true b e = absurd cc
no_end false b e = refl

pub byte_put : (utf8 : Bool) (mark a : ℕ) (later old new : List ℕ) → None ≡ control_end a later → new ≡ old ++ shown_byte utf8 mark a → PutsSome utf8 mark (a ∷ later) old new 1
unfolding shown_bytes
byte_put utf8 mark a [] old new is e = record { some = omega arith; within = omega arith; put = append-nil new ∙ e }
byte_put utf8 mark a (b ∷ later) old new is e = record {
  some = omega arith;
  within = omega arith;
  put = ap (λ (l : List ℕ). l ++ shown_bytes utf8 mark (b ∷ later)) e ∙ append_assoc old (shown_byte utf8 mark a) (shown_bytes utf8 mark (b ∷ later)) ∙ ap (λ (l : List ℕ). old ++ l) (sym (cond-false (is_high_control a b) _ _ (no_end (is_high_control a b) b is)));
}

-- no bytes are left
pub all_put : (utf8 : Bool) (mark : ℕ) (rest line all : List ℕ) → length rest ≡ 0 → line ++ shown_bytes utf8 mark rest ≡ all → line ≡ all
unfolding shown_bytes
all_put utf8 mark [] line all none so_far = sym (append-nil line) ∙ so_far
all_put utf8 mark (b ∷ rest) line all none so_far = absurd (omega (arith, none))

-- ---- what was put

-- a text of some kind was put
pub text_put : {A E : Type 0} (IsText : List ℕ → Type 0) (r : Result A E) (old new text : List ℕ) → IsText text → OnOk r (new ≡ old ++ text) → OnOk r ((t : List ℕ) × IsText t × (new ≡ old ++ t))
text_put IsText (Ok x) old new text is e = (text, is, e)
text_put IsText (Err x) old new text is e = tt

-- a text was put after another one
pub then_put : {A E : Type 0} (r : Result A E) (old mid new a b : List ℕ) → mid ≡ old ++ a → OnOk r (new ≡ mid ++ b) → OnOk r (new ≡ old ++ (a ++ b))
then_put (Ok x) old mid new a b e h = h ∙ ap (λ (l : List ℕ). l ++ b) e ∙ append_assoc old a b
then_put (Err x) old mid new a b e h = tt
