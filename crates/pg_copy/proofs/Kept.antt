-- How many bytes a reader keeps: those that were pushed and stand after the rows that were given.
use Rattle.std.proofs.Common.{◌≡◌, ℕ, zero, suc, ◌+◌, ◌-◌, ◌<◌, ◌≤◌, List, [], ◌∷◌, ◌++◌, length, Option, None, refl, sym, ap, ◌∙◌, ◌⊎◌, inl, inr, arith}
use Rattle.std.proofs.lemmas.List.{append-nil, length-append}
use Rattle.std.proofs.lemmas.Bool.{cases_lt, lt-ltb, le-ltb}
use Rattle.pg_copy_text.specs.declared.line_end.LineEnd.{LineEnd}
use Rattle.pg_copy_text.specs.declared.line_end.LineEnd.TheVariants.{Newline, Return, Both}
use Rattle.pg_copy_text.specs.declared.text_stage.TextStage.TheVariants as stages
use Rattle.pg_copy_rows.specs.Reading.{told}
use Rattle.pg_copy_rows.specs.Row.{Row}
use Rattle.pg_copy_text.specs.Text.{newline, carriage_return, end_len, lines, decided_at_end}
use Rattle.pg_copy_text.specs.TextLaws.{OneSplit}
use Rattle.pg_copy_text.specs.TextLine.{AreParts, one, lone, more}
use Rattle.pg_copy_text.specs.TextReader.{TextState, HasReadText, lines_size, lines_end}
use Rattle.pg_copy.proofs.Pairs.{size-more, pairs-size}

-- ---- all the lines end where the bytes do

parts-some : (mark : ℕ) (bytes : List ℕ) (ps : List (List ℕ)) → AreParts mark bytes ps → 0 < length ps
parts-some mark _ _ (one p u) = omega arith
parts-some mark _ _ (lone p u) = omega arith
parts-some mark _ _ (more p rest qs u h) = omega arith

parts-size : (n mark : ℕ) (bytes : List ℕ) (ps : List (List ℕ)) → AreParts mark bytes ps → length bytes < n → lines_size 1 n ps ≡ length bytes
parts-size zero mark bytes ps h lt = absurd (omega (arith, lt))
parts-size (suc n) mark _ _ (one p u) lt = refl
parts-size (suc n) mark _ _ (lone p u) lt = refl
parts-size (suc n) mark _ _ (more p rest qs u h) lt =
    let len : length (p ++ mark ∷ rest) ≡ length p + suc (length rest) = length-append p (mark ∷ rest) in
    let later : lines_size 1 n qs ≡ length rest = parts-size n mark rest qs h (omega (arith, lt, len)) in
    size-more 1 n p qs (parts-some mark rest qs h) ∙ omega (arith, later, len)

lines-size : OneSplit → (e : LineEnd) (bytes : List ℕ) (n : ℕ) → length bytes < n → lines_size (end_len e) n (lines e bytes) ≡ length bytes
lines-size split Newline bytes n lt = parts-size n newline bytes (lines Newline bytes) (split.lines_there Newline bytes) lt
lines-size split Return bytes n lt = parts-size n carriage_return bytes (lines Return bytes) (split.lines_there Return bytes) lt
lines-size split Both bytes n lt = pairs-size n bytes (lines Both bytes) (split.lines_there Both bytes) lt

all-lines : OneSplit → (before : Option LineEnd) (bytes : List ℕ) (n : ℕ) → length bytes < n → lines_end before bytes n ≡ length bytes
unfolding lines_end
all-lines split before bytes n lt = lines-size split (decided_at_end before bytes) bytes n lt

-- a reader among the lines keeps what was pushed after those of the rows that were given
kept-is : OneSplit → (s : TextState) (pushed : List ℕ) (given : List Row) → HasReadText s pushed given → s.stage ≡ stages.Lines → length pushed ≡ lines_end None pushed (length given) + length s.kept
kept-is split s pushed given h among =
    let n = suc (length pushed + length s.kept) in
    let all : lines_end None pushed (length given + n) ≡ length pushed = all-lines split None pushed (length given + n) (omega arith) in
    let kept : lines_end s.line_end s.kept n ≡ length s.kept = all-lines split s.line_end s.kept n (omega arith) in
    let on : lines_end None (pushed ++ []) (length given + n) ≡ lines_end None pushed (length given) + lines_end s.line_end (s.kept ++ []) n = h.goes_on [] n (inr refl) (inl among) in
    sym all ∙ ap (λ (bytes : List ℕ). lines_end None bytes (length given + n)) (sym (append-nil pushed)) ∙ on
    ∙ ap (λ (bytes : List ℕ). lines_end None pushed (length given) + lines_end s.line_end bytes n) (append-nil s.kept) ∙ ap (λ (k : ℕ). lines_end None pushed (length given) + k) kept

-- ---- numbers as they are told

told-cases : (n : ℕ) → ((n < 18446744073709551615) × (told n ≡ n)) ⊎ ((18446744073709551615 ≤ n) × (told n ≡ 18446744073709551615))
told-cases n = elim (cases_lt n 18446744073709551615) [
  | inl lt ↦ inl (lt, rw (lt-ltb n 18446744073709551615 lt) refl)
  | inr le ↦ inr (le, rw (le-ltb n 18446744073709551615 le) refl)
]

longer : (limit all before kept : ℕ) → all ≡ before + kept → limit < told all - told before → limit < kept
longer limit all before kept e lt = go (told-cases all) (told-cases before)
  where
    go : ((all < 18446744073709551615) × (told all ≡ all)) ⊎ ((18446744073709551615 ≤ all) × (told all ≡ 18446744073709551615)) → ((before < 18446744073709551615) × (told before ≡ before)) ⊎ ((18446744073709551615 ≤ before) × (told before ≡ 18446744073709551615)) → limit < kept
    go (inl a) (inl b) = omega (arith, e, lt, a.1, b.1)
    go (inl a) (inr b) = absurd (omega (arith, e, a.0, b.0))
    go (inr a) (inl b) = omega (arith, e, lt, a.0, a.1, b.1)
    go (inr a) (inr b) = absurd (omega (arith, lt, a.1, b.1))

no-longer : (limit all before kept : ℕ) → all ≡ before + kept → told all - told before ≤ limit → (kept ≤ limit) ⊎ (18446744073709551615 ≤ all)
no-longer limit all before kept e le = go (told-cases all) (told-cases before)
  where
    go : ((all < 18446744073709551615) × (told all ≡ all)) ⊎ ((18446744073709551615 ≤ all) × (told all ≡ 18446744073709551615)) → ((before < 18446744073709551615) × (told before ≡ before)) ⊎ ((18446744073709551615 ≤ before) × (told before ≡ 18446744073709551615)) → (kept ≤ limit) ⊎ (18446744073709551615 ≤ all)
    go (inl a) (inl b) = inl (omega (arith, e, le, a.1, b.1))
    go (inl a) (inr b) = absurd (omega (arith, e, a.0, b.0))
    go (inr a) b = inr a.0

-- ---- what a reader keeps that has read so far

pub kept-longer : OneSplit → (s : TextState) (pushed : List ℕ) (given : List Row) (limit told_in_all : ℕ) → HasReadText s pushed given → told_in_all ≡ told (length pushed) → s.stage ≡ stages.Lines → limit < told_in_all - s.offset → limit < length s.kept
kept-longer split s pushed given limit told_in_all h counted among lt =
    longer limit (length pushed) (lines_end None pushed (length given)) (length s.kept) (kept-is split s pushed given h among) (rw (sym counted, sym h.placed) lt)

pub kept-no-longer : OneSplit → (s : TextState) (pushed : List ℕ) (given : List Row) (limit told_in_all : ℕ) → HasReadText s pushed given → told_in_all ≡ told (length pushed) → s.stage ≡ stages.Lines → told_in_all - s.offset ≤ limit
    → (length s.kept ≤ limit) ⊎ (18446744073709551615 ≤ length pushed)
kept-no-longer split s pushed given limit told_in_all h counted among le =
    no-longer limit (length pushed) (lines_end None pushed (length given)) (length s.kept) (kept-is split s pushed given h among) (rw (sym counted, sym h.placed) le)
