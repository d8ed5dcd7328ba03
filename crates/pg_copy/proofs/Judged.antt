-- What is answered by a reader with a limit, by what the reader without it answered.
use Rattle.std.proofs.Common.{◌≡◌, ℕ, ◌-◌, ◌<◌, ◌≤◌, Bool, true, false, ltb, List, [], ◌++◌, length, Option, Some, None, Result, Ok, Err, refl, sym, ◌∙◌, ◌⊎◌, inl, inr}
use Rattle.std.specs.Prelude.{◌&&◌, not}
use Rattle.std.proofs.lemmas.Bool.{cases_lt, lt-ltb, le-ltb}
use Rattle.pg_copy_rows.specs.declared.fault.TextFault.{TextFault}
use Rattle.pg_copy_rows.specs.declared.fault.TextFault.TheVariants.{Memory}
use Rattle.pg_copy_text.specs.declared.text_stage.TextStage.{TextStage}
use Rattle.pg_copy_text.specs.declared.text_stage.TextStage.TheVariants as stages
use Rattle.pg_copy_rows.specs.Reading.{AnswersNext, IsGood, given_by, told}
use Rattle.pg_copy_rows.specs.Row.{Row}
use Rattle.pg_copy_text.specs.Text.{text_reading}
use Rattle.pg_copy_text.specs.TextLaws.{OneSplit}
use Rattle.pg_copy_text.specs.TextReader.{HasReadText, text_ending}
use Rattle.pg_copy.specs.declared.limit.fault.LimitedTextFault.{LimitedTextFault}
use Rattle.pg_copy.specs.Limited.{LimitedState, HasReadLimited, JudgesLine, as_text}
use Rattle.pg_copy.specs.Private.Judging.{is_marked, is_long, judged, after_judging}
use Rattle.pg_copy.proofs.Kept.{kept-longer, kept-no-longer}

below : (n m : ℕ) → ltb n m ≡ true → n < m
below n m e = elim (cases_lt n m) [
  | inl lt ↦ lt
  | inr le ↦ absurd (clash (sym (le-ltb n m le) ∙ e))
]
  where
    clash : false ≡ true → ⊥
    clash x = cc

not-below : (n m : ℕ) → ltb n m ≡ false → m ≤ n
not-below n m e = elim (cases_lt n m) [
  | inl lt ↦ absurd (clash (sym (lt-ltb n m lt) ∙ e))
  | inr le ↦ le
]
  where
    clash : true ≡ false → ⊥
    clash x = cc

-- the length of a line that isn't whole
open-judged : OneSplit → (s : LimitedState) (p : List ℕ) (g : List Row) → HasReadLimited s p g → IsGood (text_ending s.reader.stage s.reader.kept) → JudgesLine (record s { long = is_long s }) p (judged (is_long s) (Ok None))
open-judged split s p g h good = go (is_long s) refl
  where
    long : (stage : TextStage) → s.reader.stage ≡ stage → IsGood (text_ending stage s.reader.kept) → (not (is_marked stage) && ltb s.limit (s.pushed - s.reader.offset)) ≡ true → (s.reader.stage ≡ stages.Lines) × (s.limit < length s.reader.kept)
    long stages.Lines is k e = (is, kept-longer split s.reader p g s.limit s.pushed h.read h.counted is (below s.limit (s.pushed - s.reader.offset) e))
    long stages.Marked is k e = absurd cc
    long (stages.Failed f) is k e = absurd k

    short : (stage : TextStage) → s.reader.stage ≡ stage → IsGood (text_ending stage s.reader.kept) → (not (is_marked stage) && ltb s.limit (s.pushed - s.reader.offset)) ≡ false → (s.reader.stage ≡ stages.Marked) ⊎ ((length s.reader.kept ≤ s.limit) ⊎ (18446744073709551615 ≤ length p))
    short stages.Lines is k e = inr (kept-no-longer split s.reader p g s.limit s.pushed h.read h.counted is (not-below s.limit (s.pushed - s.reader.offset) e))
    short stages.Marked is k e = inl is
    short (stages.Failed f) is k e = absurd k

    go : (b : Bool) → is_long s ≡ b → JudgesLine (record s { long = is_long s }) p (judged b (Ok None))
    go true e =
        let kept = long s.reader.stage refl good e in
        (e, kept.0, kept.1)
    go false e = (e, short s.reader.stage refl good e)

pub judges-next : OneSplit → (old mid new : LimitedState) (found : Result (Option Row) TextFault) (result : Result (Option Row) LimitedTextFault) → mid.pushed ≡ old.pushed → mid.long ≡ false → new ≡ after_judging mid found → result ≡ judged (is_long mid) found
    → ((p : List ℕ) (g : List Row) → HasReadText old.reader p g → HasReadText mid.reader p (g ++ given_by found))
    → ((p : List ℕ) (g : List Row) → HasReadText old.reader p g → AnswersNext Memory (text_reading mid.reader.options mid.reader.columns p) g (text_ending mid.reader.stage mid.reader.kept) found)
    → (p : List ℕ) (g : List Row) → HasReadLimited old p g → JudgesLine new p result
judges-next split old mid new found result same short made is read gives p g h = rw (made, is) (go found (read p g h.read) (gives p g h.read))
  where
    go : (found : Result (Option Row) TextFault) → HasReadText mid.reader p (g ++ given_by found) → AnswersNext Memory (text_reading mid.reader.options mid.reader.columns p) g (text_ending mid.reader.stage mid.reader.kept) found
        → JudgesLine (after_judging mid found) p (judged (is_long mid) found)
    go (Ok (Some row)) k a = short
    go (Ok None) k a = open-judged split mid p (g ++ []) (record { read = k; counted = same ∙ h.counted }) a.0
    go (Err f) k a = short

-- what was read and given, once a line was judged
pub read-judged : (s : LimitedState) (found : Result (Option Row) TextFault) (answer : Result (Option Row) LimitedTextFault) (new : LimitedState) → answer ≡ judged (is_long s) found → new ≡ after_judging s found
    → (p : List ℕ) (g : List Row) → HasReadText s.reader p (g ++ given_by found) → s.pushed ≡ told (length p) → HasReadLimited new p (g ++ given_by (as_text answer))
read-judged s found answer new is state p g read counted = rw (is, state) (go found (is_long s) read)
  where
    go : (found : Result (Option Row) TextFault) (long : Bool) → HasReadText s.reader p (g ++ given_by found) → HasReadLimited (after_judging s found) p (g ++ given_by (as_text (judged long found)))
    go (Ok (Some row)) long h = record { read = h; counted = counted }
    go (Ok None) true h = record { read = h; counted = counted }
    go (Ok None) false h = record { read = h; counted = counted }
    go (Err f) long h = record { read = h; counted = counted }
