-- What a reader of either format gives.
use Rattle.std.proofs.Common.{◌≡◌, ℕ, ◌<◌, length, Bool, true, false, List, [], ◌++◌, Option, Some, None, Result, Ok, Err, refl, sym, ap, subst, ◌∙◌, ◌⊎◌, inl, inr, append-nil}
use Rattle.std.specs.Result.{OnOk, IsErrAnd, MatchResult}
use Rattle.std.proofs.lemmas.Result.{err_from_is_err_and}
use Rattle.pg_copy.specs.fault.BinaryFault.{BinaryFault}
use Rattle.pg_copy.specs.fault.BinaryFault.TheVariants as binary_fault
use Rattle.pg_copy.specs.fault.TextFault.{TextFault}
use Rattle.pg_copy.specs.fault.TextFault.TheVariants as text_fault
use Rattle.pg_copy.specs.text_stage.TextStage.{TextStage}
use Rattle.pg_copy.specs.text_stage.TextStage.TheVariants as stages
use Rattle.pg_copy.specs.binary_reader.BinaryStage.{BinaryStage}
use Rattle.pg_copy.specs.binary_reader.BinaryStage.TheVariants as binary_stages
use Rattle.pg_copy.specs.BinaryReader.{BinaryState, HasReadBinary, binary_stage_reading, kept_of, IsReading, PushesBinary, binary_ending}
use Rattle.pg_copy.specs.BinaryPart.{binary_file_reading, binary_reading}
use Rattle.pg_copy.specs.Reading.{RowsRead, RowsEnding, Open, Done, Ended, Bad, IsGood, AnswersNext, after_rows, given_by}
use Rattle.pg_copy.specs.Lent.{as_next, Lends}
use Rattle.pg_copy.specs.Row.{Row}
use Rattle.pg_copy.specs.Text.{Options, text_file_reading, text_reading}
use Rattle.pg_copy.specs.TextReader.{TextState, HasReadText, text_ending, last_text_ending}
use Rattle.pgpipe_base.specs.declared.stop.Stop.{Stop}
use Rattle.pgpipe_convert.specs.declared.convert.Converted.{Converted}
use Rattle.pgpipe_convert.specs.declared.convert.Converted.TheVariants as converted
use Rattle.pgpipe_convert.specs.declared.copy_rows.RowReader.{RowReader}
use Rattle.pgpipe_convert.specs.declared.copy_rows.RowReader.TheVariants as reader
use Rattle.pgpipe_convert.specs.Convert.{FileReading, text_file, binary_file, answered, answered_ending, none_left, IsEnd}
use Rattle.pgpipe_convert.specs.Private.Converting.{text_stop, binary_stop, file_by, ended_of, HasReadBy, ComeNext, EndsAs, TakesPiece, GivesRow}

-- a reader's answer, with the stop for its fault
abbrev pub stopped : {F : Type 0} → (F → Stop Converted) → Result (Option Row) F → Result (Option Row) (Stop Converted)
stopped stop_of (Ok row) = Ok row
stopped stop_of (Err f) = Err (stop_of f)

-- a row that is lent, by what the reader of its format answered
pub lent_by : {F : Type 0} (stop_of : F → Stop Converted) (at_end : Bool) (r r' : RowReader) (held : Option Row) (lent : Result Bool F) (out : Result Bool (Stop Converted)) → MatchResult lent (λ x. out ≡ Ok x) (λ f. IsErrAnd out (λ s. s ≡ stop_of f))
    → GivesRow at_end r (stopped stop_of (as_next lent held)) r' → GivesRow at_end r (as_next out held) r'
lent_by stop_of at_end r r' held (Ok true) out made g = rw made g
lent_by stop_of at_end r r' held (Ok false) out made g = rw made g
lent_by stop_of at_end r r' held (Err f) out made g =
    let s = err_from_is_err_and out made in
    rw (s.1, s.2) g

-- where `finish_lent` tells that no row is left
pub none_by : {F : Type 0} (held : Option Row) (lent : Result Bool F) → Lends lent held → as_next lent held ≡ Ok None → lent ≡ Ok false
none_by None (Ok true) l e = absurd cc
none_by (Some row) (Ok true) l e = absurd cc
none_by held (Ok false) l e = refl
none_by held (Err f) l e = absurd cc

abbrev pub reading_of : List Row → RowsEnding Converted → RowsRead Converted
reading_of rows ending = record { rows = rows; ending = ending }

-- a file that is read whole, as its answer is given
none_answered : {F : Type 0} (answer : F → Converted) (file : RowsRead F) (given : List Row) (ending : RowsEnding F) → file ≡ record { rows = given; ending = ending } → answered answer file ≡ after_rows (given ++ []) (none_left (answered_ending answer ending))
none_answered answer file given ending e = ap (answered answer) e ∙ ap (λ (rows : List Row). reading_of rows (answered_ending answer ending)) (sym (append-nil (given ++ []) ∙ append-nil given))

good_answer : {F : Type 0} (answer : F → Converted) (ending : RowsEnding F) → IsGood ending → IsGood (answered_ending answer ending)
good_answer answer (Open rest) g = tt
good_answer answer Done g = tt
good_answer answer Ended g = tt
good_answer answer (Bad f) g = absurd g

-- What a call gives whose answer speaks of this file and this ending.
module _ {F : Type 0} (memory : F) (answer : F → Converted) (at_end : Bool) (old new : RowReader) (file : List ℕ → RowsRead F) (ending : RowsEnding F) (is_file : (bytes : List ℕ) → answered answer (file bytes) ≡ file_by old at_end bytes) where
  pub gives_fault : (f : F) → ((p : List ℕ) (g : List Row) → HasReadBy old p g → AnswersNext memory (file p) g ending (Err f)) → (f ≡ memory → ⊥) → ComeNext at_end old [] (none_left (Bad (answer f)))
  gives_fault f gives other p g h = by_cases (gives p g h)
    where
      by_cases : (f ≡ memory) ⊎ ((ending ≡ Bad f) × (file p ≡ record { rows = g; ending = Bad f })) → file_by old at_end p ≡ after_rows (g ++ []) (none_left (Bad (answer f)))
      by_cases (inl m) = absurd (other m)
      by_cases (inr w) = sym (is_file p) ∙ none_answered answer (file p) g (Bad f) w.1

  pub gives_row : (row : Option Row) (bytes : List ℕ) (given : List Row) → HasReadBy old bytes given → file_by new ≡ file_by old → (at_end ≡ false → ended_of new ≡ false)
      → ((p : List ℕ) (g : List Row) → HasReadBy old p g → HasReadBy new p (g ++ given_by {F = F} (Ok row)))
      → ((p : List ℕ) (g : List Row) → HasReadBy old p g → AnswersNext memory (file p) g ending (Ok row))
      → (row ≡ None → IsGood ending → EndsAs at_end (answered_ending answer ending)) → GivesRow at_end old (Ok row) new
  gives_row (Some row) bytes given h same on read gives end = record { same = same; may_go_on = on; read = read }
  gives_row None bytes given h same on read gives end = (record { same = same; may_go_on = on; read = read }, answered_ending answer ending, end refl (gives bytes given h).0, λ p g k. sym (is_file p) ∙ none_answered answer (file p) g ending (gives p g k).1)

-- ---- text

text_end : (stage : TextStage) → IsGood (last_text_ending stage) → IsEnd (answered_ending converted.Text (last_text_ending stage))
text_end stages.Lines g = tt
text_end stages.Marked g = tt
text_end (stages.Failed f) g = absurd g

text_stops : (at_end : Bool) (old new : RowReader) (f : TextFault) → ((f ≡ text_fault.Memory → ⊥) → ComeNext at_end old [] (none_left (Bad (converted.Text f)))) → GivesRow at_end old (Err (text_stop f)) new
text_stops at_end old new text_fault.RawReturn come = come (λ e. absurd cc)
text_stops at_end old new text_fault.RawNewline come = come (λ e. absurd cc)
text_stops at_end old new text_fault.LoneBackslash come = come (λ e. absurd cc)
text_stops at_end old new (text_fault.Columns n) come = come (λ e. absurd cc)
text_stops at_end old new text_fault.Memory come = tt

same_text : (old new : TextState) → new.options ≡ old.options → new.columns ≡ old.columns → file_by (reader.Text new) ≡ file_by (reader.Text old)
same_text old new options columns = ap (λ (o : Options). text_file o new.columns) options ∙ ap (text_file old.options) columns

pub next_text : (old new : TextState) (r : Result (Option Row) TextFault) (bytes : List ℕ) (given : List Row) → HasReadText old bytes given → new.options ≡ old.options → new.columns ≡ old.columns → new.ended ≡ false
    → ((p : List ℕ) (g : List Row) → HasReadText old p g → HasReadText new p (g ++ given_by r))
    → ((p : List ℕ) (g : List Row) → HasReadText old p g → AnswersNext text_fault.Memory (text_reading new.options new.columns p) g (text_ending new.stage new.kept) r)
    → GivesRow false (reader.Text old) (stopped text_stop r) (reader.Text new)
next_text old new (Ok row) bytes given h options same on read gives =
    gives_row text_fault.Memory converted.Text false (reader.Text old) (reader.Text new) (λ p. text_reading new.options new.columns p) (text_ending new.stage new.kept) (λ p. ap (λ (f : FileReading). f false p) (same_text old new options same))
    row bytes given h (same_text old new options same) (λ e. on) read gives (λ e. good_answer converted.Text (text_ending new.stage new.kept))
next_text old new (Err f) bytes given h options same on read gives =
    text_stops false (reader.Text old) (reader.Text new) f
    (gives_fault text_fault.Memory converted.Text false (reader.Text old) (reader.Text new) (λ p. text_reading new.options new.columns p) (text_ending new.stage new.kept) (λ p. ap (λ (f : FileReading). f false p) (same_text old new options same)) f gives)

pub finish_text : (old new : TextState) (r : Result (Option Row) TextFault) (bytes : List ℕ) (given : List Row) → HasReadText old bytes given → new.options ≡ old.options → new.columns ≡ old.columns
    → ((p : List ℕ) (g : List Row) → HasReadText old p g → HasReadText new p (g ++ given_by r))
    → ((p : List ℕ) (g : List Row) → HasReadText old p g → AnswersNext text_fault.Memory (text_file_reading new.options new.columns p) g (last_text_ending new.stage) r)
    → GivesRow true (reader.Text old) (stopped text_stop r) (reader.Text new)
finish_text old new (Ok row) bytes given h options same read gives =
    gives_row text_fault.Memory converted.Text true (reader.Text old) (reader.Text new) (λ p. text_file_reading new.options new.columns p) (last_text_ending new.stage) (λ p. ap (λ (f : FileReading). f true p) (same_text old new options same))
    row bytes given h (same_text old new options same) (λ e. absurd cc) read gives (λ e. text_end new.stage)
finish_text old new (Err f) bytes given h options same read gives =
    text_stops true (reader.Text old) (reader.Text new) f
    (gives_fault text_fault.Memory converted.Text true (reader.Text old) (reader.Text new) (λ p. text_file_reading new.options new.columns p) (last_text_ending new.stage) (λ p. ap (λ (f : FileReading). f true p) (same_text old new options same)) f gives)

-- ---- binary

binary_end : (stage : BinaryStage) (kept : List ℕ) → stage ≡ binary_stages.Closed → IsEnd (answered_ending converted.Binary (binary_ending stage kept))
binary_end stage kept e = subst (λ (s : BinaryStage). IsEnd (answered_ending converted.Binary (binary_ending s kept))) (sym e) tt

binary_stops : (at_end : Bool) (old new : RowReader) (f : BinaryFault) → ((f ≡ binary_fault.Memory → ⊥) → ComeNext at_end old [] (none_left (Bad (converted.Binary f)))) → GivesRow at_end old (Err (binary_stop f)) new
binary_stops at_end old new binary_fault.Signature come = come (λ e. absurd cc)
binary_stops at_end old new (binary_fault.Flags n) come = come (λ e. absurd cc)
binary_stops at_end old new (binary_fault.Extension n) come = come (λ e. absurd cc)
binary_stops at_end old new (binary_fault.FieldCount n) come = come (λ e. absurd cc)
binary_stops at_end old new (binary_fault.FieldLength n) come = come (λ e. absurd cc)
binary_stops at_end old new binary_fault.Truncated come = come (λ e. absurd cc)
binary_stops at_end old new binary_fault.AfterTrailer come = come (λ e. absurd cc)
binary_stops at_end old new binary_fault.Memory come = tt

same_file : (old new : BinaryState) → (new.columns ≡ old.columns) × (new.limit ≡ old.limit) → file_by (reader.Binary new) ≡ file_by (reader.Binary old)
same_file old new same = ap (λ (c : ℕ). binary_file c new.limit) same.0 ∙ ap (λ (l : ℕ). binary_file old.columns l) same.1

pub next_binary : (old new : BinaryState) (r : Result (Option Row) BinaryFault) (bytes : List ℕ) (given : List Row) → HasReadBinary old bytes given → (new.columns ≡ old.columns) × (new.limit ≡ old.limit) → new.ended ≡ false
    → ((p : List ℕ) (g : List Row) → HasReadBinary old p g → HasReadBinary new p (g ++ given_by r))
    → ((p : List ℕ) (g : List Row) → HasReadBinary old p g → AnswersNext binary_fault.Memory (binary_reading new.columns new.limit p) g (binary_ending new.stage new.kept) r)
    → GivesRow false (reader.Binary old) (stopped binary_stop r) (reader.Binary new)
next_binary old new (Ok row) bytes given h same on read gives =
    gives_row binary_fault.Memory converted.Binary false (reader.Binary old) (reader.Binary new) (λ p. binary_reading new.columns new.limit p) (binary_ending new.stage new.kept) (λ p. ap (λ (f : FileReading). f false p) (same_file old new same))
    row bytes given h (same_file old new same) (λ e. on) read gives (λ e. good_answer converted.Binary (binary_ending new.stage new.kept))
next_binary old new (Err f) bytes given h same on read gives =
    binary_stops false (reader.Binary old) (reader.Binary new) f
    (gives_fault binary_fault.Memory converted.Binary false (reader.Binary old) (reader.Binary new) (λ p. binary_reading new.columns new.limit p) (binary_ending new.stage new.kept) (λ p. ap (λ (f : FileReading). f false p) (same_file old new same)) f gives)

pub finish_binary : (old new : BinaryState) (r : Result (Option Row) BinaryFault) (bytes : List ℕ) (given : List Row) → HasReadBinary old bytes given → (new.columns ≡ old.columns) × (new.limit ≡ old.limit) → (r ≡ Ok None → new.stage ≡ binary_stages.Closed)
    → ((p : List ℕ) (g : List Row) → HasReadBinary old p g → HasReadBinary new p (g ++ given_by r))
    → ((p : List ℕ) (g : List Row) → HasReadBinary old p g → AnswersNext binary_fault.Memory (binary_file_reading new.columns new.limit p) g (binary_ending new.stage new.kept) r)
    → GivesRow true (reader.Binary old) (stopped binary_stop r) (reader.Binary new)
finish_binary old new (Ok row) bytes given h same closed read gives =
    gives_row binary_fault.Memory converted.Binary true (reader.Binary old) (reader.Binary new) (λ p. binary_file_reading new.columns new.limit p) (binary_ending new.stage new.kept) (λ p. ap (λ (f : FileReading). f true p) (same_file old new same))
    row bytes given h (same_file old new same) (λ e. absurd cc) read gives (λ e g. binary_end new.stage new.kept (closed (ap Ok e)))
finish_binary old new (Err f) bytes given h same closed read gives =
    binary_stops true (reader.Binary old) (reader.Binary new) f
    (gives_fault binary_fault.Memory converted.Binary true (reader.Binary old) (reader.Binary new) (λ p. binary_file_reading new.columns new.limit p) (binary_ending new.stage new.kept) (λ p. ap (λ (f : FileReading). f true p) (same_file old new same)) f gives)

-- a piece that a reader of a binary file is given
stops_at : (old new : BinaryState) (piece : List ℕ) (f : BinaryFault) → ((f ≡ binary_fault.Memory → ⊥) → (p : List ℕ) (g : List Row) → HasReadBinary old p g → file_by (reader.Binary old) false (p ++ piece) ≡ after_rows g (none_left (Bad (converted.Binary f)))) → new ≡ old
    → TakesPiece (reader.Binary old) piece (Err (binary_stop f)) (reader.Binary new)
stops_at old new piece binary_fault.Signature come same = come (λ e. absurd cc)
stops_at old new piece (binary_fault.Flags n) come same = come (λ e. absurd cc)
stops_at old new piece (binary_fault.Extension n) come same = come (λ e. absurd cc)
stops_at old new piece (binary_fault.FieldCount n) come same = come (λ e. absurd cc)
stops_at old new piece (binary_fault.FieldLength n) come same = come (λ e. absurd cc)
stops_at old new piece binary_fault.Truncated come same = come (λ e. absurd cc)
stops_at old new piece binary_fault.AfterTrailer come same = come (λ e. absurd cc)
stops_at old new piece binary_fault.Memory come same = ap reader.Binary same

pub push_binary : (old new : BinaryState) (piece : List ℕ) (r : Result Unit BinaryFault) (out : Result Unit (Stop Converted)) → old.ended ≡ false → PushesBinary old piece r new
    → OnOk r ((p : List ℕ) (g : List Row) → HasReadBinary old p g → HasReadBinary new (p ++ piece) g)
    → MatchResult r (λ x. out ≡ Ok x) (λ f. IsErrAnd out (λ s. s ≡ binary_stop f)) → TakesPiece (reader.Binary old) piece out (reader.Binary new)
push_binary old new piece (Ok x) out going h read made =
    rw made (same_file old new (ap (λ (s : BinaryState). s.columns) h.1, ap (λ (s : BinaryState). s.limit) h.1), ap (λ (s : BinaryState). s.ended) h.1, read)
push_binary old new piece (Err f) out going h read made =
    let s = err_from_is_err_and out made in
    rw (s.1, s.2) (stops_at old new piece f come h.1)
  where
    come : (f ≡ binary_fault.Memory → ⊥) → (p : List ℕ) (g : List Row) → HasReadBinary old p g → file_by (reader.Binary old) false (p ++ piece) ≡ after_rows g (none_left (Bad (converted.Binary f)))
    come other p g k = by_cases h.0
      where
        by_cases : (old.stage ≡ binary_stages.Failed f) ⊎ ((f ≡ binary_fault.Memory) × IsReading old.stage × (0 < length (kept_of old.stage piece))) → file_by (reader.Binary old) false (p ++ piece) ≡ after_rows g (none_left (Bad (converted.Binary f)))
        by_cases (inl e) = ap (answered converted.Binary) (k.so_far going piece ∙ ap (λ (t : BinaryStage). after_rows g (binary_stage_reading t old.columns old.limit (old.kept ++ piece))) e)
        by_cases (inr m) = absurd (other m.0)
