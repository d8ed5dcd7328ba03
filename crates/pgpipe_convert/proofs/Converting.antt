-- How a conversion goes on from piece to piece.
use Rattle.std.proofs.Common.{◌≡◌, ℕ, ◌+◌, ◌<◌, ◌≤◌, Bool, true, false, List, [], ◌∷◌, ◌++◌, Result, Ok, Err, refl, sym, ap, subst, ◌∙◌, inl, inr, append-nil, append_assoc, length, length-append, arith}
use Rattle.std.specs.List.{FoldsTo, concat, flat_map, AllByRecursion}
use Rattle.std.proofs.lemmas.Grind.{flat_map-append}
use Rattle.pg_copy.specs.Reading.{RowsRead, RowsEnding, Open, Bad, IsGood, after_rows}
use Rattle.pg_copy.specs.Row.{Row}
use Rattle.pg_copy.specs.Text.{Options}
use Rattle.pg_copy.specs.Text as text
use Rattle.pg_copy.specs.BinaryPart as binary
use Rattle.pg_copy.specs.BinaryReader.{binary_left}
use Rattle.pg_copy.specs.TextReader.{text_left}
use Rattle.pg_wire.specs.declared.link.LinkFault.{LinkFault}
use Rattle.pg_wire.specs.Link.{HasRisen}
use Rattle.pgpipe_convert.specs.declared.convert.Converted.{Converted}
use Rattle.pgpipe_convert.specs.declared.convert.Converted.TheVariants as converted
use Rattle.pgpipe_base.specs.declared.stop.Stop.{Stop}
use Rattle.pgpipe_base.specs.declared.stop.Stop.TheVariants as stop
use Rattle.pgpipe_convert.specs.declared.copy_rows.RowReader.{RowReader}
use Rattle.pgpipe_convert.specs.declared.copy_rows.RowReader.TheVariants as reader
use Rattle.pgpipe_convert.specs.declared.format.Format.{Format}
use Rattle.pgpipe_convert.specs.declared.format.Format.TheVariants as format
use Rattle.pgpipe_convert.specs.Convert.{FileReading, FileWriting, answered, none_left, IsReadAs, IsWritable, writing_with, trailer_for, AreConverted, AreAllConverted, AreConvertedBefore}
use Rattle.pgpipe_convert.specs.Private.Converting.{file_by, ended_of, HasReadBy, ComeNext, TakesPiece, RowsArePut, PutsRows, EndConverts, IsAtStep, HasConverted, ArePut, Stops, StepConverts, StepsSource, StopsSource, HasRun}
use Rattle.pgpipe_base.specs.Outbox.{most_collected, Puts}
use Rattle.pgpipe_base.specs.Receiving.{receive_limit, most_receives, IsSentAtOnce}
use Rattle.pgpipe_base.proofs.Pieces.{joined, one_more, prefix_of_itself, sent_at_first, sent_on, received_on, puts_as, puts_then, sends_on, sent_all, put_at_once, sent_at_once, puts_collected}

abbrev at : FileReading → Bool → List ℕ → RowsRead Converted
at file at_end bytes = file at_end bytes

-- all of one list, and all of another
pub both_writable : (to : FileWriting) (xs ys : List Row) → AllByRecursion (IsWritable to) xs → AllByRecursion (IsWritable to) ys → AllByRecursion (IsWritable to) (xs ++ ys)
both_writable to [] ys all more = more
both_writable to (x ∷ xs) ys all more = (all.0, both_writable to xs ys all.1 more)

-- what is left of a file if more comes
left_after : RowReader → List ℕ → RowsRead Converted
left_after (reader.Text s) more = answered converted.Text (text_left s more)
left_after (reader.Binary s) more = answered converted.Binary (binary_left s more)

reads_more : (r : RowReader) (bytes : List ℕ) (given : List Row) (more : List ℕ) → ended_of r ≡ false → HasReadBy r bytes given → file_by r false (bytes ++ more) ≡ after_rows given (left_after r more)
unfolding left_after
reads_more (reader.Text s) bytes given more on h = ap (answered converted.Text) (h.so_far on more)
reads_more (reader.Binary s) bytes given more on h = ap (answered converted.Binary) (h.so_far on more)

-- the reader was given more, and goes on
pub at_step : {K : Type 0} (takes : K → List ℕ → K → Type 0) (failures : K → ℕ) (file : FileReading) (to : FileWriting) (start : K) (bytes : List ℕ) (r : RowReader) (out : List ℕ) (sink : K) → HasConverted takes failures file to start bytes r out sink → IsAtStep r
at_step takes failures file to start bytes r out sink st = (st.not_ended, bytes, st.rows, st.read)

module _ {K : Type 0} (takes : K → List ℕ → K → Type 0) (failures : K → ℕ) (file : FileReading) (to : FileWriting) (start : K) (bytes : List ℕ) (r : RowReader) (out : List ℕ) (sink : K) (st : HasConverted takes failures file to start bytes r out sink) where
  -- the text with more rows after it
  text_more : (rows : List Row) → st.text ++ flat_map to.row rows ≡ to.head ++ flat_map to.row (st.rows ++ rows)
  text_more rows = ap (λ (t : List ℕ). t ++ flat_map to.row rows) st.each_row ∙ append_assoc to.head (flat_map to.row st.rows) (flat_map to.row rows) ∙ ap (λ (t : List ℕ). to.head ++ t) (sym (flat_map-append to.row st.rows rows))

  -- The text with these rows after it is converted, if they come next.
  pub converted_more : (at_end : Bool) (ended : Type 0) (more : List ℕ) (rows : List Row) (left : RowsRead Converted) → AllByRecursion (IsWritable to) rows → IsReadAs file ended more (after_rows (st.rows ++ rows) left) → AreConverted file to ended more left (st.text ++ flat_map to.row rows)
  converted_more at_end ended more rows left each read = record {
    rows = st.rows ++ rows;
    read = read;
    each_writable = both_writable to st.rows rows st.each_writable each;
    each_row = text_more rows;
  }

  -- what stands at any time
  pub stands_put : ArePut {A = Unit {0}} takes failures file to ⊥ start bytes st.text st.put.pieces (none_left st.ending) [] (Ok tt) out sink
  stands_put = record {
    text = st.text;
    are_converted = record { rows = st.rows; read = inl st.all; each_writable = st.each_writable; each_row = st.each_row };
    put = puts_as takes failures [] start st.text (st.text ++ []) (Ok tt) out sink (sym (append-nil st.text)) st.put;
    at_once = put_at_once takes failures start st.text st.text out sink st.put (prefix_of_itself st.text) st.within;
    begins = prefix_of_itself st.put.pieces;
  }

  pub all_converted : AreAllConverted file to bytes st.text
  all_converted = record { ending = st.ending; good = st.good; are_converted = record { rows = st.rows; read = inl st.all; each_writable = st.each_writable; each_row = st.each_row } }

  -- the source failed, and nothing came
  pub source_failed : (ended : Type 0) → StepConverts takes failures file to ended start (bytes ++ []) st.text st.put.pieces (Err stop.SourceFailed) r out sink
  source_failed ended = subst (λ (b : List ℕ). StepConverts takes failures file to ended start b st.text st.put.pieces (Err stop.SourceFailed) r out sink) (sym (append-nil bytes)) (st.ending, st.good, stands_put)

  -- after the piece that the reader took
  abbrev piece_text : {A : Type 0} (rows : List Row) (result : Result A LinkFault) (out' : List ℕ) (sink' : K) → Puts {A = A} takes failures out sink (flat_map to.row rows) result out' sink' → Puts {A = A} takes failures [] start ((st.text ++ flat_map to.row rows) ++ []) result out' sink'
  piece_text {A} rows result out' sink' p = puts_as takes failures [] start (st.text ++ flat_map to.row rows) ((st.text ++ flat_map to.row rows) ++ []) result out' sink' (sym (append-nil (st.text ++ flat_map to.row rows))) (puts_then takes failures [] start st.text out sink (flat_map to.row rows) result out' sink' st.put p)

  put_after : {A : Type 0} (at_end : Bool) (ended : Type 0) (more : List ℕ) (r' : RowReader) (left : RowsRead Converted) (result : Result A LinkFault) (out' : List ℕ) (sink' : K) (p : RowsArePut {A = A} takes failures at_end to r' out sink left result out' sink') → IsReadAs file ended more (after_rows (st.rows ++ p.rows) left) → ArePut {A = A} takes failures file to ended start more st.text st.put.pieces left [] result out' sink'
  put_after at_end ended more r' left result out' sink' p read = record {
    text = st.text ++ flat_map to.row p.rows;
    are_converted = converted_more at_end ended more p.rows left p.each_writable read;
    put = piece_text p.rows result out' sink' p.put;
    at_once = sent_at_once takes failures start st.text st.text out sink (flat_map to.row p.rows) result out' sink' st.put p.put (prefix_of_itself st.text) st.within;
    begins = sends_on takes failures st.put.pieces [] start st.text out sink (flat_map to.row p.rows) result out' sink' st.put p.put (prefix_of_itself st.put.pieces);
  }

  -- ---- a piece, which the reader took

  module _ (piece : List ℕ) (r' : RowReader) (same : file_by r' ≡ file_by r) (ended_same : ended_of r' ≡ ended_of r) (took : (b : List ℕ) (given : List Row) → HasReadBy r b given → HasReadBy r' (b ++ piece) given) (ended : Type 0) where
    read_piece : HasReadBy r' (bytes ++ piece) st.rows
    read_piece = took bytes st.rows st.read

    come_piece : (rows : List Row) (left : RowsRead Converted) → ComeNext false r' rows left → file false (bytes ++ piece) ≡ after_rows (st.rows ++ rows) left
    come_piece rows left next = ap (λ (f : FileReading). at f false (bytes ++ piece)) (sym (same ∙ st.is_file)) ∙ next (bytes ++ piece) st.rows read_piece

    pub piece_reads : (ended_of r' ≡ false) × (b : List ℕ) × (given : List Row) × HasReadBy r' b given
    piece_reads = (ended_same ∙ st.not_ended, bytes ++ piece, st.rows, read_piece)

    pub piece_steps : (result : Result Unit (Stop Converted)) (r'' : RowReader) (out' : List ℕ) (sink' : K) → PutsRows takes failures false to r' out sink result r'' out' sink' → StepConverts takes failures file to ended start (bytes ++ piece) st.text st.put.pieces result r'' out' sink'
    unfolding put_after
    piece_steps (Ok x) r'' out' sink' p =
        let put = p.2 in (
          record {
            rows = st.rows ++ put.rows;
            text = st.text ++ flat_map to.row put.rows;
            is_file = p.3.same ∙ same ∙ st.is_file;
            not_ended = p.3.may_go_on refl;
            read = p.3.read (bytes ++ piece) st.rows read_piece;
            ending = p.0;
            good = p.1;
            all = come_piece put.rows (none_left p.0) put.come_next;
            each_writable = both_writable to st.rows put.rows st.each_writable put.each_writable;
            each_row = text_more put.rows;
            put = puts_then takes failures [] start st.text out sink (flat_map to.row put.rows) (Ok tt) out' sink' st.put put.put;
            within = put.within st.within;
          },
          sends_on takes failures st.put.pieces [] start st.text out sink (flat_map to.row put.rows) (Ok tt) out' sink' st.put put.put (prefix_of_itself st.put.pieces),
        )
    piece_steps (Err (stop.Answer converted.Whole)) r'' out' sink' p = absurd p
    piece_steps (Err (stop.Answer (converted.Text f))) r'' out' sink' p = (p.0, p.1, put_after false ended (bytes ++ piece) r' p.0 (Ok tt) out' sink' p.2 (inl (come_piece p.2.rows p.0 p.2.come_next)))
    piece_steps (Err (stop.Answer (converted.Binary f))) r'' out' sink' p = (p.0, p.1, put_after false ended (bytes ++ piece) r' p.0 (Ok tt) out' sink' p.2 (inl (come_piece p.2.rows p.0 p.2.come_next)))
    piece_steps (Err (stop.Answer (converted.Row f))) r'' out' sink' p = (p.0, p.1, put_after false ended (bytes ++ piece) r' p.0 (Ok tt) out' sink' p.2 (inl (come_piece p.2.rows p.0 p.2.come_next)))
    piece_steps (Err stop.Memory) r'' out' sink' p =
        let put = put_after false ended (bytes ++ piece) r' p.0 (Ok tt) out' sink' p.1 (inl (come_piece p.1.rows p.0 p.1.come_next)) in
        (p.0, put, (flat_map to.row p.1.rows, refl))
    piece_steps (Err stop.SourceFailed) r'' out' sink' p = absurd p
    piece_steps (Err stop.SinkFailed) r'' out' sink' p = (p.0, p.1, put_after false ended (bytes ++ piece) r' p.0 (Err p.1) out' sink' p.2 (inl (come_piece p.2.rows p.0 p.2.come_next)))
    piece_steps (Err stop.Endless) r'' out' sink' p = absurd p

  -- ---- a piece that the reader refused

  as_file : (b : List ℕ) (at_end : Bool) (x : RowsRead Converted) → file_by r at_end b ≡ x → file at_end b ≡ x
  as_file b at_end x e = ap (λ (f : FileReading). at f at_end b) (sym st.is_file) ∙ e

  -- no row is put, and this is left of more bytes
  stays : (ended : Type 0) (more : List ℕ) (left : RowsRead Converted) → IsReadAs file ended more (after_rows st.rows left) → ArePut {A = Unit {0}} takes failures file to ended start more st.text st.put.pieces left [] (Ok tt) out sink
  stays ended more left read = record {
    text = st.text;
    are_converted = record { rows = st.rows; read = read; each_writable = st.each_writable; each_row = st.each_row };
    put = puts_as takes failures [] start st.text (st.text ++ []) (Ok tt) out sink (sym (append-nil st.text)) st.put;
    at_once = put_at_once takes failures start st.text st.text out sink st.put (prefix_of_itself st.text) st.within;
    begins = prefix_of_itself st.put.pieces;
  }

  pub refused_steps : (piece : List ℕ) (ended : Type 0) (s : Stop Converted) (r' r'' : RowReader) → TakesPiece r piece (Err s) r' → StepConverts takes failures file to ended start (bytes ++ piece) st.text st.put.pieces (Err s) r'' out sink
  unfolding stays
  refused_steps piece ended (stop.Answer converted.Whole) r' r'' t = absurd t
  refused_steps piece ended (stop.Answer (converted.Text f)) r' r'' t = (none_left (Bad (converted.Text f)), refl, stays ended (bytes ++ piece) (none_left (Bad (converted.Text f))) (inl (as_file (bytes ++ piece) false (after_rows st.rows (none_left (Bad (converted.Text f)))) (t bytes st.rows st.read))))
  refused_steps piece ended (stop.Answer (converted.Binary f)) r' r'' t = (none_left (Bad (converted.Binary f)), refl, stays ended (bytes ++ piece) (none_left (Bad (converted.Binary f))) (inl (as_file (bytes ++ piece) false (after_rows st.rows (none_left (Bad (converted.Binary f)))) (t bytes st.rows st.read))))
  refused_steps piece ended (stop.Answer (converted.Row f)) r' r'' t = absurd t
  refused_steps piece ended stop.Memory r' r'' t = (left_after r piece, stays ended (bytes ++ piece) (left_after r piece) (inl (as_file (bytes ++ piece) false (after_rows st.rows (left_after r piece)) (reads_more r bytes st.rows piece st.not_ended st.read))), ([], append-nil st.text))
  refused_steps piece ended stop.SourceFailed r' r'' t = absurd t
  refused_steps piece ended stop.SinkFailed r' r'' t = absurd t
  refused_steps piece ended stop.Endless r' r'' t = absurd t

  -- ---- the end of the input

  come_last : (ended : Type 0) (is_ended : ended) (rows : List Row) (left : RowsRead Converted) → ComeNext true r rows left → IsReadAs file ended (bytes ++ []) (after_rows (st.rows ++ rows) left)
  come_last ended is_ended rows left next = inr (is_ended, ap (λ (b : List ℕ). at file true b) (append-nil bytes) ∙ as_file bytes true (after_rows (st.rows ++ rows) left) (next bytes st.rows st.read))

  pub end_steps : (ended : Type 0) (is_ended : ended) (s : Stop Converted) (r'' : RowReader) (out' : List ℕ) (sink' : K) → EndConverts takes failures to r out sink s out' sink' → StepConverts takes failures file to ended start (bytes ++ []) st.text st.put.pieces (Err s) r'' out' sink'
  unfolding put_after
  end_steps ended is_ended (stop.Answer c) r'' out' sink' p =
      let text = st.text ++ flat_map to.row p.3.rows in
      let puts = puts_then takes failures [] start st.text out sink (flat_map to.row p.3.rows) (Ok tt) p.2 sink' st.put p.3.put in (
        p.0,
        p.1,
        record {
          text = text;
          are_converted = converted_more true ended (bytes ++ []) p.3.rows p.0 p.3.each_writable (come_last ended is_ended p.3.rows p.0 p.3.come_next);
          put = puts_then takes failures [] start text p.2 sink' (trailer_for to c) (Ok tt) out' sink' puts (puts_collected takes failures p.2 sink' (trailer_for to c) out' p.4);
          at_once = sent_at_once takes failures start st.text text p.2 sink' (trailer_for to c) (Ok tt) out' sink' puts (puts_collected takes failures p.2 sink' (trailer_for to c) out' p.4) (flat_map to.row p.3.rows, refl) (p.3.within st.within);
          begins = sends_on takes failures st.put.pieces [] start text p.2 sink' (trailer_for to c) (Ok tt) out' sink' puts (puts_collected takes failures p.2 sink' (trailer_for to c) out' p.4) (sends_on takes failures st.put.pieces [] start st.text out sink (flat_map to.row p.3.rows) (Ok tt) p.2 sink' st.put p.3.put (prefix_of_itself st.put.pieces));
        },
      )
  end_steps ended is_ended stop.Memory r'' out' sink' p =
      let put = put_after true ended (bytes ++ []) r p.0 (Ok tt) out' sink' p.1 (come_last ended is_ended p.1.rows p.0 p.1.come_next) in
      (p.0, put, (flat_map to.row p.1.rows, refl))
  end_steps ended is_ended stop.SourceFailed r'' out' sink' p = absurd p
  end_steps ended is_ended stop.SinkFailed r'' out' sink' p = (p.0, p.1, put_after true ended (bytes ++ []) r p.0 (Err p.1) out' sink' p.2 (come_last ended is_ended p.2.rows p.0 p.2.come_next))
  end_steps ended is_ended stop.Endless r'' out' sink' p = absurd p

-- where a step leads from every place where the work stands
abbrev pub StepsAnywhere : {K : Type 0} → (K → List ℕ → K → Type 0) → (K → ℕ) → Type 0 → RowReader → List ℕ → K → List ℕ → Result Unit (Stop Converted) → RowReader → List ℕ → K → FileWriting → Type 0
StepsAnywhere {K} takes failures ended r out sink piece result r' out' sink' to = (file : FileReading) (start : K) (bytes : List ℕ) (stands : HasConverted takes failures file to start bytes r out sink) → StepConverts takes failures file to ended start (bytes ++ piece) stands.text stands.put.pieces result r' out' sink'

pub steps_for : {K : Type 0} (takes : K → List ℕ → K → Type 0) (failures : K → ℕ) (ended : Type 0) (r : RowReader) (out : List ℕ) (sink : K) (piece : List ℕ) (result : Result Unit (Stop Converted)) (r' : RowReader) (out' : List ℕ) (sink' : K) (to to' : FileWriting) → to ≡ to'
    → StepsAnywhere takes failures ended r out sink piece result r' out' sink' to → StepsAnywhere takes failures ended r out sink piece result r' out' sink' to'
steps_for takes failures ended r out sink piece result r' out' sink' to to' e s = subst (λ (t : FileWriting). StepsAnywhere takes failures ended r out sink piece result r' out' sink' t) e s

-- So many pieces were received, and the work stands where it can go on.
pub record Runs {S K : Type 0} (gives : S → List ℕ → S → Type 0) (source_failures : S → ℕ) (takes : K → List ℕ → K → Type 0) (failures : K → ℕ) (file : FileReading) (to : FileWriting) (source : S) (sink : K) (count : ℕ) (source' : S) (r : RowReader) (out : List ℕ) (sink' : K) : Type 0 where
  pub pieces : List (List ℕ)
  pub received : FoldsTo gives source pieces source'
  pub counted : length pieces ≡ count
  pub sound : source_failures source' ≡ source_failures source
  pub stands : HasConverted takes failures file to sink (concat pieces) r out sink'
  pub nothing_left : 0 < length pieces → out ≡ []
  pub at_once : IsSentAtOnce (AreAllConverted file to) pieces stands.put.pieces

source_of : (ended : Type 0) (old mid new : ℕ) (pieces : List (List ℕ)) (s : Stop Converted) → mid ≡ old → StepsSource ended mid new (Err s) → StopsSource ended old new pieces s
source_of ended old mid new pieces (stop.Answer converted.Whole) e s = (s.0, s.1 ∙ e)
source_of ended old mid new pieces (stop.Answer (converted.Text f)) e s = s ∙ e
source_of ended old mid new pieces (stop.Answer (converted.Binary f)) e s = s ∙ e
source_of ended old mid new pieces (stop.Answer (converted.Row f)) e s = s ∙ e
source_of ended old mid new pieces stop.Memory e s = s ∙ e
source_of ended old mid new pieces stop.SourceFailed e s = subst (λ (n : ℕ). HasRisen n new) e s
source_of ended old mid new pieces stop.SinkFailed e s = s ∙ e
source_of ended old mid new pieces stop.Endless e s = absurd s

-- nothing was read, and nothing is at fault
pub nothing_read : (r : RowReader) → HasReadBy r [] [] → ended_of r ≡ false → (ending : RowsEnding Converted) × IsGood ending × (file_by r false [] ≡ after_rows [] (none_left ending))
unfolding text.reading_after binary.binary_reading binary.head_at binary.fixed_at binary.signature_at
nothing_read (reader.Text s) h on = (Open [], tt, refl)
nothing_read (reader.Binary s) h on = (Open [], tt, refl)

-- no more is collected at first than there is room for
pub head_within : (o : Options) (to : Format) → length (writing_with o to).head ≤ most_collected
head_within o format.Text = omega arith
head_within o format.Binary = omega arith

pub stands_first : {K : Type 0} (takes : K → List ℕ → K → Type 0) (failures : K → ℕ) (to : FileWriting) (start : K) (r : RowReader) (out : List ℕ) → length to.head ≤ most_collected → out ≡ to.head → HasReadBy r [] [] → ended_of r ≡ false → HasConverted takes failures (file_by r) to start [] r out start
stands_first takes failures to start r out fits e h on =
    let nothing = nothing_read r h on in
    record {
      rows = [];
      text = out;
      is_file = refl;
      not_ended = on;
      read = h;
      ending = nothing.0;
      good = nothing.1;
      all = nothing.2;
      each_writable = tt;
      each_row = e ∙ sym (append-nil to.head);
      put = puts_collected takes failures [] start out out refl;
      within = subst (λ (l : List ℕ). length l ≤ most_collected) (sym e) fits;
    }

module _ {S K : Type 0} (gives : S → List ℕ → S → Type 0) (source_failures : S → ℕ) (takes : K → List ℕ → K → Type 0) (failures : K → ℕ) (file : FileReading) (to : FileWriting) where
  pub runs_none : (source : S) (sink : K) (r : RowReader) (out : List ℕ) → HasConverted takes failures file to sink [] r out sink → Runs gives source_failures takes failures file to source sink 0 source r out sink
  runs_none source sink r out st = record { pieces = []; received = refl; counted = refl; sound = refl; stands = st; nothing_left = λ some. absurd (omega (arith, some)); at_once = sent_at_first (AreAllConverted file to) st.put.pieces }

  -- before one more piece, the head and all rows were sent
  sent_before : (source : S) (sink : K) (n : ℕ) (source' : S) (r : RowReader) (out : List ℕ) (sink' : K) (piece : List ℕ) (runs : Runs gives source_failures takes failures file to source sink n source' r out sink') → IsSentAtOnce (AreAllConverted file to) (runs.pieces ++ piece ∷ []) runs.stands.put.pieces
  sent_before source sink n source' r out sink' piece runs = received_on (AreAllConverted file to) runs.pieces runs.stands.put.pieces piece (λ some. subst (λ (text : List ℕ). AreAllConverted file to (concat runs.pieces) text) (sent_all takes failures sink runs.stands.text out sink' runs.stands.put (runs.nothing_left some)) (all_converted takes failures file to sink (concat runs.pieces) r out sink' runs.stands)) runs.at_once

  pub runs_more : (source : S) (sink : K) (n : ℕ) (source' : S) (r : RowReader) (out : List ℕ) (sink' : K) (piece : List ℕ) (source'' : S) (r' : RowReader) (out' : List ℕ) (sink'' : K) (ended : Type 0) (runs : Runs gives source_failures takes failures file to source sink n source' r out sink')
      → gives source' piece source'' → source_failures source'' ≡ source_failures source' → StepConverts takes failures file to ended sink (concat runs.pieces ++ piece) runs.stands.text runs.stands.put.pieces (Ok tt) r' out' sink'' → out' ≡ []
      → Runs gives source_failures takes failures file to source sink (n + 1) source'' r' out' sink''
  runs_more source sink n source' r out sink' piece source'' r' out' sink'' ended runs p same next none = record {
    pieces = runs.pieces ++ piece ∷ [];
    received = one_more gives source runs.pieces source' piece source'' runs.received p;
    counted = length-append runs.pieces (piece ∷ []) ∙ ap (λ (k : ℕ). k + 1) runs.counted;
    sound = same ∙ runs.sound;
    stands = record {
      rows = next.0.rows;
      text = next.0.text;
      is_file = next.0.is_file;
      not_ended = next.0.not_ended;
      read = subst (λ (bytes : List ℕ). HasReadBy r' bytes next.0.rows) (joined runs.pieces piece) next.0.read;
      ending = next.0.ending;
      good = next.0.good;
      all = subst (λ (bytes : List ℕ). file false bytes ≡ after_rows next.0.rows (none_left next.0.ending)) (joined runs.pieces piece) next.0.all;
      each_writable = next.0.each_writable;
      each_row = next.0.each_row;
      put = next.0.put;
      within = next.0.within;
    };
    nothing_left = λ some. none;
    at_once = sent_on (AreAllConverted file to) (runs.pieces ++ piece ∷ []) runs.stands.put.pieces next.0.put.pieces next.1 (sent_before source sink n source' r out sink' piece runs);
  }

  -- what stood before the last piece
  stood_before : (sink : K) (earlier last bytes : List ℕ) (r : RowReader) (out : List ℕ) (sink' : K) (st : HasConverted takes failures file to sink earlier r out sink') → bytes ≡ earlier ++ last → length last ≤ receive_limit → AreConvertedBefore file to bytes st.text
  stood_before sink earlier last bytes r out sink' st whole fits = record { earlier = earlier; last = last; whole = whole; a_piece = fits; all_converted = all_converted takes failures file to sink earlier r out sink' st }

  pub run_stops : (ended : Type 0) (source : S) (sink : K) (n : ℕ) (source' : S) (r : RowReader) (out : List ℕ) (sink' : K) (piece : List ℕ) (source'' : S) (s : Stop Converted) (r' : RowReader) (out' : List ℕ) (sink'' : K) (runs : Runs gives source_failures takes failures file to source sink n source' r out sink')
      → length piece ≤ receive_limit → gives source' piece source'' → StepsSource ended (source_failures source') (source_failures source'') (Err s) → StepConverts takes failures file to ended sink (concat runs.pieces ++ piece) runs.stands.text runs.stands.put.pieces (Err s) r' out' sink''
      → HasRun gives source_failures ended takes failures file to source sink s source'' out' sink''
  run_stops ended source sink n source' r out sink' piece source'' s r' out' sink'' runs fits p src stops = record {
    pieces = runs.pieces ++ piece ∷ [];
    received = one_more gives source runs.pieces source' piece source'' runs.received p;
    before = runs.stands.text;
    earlier = runs.stands.put.pieces;
    at_once = sent_before source sink n source' r out sink' piece runs;
    converted_before = stood_before sink (concat runs.pieces) piece (concat (runs.pieces ++ piece ∷ [])) r out sink' runs.stands (sym (joined runs.pieces piece)) fits;
    stops = subst (λ (bytes : List ℕ). Stops takes failures file to ended sink bytes runs.stands.text runs.stands.put.pieces s out' sink'') (joined runs.pieces piece) stops;
    stops_source = source_of ended _ _ _ _ s runs.sound src;
  }

  pub run_endless : (ended : Type 0) (source : S) (sink : K) (n : ℕ) (source' : S) (r : RowReader) (out : List ℕ) (sink' : K) → n ≡ most_receives → Runs gives source_failures takes failures file to source sink n source' r out sink' → HasRun gives source_failures ended takes failures file to source sink stop.Endless source' out sink'
  run_endless ended source sink n source' r out sink' e runs = record {
    pieces = runs.pieces;
    received = runs.received;
    before = runs.stands.text;
    earlier = runs.stands.put.pieces;
    at_once = runs.at_once;
    converted_before = stood_before sink (concat runs.pieces) [] (concat runs.pieces) r out sink' runs.stands (sym (append-nil (concat runs.pieces))) (omega arith);
    stops = (runs.stands.ending, runs.stands.good, stands_put takes failures file to sink (concat runs.pieces) r out sink' runs.stands);
    stops_source = runs.counted ∙ e;
  }
