-- What stands once all that was put of a file is sent.
use Rattle.std.proofs.Common.{◌≡◌, ℕ, ◌+◌, ◌≤◌, List, [], ◌++◌, length, Ok, Err, refl, sym, ap, subst, ◌∙◌, inl, inr, append-nil, arith}
use Rattle.std.specs.List.{FoldsTo, concat}
use Rattle.pg_copy.specs.Reading.{RowsRead, after_rows}
use Rattle.pg_wire.specs.declared.link.LinkFault.{LinkFault}
use Rattle.pg_wire.specs.Link.{HasRisen}
use Rattle.pgpipe_convert.specs.declared.convert.Converted.{Converted}
use Rattle.pgpipe_convert.specs.declared.convert.Converted.TheVariants as converted
use Rattle.pgpipe_base.specs.declared.stop.Stop.{Stop}
use Rattle.pgpipe_base.specs.declared.stop.Stop.TheVariants as stop
use Rattle.pgpipe_convert.specs.Convert.{FileReading, FileWriting, IsReadAs, none_left, trailer_for, AreConverted, AreConvertedBefore, ArePartlyConverted, IsConvertedAtOnce, ConversionAnswers}
use Rattle.pgpipe_convert.specs.Private.Converting.{ArePut, Stops, StopsSource}
use Rattle.pgpipe_base.specs.Outbox.{most_collected, Puts}
use mathlib.Core.List.{IsPrefix}
use Rattle.pgpipe_base.specs.Receiving.{HasStopped}
use Rattle.pgpipe_base.specs.Stop.{Settles, answer_of}
use Rattle.pgpipe_base.proofs.Pieces.{puts_then, sends_on, sent_within}

module _ {K : Type 0} (takes : K → List ℕ → K → Type 0) (failures : K → ℕ) (file : FileReading) (to : FileWriting) where
  -- the text for which this holds was sent, and these sends were the first
  abbrev pub Sends : K → List (List ℕ) → (List ℕ → Type 0) → K → Type 0
  Sends start earlier P s = (pieces : List (List ℕ)) × FoldsTo takes start pieces s × P (concat pieces) × IsPrefix earlier pieces

  -- what was put was sent, and the sink didn't fail
  whole : (ended : Type 0) (start : K) (bytes before : List ℕ) (earlier : List (List ℕ)) (left : RowsRead Converted) (more c : List ℕ) (s : K) (c' : List ℕ) (s' : K) (put : ArePut {A = Unit {0}} takes failures file to ended start bytes before earlier left more (Ok tt) c s) → Puts {A = Unit {0}} takes failures c s [] (Ok tt) c' s' → c' ≡ []
      → Sends start earlier (λ text. text ≡ put.text ++ more) s' × (failures s' ≡ failures start)
  whole ended start bytes before earlier left more c s c' s' put p none =
      let all = puts_then takes failures [] start (put.text ++ more) c s [] (Ok tt) c' s' put.put p in
      let sent : put.text ++ more ≡ concat all.pieces = sym (append-nil (put.text ++ more)) ∙ all.sent ∙ ap (λ (t : List ℕ). concat all.pieces ++ t) none ∙ append-nil (concat all.pieces) in
      ((all.pieces, all.calls, sym sent, sends_on takes failures earlier [] start (put.text ++ more) c s [] (Ok tt) c' s' put.put p put.begins), all.counted)

  -- the sink failed: a prefix of the text was sent, little more was received, and the failure was counted
  abbrev pub Fails : Type 0 → K → List ℕ → List (List ℕ) → K → Type 0
  Fails ended start bytes earlier s' = Sends start earlier (λ text. ArePartlyConverted file to ended bytes text × IsConvertedAtOnce file to bytes text) s' × HasRisen (failures start) (failures s')

  broken : (ended : Type 0) (start : K) (bytes before : List ℕ) (earlier : List (List ℕ)) (left : RowsRead Converted) (c : List ℕ) (s : K) (f : LinkFault) (put : ArePut {A = Unit {0}} takes failures file to ended start bytes before earlier left [] (Err f) c s) → AreConvertedBefore file to bytes before → Fails ended start bytes earlier s
  broken ended start bytes before earlier left c s f put b =
      let same = sym (append-nil put.text) in
      ((put.put.pieces, put.put.calls, ((put.text ++ [], put.put.sent, inl (left, subst (λ (t : List ℕ). AreConverted file to ended bytes left t) same put.are_converted)), (before, b, put.at_once)), put.begins), put.put.counted)

  -- what was put before is no more than what is sent in the end and what may be collected
  still_at_once : (ended : Type 0) (start : K) (bytes before : List ℕ) (earlier : List (List ℕ)) (left : RowsRead Converted) (more c : List ℕ) (s : K) (f : LinkFault) (c' : List ℕ) (s' : K) (put : ArePut {A = Unit {0}} takes failures file to ended start bytes before earlier left more (Ok tt) c s)
      (p : Puts {A = Unit {0}} takes failures c s [] (Err f) c' s') → length before ≤ most_collected + length (concat (puts_then takes failures [] start (put.text ++ more) c s [] (Err f) c' s' put.put p).pieces)
  still_at_once ended start bytes before earlier left more c s f c' s' put p = omega (arith, put.at_once, sent_within takes failures [] start (put.text ++ more) c s [] (Err f) c' s' put.put p)

  -- the sink failed at last
  partly : (ended : Type 0) (start : K) (bytes before : List ℕ) (earlier : List (List ℕ)) (left : RowsRead Converted) (more c : List ℕ) (s : K) (f : LinkFault) (c' : List ℕ) (s' : K) (put : ArePut {A = Unit {0}} takes failures file to ended start bytes before earlier left more (Ok tt) c s) → Puts {A = Unit {0}} takes failures c s [] (Err f) c' s'
      → AreConvertedBefore file to bytes before → ((text : List ℕ) → IsPrefix text (put.text ++ more) → ArePartlyConverted file to ended bytes text) → Fails ended start bytes earlier s'
  partly ended start bytes before earlier left more c s f c' s' put p b part =
      let all = puts_then takes failures [] start (put.text ++ more) c s [] (Err f) c' s' put.put p in
      ((all.pieces, all.calls, (part (concat all.pieces) (subst (λ (t : List ℕ). IsPrefix (concat all.pieces) t) (append-nil (put.text ++ more)) all.sent), (before, b, still_at_once ended start bytes before earlier left more c s f c' s' put p)), sends_on takes failures earlier [] start (put.text ++ more) c s [] (Err f) c' s' put.put p put.begins), all.counted)

  -- a prefix of the rows
  part_of_rows : (ended : Type 0) (start : K) (bytes before : List ℕ) (earlier : List (List ℕ)) (left : RowsRead Converted) (c : List ℕ) (s : K) (put : ArePut {A = Unit {0}} takes failures file to ended start bytes before earlier left [] (Ok tt) c s) (text : List ℕ) → IsPrefix text (put.text ++ []) → ArePartlyConverted file to ended bytes text
  part_of_rows ended start bytes before earlier left c s put text b = (put.text, subst (λ (t : List ℕ). IsPrefix text t) (append-nil put.text) b, inl (left, put.are_converted))

  -- what a stop leaves, all of which was sent
  pub settled : (pieces : List (List ℕ)) (old new : ℕ) (broke ended : Type 0) (start : K) (bytes before : List ℕ) (earlier : List (List ℕ)) (s : Stop Converted) (c : List ℕ) (k k' : K) → AreConvertedBefore file to bytes before → Stops takes failures file to ended start bytes before earlier s c k → StopsSource ended old new pieces s → Settles takes failures s c k (Ok tt) k'
      → Sends start earlier (λ text. ConversionAnswers (HasStopped old new pieces) broke ended file to bytes text (answer_of s)) k' × (failures k' ≡ failures start)
  settled pieces old new broke ended start bytes before earlier (stop.Answer a) c k k' b hs why st =
      let w = whole ended start bytes before earlier hs.0 (trailer_for to a) c k [] k' hs.2 st refl in
      ((w.0.0, w.0.1, record { left = hs.0; answer = hs.1; before = hs.2.text; are_converted = hs.2.are_converted; with_trailer = w.0.2 }, w.0.3), w.1)
  settled pieces old new broke ended start bytes before earlier stop.Memory c k k' b hs why st =
      let w = whole ended start bytes before earlier hs.0 [] c k [] k' hs.1 st refl in
      let same : hs.1.text ≡ concat w.0.0 = sym (append-nil hs.1.text) ∙ sym w.0.2 in
      ((w.0.0, w.0.1, inr (record { before = before; converted_before = b; begins = subst (λ (t : List ℕ). IsPrefix before t) same hs.2; left = hs.0; are_converted = subst (λ (t : List ℕ). AreConverted file to ended bytes hs.0 t) same hs.1.are_converted }), w.0.3), w.1)
  settled pieces old new broke ended start bytes before earlier stop.SourceFailed c k k' b hs why st =
      let w = whole ⊥ start bytes before earlier (none_left hs.0) [] c k [] k' hs.2 st refl in
      let same : hs.2.text ≡ concat w.0.0 = sym (append-nil hs.2.text) ∙ sym w.0.2 in
      ((w.0.0, w.0.1, inr (inl why, record { ending = hs.0; good = hs.1; are_converted = subst (λ (t : List ℕ). AreConverted file to ⊥ bytes (none_left hs.0) t) same hs.2.are_converted }), w.0.3), w.1)
  settled pieces old new broke ended start bytes before earlier stop.SinkFailed c k k' b hs why st = absurd cc
  settled pieces old new broke ended start bytes before earlier stop.Endless c k k' b hs why st =
      let w = whole ⊥ start bytes before earlier (none_left hs.0) [] c k [] k' hs.2 st refl in
      let same : hs.2.text ≡ concat w.0.0 = sym (append-nil hs.2.text) ∙ sym w.0.2 in
      ((w.0.0, w.0.1, inr (inr why, record { ending = hs.0; good = hs.1; are_converted = subst (λ (t : List ℕ). AreConverted file to ⊥ bytes (none_left hs.0) t) same hs.2.are_converted }), w.0.3), w.1)

  -- a file of less is one of more
  never_ended : (ended : Type 0) (bytes : List ℕ) (left : RowsRead Converted) (text : List ℕ) → AreConverted file to ⊥ bytes left text → AreConverted file to ended bytes left text
  never_ended ended bytes left text a = record { rows = a.rows; read = either a.read; each_writable = a.each_writable; each_row = a.each_row }
    where
      either : IsReadAs file ⊥ bytes (after_rows a.rows left) → IsReadAs file ended bytes (after_rows a.rows left)
      either (inl e) = inl e
      either (inr e) = absurd e.0

  part_of_none : (ended : Type 0) (start : K) (bytes before : List ℕ) (earlier : List (List ℕ)) (left : RowsRead Converted) (c : List ℕ) (s : K) (put : ArePut {A = Unit {0}} takes failures file to ⊥ start bytes before earlier left [] (Ok tt) c s) (text : List ℕ) → IsPrefix text (put.text ++ []) → ArePartlyConverted file to ended bytes text
  part_of_none ended start bytes before earlier left c s put text b = (put.text, subst (λ (t : List ℕ). IsPrefix text t) (append-nil put.text) b, inl (left, never_ended ended bytes left put.text put.are_converted))

  partly_none : (ended : Type 0) (start : K) (bytes before : List ℕ) (earlier : List (List ℕ)) (left : RowsRead Converted) (c : List ℕ) (s : K) (f : LinkFault) (c' : List ℕ) (s' : K) (put : ArePut {A = Unit {0}} takes failures file to ⊥ start bytes before earlier left [] (Ok tt) c s) → Puts {A = Unit {0}} takes failures c s [] (Err f) c' s' → AreConvertedBefore file to bytes before → Fails ended start bytes earlier s'
  partly_none ended start bytes before earlier left c s f c' s' put p b =
      let all = puts_then takes failures [] start (put.text ++ []) c s [] (Err f) c' s' put.put p in
      let part = part_of_none ended start bytes before earlier left c s put (concat all.pieces) (subst (λ (t : List ℕ). IsPrefix (concat all.pieces) t) (append-nil (put.text ++ [])) all.sent) in
      ((all.pieces, all.calls, (part, (before, b, still_at_once ⊥ start bytes before earlier left [] c s f c' s' put p)), sends_on takes failures earlier [] start (put.text ++ []) c s [] (Err f) c' s' put.put p put.begins), all.counted)

  -- the sink failed
  pub unsettled : (ended : Type 0) (start : K) (bytes before : List ℕ) (earlier : List (List ℕ)) (s : Stop Converted) (c : List ℕ) (k : K) (f : LinkFault) (k' : K) → AreConvertedBefore file to bytes before → Stops takes failures file to ended start bytes before earlier s c k → Settles takes failures s c k (Err f) k' → Fails ended start bytes earlier k'
  unsettled ended start bytes before earlier (stop.Answer converted.Whole) c k f k' b hs st =
      partly ended start bytes before earlier hs.0 (trailer_for to converted.Whole) c k f [] k' hs.2 st b (λ text is. (hs.2.text ++ trailer_for to converted.Whole, is, inr (record { left = hs.0; answer = hs.1; before = hs.2.text; are_converted = hs.2.are_converted; with_trailer = refl })))
  unsettled ended start bytes before earlier (stop.Answer (converted.Text g)) c k f k' b hs st = partly ended start bytes before earlier hs.0 [] c k f [] k' hs.2 st b (part_of_rows ended start bytes before earlier hs.0 c k hs.2)
  unsettled ended start bytes before earlier (stop.Answer (converted.Binary g)) c k f k' b hs st = partly ended start bytes before earlier hs.0 [] c k f [] k' hs.2 st b (part_of_rows ended start bytes before earlier hs.0 c k hs.2)
  unsettled ended start bytes before earlier (stop.Answer (converted.Row g)) c k f k' b hs st = partly ended start bytes before earlier hs.0 [] c k f [] k' hs.2 st b (part_of_rows ended start bytes before earlier hs.0 c k hs.2)
  unsettled ended start bytes before earlier stop.Memory c k f k' b hs st = partly ended start bytes before earlier hs.0 [] c k f [] k' hs.1 st b (part_of_rows ended start bytes before earlier hs.0 c k hs.1)
  unsettled ended start bytes before earlier stop.SourceFailed c k f k' b hs st = partly_none ended start bytes before earlier (none_left hs.0) c k f [] k' hs.2 st b
  unsettled ended start bytes before earlier stop.SinkFailed c k f k' b hs st = subst (λ (x : K). Fails ended start bytes earlier x) (sym st.1) (broken ended start bytes before earlier hs.0 c k hs.1 hs.2 b)
  unsettled ended start bytes before earlier stop.Endless c k f k' b hs st = partly_none ended start bytes before earlier (none_left hs.0) c k f [] k' hs.2 st b
