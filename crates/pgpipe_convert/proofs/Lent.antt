-- Values that are written one by one.
use Rattle.std.proofs.Common.{◌≡◌, ℕ, suc, ◌+◌, ◌<◌, ◌≤◌, Bool, true, false, cond, ltb, eqb, List, [], ◌∷◌, ◌++◌, ◌||◌, length, Option, Some, None, Result, Ok, Err, refl, sym, ap, subst, ◌∙◌, append-nil, append_assoc, length-append, arith}
use Rattle.std.specs.Cmp.Lexicographic.{unequal}
use Rattle.std.specs.List.{flat_map, position_from}
use Rattle.std.specs.Result.{OnOk, OnErr}
use Rattle.std.proofs.lemmas.Bool.{cond-true, cond-false, ne_eqb, le-ltb, lt-ltb}
use Rattle.pg_copy.specs.fault.RowFault.{RowFault}
use Rattle.pg_copy.specs.fault.RowFault.TheVariants as faults
use Rattle.pg_copy.specs.Row.{Row, is_misfit, Writes}
use Rattle.pg_copy.specs.Text.{Options, newline, letter_for, with_letter, written_byte, written_row, is_like_null, like_null, text_fault}
use Rattle.pg_copy.specs.TextLaws.{WritesTextFields, FieldsAreLine}
use Rattle.pg_copy.specs.TextWriter.{RowWriterState, next_fault, next_written, end_fault}
use Rattle.pgpipe_convert.specs.declared.values.Progress.{Progress}
use Rattle.pgpipe_convert.specs.declared.values.Progress.TheVariants as progress
use Rattle.pgpipe_convert.specs.Private.Values.{WritesInPart, progress_of, judged_at, LineStands, LineGoesOn}
use mathlib.Core.List.{IsPrefix}

-- ---- prefixes

pub prefix_then : (a b c : List ℕ) → IsPrefix a b → IsPrefix b c → IsPrefix a c
prefix_then a b c p q = (p.0 ++ q.0, sym (append_assoc a p.0 q.0) ∙ ap (λ (l : List ℕ). l ++ q.0) p.1 ∙ q.1)

pub write_begins : (fault : Option RowFault) (spelled old : List ℕ) (r : Result Unit RowFault) (new : List ℕ) → Writes fault spelled old r new → IsPrefix old new
write_begins fault spelled old (Ok x) new w = (spelled, sym w.1)
write_begins fault spelled old (Err (faults.Width n)) new w = ([], append-nil old ∙ sym w.1)
write_begins fault spelled old (Err faults.FieldLong) new w = ([], append-nil old ∙ sym w.1)
write_begins fault spelled old (Err (faults.LikeNull n)) new w = ([], append-nil old ∙ sym w.1)
write_begins fault spelled old (Err faults.Memory) new w = ([], append-nil old ∙ sym w.1)

-- ---- tests of the values of a row

-- a value more that doesn't pass
none_so_far : (test : Option (List ℕ) → Bool) (i : ℕ) (row : Row) (v : Option (List ℕ)) → position_from test i row ≡ None → test v ≡ false → position_from test i (row ++ v ∷ []) ≡ None
none_so_far test i [] v none is = cond-false (test v) _ _ is
none_so_far test i (x ∷ row) v none is = go (test x) none (λ h. none_so_far test (i + 1) row v h is)
  where
    go : (t : Bool) → ◌≡◌ {A = Option ℕ} (cond t (Some i) (position_from test (i + 1) row)) None → (position_from test (i + 1) row ≡ None → position_from test (i + 1) (row ++ v ∷ []) ≡ None) → ◌≡◌ {A = Option ℕ} (cond t (Some i) (position_from test (i + 1) (row ++ v ∷ []))) None
    go true h rest = absurd (clash h)
      where
        clash : Some i ≡ None → ⊥
        clash k = cc
    go false h rest = rest h

-- the first value that passes
first_is : (test : Option (List ℕ) → Bool) (i : ℕ) (row : Row) (v : Option (List ℕ)) (more : Row) → position_from test i row ≡ None → test v ≡ true → position_from test i (row ++ v ∷ more) ≡ Some (i + length row)
first_is test i [] v more none is =
    let same : i ≡ i + 0 = omega arith in
    cond-true (test v) _ _ is ∙ ap Some same
first_is test i (x ∷ row) v more none is =
    let same : i + 1 + length row ≡ i + suc (length row) = omega arith in
    go (test x) none (λ h. first_is test (i + 1) row v more h is ∙ ap Some same)
  where
    go : (t : Bool) → ◌≡◌ {A = Option ℕ} (cond t (Some i) (position_from test (i + 1) row)) None → (position_from test (i + 1) row ≡ None → position_from test (i + 1) (row ++ v ∷ more) ≡ Some (i + suc (length row)))
        → ◌≡◌ {A = Option ℕ} (cond t (Some i) (position_from test (i + 1) (row ++ v ∷ more))) (Some (i + suc (length row)))
    go true h rest = absurd (clash h)
      where
        clash : Some i ≡ None → ⊥
        clash k = cc
    go false h rest = rest h

-- ---- the values of a line

-- one more is written
fields_more : (o : Options) (n : ℕ) (row : Row) (v : Option (List ℕ)) (m : ℕ) (old mid new : List ℕ) → m ≡ n + length row → WritesTextFields o n row old mid → Writes (next_fault o m v) (next_written o m v) mid (Ok tt) new → WritesTextFields o n (row ++ v ∷ []) old new
fields_more o n [] v m old mid new e w one =
    let m_is : m ≡ n = omega (arith, e) in
    (new, subst (λ (k : ℕ). Writes (next_fault o k v) (next_written o k v) old (Ok tt) new) m_is (subst (λ (l : List ℕ). Writes (next_fault o m v) (next_written o m v) l (Ok tt) new) w one), refl)
fields_more o n (x ∷ row) v m old mid new e w one = (w.0, w.1, fields_more o (suc n) row v m w.0 mid new (omega (arith, e)) w.2 one)

-- a value without a fault isn't like null
fine_field : (o : Options) (n : ℕ) (v : Option (List ℕ)) → next_fault o n v ≡ None → is_like_null o v ≡ false
fine_field o n v e = go (ltb n 32767) (is_like_null o v) e
  where
    go : (few like : Bool) → ◌≡◌ {A = Option RowFault} (cond few (cond like (Some (faults.LikeNull n)) None) (Some (faults.Width (suc n)))) None → like ≡ false
    go true true h = absurd cc
    go true false h = refl
    go false like h = absurd cc

-- a value with a fault is like null, where there are few before it
faulty_field : (o : Options) (n : ℕ) (v : Option (List ℕ)) (f : RowFault) → n < 32767 → next_fault o n v ≡ Some f → (f ≡ faults.LikeNull n) × (is_like_null o v ≡ true)
faulty_field o n v f few e = go (ltb n 32767) (is_like_null o v) (lt-ltb n 32767 few) e
  where
    go : (low like : Bool) → low ≡ true → ◌≡◌ {A = Option RowFault} (cond low (cond like (Some (faults.LikeNull n)) None) (Some (faults.Width (suc n)))) (Some f) → (f ≡ faults.LikeNull n) × (like ≡ true)
    go true true k h = (cc, refl)
    go true false k h = absurd cc
    go false like k h = absurd cc

-- how far values have come doesn't change what they are
pub line_off : (o : Options) (row : Row) (start : List ℕ) (so_far less : Progress) (w : RowWriterState) (out : List ℕ) → (less ≡ progress.Written → so_far ≡ progress.Written) → LineStands o row start so_far w out → LineStands o row start less w out
line_off o row start so_far less w out off s = record { options = s.options; few = s.few; none_like_null = s.none_like_null; written = λ e. s.written (off e); begun = s.begun }

module _ (o : Options) (row : Row) (start : List ℕ) (v : Option (List ℕ)) (w w' : RowWriterState) (old : List ℕ) (so_far : Progress) (s : LineStands o row start so_far w old) where
  -- the value is like null
  field_refused : (f : RowFault) (new : List ℕ) → f ≡ faults.LikeNull (length row) → is_like_null w.options v ≡ true → new ≡ old → w' ≡ w → LineGoesOn o row start v (Err f) w' new
  field_refused f new is like same kept = (ap (λ (x : RowWriterState). x.options) kept ∙ s.options, is, subst (λ (p : Options). is_like_null p v ≡ true) s.options like, subst (λ (l : List ℕ). IsPrefix start l) (sym same) s.begun)

  -- the value isn't like null, but it isn't written
  field_judged : (next : Progress) (new : List ℕ) → (next ≡ progress.Written → ⊥) → is_like_null w.options v ≡ false → w'.options ≡ w.options → w'.fields ≤ suc w.fields → IsPrefix old new → LineGoesOn o row start v (Ok next) w' new
  field_judged next new other fine options few begun = record {
    options = options ∙ s.options;
    few = omega (arith, few, s.few, length-append row (v ∷ []));
    none_like_null = none_so_far (is_like_null o) 0 row v s.none_like_null (subst (λ (p : Options). is_like_null p v ≡ false) s.options fine);
    written = λ e. absurd (other e);
    begun = prefix_then start old new s.begun begun;
  }

  -- the value was given to the writer, which wrote those before it
  pub field_put : (r : Result Unit RowFault) (new : List ℕ) → so_far ≡ progress.Written → w.fields < 32767 → Writes (next_fault w.options w.fields v) (next_written w.options w.fields v) old r new → OnOk r (w' ≡ record w { fields = suc w.fields }) → OnErr r (w' ≡ w) → LineGoesOn o row start v (progress_of r) w' new
  field_put (Ok x) new all few one ok err =
      let at = s.written all in
      let options = ap (λ (y : RowWriterState). y.options) ok ∙ s.options in
      let count = ap (λ (y : RowWriterState). y.fields) ok in
      let more : w'.fields ≡ length (row ++ v ∷ []) = omega (arith, count, at.0, length-append row (v ∷ [])) in
      let mine = subst (λ (p : Options). Writes (next_fault p w.fields v) (next_written p w.fields v) old (Ok tt) new) s.options one in
      record {
        options = options;
        few = omega (arith, more);
        none_like_null = none_so_far (is_like_null o) 0 row v s.none_like_null (fine_field o w.fields v mine.0);
        written = λ e. (more, fields_more o 0 row v w.fields start old new (omega (arith, at.0)) at.1 mine);
        begun = prefix_then start old new s.begun (next_written w.options w.fields v, sym one.1);
      }
  field_put (Err faults.Memory) new all few one ok err = field_judged progress.Refused new (λ e. cc) (fine_field w.options w.fields v one.0) (ap (λ (y : RowWriterState). y.options) err) (omega (arith, ap (λ (y : RowWriterState). y.fields) err)) ([], append-nil old ∙ sym one.1)
  field_put (Err (faults.Width n)) new all few one ok err = let f = faulty_field w.options w.fields v (faults.Width n) few one.0 in field_refused (faults.Width n) new (f.0 ∙ ap faults.LikeNull (s.written all).0) f.1 one.1 err
  field_put (Err faults.FieldLong) new all few one ok err = let f = faulty_field w.options w.fields v faults.FieldLong few one.0 in field_refused faults.FieldLong new (f.0 ∙ ap faults.LikeNull (s.written all).0) f.1 one.1 err
  field_put (Err (faults.LikeNull n)) new all few one ok err = let f = faulty_field w.options w.fields v (faults.LikeNull n) few one.0 in field_refused (faults.LikeNull n) new (f.0 ∙ ap faults.LikeNull (s.written all).0) f.1 one.1 err

  -- the value was given to the writer, to be judged alone
  pub field_tried : (r : Result Unit RowFault) (new : List ℕ) (before : ℕ) → (so_far ≡ progress.Written → ⊥) → w.fields < 32767 → length row ≡ before → Writes (next_fault w.options w.fields v) (next_written w.options w.fields v) old r new → OnOk r (w' ≡ record w { fields = suc w.fields }) → OnErr r (w' ≡ w)
      → LineGoesOn o row start v (judged_at before so_far r) w' new
  field_tried (Ok x) new before other few e one ok err = field_judged so_far new other (fine_field w.options w.fields v one.0) (ap (λ (y : RowWriterState). y.options) ok) (omega (arith, ap (λ (y : RowWriterState). y.fields) ok)) (next_written w.options w.fields v, sym one.1)
  field_tried (Err faults.Memory) new before other few e one ok err = field_judged so_far new other (fine_field w.options w.fields v one.0) (ap (λ (y : RowWriterState). y.options) err) (omega (arith, ap (λ (y : RowWriterState). y.fields) err)) ([], append-nil old ∙ sym one.1)
  field_tried (Err (faults.LikeNull n)) new before other few e one ok err = field_refused (faults.LikeNull before) new (ap faults.LikeNull (sym e)) (faulty_field w.options w.fields v (faults.LikeNull n) few one.0).1 one.1 err
  field_tried (Err (faults.Width n)) new before other few e one ok err = absurd (clash (faulty_field w.options w.fields v (faults.Width n) few one.0).0)
    where
      clash : faults.Width n ≡ faults.LikeNull w.fields → ⊥
      clash k = cc
  field_tried (Err faults.FieldLong) new before other few e one ok err = absurd (clash (faulty_field w.options w.fields v faults.FieldLong few one.0).0)
    where
      clash : faults.FieldLong ≡ faults.LikeNull w.fields → ⊥
      clash k = cc

-- no text is written with fewer bytes than it has
letter_first : (l : Option ℕ) (b : ℕ) → 1 ≤ length (with_letter l b)
letter_first None b = omega arith
letter_first (Some letter) b = omega arith

written_longer : (delimiter : ℕ) (text : List ℕ) → length text ≤ length (flat_map (written_byte delimiter) text)
written_longer delimiter [] = omega arith
written_longer delimiter (b ∷ text) = omega (arith, letter_first (letter_for delimiter b) b, written_longer delimiter text, length-append (written_byte delimiter b) (flat_map (written_byte delimiter) text))

-- neither null nor a longer text is like null
pub unlike_null : (o : Options) (row : Row) (start : List ℕ) (v : Option (List ℕ)) (w : RowWriterState) (old : List ℕ) (so_far : Progress) → LineStands o row start so_far w old → (so_far ≡ progress.Written → ⊥) → is_like_null o v ≡ false → LineGoesOn o row start v (Ok so_far) w old
unlike_null o row start v w old so_far s other fine = field_judged o row start v w w old so_far s so_far old other (subst (λ (p : Options). is_like_null p v ≡ false) (sym s.options) fine) refl (omega arith) ([], append-nil old)

pub longer_unlike : (o : Options) (text : List ℕ) → length o.null_mark < length text → is_like_null o (Some text) ≡ false
longer_unlike o text longer = unequal eqb (flat_map (written_byte o.delimiter) text) o.null_mark (λ e. omega (arith, e, longer, written_longer o.delimiter text))

-- a row of some values, but not too many
fits_count : (n : ℕ) → 0 < n → n ≤ 32767 → (eqb n 0 || ltb 32767 n) ≡ false
fits_count n some few = rw (ne_eqb n 0 (λ e. omega (arith, some, e)), le-ltb 32767 n few) refl

fits_line : (row : Row) → 0 < length row → length row ≤ 32767 → is_misfit row ≡ false
fits_line row some few = fits_count (length row) some few

-- the fault of a row that has one value that is like null, and none before
pub line_faulty : (o : Options) (row : Row) (v : Option (List ℕ)) (more all : Row) (start new : List ℕ) (f : RowFault) (so_far : Progress) (w w' : RowWriterState) (old : List ℕ) → LineStands o row start so_far w old → LineGoesOn o row start v (Err f) w' new → all ≡ row ++ v ∷ more → 0 < length all → length all ≤ 32767 → WritesInPart (text_fault o all) (written_row o all) start (Err f) new
line_faulty o row v more all start new f so_far w w' old s g e some few =
    let at : 0 + length row ≡ length row = omega arith in
    let fault : text_fault o all ≡ Some (faults.LikeNull (length row)) = cond-false (is_misfit all) _ _ (fits_line all some few) ∙ ap (λ (l : Row). like_null (position_from (is_like_null o) 0 l)) e ∙ ap like_null (first_is (is_like_null o) 0 row v more s.none_like_null g.2 ∙ ap Some at) in
    rw g.1 (fault, g.3)

-- a row none of whose values is like null
line_fine : (o : Options) (row : Row) (start : List ℕ) (so_far : Progress) (w : RowWriterState) (out : List ℕ) → LineStands o row start so_far w out → 0 < length row → length row ≤ 32767 → text_fault o row ≡ None
line_fine o row start so_far w out s some few = cond-false (is_misfit row) _ _ (fits_line row some few) ∙ ap like_null s.none_like_null

-- a row whose values were judged alone
pub line_judged : (o : Options) (row : Row) (start : List ℕ) (so_far : Progress) (w : RowWriterState) (out : List ℕ) → LineStands o row start so_far w out → (so_far ≡ progress.Written → ⊥) → 0 < length row → length row ≤ 32767 → WritesInPart (text_fault o row) (written_row o row) start (Ok so_far) out
line_judged o row start progress.Written w out s other some few = absurd (other refl)
line_judged o row start progress.PutOff w out s other some few = (line_fine o row start progress.PutOff w out s some few, s.begun)
line_judged o row start progress.Refused w out s other some few = (line_fine o row start progress.Refused w out s some few, s.begun)

-- the line is ended
pub line_ended : FieldsAreLine → (o : Options) (row : Row) (start : List ℕ) (so_far : Progress) (w : RowWriterState) (mid : List ℕ) (r : Result Unit RowFault) (new : List ℕ) → so_far ≡ progress.Written → LineStands o row start so_far w mid → 0 < length row → length row ≤ 32767 → Writes (end_fault w.fields) (newline ∷ []) mid r new
    → WritesInPart (text_fault o row) (written_row o row) start (progress_of r) new
line_ended law o row start so_far w mid r new all s some few last = by r (subst (λ (k : ℕ). Writes (end_fault k) (newline ∷ []) mid r new) (s.written all).0 last)
  where
    none : (n : ℕ) → 0 < n → (f : RowFault) → end_fault n ≡ Some f → ⊥
    none n lt f k = clash (sym (cond-false (eqb n 0) _ _ (ne_eqb n 0 (λ e. omega (arith, lt, e)))) ∙ k)
      where
        clash : ◌≡◌ {A = Option RowFault} None (Some f) → ⊥
        clash h = cc

    by : (q : Result Unit RowFault) → Writes (end_fault (length row)) (newline ∷ []) mid q new → WritesInPart (text_fault o row) (written_row o row) start (progress_of q) new
    by (Ok x) h = law.line o row start mid new (s.written all).1 h
    by (Err faults.Memory) h = (line_fine o row start so_far w mid s some few, subst (λ (l : List ℕ). IsPrefix start l) (sym h.1) s.begun)
    by (Err (faults.Width n)) h = absurd (none (length row) some (faults.Width n) h.0)
    by (Err faults.FieldLong) h = absurd (none (length row) some faults.FieldLong h.0)
    by (Err (faults.LikeNull n)) h = absurd (none (length row) some (faults.LikeNull n) h.0)
