-- What is written field by field is the lines of the rows.
use Rattle.std.proofs.Common.{◌≡◌, ℕ, zero, suc, ◌+◌, ◌<◌, ◌≤◌, Bool, true, false, cond, List, [], ◌∷◌, ◌++◌, length, take, drop, map, min, get_or, Option, Some, None, Result, Ok, Err, OnOk, inl, inr, refl, sym, ap, subst, ◌∙◌, append_assoc, arith}
use Rattle.std.specs.List.{flat_map}
use Rattle.std.proofs.lemmas.Bool.{lt-ltb, le-ltb, ne_eqb, cases_lt, cond-true, cond-false}
use Rattle.std.proofs.lemmas.List.{append-nil, map-append, take_more, length-drop, length-take-le}
use Rattle.std.proofs.lemmas.Grind.{flat_map-append}
use Rattle.pg_copy.specs.fault.RowFault.{RowFault}
use Rattle.pg_copy.specs.fault.RowFault.TheVariants as faults
use Rattle.pg_copy.specs.TextLaws.{FieldsAreLine, WritesTextFields}
use Rattle.pg_copy.specs.Row.{Row, most_fields, Writes}
use Rattle.pg_copy.specs.Text.{Options, default_options, newline, is_like_null}
use Rattle.pg_copy.specs.TextWriter.{next_fault, next_written, end_fault}
use Rattle.pg_backend.specs.declared.script.Logged.{Logged}
use Rattle.pgpipe_files.proofs.Lists.{take-least}
use Rattle.pgpipe_loop.specs.Lines.{text_line, text_lines, most_chunks, loaded_row, loaded_rows_of, loaded_rows}
use Rattle.pgpipe_loop.specs.Private.Lines.{LineState, whole_lines, with_field, with_fields, with_end, with_row, with_rows}

-- ---- one field

with_field-open : (s : LineState) (field : Option (List ℕ)) → s.fields < most_fields
    → with_field s field ≡ record { text = s.text ++ next_written default_options s.fields field; fields = suc s.fields }
unfolding with_field
with_field-open s field lt = cond-true _ _ _ (lt-ltb s.fields most_fields lt)

with_field-full : (s : LineState) (field : Option (List ℕ)) → most_fields ≤ s.fields → with_field s field ≡ s
unfolding with_field
with_field-full s field le = cond-false _ _ _ (le-ltb s.fields most_fields le)

-- a field that could be written stands among the first 32,767, and one that is one too many doesn't
has-room : (o : Options) (n : ℕ) (field : Option (List ℕ)) → next_fault o n field ≡ None → n < most_fields
has-room o n field e = elim (cases_lt n most_fields) [
  | inl lt ↦ lt
  | inr le ↦
      let full : next_fault o n field ≡ Some (faults.Width (suc n)) = cond-false _ _ _ (le-ltb n most_fields le) in
      absurd cc
]

has-none : (o : Options) (n k : ℕ) (field : Option (List ℕ)) → next_fault o n field ≡ Some (faults.Width k) → most_fields ≤ n
has-none o n k field e = elim (cases_lt n most_fields) [
  | inl lt ↦
      let room : next_fault o n field ≡ cond (is_like_null o field) (Some (faults.LikeNull n)) None = cond-true _ _ _ (lt-ltb n most_fields lt) in
      absurd (other (is_like_null o field) (sym room ∙ e))
  | inr le ↦ le
]
  where
    other : (like : Bool) → ◌≡◌ {A = Option RowFault} (cond like (Some (faults.LikeNull n)) None) (Some (faults.Width k)) → ⊥
    other true h = absurd cc
    other false h = absurd cc

pub field_put : (inside s : LineState) (o : Options) (field : Option (List ℕ)) (text : List ℕ) (fields : ℕ) → inside ≡ s → o ≡ default_options → next_fault o inside.fields field ≡ None
    → text ≡ inside.text ++ next_written o inside.fields field → fields ≡ suc inside.fields → record { text = text; fields = fields } ≡ with_field s field
field_put inside s o field text fields e d none h k =
    let written : text ≡ inside.text ++ next_written default_options inside.fields field = h ∙ ap (λ (p : Options). inside.text ++ next_written p inside.fields field) d in
    ap (λ (n : ℕ). record { text = text; fields = n }) k ∙ ap (λ (x : List ℕ). record { text = x; fields = suc inside.fields }) written
    ∙ sym (with_field-open inside field (has-room o inside.fields field none)) ∙ ap (λ (t : LineState). with_field t field) e

pub field_dropped : (inside s : LineState) (o : Options) (k : ℕ) (f : RowFault) (field : Option (List ℕ)) (spelled text : List ℕ) (fields : ℕ) → inside ≡ s → f ≡ faults.Width k
    → Writes (next_fault o inside.fields field) spelled inside.text (Err f) text → fields ≡ inside.fields → record { text = text; fields = fields } ≡ with_field s field
field_dropped inside s o k f field spelled text fields e is h same =
    let w : (next_fault o inside.fields field ≡ Some (faults.Width k)) × (text ≡ inside.text) = subst (λ (g : RowFault). Writes (next_fault o inside.fields field) spelled inside.text (Err g) text) is h in
    ap (λ (n : ℕ). record { text = text; fields = n }) same ∙ ap (λ (x : List ℕ). record { text = x; fields = inside.fields }) w.1
    ∙ sym (with_field-full inside field (has-none o inside.fields k field w.0)) ∙ ap (λ (t : LineState). with_field t field) e

pub line_ended : (inside s : LineState) (text : List ℕ) (fields : ℕ) → inside ≡ s → text ≡ inside.text ++ newline ∷ [] → fields ≡ 0 → record { text = text; fields = fields } ≡ with_end s
unfolding with_end
line_ended inside s text fields e h k = ap (λ (n : ℕ). record { text = text; fields = n }) k ∙ ap (λ (x : List ℕ). record { text = x; fields = 0 }) h ∙ ap with_end e

-- ---- fields and lines that are put one after the other

pub with_fields-append : (s : LineState) (xs ys : Row) → with_fields s (xs ++ ys) ≡ with_fields (with_fields s xs) ys
with_fields-append s [] ys = refl
with_fields-append s (x ∷ xs) ys = with_fields-append (with_field s x) xs ys

pub with_rows-append : (s : LineState) (xs ys : List Row) → with_rows s (xs ++ ys) ≡ with_rows (with_rows s xs) ys
with_rows-append s [] ys = refl
with_rows-append s (x ∷ xs) ys = with_rows-append (with_row s x) xs ys

-- one element more of a list, as its field, as its fields, as its line, as its lines
taken : {X : Type 0} (xs : List X) (i : ℕ) (x : X) → i < length xs → x ≡ get_or xs i x → take (i + 1) xs ≡ take i xs ++ x ∷ []
taken xs i x lt is = take_more xs i x lt ∙ ap (λ y. take i xs ++ y ∷ []) (sym is)

pub field_more : {X : Type 0} (f : X → Option (List ℕ)) (s now new : LineState) (xs : List X) (i : ℕ) (x : X) → i < length xs → x ≡ get_or xs i x
    → now ≡ with_fields s (map f (take i xs)) → new ≡ with_field now (f x) → new ≡ with_fields s (map f (take (i + 1) xs))
field_more f s now new xs i x lt is h k =
    let all : with_fields s (map f (take (i + 1) xs)) ≡ with_field (with_fields s (map f (take i xs))) (f x) =
    ap (λ ys. with_fields s (map f ys)) (taken xs i x lt is) ∙ ap (with_fields s) (map-append f (take i xs) (x ∷ [])) ∙ with_fields-append s (map f (take i xs)) (f x ∷ []) in
    k ∙ ap (λ t. with_field t (f x)) h ∙ sym all

pub line_more : {X : Type 0} (f : X → Row) (s now new : LineState) (xs : List X) (i : ℕ) (x : X) → i < length xs → x ≡ get_or xs i x
    → now ≡ with_rows s (map f (take i xs)) → new ≡ with_row now (f x) → new ≡ with_rows s (map f (take (i + 1) xs))
line_more f s now new xs i x lt is h k =
    let all : with_rows s (map f (take (i + 1) xs)) ≡ with_row (with_rows s (map f (take i xs))) (f x) =
    ap (λ ys. with_rows s (map f ys)) (taken xs i x lt is) ∙ ap (with_rows s) (map-append f (take i xs) (x ∷ [])) ∙ with_rows-append s (map f (take i xs)) (f x ∷ []) in
    k ∙ ap (λ t. with_row t (f x)) h ∙ sym all

pub lines_more : {X : Type 0} (f : X → List Row) (s now new : LineState) (xs : List X) (i : ℕ) (x : X) → i < length xs → x ≡ get_or xs i x
    → now ≡ with_rows s (flat_map f (take i xs)) → new ≡ with_rows now (f x) → new ≡ with_rows s (flat_map f (take (i + 1) xs))
lines_more f s now new xs i x lt is h k =
    let all : with_rows s (flat_map f (take (i + 1) xs)) ≡ with_rows (with_rows s (flat_map f (take i xs))) (f x) =
    ap (λ ys. with_rows s (flat_map f ys)) (taken xs i x lt is) ∙ ap (with_rows s) (flat_map-append f (take i xs) (x ∷ [])) ∙ with_rows-append s (flat_map f (take i xs)) (f x ++ [])
    ∙ ap (with_rows (with_rows s (flat_map f (take i xs)))) (append-nil (f x)) in
    k ∙ ap (λ t. with_rows t (f x)) h ∙ sym all

-- lines after others
pub after : (s mid new : LineState) (xs ys : List Row) → mid ≡ with_rows s xs → new ≡ with_rows mid ys → new ≡ with_rows s (xs ++ ys)
after s mid new xs ys h k = k ∙ ap (λ (t : LineState). with_rows t ys) h ∙ sym (with_rows-append s xs ys)

pub on_ok : {A E : Type 0} (P Q : Type 0) → (r : Result A E) → OnOk r P → (P → Q) → OnOk r Q
on_ok P Q (Ok x) h f = f h
on_ok P Q (Err e) h f = h

-- a line, three lists of lines, and a line
pub five_put : (old s1 s2 s3 s4 new : LineState) (first last : Row) (xs ys zs : List Row) → s1 ≡ with_row old first → s2 ≡ with_rows s1 xs → s3 ≡ with_rows s2 ys → s4 ≡ with_rows s3 zs
    → new ≡ with_row s4 last → new ≡ with_rows old (first ∷ (xs ++ ys ++ zs ++ last ∷ []))
five_put old s1 s2 s3 s4 new first last xs ys zs h1 h2 h3 h4 h5 =
    after old s4 new (first ∷ (xs ++ ys ++ zs)) (last ∷ []) (after old s3 s4 (first ∷ (xs ++ ys)) zs (after old s2 s3 (first ∷ xs) ys (after old s1 s2 (first ∷ []) xs h1 h2) h3) h4) h5

-- ---- a line

-- no text is written as null is, by the law of pg_copy
abbrev NoneLikeNull : Type 0
NoneLikeNull = (v : Option (List ℕ)) → is_like_null default_options v ≡ false

-- fields that are put into a full line
full_line : (text : List ℕ) (fields : Row) → with_fields (record { text = text; fields = most_fields }) fields ≡ record { text = text; fields = most_fields }
full_line text [] = refl
full_line text (field ∷ fields) =
    ap (λ (s : LineState). with_fields s fields) (with_field-full (record { text = text; fields = most_fields }) field (omega arith)) ∙ full_line text fields

-- fields that are put into a line with room for so many more: they are written one by one
fields_written : NoneLikeNull → (room : ℕ) (text : List ℕ) (n : ℕ) (fields : Row) → n + room ≡ most_fields
    → WritesTextFields default_options n (take room fields) text (with_fields (record { text = text; fields = n }) fields).text
fields_written plain zero text n fields e =
    let full : n ≡ most_fields = omega (arith, e) in
    ap (λ (k : ℕ). (with_fields (record { text = text; fields = k }) fields).text) full ∙ ap (λ (s : LineState). s.text) (full_line text fields)
fields_written plain (suc room) text n [] e = refl
fields_written plain (suc room) text n (field ∷ fields) e =
    let lt : n < most_fields = omega (arith, e) in
    let put : with_field (record { text = text; fields = n }) field ≡ record { text = text ++ next_written default_options n field; fields = suc n } = with_field-open (record { text = text; fields = n }) field lt in
    let none : next_fault default_options n field ≡ None = cond-true _ _ _ (lt-ltb n most_fields lt) ∙ cond-false _ _ _ (plain field) in (
      text ++ next_written default_options n field,
      (none, refl),
      subst (λ (s : LineState). WritesTextFields default_options (suc n) (take room fields) (text ++ next_written default_options n field) (with_fields s fields).text) (sym put)
          (fields_written plain room (text ++ next_written default_options n field) (suc n) fields (omega (arith, e))),
    )

line_of_row : FieldsAreLine → NoneLikeNull → (text : List ℕ) (row : Row) → with_row (whole_lines text) row ≡ whole_lines (text ++ text_line row)
unfolding with_end
line_of_row law plain text [] = refl
line_of_row law plain text (field ∷ fields) =
    let mid = (with_fields (whole_lines text) (field ∷ fields)).text in
    let some : end_fault (length (take most_fields (field ∷ fields))) ≡ None = cond-false _ _ _ (ne_eqb (length (take most_fields (field ∷ fields))) 0 (λ e. absurd (omega (arith, e)))) in
    ap whole_lines (law.line default_options (take most_fields (field ∷ fields)) text mid (mid ++ newline ∷ []) (fields_written plain most_fields text 0 (field ∷ fields) refl) (some, refl)).1

lines_of_rows : FieldsAreLine → NoneLikeNull → (text : List ℕ) (rows : List Row) → with_rows (whole_lines text) rows ≡ whole_lines (text ++ text_lines rows)
lines_of_rows law plain text [] = ap whole_lines (sym (append-nil text))
lines_of_rows law plain text (row ∷ rows) =
    ap (λ (s : LineState). with_rows s rows) (line_of_row law plain text row)
    ∙ lines_of_rows law plain (text ++ text_line row) rows
    ∙ ap whole_lines (append_assoc text (text_line row) (text_lines rows))

-- what stands in a text that had none
pub whole_text : FieldsAreLine → NoneLikeNull → (s : LineState) (rows : List Row) → s ≡ with_rows (whole_lines []) rows → s.text ≡ text_lines rows
whole_text law plain s rows e = ap (λ (t : LineState). t.text) (e ∙ lines_of_rows law plain [] rows)

-- four lists of lines
pub four_put : (old s1 s2 s3 s4 : LineState) (xs ys zs ws : List Row) → s1 ≡ with_rows old xs → s2 ≡ with_rows s1 ys → s3 ≡ with_rows s2 zs → s4 ≡ with_rows s3 ws → s4 ≡ with_rows old (xs ++ ys ++ zs ++ ws)
four_put old s1 s2 s3 s4 xs ys zs ws h1 h2 h3 h4 = after old s3 s4 (xs ++ ys ++ zs) ws (after old s2 s3 (xs ++ ys) zs (after old s1 s2 xs ys h1 h2) h3) h4

-- three lists of lines
pub three_put : (old s1 s2 s3 : LineState) (xs ys zs : List Row) → s1 ≡ with_rows old xs → s2 ≡ with_rows s1 ys → s3 ≡ with_rows s2 zs → s3 ≡ with_rows old (xs ++ ys ++ zs)
three_put old s1 s2 s3 xs ys zs h1 h2 h3 = after old s2 s3 (xs ++ ys) zs (after old s1 s2 xs ys h1 h2) h3

-- ---- chunks that were loaded

enough : (n m k : ℕ) (xs : List (List ℕ)) → length xs ≤ n → length xs ≤ m → loaded_rows_of n k xs ≡ loaded_rows_of m k xs
enough zero zero k xs le le' = refl
enough zero (suc m) k [] le le' = refl
enough zero (suc m) k (x ∷ xs) le le' = absurd (omega arith)
enough (suc n) zero k [] le le' = refl
enough (suc n) zero k (x ∷ xs) le le' = absurd (omega arith)
enough (suc n) (suc m) k [] le le' = refl
enough (suc n) (suc m) k (x ∷ xs) le le' =
    let less : length (drop most_chunks (x ∷ xs)) ≤ length xs = omega (arith, length-drop most_chunks (x ∷ xs)) in
    ap (λ (rows : List Row). loaded_row k (take most_chunks (x ∷ xs)) ∷ rows) (enough n m k (drop most_chunks (x ∷ xs)) (omega arith) (omega arith))

pub chunks_put : (s new total : LineState) (k m : ℕ) (rest now later : List (List ℕ)) → 0 < length rest → m ≡ min (length rest) most_chunks → now ≡ take m rest → later ≡ drop m rest
    → new ≡ with_row s (loaded_row k now) → with_rows s (loaded_rows_of (length rest) k rest) ≡ total → with_rows new (loaded_rows_of (length later) k later) ≡ total
chunks_put s new total k m [] now later lt e f g h i = absurd (omega arith)
chunks_put s new total k m (x ∷ xs) now later lt e f g h i =
    let t = take-least most_chunks m (x ∷ xs) e in
    let now_is : now ≡ take most_chunks (x ∷ xs) = f ∙ t.0 in
    let later_is : later ≡ drop most_chunks (x ∷ xs) = g ∙ t.1 in
    let less : length (drop most_chunks (x ∷ xs)) ≤ length xs = omega (arith, length-drop most_chunks (x ∷ xs)) in
    ap (λ (l : List (List ℕ)). with_rows new (loaded_rows_of (length l) k l)) later_is
    ∙ ap (λ (rows : List Row). with_rows new rows) (enough (length (drop most_chunks (x ∷ xs))) (length xs) k (drop most_chunks (x ∷ xs)) (omega arith) less)
    ∙ ap (λ (t : LineState). with_rows t (loaded_rows_of (length xs) k (drop most_chunks (x ∷ xs)))) (h ∙ ap (λ (l : List (List ℕ)). with_row s (loaded_row k l)) now_is)
    ∙ i

pub chunks_done : (s total : LineState) (k : ℕ) (rest : List (List ℕ)) → rest ≡ [] → with_rows s (loaded_rows_of (length rest) k rest) ≡ total → s ≡ total
chunks_done s total k rest none h = ap (λ (l : List (List ℕ)). with_rows s (loaded_rows_of (length l) k l)) (sym none) ∙ h

loaded_rows-last : (k : ℕ) (log : List Logged) (entry : Logged) → loaded_rows k (log ++ entry ∷ []) ≡ loaded_rows k log ++ loaded_rows_of (length entry.loaded) (k + length log) entry.loaded
loaded_rows-last k [] entry = append-nil (loaded_rows_of (length entry.loaded) k entry.loaded) ∙ ap (λ (n : ℕ). loaded_rows_of (length entry.loaded) n entry.loaded) (omega arith)
loaded_rows-last k (x ∷ xs) entry =
    let place : (k + 1) + length xs ≡ k + length (x ∷ xs) = omega arith in
    ap (λ (rows : List Row). loaded_rows_of (length x.loaded) k x.loaded ++ rows) (loaded_rows-last (k + 1) xs entry ∙ ap (λ (n : ℕ). loaded_rows (k + 1) xs ++ loaded_rows_of (length entry.loaded) n entry.loaded) place)
    ∙ sym (append_assoc (loaded_rows_of (length x.loaded) k x.loaded) (loaded_rows (k + 1) xs) (loaded_rows_of (length entry.loaded) (k + length (x ∷ xs)) entry.loaded))

pub logged_more : (s now new : LineState) (log : List Logged) (i : ℕ) (entry : Logged) → i < length log → entry ≡ get_or log i entry
    → now ≡ with_rows s (loaded_rows 1 (take i log)) → new ≡ with_rows now (loaded_rows_of (length entry.loaded) (i + 1) entry.loaded) → new ≡ with_rows s (loaded_rows 1 (take (i + 1) log))
logged_more s now new log i entry lt is h k =
    let place : 1 + length (take i log) ≡ i + 1 = omega (arith, length-take-le i log (omega arith)) in
    let all : loaded_rows 1 (take (i + 1) log) ≡ loaded_rows 1 (take i log) ++ loaded_rows_of (length entry.loaded) (i + 1) entry.loaded =
    ap (loaded_rows 1) (taken log i entry lt is) ∙ loaded_rows-last 1 (take i log) entry ∙ ap (λ (n : ℕ). loaded_rows 1 (take i log) ++ loaded_rows_of (length entry.loaded) n entry.loaded) place in
    after s now new (loaded_rows 1 (take i log)) (loaded_rows_of (length entry.loaded) (i + 1) entry.loaded) h k ∙ ap (with_rows s) (sym all)
