-- The rows of a file, taken one after the other.
use Rattle.std.proofs.Common.{◌<◌, ◌≡◌, ℕ, ◌+◌, ◌==◌, ◌&&◌, ◌≤◌, ◌⊎◌, inl, inr, Bool, true, false, if◌then◌else◌, List, [], ◌∷◌, ◌++◌, length, Option, Some, None, Result, Ok, Err, refl, sym, ap, ◌∙◌, append_assoc, append-nil, length-append, arith}
use Rattle.std.specs.List.{onto_first}
use Rattle.std.specs.Str.{bytes_eq}
use Rattle.pg_copy.specs.fault.TextFault.{TextFault}
use Rattle.pg_copy.specs.fault.TextFault.TheVariants as text_fault
use Rattle.pg_copy.specs.line_end.LineEnd.{LineEnd}
use Rattle.pg_copy.specs.line_end.LineEnd.TheVariants.{Newline, Return, Both}
use Rattle.pg_copy.specs.Row.{Row}
use Rattle.pg_copy.specs.Reading.{RowsRead, RowsEnding, Open, Done, Ended, Bad, after_rows, IsGood, AnswersNext}
use Rattle.pg_copy.specs.Text.{Options, default_options, backslash, newline, carriage_return, parts_from, pairs_from, lines, decided_at_end, end_mark, line_row, line_reading, lines_reading, row_or_fault, last_reading, last_after, text_file_reading}
use Rattle.pg_copy.specs.TextReader.{TextState, HasReadText, text_last, last_text_ending}
use Rattle.pgpipe_lines.specs.declared.fault.LineFault.TheVariants as line_fault
use Rattle.pgpipe_lines.specs.declared.fault.Refusal.{Refusal}
use Rattle.pgpipe_lines.specs.declared.fault.Refusal.TheVariants.{Wrong, Memory}
use Rattle.pgpipe_files.specs.Lines.{or_refused, with_row, with_rows, with_file}
use Rattle.pgpipe_files.specs.Private.Faults.{text_fault_at}
use Rattle.pgpipe_lines.specs.Reads.{Fails, LeavesAll, fault_at}

-- ---- a file has at most two rows more than bytes

onto_few : (b : ℕ) (parts : List (List ℕ)) (n : ℕ) → length parts ≤ n + 1 → length (onto_first b parts) ≤ n + 1
onto_few b [] n le = omega arith
onto_few b (p ∷ ps) n le = le

either_few : (c : Bool) (a b : List (List ℕ)) (n : ℕ) → length a ≤ n → length b ≤ n → length (if c then a else b) ≤ n
either_few true a b n f g = f
either_few false a b n f g = g

parts_few : (escaped : Bool) (mark : ℕ) (bytes : List ℕ) → length (parts_from escaped mark bytes) ≤ length bytes + 1
parts_few escaped mark [] = omega arith
parts_few true mark (b ∷ bs) =
    let le = onto_few b (parts_from false mark bs) (length bs) (parts_few false mark bs) in omega arith
parts_few false mark (b ∷ bs) =
    let closed = parts_few false mark bs in
    let le = onto_few b (parts_from (b == backslash) mark bs) (length bs) (parts_few (b == backslash) mark bs) in
    either_few (b == mark) ([] ∷ parts_from false mark bs) (onto_first b (parts_from (b == backslash) mark bs)) (length (b ∷ bs) + 1) (omega arith) (omega arith)

row_few : (c : Bool) (r : Result Row TextFault) (after : RowsRead TextFault) → length (if c then record { rows = []; ending = Done } else row_or_fault r after).rows ≤ length after.rows + 1
row_few true r after = omega arith
row_few false (Ok row) after = omega arith
row_few false (Err fault) after = omega arith

line_few : (o : Options) (columns : Option ℕ) (line : List ℕ) (after : RowsRead TextFault) → length (line_reading o columns line after).rows ≤ length after.rows + 1
line_few o columns line after = row_few (bytes_eq line end_mark) (line_row o columns line) after

lines_few : (o : Options) (columns : Option ℕ) (lines : List (List ℕ)) → length (lines_reading o columns lines).rows ≤ length lines
lines_few o columns [] = omega arith
lines_few o columns (line ∷ []) = omega arith
lines_few o columns (line ∷ next ∷ lines) =
    let le = lines_few o columns (next ∷ lines) in
    let one = line_few o columns line (lines_reading o columns (next ∷ lines)) in
    omega arith

last_few : (o : Options) (columns : Option ℕ) (ending : RowsEnding TextFault) → length (last_reading o columns ending).rows ≤ 1
last_few o columns (Open []) = omega arith
last_few o columns (Open (b ∷ bs)) = line_few o columns (b ∷ bs) (record { rows = []; ending = Ended })
last_few o columns Done = omega arith
last_few o columns Ended = omega arith
last_few o columns (Bad fault) = omega arith

pairs_few : (escaped : Bool) (bytes : List ℕ) → length (pairs_from escaped bytes) ≤ length bytes + 1
pairs_few escaped [] = omega arith
pairs_few true (b ∷ bs) =
    let le = onto_few b (pairs_from false bs) (length bs) (pairs_few false bs) in omega arith
pairs_few false (b ∷ []) = omega arith
pairs_few false (b ∷ c ∷ bs) =
    let closed = pairs_few false bs in
    let le = onto_few b (pairs_from (b == backslash) (c ∷ bs)) (length (c ∷ bs)) (pairs_few (b == backslash) (c ∷ bs)) in
    either_few (b == carriage_return && c == newline) ([] ∷ pairs_from false bs) (onto_first b (pairs_from (b == backslash) (c ∷ bs))) (length (b ∷ c ∷ bs) + 1) (omega arith) (omega arith)

cut_few : (e : LineEnd) (bytes : List ℕ) → length (lines e bytes) ≤ length bytes + 1
cut_few Newline bytes = parts_few false newline bytes
cut_few Return bytes = parts_few false carriage_return bytes
cut_few Both bytes = pairs_few false bytes

rows_few : (o : Options) (columns : Option ℕ) (bytes : List ℕ) → length (text_file_reading o columns bytes).rows ≤ length bytes + 2
unfolding last_after
rows_few o columns bytes =
    let cut = lines (decided_at_end None bytes) bytes in
    let parts = cut_few (decided_at_end None bytes) bytes in
    let rows = lines_few o columns cut in
    let few = last_few o columns (lines_reading o columns cut).ending in
    let all = length-append (lines_reading o columns cut).rows (last_reading o columns (lines_reading o columns cut).ending).rows in
    omega arith

-- ---- what was taken of the rows that a reader has given

pub record Stands {S : Type 0} (line : S → ℕ → List ℕ → Row → Option S) (first : S) (bytes : List ℕ) (reader : TextState) (n : ℕ) (so_far : S) : Type 0 where
  pub given : List Row
  pub read : HasReadText reader bytes given
  pub usual : reader.options ≡ default_options
  pub wide : reader.columns ≡ None
  pub counted : length given + 1 ≡ n
  pub taken : (rows : List Row) (ending : RowsEnding TextFault) → with_rows line first 1 (given ++ rows) ending ≡ with_rows line so_far n rows ending

pub stands-first : {S : Type 0} (line : S → ℕ → List ℕ → Row → Option S) (first : S) (bytes : List ℕ) (reader : TextState) → HasReadText reader bytes [] → reader.options ≡ default_options → reader.columns ≡ None → Stands line first bytes reader 1 first
stands-first line first bytes reader read usual wide = record { given = []; read = read; usual = usual; wide = wide; counted = refl; taken = λ rows ending. refl }

-- such a reader reads files as `with_file` does
as-read : (o : Options) (columns : Option ℕ) (bytes : List ℕ) → o ≡ default_options → columns ≡ None → text_file_reading default_options None bytes ≡ text_file_reading o columns bytes
as-read o columns bytes usual wide = ap (λ (x : Options). text_file_reading x None bytes) (sym usual) ∙ ap (λ (c : Option ℕ). text_file_reading o c bytes) (sym wide)

-- the row that comes next
abbrev pub Next : TextState → Row → TextState → Type 0
Next old row new = (pushed : List ℕ) (given : List Row) → HasReadText old pushed given → HasReadText new pushed (given ++ row ∷ [])

with_next : {S : Type 0} (line : S → ℕ → List ℕ → Row → Option S) (first so_far : S) (n : ℕ) (given : List Row) (row : Row) (o : Option S) → with_row line so_far n row ≡ o
    → ((rows : List Row) (ending : RowsEnding TextFault) → with_rows line first 1 (given ++ rows) ending ≡ with_rows line so_far n rows ending)
    → (rows : List Row) (ending : RowsEnding TextFault) → with_rows line first 1 ((given ++ row ∷ []) ++ rows) ending ≡ or_refused n o (λ next. with_rows line next (n + 1) rows ending)
unfolding with_rows
with_next {S = S} line first so_far n given row o h taken rows ending =
    ap (λ (all : List Row). with_rows line first 1 all ending) (append_assoc given (row ∷ []) rows)
    ∙ taken (row ∷ rows) ending
    ∙ ap (λ (p : Option S). or_refused n p (λ next. with_rows line next (n + 1) rows ending)) h

pub stands-next : {S : Type 0} (line : S → ℕ → List ℕ → Row → Option S) (first so_far next : S) (bytes : List ℕ) (old new : TextState) (n : ℕ) (row : Row)
    → Stands line first bytes old n so_far → Next old row new → new.options ≡ old.options → new.columns ≡ old.columns → with_row line so_far n row ≡ Some next → Stands line first bytes new (n + 1) next
stands-next line first so_far next bytes old new n row s gives options columns h = record {
  given = s.given ++ row ∷ [];
  read = gives bytes s.given s.read;
  usual = options ∙ s.usual;
  wide = columns ∙ s.wide;
  counted = (let e = length-append s.given (row ∷ []) in let e' = s.counted in omega arith);
  taken = with_next line first so_far n s.given row (Some next) h s.taken;
}

-- a row that is refused
pub row-refused : {S : Type 0} (line : S → ℕ → List ℕ → Row → Option S) (first so_far left : S) (bytes : List ℕ) (old new : TextState) (n : ℕ) (row : Row) (e : Refusal)
    → Stands line first bytes old n so_far → Next old row new → new.options ≡ old.options → new.columns ≡ old.columns → Fails e (with_row line so_far n row) → LeavesAll (Err (fault_at e n)) left (with_file line first bytes)
row-refused line first so_far left bytes old new n row Memory s gives options columns h = tt
row-refused line first so_far left bytes old new n row Wrong s gives options columns h =
    let all = (gives bytes s.given s.read).in_all in
    let file : text_file_reading default_options None bytes ≡ after_rows (s.given ++ row ∷ []) (text_last new) = as-read new.options new.columns bytes (options ∙ s.usual) (columns ∙ s.wide) ∙ all in
    ap (λ (r : RowsRead TextFault). with_rows line first 1 r.rows r.ending) file
    ∙ with_next line first so_far n s.given row None h s.taken (text_last new).rows (text_last new).ending

good : {S : Type 0} (line : S → ℕ → List ℕ → Row → Option S) (so_far : S) (n : ℕ) (ending : RowsEnding TextFault) → IsGood ending → with_rows line so_far n [] ending ≡ Ok so_far
unfolding with_rows
good line so_far n (Open bytes) h = refl
good line so_far n Done h = refl
good line so_far n Ended h = refl
good line so_far n (Bad fault) h = absurd h

bad : {S : Type 0} (line : S → ℕ → List ℕ → Row → Option S) (so_far : S) (n : ℕ) (fault : TextFault) → with_rows line so_far n [] (Bad fault) ≡ Err n
unfolding with_rows
bad line so_far n fault = refl

at_last : {S : Type 0} (line : S → ℕ → List ℕ → Row → Option S) (first so_far : S) (bytes : List ℕ) (given : List Row) (n : ℕ) (o : Options) (columns : Option ℕ) (ending : RowsEnding TextFault) → o ≡ default_options → columns ≡ None
    → text_file_reading o columns bytes ≡ record { rows = given; ending = ending } → with_rows line first 1 (given ++ []) ending ≡ with_rows line so_far n [] ending
    → with_file line first bytes ≡ with_rows line so_far n [] ending
at_last line first so_far bytes given n o columns ending usual wide file taken =
    ap (λ (r : RowsRead TextFault). with_rows line first 1 r.rows r.ending) (as-read o columns bytes usual wide ∙ file)
    ∙ ap (λ (rows : List Row). with_rows line first 1 rows ending) (sym (append-nil given))
    ∙ taken

-- what a reader answers that gives no row
abbrev pub Answered : TextState → Result (Option Row) TextFault → TextState → Type 0
Answered old result new = (pushed : List ℕ) (given : List Row) → HasReadText old pushed given → AnswersNext text_fault.Memory (text_file_reading new.options new.columns pushed) given (last_text_ending new.stage) result

pub file-taken : {S : Type 0} (line : S → ℕ → List ℕ → Row → Option S) (first so_far : S) (bytes : List ℕ) (old new : TextState) (n : ℕ)
    → Stands line first bytes old n so_far → Answered old (Ok None) new → new.options ≡ old.options → new.columns ≡ old.columns → with_file line first bytes ≡ Ok so_far
file-taken line first so_far bytes old new n s gives options columns =
    let g = gives bytes s.given s.read in
    at_last line first so_far bytes s.given n new.options new.columns (last_text_ending new.stage) (options ∙ s.usual) (columns ∙ s.wide) g.1 (s.taken [] (last_text_ending new.stage))
    ∙ good line so_far n (last_text_ending new.stage) g.0

fault_taken : {S : Type 0} (line : S → ℕ → List ℕ → Row → Option S) (first so_far left : S) (bytes : List ℕ) (old new : TextState) (n : ℕ) (fault : TextFault)
    → (fault ≡ text_fault.Memory → ⊥) → new.options ≡ old.options → new.columns ≡ old.columns
    → (s : Stands line first bytes old n so_far) → ((fault ≡ text_fault.Memory) ⊎ ((last_text_ending new.stage ≡ Bad fault) × (text_file_reading new.options new.columns bytes ≡ record { rows = s.given; ending = Bad fault }))) → with_file line first bytes ≡ Err n
fault_taken line first so_far left bytes old new n fault h options columns s (inl m) = absurd (h m)
fault_taken line first so_far left bytes old new n fault h options columns s (inr g) =
    at_last line first so_far bytes s.given n new.options new.columns (Bad fault) (options ∙ s.usual) (columns ∙ s.wide) g.1 (s.taken [] (Bad fault)) ∙ bad line so_far n fault

-- a fault stands in the place of a row
pub file-faulty : {S : Type 0} (line : S → ℕ → List ℕ → Row → Option S) (first so_far left : S) (bytes : List ℕ) (old new : TextState) (n : ℕ) (fault : TextFault)
    → Stands line first bytes old n so_far → Answered old (Err fault) new → new.options ≡ old.options → new.columns ≡ old.columns → LeavesAll (Err (text_fault_at fault n)) left (with_file line first bytes)
file-faulty line first so_far left bytes old new n text_fault.Memory s gives options columns = tt
file-faulty line first so_far left bytes old new n text_fault.RawReturn s gives options columns = fault_taken line first so_far left bytes old new n text_fault.RawReturn (λ e. cc) options columns s (gives bytes s.given s.read)
file-faulty line first so_far left bytes old new n text_fault.RawNewline s gives options columns = fault_taken line first so_far left bytes old new n text_fault.RawNewline (λ e. cc) options columns s (gives bytes s.given s.read)
file-faulty line first so_far left bytes old new n text_fault.LoneBackslash s gives options columns = fault_taken line first so_far left bytes old new n text_fault.LoneBackslash (λ e. cc) options columns s (gives bytes s.given s.read)
file-faulty line first so_far left bytes old new n (text_fault.Columns k) s gives options columns = fault_taken line first so_far left bytes old new n (text_fault.Columns k) (λ e. cc) options columns s (gives bytes s.given s.read)

-- a file hasn't so many rows
pub row-few : {S : Type 0} (line : S → ℕ → List ℕ → Row → Option S) (first so_far : S) (bytes : List ℕ) (reader : TextState) (n : ℕ) → Stands line first bytes reader n so_far → n ≤ length bytes + 3
row-few line first so_far bytes reader n s =
    let file : text_file_reading default_options None bytes ≡ after_rows s.given (text_last reader) = as-read reader.options reader.columns bytes s.usual s.wide ∙ s.read.in_all in
    let few = rows_few default_options None bytes in
    let all : length (text_file_reading default_options None bytes).rows ≡ length (s.given ++ (text_last reader).rows) = ap (λ (r : RowsRead TextFault). length r.rows) file in
    let both = length-append s.given (text_last reader).rows in
    let e = s.counted in
    omega arith

-- ---- a file of no bytes wants no memory

row-bytes : (bytes : List ℕ) (file : RowsRead TextFault) → text_file_reading default_options None bytes ≡ file → 0 < length file.rows → 0 < length bytes
unfolding last_after
row-bytes [] file e lt = absurd (let none : length file.rows ≡ 0 = ap (λ (r : RowsRead TextFault). length r.rows) (sym e) in omega arith)
row-bytes (b ∷ bs) file e lt = omega arith

file_bytes : (bytes : List ℕ) (reader : TextState) (given : List Row) → HasReadText reader bytes given → reader.options ≡ default_options → reader.columns ≡ None → 0 < length (given ++ (text_last reader).rows) → 0 < length bytes
file_bytes bytes reader given read usual wide lt =
    row-bytes bytes (after_rows given (text_last reader)) (as-read reader.options reader.columns bytes usual wide ∙ read.in_all) lt

-- a row was there
pub row-wants : {S : Type 0} (line : S → ℕ → List ℕ → Row → Option S) (first so_far : S) (bytes : List ℕ) (old new : TextState) (n : ℕ) (row : Row)
    → Stands line first bytes old n so_far → Next old row new → new.options ≡ old.options → new.columns ≡ old.columns → 0 < length bytes
row-wants line first so_far bytes old new n row s gives options columns =
    file_bytes bytes new (s.given ++ row ∷ []) (gives bytes s.given s.read) (options ∙ s.usual) (columns ∙ s.wide)
    (let a = length-append (s.given ++ row ∷ []) (text_last new).rows in let b = length-append s.given (row ∷ []) in omega arith)

-- a row waits
pub waiting-wants : {S : Type 0} (line : S → ℕ → List ℕ → Row → Option S) (first so_far : S) (bytes : List ℕ) (old : TextState) (n : ℕ)
    → Stands line first bytes old n so_far → 0 < length (text_last old).rows → 0 < length bytes
waiting-wants line first so_far bytes old n s lt =
    file_bytes bytes old s.given s.read s.usual s.wide (let a = length-append s.given (text_last old).rows in omega arith)

pub text-memory : (fault : TextFault) (n : ℕ) → text_fault_at fault n ≡ line_fault.Memory → fault ≡ text_fault.Memory
text-memory text_fault.Memory n e = refl
text-memory text_fault.RawReturn n e = cc
text-memory text_fault.RawNewline n e = cc
text-memory text_fault.LoneBackslash n e = cc
text-memory (text_fault.Columns k) n e = cc
