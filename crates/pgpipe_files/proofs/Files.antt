-- The first file of calls, and what stands in its place.
use Rattle.std.proofs.Common.{◌≡◌, ℕ, ◌+◌, ◌<◌, ◌≤◌, zero, suc, List, [], ◌∷◌, ◌++◌, take, drop, length, min, Option, Some, None, IsSome, slice_get, refl, ap, ◌∙◌, append_assoc, arith}
use Rattle.std.specs.List.{splice}
use Rattle.std.proofs.lemmas.List.{length-drop}
use Rattle.pgpipe_files.proofs.Lists.{take-least}
use Rattle.pgpipe_files.specs.declared.calls_file.CallLine.{CallLine}
use Rattle.pgpipe_files.specs.declared.calls_file.CallLine.TheVariants as line
use Rattle.pgpipe_files.specs.Filling.{chunk_line, chunk_lines, chunk_size, files, next_file, with_chunks}
use Rattle.pgpipe_files.specs.Private.Files.{file_place, path_of}

-- the path in a place
abbrev pub path_in : Option CallLine → Option (List ℕ)
path_in None = None
path_in (Some l) = path_of l

pub path_at : (lines : List CallLine) → next_file lines ≡ path_in (slice_get lines (file_place lines))
path_at [] = refl
path_at (line.File path ∷ lines) = refl
path_at (line.Event e ∷ lines) = path_at lines
path_at (line.Flow ∷ lines) = path_at lines

-- what stands in the place of the first file
pub put_in : (bytes : List ℕ) (lines : List CallLine) (n : ℕ) → n ≡ file_place lines + 1 → IsSome (next_file lines) → splice lines (file_place lines) n (chunk_lines (length bytes) bytes) ≡ with_chunks bytes lines
put_in bytes [] n e h = absurd (grind arith)
put_in bytes (line.File path ∷ lines) n e h = ap (λ (k : ℕ). chunk_lines (length bytes) bytes ++ drop k (line.File path ∷ lines)) e
put_in bytes (line.Event event ∷ lines) zero e h = absurd (omega arith)
put_in bytes (line.Event event ∷ lines) (suc n) e h = ap (λ (ls : List CallLine). line.Event event ∷ ls) (put_in bytes lines n (omega arith) h)
put_in bytes (line.Flow ∷ lines) zero e h = absurd (omega arith)
put_in bytes (line.Flow ∷ lines) (suc n) e h = ap (λ (ls : List CallLine). line.Flow ∷ ls) (put_in bytes lines n (omega arith) h)

-- a file stands in its place
pub has_place : (lines : List CallLine) → IsSome (next_file lines) → file_place lines < length lines
has_place [] h = absurd (grind arith)
has_place (line.File path ∷ lines) h = omega arith
has_place (line.Event e ∷ lines) h = let lt = has_place lines h in omega arith
has_place (line.Flow ∷ lines) h = let lt = has_place lines h in omega arith

-- ---- chunks

enough : (n m : ℕ) (bytes : List ℕ) → length bytes ≤ n → length bytes ≤ m → chunk_lines n bytes ≡ chunk_lines m bytes
enough zero zero bytes le le' = refl
enough zero (suc m) [] le le' = refl
enough zero (suc m) (x ∷ xs) le le' = absurd (omega arith)
enough (suc n) zero [] le le' = refl
enough (suc n) zero (x ∷ xs) le le' = absurd (omega arith)
enough (suc n) (suc m) [] le le' = refl
enough (suc n) (suc m) (x ∷ xs) le le' =
    let less : length (drop chunk_size (x ∷ xs)) ≤ length xs = omega (arith, length-drop chunk_size (x ∷ xs)) in
    ap (λ (lines : List CallLine). chunk_line (take chunk_size (x ∷ xs)) ∷ lines) (enough n m (drop chunk_size (x ∷ xs)) (omega arith) (omega arith))

-- one more chunk
pub chunk_more : (before new total : List CallLine) (m : ℕ) (rest now later : List ℕ) → 0 < length rest → m ≡ min (length rest) chunk_size → now ≡ take m rest → later ≡ drop m rest
    → new ≡ before ++ chunk_line now ∷ [] → before ++ chunk_lines (length rest) rest ≡ total → new ++ chunk_lines (length later) later ≡ total
chunk_more before new total m [] now later lt e f g h i = absurd (omega arith)
chunk_more before new total m (x ∷ xs) now later lt e f g h i =
    let t = take-least chunk_size m (x ∷ xs) e in
    let now_is : now ≡ take chunk_size (x ∷ xs) = f ∙ t.0 in
    let later_is : later ≡ drop chunk_size (x ∷ xs) = g ∙ t.1 in
    let less : length (drop chunk_size (x ∷ xs)) ≤ length xs = omega (arith, length-drop chunk_size (x ∷ xs)) in
    ap (λ (l : List ℕ). new ++ chunk_lines (length l) l) later_is
    ∙ ap (λ (lines : List CallLine). new ++ lines) (enough (length (drop chunk_size (x ∷ xs))) (length xs) (drop chunk_size (x ∷ xs)) (omega arith) less)
    ∙ ap (λ (lines : List CallLine). lines ++ chunk_lines (length xs) (drop chunk_size (x ∷ xs))) (h ∙ ap (λ (l : List ℕ). before ++ chunk_line l ∷ []) now_is)
    ∙ append_assoc before (chunk_line (take chunk_size (x ∷ xs)) ∷ []) (chunk_lines (length xs) (drop chunk_size (x ∷ xs)))
    ∙ i

-- ---- how many files are left

none_in : (n : ℕ) (bytes : List ℕ) (lines : List CallLine) → files (chunk_lines n bytes ++ lines) ≡ files lines
none_in zero bytes lines = refl
none_in (suc n) [] lines = refl
none_in (suc n) (b ∷ bs) lines = none_in n (drop chunk_size (b ∷ bs)) lines

pub one_fewer : (bytes : List ℕ) (lines : List CallLine) → IsSome (next_file lines) → files (with_chunks bytes lines) + 1 ≡ files lines
one_fewer bytes [] h = absurd (grind arith)
one_fewer bytes (line.File path ∷ lines) h = let e = none_in (length bytes) bytes lines in omega (arith, e)
one_fewer bytes (line.Event event ∷ lines) h = one_fewer bytes lines h
one_fewer bytes (line.Flow ∷ lines) h = one_fewer bytes lines h
