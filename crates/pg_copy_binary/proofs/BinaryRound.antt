-- What is written in binary is read as what was meant.
use Rattle.std.proofs.Common.{◌≡◌, ℕ, suc, ◌^◌, ◌<◌, ◌≤◌, true, false, eqb, ltb, leb, List, [], ◌∷◌, ◌++◌, length, Option, Some, None, Ok, refl, sym, ap, ◌∙◌, append_assoc, arith, lit<}
use Rattle.std.specs.List.{flat_map, AllByRecursion}
use Rattle.std.specs.Int.{Width, w16, w32, byte_len, from_be_bytes, to_be_bytes}
use Rattle.std.specs.Str.{bytes_eq}
use Rattle.std.proofs.lemmas.Bool.{ne_eqb, eq-eqb, lt-ltb, le-ltb, le-leb}
use Rattle.std.proofs.lemmas.List.{take_at, drop_at, length-append}
use Rattle.std.proofs.lemmas.Nat.{from_be_bytes-to_be_bytes_2, from_be_bytes-to_be_bytes_4}
use Rattle.pg_copy_rows.specs.Row.{Row}
use Rattle.pg_copy_rows.specs.Reading.{Done, after_rows}
use Rattle.pg_copy_binary.specs.Binary.{signature, open_head, value, binary_row, trailer, IsHead, FitsValue, FitsBinary}
use Rattle.pg_copy_binary.specs.BinaryPart.{number_at, bytes_at, signature_at, flags_at, extension_at, fixed_at, head_at, value_at, values_at, row_at, part_reading, body_reading, head_reading, binary_reading, binary_at_end, binary_file_reading}
use Rattle.pg_copy_rows.proofs.Readings.{after-none}
use Rattle.pg_copy_binary.proofs.BinaryReads.{body-step}

-- ---- numbers and bytes

-- numbers of a width that are written and read
pub record IsWide (w : Width) (bound : ℕ) : Type 0 where
  pub len : (n : ℕ) → length (to_be_bytes w n) ≡ byte_len w
  pub again : (n : ℕ) → n < bound → from_be_bytes w (to_be_bytes w n) ≡ n

pub wide16 : IsWide w16 (2 ^ 16)
wide16 = record { len = λ n. refl; again = λ n lt. from_be_bytes-to_be_bytes_2 n lt }

pub wide32 : IsWide w32 (2 ^ 32)
wide32 = record { len = λ n. refl; again = λ n lt. from_be_bytes-to_be_bytes_4 n lt }

pub number-again : (w : Width) (bound n : ℕ) (rest : List ℕ) → IsWide w bound → n < bound → number_at w (to_be_bytes w n ++ rest) ≡ Ok (n, rest)
number-again w bound n rest wide lt =
    let len = wide.len n in
    let long : ltb (length (to_be_bytes w n ++ rest)) (byte_len w) ≡ false = le-ltb _ _ (omega (arith, length-append (to_be_bytes w n) rest)) in
    rw (long, take_at (to_be_bytes w n) rest (byte_len w) len, drop_at (to_be_bytes w n) rest (byte_len w) len, wide.again n lt) refl

pub bytes-again : (bytes rest : List ℕ) (n : ℕ) → length bytes ≡ n → bytes_at n (bytes ++ rest) ≡ Ok (bytes, rest)
bytes-again bytes rest n len =
    let long : ltb (length (bytes ++ rest)) n ≡ false = le-ltb _ _ (omega (arith, length-append bytes rest)) in
    rw (long, take_at bytes rest n len, drop_at bytes rest n len) refl

-- ---- values and rows

pub value-again : (limit : ℕ) (v : Option (List ℕ)) (rest : List ℕ) → limit ≤ 2147483647 → FitsValue limit v → value_at limit (value v ++ rest) ≡ Ok (v, rest)
unfolding value_at
value-again limit None rest le fits = rw (number-again w32 (2 ^ 32) 4294967295 rest wide32 (lit< tt)) refl
value-again limit (Some bytes) rest le fits =
    let e = number-again w32 (2 ^ 32) (length bytes) (bytes ++ rest) wide32 (omega arith) in
    let not_null : eqb (length bytes) 4294967295 ≡ false = ne_eqb _ _ (λ same. absurd (omega arith)) in
    let within : leb (length bytes) limit ≡ true = le-leb (length bytes) limit fits in
    ap (value_at limit) (append_assoc (to_be_bytes w32 (length bytes)) bytes rest) ∙ rw (e, not_null, within, bytes-again bytes rest (length bytes) refl) refl

pub values-again : (limit : ℕ) (vs : Row) (rest : List ℕ) → limit ≤ 2147483647 → AllByRecursion (FitsValue limit) vs → values_at limit (length vs) (flat_map value vs ++ rest) ≡ Ok (vs, rest)
unfolding values_at
values-again limit [] rest le fits = refl
values-again limit (v ∷ vs) rest le fits =
    let e = value-again limit v (flat_map value vs ++ rest) le fits.0 in
    ap (values_at limit (suc (length vs))) (append_assoc (value v) (flat_map value vs) rest) ∙ rw (e, values-again limit vs rest le fits.1) refl

pub row-again : (columns limit : ℕ) (row : Row) (rest : List ℕ) → columns ≤ 32767 → limit ≤ 2147483647 → FitsBinary columns limit row → row_at columns limit (binary_row row ++ rest) ≡ Ok (Some row, rest)
unfolding row_at
row-again columns limit row rest few le fits =
    let e = number-again w16 (2 ^ 16) (length row) (flat_map value row ++ rest) wide16 (omega (arith, fits.width)) in
    let no_trailer : eqb (length row) 65535 ≡ false = ne_eqb _ _ (λ same. absurd (omega (arith, fits.width))) in
    let same : eqb (length row) columns ≡ true = eq-eqb _ _ fits.width in
    let values : values_at limit columns (flat_map value row ++ rest) ≡ Ok (row, rest) = ap (λ (n : ℕ). values_at limit n (flat_map value row ++ rest)) (sym fits.width) ∙ values-again limit row rest le fits.each in
    ap (row_at columns limit) (append_assoc (to_be_bytes w16 (length row)) (flat_map value row) rest) ∙ rw (e, no_trailer, same, values) refl

-- ---- heads

bytes_same : (xs : List ℕ) → bytes_eq xs xs ≡ true
bytes_same [] = refl
bytes_same (x ∷ xs) = rw (eq-eqb x x refl) (bytes_same xs)

pub head-again : (h rest : List ℕ) → IsHead h → (extension : List ℕ) × (head_at (h ++ rest) ≡ Ok (extension, rest))
unfolding head_at fixed_at signature_at flags_at extension_at
head-again h rest is =
    let flags = is.0 in
    let extension = is.1 in
    let after : List ℕ = to_be_bytes w32 flags ++ (to_be_bytes w32 (length extension) ++ (extension ++ rest)) in
    let parted : h ++ rest ≡ signature ++ after = ap (λ (x : List ℕ). x ++ rest) is.4 ∙ append_assoc (signature ++ to_be_bytes w32 flags ++ to_be_bytes w32 (length extension)) extension rest ∙ append_assoc (signature ++ to_be_bytes w32 flags) (to_be_bytes w32 (length extension)) (extension ++ rest) ∙ append_assoc signature (to_be_bytes w32 flags) (to_be_bytes w32 (length extension) ++ (extension ++ rest)) in
    let s : bytes_at 11 (signature ++ after) ≡ Ok (signature, after) = bytes-again signature after 11 refl in
    let f : number_at w32 after ≡ Ok (flags, to_be_bytes w32 (length extension) ++ (extension ++ rest)) = number-again w32 (2 ^ 32) flags (to_be_bytes w32 (length extension) ++ (extension ++ rest)) wide32 (omega (arith, is.2)) in
    let low : ltb flags 65536 ≡ true = lt-ltb flags 65536 is.2 in
    let n : number_at w32 (to_be_bytes w32 (length extension) ++ (extension ++ rest)) ≡ Ok (length extension, extension ++ rest) = number-again w32 (2 ^ 32) (length extension) (extension ++ rest) wide32 (omega (arith, is.3)) in
    let short : ltb (length extension) 2147483648 ≡ true = lt-ltb (length extension) 2147483648 (omega (arith, is.3)) in
    (extension, ap head_at parted ∙ rw (s, f, low, n, short, bytes-again extension rest (length extension) refl) refl)

-- ---- files

pub body-row : (columns limit : ℕ) (row : Row) (rest : List ℕ) → columns ≤ 32767 → limit ≤ 2147483647 → FitsBinary columns limit row → body_reading columns limit (binary_row row ++ rest) ≡ after_rows (row ∷ []) (body_reading columns limit rest)
body-row columns limit row rest few le fits =
    body-step columns limit (binary_row row ++ rest) ∙ ap (λ r. part_reading (binary_row row ++ rest) r (body_reading columns limit)) (row-again columns limit row rest few le fits)

pub body-rows : (columns limit : ℕ) (rows : List Row) (rest : List ℕ) → columns ≤ 32767 → limit ≤ 2147483647 → AllByRecursion (FitsBinary columns limit) rows → body_reading columns limit (flat_map binary_row rows ++ rest) ≡ after_rows rows (body_reading columns limit rest)
body-rows columns limit [] rest few le fits = refl
body-rows columns limit (row ∷ rows) rest few le fits =
    ap (body_reading columns limit) (append_assoc (binary_row row) (flat_map binary_row rows) rest) ∙ body-row columns limit row (flat_map binary_row rows ++ rest) few le fits.0 ∙ ap (after_rows (row ∷ [])) (body-rows columns limit rows rest few le fits.1)

pub after-head : (columns limit : ℕ) (h rest : List ℕ) → IsHead h → binary_reading columns limit (h ++ rest) ≡ body_reading columns limit rest
unfolding binary_reading
after-head columns limit h rest is =
    let e = head-again h rest is in
    ap (λ r. head_reading (open_head (h ++ rest)) r (body_reading columns limit)) e.1

pub rows-trip : (columns limit : ℕ) (h : List ℕ) (rows : List Row) (rest : List ℕ) → columns ≤ 32767 → limit ≤ 2147483647 → IsHead h → AllByRecursion (FitsBinary columns limit) rows
    → binary_reading columns limit (h ++ flat_map binary_row rows ++ rest) ≡ after_rows rows (body_reading columns limit rest)
rows-trip columns limit h rows rest few le is fits =
    ap (binary_reading columns limit) (append_assoc h (flat_map binary_row rows) rest) ∙ after-head columns limit h (flat_map binary_row rows ++ rest) is ∙ body-rows columns limit rows rest few le fits

row-trailer : (columns limit : ℕ) → row_at columns limit trailer ≡ Ok (None, [])
unfolding row_at
row-trailer columns limit = refl

pub body-trailer : (columns limit : ℕ) → body_reading columns limit trailer ≡ record { rows = []; ending = Done }
body-trailer columns limit = body-step columns limit trailer ∙ ap (λ r. part_reading trailer r (body_reading columns limit)) (row-trailer columns limit)

pub file-trip : (columns limit : ℕ) (h : List ℕ) (rows : List Row) → columns ≤ 32767 → limit ≤ 2147483647 → IsHead h → AllByRecursion (FitsBinary columns limit) rows
    → binary_file_reading columns limit (h ++ flat_map binary_row rows ++ trailer) ≡ record { rows = rows; ending = Done }
file-trip columns limit h rows few le is fits =
    ap binary_at_end (rows-trip columns limit h rows trailer few le is fits ∙ ap (after_rows rows) (body-trailer columns limit) ∙ after-none rows Done)
