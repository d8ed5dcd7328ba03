-- Where a reader of binary files tells that the next row begins.
use Rattle.std.proofs.Common.{◌≡◌, ℕ, ◌+◌, ◌-◌, ◌<◌, Bool, true, false, cond, ltb, List, [], ◌∷◌, ◌++◌, length, drop, Option, Some, None, Result, Ok, Err, refl, sym, ap, subst, ◌∙◌, append_assoc, arith}
use Rattle.std.specs.List.{flat_map}
use Rattle.std.proofs.lemmas.List.{append-nil, length-append}
use Rattle.std.proofs.lemmas.Grind.{flat_map-append}
use Rattle.pg_copy_rows.specs.declared.fault.BinaryFault.{BinaryFault}
use Rattle.pg_copy_binary.specs.declared.binary_reader.BinaryStage.{BinaryStage}
use Rattle.pg_copy_binary.specs.declared.binary_reader.BinaryStage.TheVariants.{Head, Extension, Rows, Closed, Failed}
use Rattle.pg_copy_rows.specs.Row.{Row}
use Rattle.pg_copy_binary.specs.Binary.{binary_row}
use Rattle.pg_copy_binary.specs.BinaryPart.{NoPart, ◌>>=◌, fixed_at, head_at}
use Rattle.pg_copy_binary.specs.BinaryReader.{rows_begin, rows_size, EndsAt, IsPlaced, kept_of, stage_after}
use Rattle.pg_copy_rows.specs.Reading.{told}
use Rattle.pg_copy_binary.specs.Private.BinaryPart.{body_at, part_at, row_offset, offset_after}
use Rattle.pg_copy_rows.proofs.Numbers.{told-small, told-add}
use Rattle.pg_copy_binary.proofs.BinaryReads.{Grows, fixed_grows}
use Rattle.pg_copy_binary.proofs.BinaryHeads.{fixed-low, head-of-fixed}

-- ---- after a head

first-row : (n : ℕ) → n < 2147483648 → 19 + n ≡ told (19 + n + 0)
first-row n lt = let same : 19 + n + 0 ≡ 19 + n = omega arith in sym (ap told same ∙ told-small (19 + n) (omega arith))

-- a reader that has read the first 19 bytes of a head tells where the rows begin
pub begins : (kept pushed : List ℕ) (given : List Row) (n : ℕ × List ℕ) → fixed_at kept ≡ Ok n → kept ≡ pushed → given ≡ [] → EndsAt (19 + n.0) pushed given
begins kept pushed given n e same none =
    (n, ap fixed_at (sym same) ∙ e, first-row n.0 (fixed-low kept n e) ∙ ap (λ (rows : List Row). told (19 + n.0 + rows_size rows)) (sym none))

fixed-of-head : (kept : List ℕ) (h : List ℕ × List ℕ) → head_at kept ≡ Ok h → (n : ℕ × List ℕ) × (fixed_at kept ≡ Ok n)
fixed-of-head kept h e = go (fixed_at kept) refl
  where
    go : (r : Result (ℕ × List ℕ) NoPart) → fixed_at kept ≡ r → (n : ℕ × List ℕ) × (fixed_at kept ≡ Ok n)
    go (Ok n) f = (n, f)
    go (Err stop) f = absurd (clash (sym (head-of-fixed kept (Err stop) f) ∙ e))
      where
        clash : {t : NoPart} → ◌≡◌ {A = Result (List ℕ × List ℕ) NoPart} (Err t) (Ok h) → ⊥
        clash g = cc

pub begins-head : (offset : ℕ) (kept pushed : List ℕ) (given : List Row) (h : List ℕ × List ℕ) → head_at kept ≡ Ok h → kept ≡ pushed → given ≡ [] → EndsAt (rows_begin offset (fixed_at kept)) pushed given
begins-head offset kept pushed given h e same none =
    let n = fixed-of-head kept h e in
    rw n.1 (begins kept pushed given n.0 n.1 same none)

pub ends-none : (offset : ℕ) (pushed : List ℕ) (given : List Row) → EndsAt offset pushed given → EndsAt offset pushed (given ++ [])
ends-none offset pushed given h = subst (λ (rows : List Row). EndsAt offset pushed rows) (sym (append-nil given)) h

-- ---- rows that are given

pub ends-rows : (offset : ℕ) (rows : List Row) (pushed : List ℕ) (given : List Row) → EndsAt offset pushed given → EndsAt (offset_after offset rows) pushed (given ++ rows)
ends-rows offset [] pushed given h = ends-none offset pushed given h
ends-rows offset (row ∷ rows) pushed given h =
    let n = h.0 in
    let size : rows_size (given ++ row ∷ []) ≡ rows_size given + length (binary_row row) =
    ap length (flat_map-append binary_row given (row ∷ [])) ∙ length-append (flat_map binary_row given) (flat_map binary_row (row ∷ [])) ∙ ap (λ (x : List ℕ). rows_size given + length x) (append-nil (binary_row row)) in
    let place : 19 + n.0 + rows_size given + length (binary_row row) ≡ 19 + n.0 + rows_size (given ++ row ∷ []) = omega (arith, size) in
    let one : EndsAt (told (offset + length (binary_row row))) pushed (given ++ row ∷ []) =
    (n, h.1, ap (λ (k : ℕ). told (k + length (binary_row row))) h.2 ∙ told-add (19 + n.0 + rows_size given) (length (binary_row row)) ∙ ap told place) in
    subst (λ (all : List Row). EndsAt (offset_after offset (row ∷ rows)) pushed all) (append_assoc given (row ∷ []) rows) (ends-rows (told (offset + length (binary_row row))) rows pushed (given ++ row ∷ []) one)

-- where the row begins that was read
pub at-part : (stage : BinaryStage) (columns limit : ℕ) (kept : List ℕ) (offset : ℕ) (pushed : List ℕ) (given : List Row) (x : (Option Row × BinaryStage) × List ℕ) → part_at stage columns limit kept ≡ Ok x → IsPlaced stage kept offset pushed given → EndsAt (row_offset stage kept offset) pushed given
unfolding part_at
at-part Head columns limit kept offset pushed given x e p = go (head_at kept) refl
  where
    go : (r : Result (List ℕ × List ℕ) NoPart) → head_at kept ≡ r → EndsAt (rows_begin offset (fixed_at kept)) pushed given
    go (Ok h) f = begins-head offset kept pushed given h f p.0 p.1
    go (Err stop) f = absurd (clash (sym (ap (λ r. r >>= λ h. body_at columns limit h.1) f) ∙ e))
      where
        clash : {t : NoPart} → ◌≡◌ {A = Result ((Option Row × BinaryStage) × List ℕ) NoPart} (Err t) (Ok x) → ⊥
        clash g = cc
at-part (Extension n) columns limit kept offset pushed given x e p = p
at-part Rows columns limit kept offset pushed given x e p = p
at-part Closed columns limit kept offset pushed given x e p = p
at-part (Failed fault) columns limit kept offset pushed given x e p = absurd cc

-- a row, or the trailer, is taken
pub placed-taken : (o : Option Row) (stage : BinaryStage) (kept : List ℕ) (offset : ℕ) (pushed : List ℕ) (given : List Row) → ((row : Row) → o ≡ Some row → stage ≡ Rows) → (o ≡ None → stage ≡ Closed) → EndsAt offset pushed given → IsPlaced stage kept offset pushed given
placed-taken None stage kept offset pushed given rows closed h = subst (λ (t : BinaryStage). IsPlaced t kept offset pushed given) (sym (closed refl)) h
placed-taken (Some row) stage kept offset pushed given rows closed h = subst (λ (t : BinaryStage). IsPlaced t kept offset pushed given) (sym (rows row refl)) h

-- ---- a fault

placed-head : (offset : ℕ) (r : Result (ℕ × List ℕ) NoPart) → ((n : ℕ × List ℕ) → r ≡ Ok n → n.0 < 2147483648) → offset ≡ 0 → rows_begin offset r ≡ told (rows_begin 0 r + 0)
placed-head offset (Ok n) low e = first-row n.0 (low n refl)
placed-head offset (Err stop) low e = e

pub fails-at : (stage : BinaryStage) (kept : List ℕ) (offset : ℕ) (pushed : List ℕ) (given : List Row) → IsPlaced stage kept offset pushed given → row_offset stage kept offset ≡ told (rows_begin 0 (fixed_at pushed) + rows_size given)
fails-at Head kept offset pushed given p =
    placed-head offset (fixed_at kept) (λ n e. fixed-low kept n e) p.2 ∙ ap (λ (x : List ℕ). told (rows_begin 0 (fixed_at x) + 0)) p.0 ∙ ap (λ (rows : List Row). told (rows_begin 0 (fixed_at pushed) + rows_size rows)) (sym p.1)
fails-at (Extension n) kept offset pushed given p = rw p.1 p.2
fails-at Rows kept offset pushed given p = rw p.1 p.2
fails-at Closed kept offset pushed given p = rw p.1 p.2
fails-at (Failed fault) kept offset pushed given p = p

-- ---- a piece more

pub ends-more : (offset : ℕ) (pushed piece : List ℕ) (given : List Row) → EndsAt offset pushed given → EndsAt offset (pushed ++ piece) given
ends-more offset pushed piece given h =
    ((h.0.0, h.0.1 ++ piece), subst (λ t. Grows t (fixed_at (pushed ++ piece)) piece) h.1 (fixed_grows pushed piece), h.2)

pub placed-more : (stage : BinaryStage) (kept : List ℕ) (offset : ℕ) (pushed piece : List ℕ) (given : List Row) → ((fault : BinaryFault) → stage ≡ Failed fault → ⊥) → IsPlaced stage kept offset pushed given → IsPlaced (stage_after stage piece) (kept ++ kept_of stage piece) offset (pushed ++ piece) given
placed-more Head kept offset pushed piece given alive p = (ap (λ (x : List ℕ). x ++ piece) p.0, p.1, p.2)
placed-more (Extension n) kept offset pushed piece given alive p = by_end (ltb (length piece) n) (ends-more offset pushed piece given p)
  where
    by_end : (t : Bool) → EndsAt offset (pushed ++ piece) given → IsPlaced (cond t (Extension (n - length piece)) Rows) (kept ++ drop n piece) offset (pushed ++ piece) given
    by_end true h = h
    by_end false h = h
placed-more Rows kept offset pushed piece given alive p = ends-more offset pushed piece given p
placed-more Closed kept offset pushed [] given alive p = ends-more offset pushed [] given p
placed-more Closed kept offset pushed (b ∷ bs) given alive p = fails-at Rows kept offset (pushed ++ b ∷ bs) given (ends-more offset pushed (b ∷ bs) given p)
placed-more (Failed fault) kept offset pushed piece given alive p = absurd (alive fault refl)
