-- The head of a binary file but for its extension, and an extension that is dropped as it comes.
use Rattle.std.proofs.Common.{◌≡◌, ℕ, ◌+◌, ◌-◌, ◌<◌, ◌≤◌, Bool, true, false, cond, ltb, List, [], ◌++◌, length, drop, take, Result, Ok, Err, refl, sym, ap, subst, ◌∙◌, arith, inl, inr}
use Rattle.std.specs.Int.{Width, w32, byte_len, cast_signed}
use Rattle.std.specs.Str.{bytes_eq}
use Rattle.std.proofs.lemmas.List.{drop_at, length-append, length-drop, drop-drop}
use Rattle.std.proofs.lemmas.Bool.{cases_lt, lt-ltb, le-ltb, ltb-true, cond-true, cond-false}
use Rattle.pg_copy_rows.specs.declared.fault.BinaryFault.{BinaryFault}
use Rattle.pg_copy_rows.specs.declared.fault.BinaryFault.TheVariants.{Signature, Flags, Extension}
use Rattle.pg_copy_binary.specs.declared.binary_reader.BinaryStage.TheVariants as stages
use Rattle.pg_copy_rows.specs.Reading.{RowsRead}
use Rattle.pg_copy_binary.specs.Binary.{signature, open_head}
use Rattle.pg_copy_binary.specs.BinaryPart.{NoPart, Incomplete, Faulty, ◌>>=◌, number_at, bytes_at, signature_at, flags_at, extension_at, fixed_at, head_at, head_reading, body_reading, binary_reading}
use Rattle.pg_copy_binary.specs.BinaryReader.{binary_stage_reading}
use Rattle.pg_copy_binary.specs.Private.BinaryPart.{rest_of}
use Rattle.pg_copy_binary.proofs.BinaryReads.{Grows, fixed_grows, bytes_grow}

-- ---- a part of so many bytes, or fewer bytes are there

abbrev pub Needs : {A : Type 0} → ℕ → Result (A × List ℕ) NoPart → List ℕ → Type 0
Needs n (Ok x) bytes = (n ≤ length bytes) × (x.1 ≡ drop n bytes)
Needs n (Err Incomplete) bytes = length bytes < n
Needs n (Err (Faulty fault)) bytes = Unit {0}

needs_then : {A : Type 0} (m n : ℕ) (r : Result (A × List ℕ) NoPart) (mid bytes : List ℕ) → m ≤ length bytes → mid ≡ drop m bytes → Needs n r mid → Needs (m + n) r bytes
needs_then m n (Ok x) mid bytes le e h =
    let len : length mid ≡ length bytes - m = ap length e ∙ length-drop m bytes in
    (omega (arith, h.0, len), h.1 ∙ ap (drop n) e ∙ drop-drop n m bytes)
needs_then m n (Err Incomplete) mid bytes le e h =
    let len : length mid ≡ length bytes - m = ap length e ∙ length-drop m bytes in
    omega (arith, len)
needs_then m n (Err (Faulty fault)) mid bytes le e h = tt

needs_bind : {A B : Type 0} (m n : ℕ) (r : Result (A × List ℕ) NoPart) (bytes : List ℕ) (f : A × List ℕ → Result (B × List ℕ) NoPart) → Needs m r bytes → ((x : A × List ℕ) → Needs n (f x) x.1) → Needs (m + n) (r >>= f) bytes
needs_bind m n (Ok x) bytes f h k = needs_then m n (f x) x.1 bytes h.0 h.1 (k x)
needs_bind m n (Err Incomplete) bytes f h k = omega arith
needs_bind m n (Err (Faulty fault)) bytes f h k = tt

needs_cond : {A : Type 0} (n : ℕ) (t : Bool) (x y : Result (A × List ℕ) NoPart) (bytes : List ℕ) → Needs n x bytes → Needs n y bytes → Needs n (cond t x y) bytes
needs_cond n true x y bytes h k = h
needs_cond n false x y bytes h k = k

needs_none : {A : Type 0} (a : A) (bytes : List ℕ) → Needs 0 (Ok (a, bytes)) bytes
needs_none a bytes = (omega arith, refl)

pub bytes_need : (n : ℕ) (bytes : List ℕ) → Needs n (bytes_at n bytes) bytes
bytes_need n bytes = elim (cases_lt (length bytes) n) [
  | inl lt ↦ rw (lt-ltb (length bytes) n lt) lt
  | inr le ↦ rw (le-ltb (length bytes) n le) (le, refl)
]

pub number_needs : (w : Width) (bytes : List ℕ) → Needs (byte_len w) (number_at w bytes) bytes
number_needs w bytes = elim (cases_lt (length bytes) (byte_len w)) [
  | inl lt ↦ rw (lt-ltb (length bytes) (byte_len w) lt) lt
  | inr le ↦ rw (le-ltb (length bytes) (byte_len w) le) (le, refl)
]

-- the signature has 11 bytes, the flags have 4, and the extension's length has 4
pub fixed_needs : (bytes : List ℕ) → Needs 19 (fixed_at bytes) bytes
unfolding fixed_at signature_at flags_at extension_at
fixed_needs bytes =
    needs_bind 11 8 (signature_at bytes) bytes _ (needs_bind 11 0 (bytes_at 11 bytes) bytes _ (bytes_need 11 bytes) (λ s. needs_cond 0 (bytes_eq s.0 signature) (Ok s) (Err (Faulty Signature)) s.1 (needs_none s.0 s.1) tt)) (λ s.
    needs_bind 4 4 (flags_at s.1) s.1 _ (needs_bind 4 0 (number_at w32 s.1) s.1 _ (number_needs w32 s.1) (λ n. needs_cond 0 (ltb n.0 65536) (Ok n) (Err (Faulty (Flags n.0))) n.1 (needs_none n.0 n.1) tt)) (λ f.
    needs_bind 4 0 (number_at w32 f.1) f.1 _ (number_needs w32 f.1) (λ n. needs_cond 0 (ltb n.0 2147483648) (Ok n) (Err (Faulty (Extension (cast_signed w32 n.0)))) n.1 (needs_none n.0 n.1) tt)))

-- ---- the extension's length isn't negative

abbrev Low : Result (ℕ × List ℕ) NoPart → Type 0
Low (Ok n) = n.0 < 2147483648
Low (Err stop) = Unit {0}

low_bind : {A : Type 0} (r : Result A NoPart) (f : A → Result (ℕ × List ℕ) NoPart) → ((x : A) → Low (f x)) → Low (r >>= f)
low_bind (Ok x) f h = h x
low_bind (Err stop) f h = tt

fixed_low : (bytes : List ℕ) → Low (fixed_at bytes)
unfolding fixed_at extension_at
fixed_low bytes = low_bind (signature_at bytes) _ (λ s. low_bind (flags_at s.1) _ (λ f. low_bind (number_at w32 f.1) _ (λ n. low n (ltb n.0 2147483648) refl)))
  where
    low : (n : ℕ × List ℕ) (t : Bool) → ltb n.0 2147483648 ≡ t → Low (cond t (Ok n) (Err (Faulty (Extension (cast_signed w32 n.0)))))
    low n true e = ltb-true n.0 2147483648 e
    low n false e = tt

pub fixed-low : (bytes : List ℕ) (n : ℕ × List ℕ) → fixed_at bytes ≡ Ok n → n.0 < 2147483648
fixed-low bytes n e = subst (λ r. Low r) e (fixed_low bytes)

-- ---- a head that isn't whole

abbrev pub OpenAt : List ℕ → Result (ℕ × List ℕ) NoPart → Type 0
OpenAt bytes (Ok n) = (19 ≤ length bytes) × (length n.1 < n.0)
OpenAt bytes (Err stop) = length bytes < 19

pub bytes-short : (n : ℕ) (bytes : List ℕ) → bytes_at n bytes ≡ Err Incomplete → length bytes < n
bytes-short n bytes e = elim (cases_lt (length bytes) n) [
  | inl lt ↦ lt
  | inr le ↦ absurd (clash (sym e ∙ cond-false _ _ _ (le-ltb (length bytes) n le)))
]
  where
    clash : {x : List ℕ × List ℕ} → ◌≡◌ {A = Result (List ℕ × List ℕ) NoPart} (Err Incomplete) (Ok x) → ⊥
    clash {x} f = cc

pub head-of-fixed : (bytes : List ℕ) (r : Result (ℕ × List ℕ) NoPart) → fixed_at bytes ≡ r → head_at bytes ≡ (r >>= λ n. bytes_at n.0 n.1)
unfolding head_at
head-of-fixed bytes r e = ap (λ (x : Result (ℕ × List ℕ) NoPart). x >>= λ n. bytes_at n.0 n.1) e

pub head-open : (bytes : List ℕ) (r : Result (ℕ × List ℕ) NoPart) → head_at bytes ≡ Err Incomplete → fixed_at bytes ≡ r → OpenAt bytes r
head-open bytes (Ok n) short e =
    let need : Needs 19 (Ok n) bytes = subst (λ x. Needs 19 x bytes) e (fixed_needs bytes) in
    (need.0, bytes-short n.0 n.1 (sym (head-of-fixed bytes (Ok n) e) ∙ short))
head-open bytes (Err Incomplete) short e = subst (λ x. Needs 19 x bytes) e (fixed_needs bytes)
head-open bytes (Err (Faulty fault)) short e = absurd (clash (sym short ∙ head-of-fixed bytes (Err (Faulty fault)) e))
  where
    clash : ◌≡◌ {A = Result (List ℕ × List ℕ) NoPart} (Err Incomplete) (Err (Faulty fault)) → ⊥
    clash f = cc

pub open-few : (bytes : List ℕ) → length bytes < 19 → open_head bytes ≡ bytes
open-few bytes lt = cond-true _ _ _ (lt-ltb (length bytes) 19 lt)

pub open-many : (bytes : List ℕ) → 19 ≤ length bytes → open_head bytes ≡ []
open-many bytes le = cond-false _ _ _ (le-ltb (length bytes) 19 le)

-- ---- an extension

-- what stands after a head doesn't depend on the bytes of its extension
pub reading-rest : (kept : List ℕ) (r s : Result (List ℕ × List ℕ) NoPart) (next : List ℕ → RowsRead BinaryFault) → rest_of r ≡ rest_of s → head_reading kept r next ≡ head_reading kept s next
reading-rest kept (Ok x) (Ok y) next e = let is : x.1 ≡ y.1 = cc in ap next is
reading-rest kept (Ok x) (Err t) next e = absurd cc
reading-rest kept (Err s) (Ok y) next e = absurd cc
reading-rest kept (Err s) (Err t) next e = let is : s ≡ t = cc in ap (λ (stop : NoPart). head_reading kept (Err stop) next) is

-- where the first bytes were dropped, so many fewer are to come
pub bytes-skip : (n : ℕ) (first more : List ℕ) → length first < n → rest_of (bytes_at n (first ++ more)) ≡ rest_of (bytes_at (n - length first) more)
bytes-skip n first more some = elim (cases_lt (length (first ++ more)) n) [
  | inl lt ↦
      let fewer : length more < n - length first = omega (arith, length-append first more) in
      rw (lt-ltb (length (first ++ more)) n lt, lt-ltb (length more) (n - length first) fewer) refl
  | inr le ↦
      let enough : n - length first ≤ length more = omega (arith, length-append first more) in
      let place : length first + (n - length first) ≡ n = omega arith in
      let rest : drop n (first ++ more) ≡ drop (n - length first) more =
      ap (λ (k : ℕ). drop k (first ++ more)) (sym place) ∙ sym (drop-drop (n - length first) (length first) (first ++ more)) ∙ ap (drop (n - length first)) (drop_at first more (length first) refl) in
      rw (le-ltb (length (first ++ more)) n le, le-ltb (length more) (n - length first) enough) (ap (λ (x : List ℕ). Ok x) rest)
]

-- a head that lacks bytes of its extension alone
pub skip-reads : (columns limit : ℕ) (kept more : List ℕ) (n : ℕ × List ℕ) → fixed_at kept ≡ Ok n → 19 ≤ length kept → length n.1 < n.0
    → binary_reading columns limit (kept ++ more) ≡ binary_stage_reading (stages.Extension (n.0 - length n.1)) columns limit more
unfolding binary_reading
skip-reads columns limit kept more n e many some =
    let longer : fixed_at (kept ++ more) ≡ Ok (n.0, n.1 ++ more) = subst (λ t. Grows t (fixed_at (kept ++ more)) more) e (fixed_grows kept more) in
    let head : head_at (kept ++ more) ≡ bytes_at n.0 (n.1 ++ more) = head-of-fixed (kept ++ more) (Ok (n.0, n.1 ++ more)) longer in
    let none : open_head (kept ++ more) ≡ [] = open-many (kept ++ more) (omega (arith, length-append kept more)) in
    ap (λ (x : List ℕ). head_reading x (head_at (kept ++ more)) (body_reading columns limit)) none
    ∙ ap (λ (r : Result (List ℕ × List ℕ) NoPart). head_reading [] r (body_reading columns limit)) head
    ∙ reading-rest [] (bytes_at n.0 (n.1 ++ more)) (bytes_at (n.0 - length n.1) more) (body_reading columns limit) (bytes-skip n.0 n.1 more some)

-- a piece that ends within an extension
pub skip-some : (columns limit n : ℕ) (piece more : List ℕ) → length piece < n → binary_stage_reading (stages.Extension n) columns limit (piece ++ more) ≡ binary_stage_reading (stages.Extension (n - length piece)) columns limit more
skip-some columns limit n piece more some = reading-rest [] (bytes_at n (piece ++ more)) (bytes_at (n - length piece) more) (body_reading columns limit) (bytes-skip n piece more some)

-- a piece with the end of an extension
pub skip-all : (columns limit n : ℕ) (piece more : List ℕ) → n ≤ length piece → binary_stage_reading (stages.Extension n) columns limit (piece ++ more) ≡ binary_stage_reading stages.Rows columns limit (drop n piece ++ more)
skip-all columns limit n piece more all =
    let whole : bytes_at n piece ≡ Ok (take n piece, drop n piece) = cond-false _ _ _ (le-ltb (length piece) n all) in
    let longer : bytes_at n (piece ++ more) ≡ Ok (take n piece, drop n piece ++ more) = subst (λ t. Grows t (bytes_at n (piece ++ more)) more) whole (bytes_grow n piece more) in
    ap (λ (r : Result (List ℕ × List ℕ) NoPart). head_reading [] r (body_reading columns limit)) longer
