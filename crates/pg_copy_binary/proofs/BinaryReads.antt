-- What is read of a binary file from left to right.
use Rattle.std.proofs.Common.{◌≡◌, ℕ, zero, suc, ◌+◌, ◌-◌, ◌<◌, ◌≤◌, Bool, true, false, cond, eqb, ltb, leb, List, [], ◌∷◌, ◌++◌, length, take, drop, Option, Some, None, Result, Ok, Err, refl, sym, ap, subst, ◌∙◌, arith, inl, inr}
use Rattle.std.specs.Int.{Width, w16, w32, byte_len, cast_signed}
use Rattle.std.specs.Str.{bytes_eq}
use Rattle.std.proofs.lemmas.List.{take-append-le, drop-append-le, length-append, length-drop, drop-drop}
use Rattle.std.proofs.lemmas.Bool.{cases_lt, lt-ltb, le-ltb}
use Rattle.pg_copy_rows.specs.declared.fault.BinaryFault.{BinaryFault}
use Rattle.pg_copy_rows.specs.declared.fault.BinaryFault.TheVariants.{Signature, Flags, Extension, FieldCount, FieldLength, Memory}
use Rattle.pg_copy_binary.specs.declared.binary_reader.BinaryStage.{BinaryStage}
use Rattle.pg_copy_binary.specs.declared.binary_reader.BinaryStage.TheVariants.{Head, Rows, Closed, Failed}
use Rattle.pg_copy_binary.specs.declared.binary_reader.BinaryStage.TheVariants as stages
use Rattle.pg_copy_rows.specs.Row.{Row}
use Rattle.pg_copy_rows.specs.Reading.{RowsRead, after_rows}
use Rattle.pg_copy_binary.specs.Binary.{signature}
use Rattle.pg_copy_binary.specs.BinaryPart.{NoPart, Incomplete, Faulty, ◌>>=◌, number_at, bytes_at, signature_at, flags_at, extension_at, fixed_at, head_at, value_at, values_at, row_at, part_reading, row_reading, rows_reading, body_reading}
use Rattle.pg_copy_binary.specs.Private.BinaryPart.{row_or_trailer, body_at, part_at}

-- ---- what is read stays so when bytes are added

abbrev pub Grows : {A : Type 0} → Result (A × List ℕ) NoPart → Result (A × List ℕ) NoPart → List ℕ → Type 0
Grows (Ok x) longer more = longer ≡ Ok (x.0, x.1 ++ more)
Grows (Err Incomplete) longer more = Unit {0}
Grows (Err (Faulty fault)) longer more = longer ≡ Err (Faulty fault)

grows_bind : {A B : Type 0} (r s : Result (A × List ℕ) NoPart) (more : List ℕ) (f : A × List ℕ → Result (B × List ℕ) NoPart) → Grows r s more → ((x : A × List ℕ) → Grows (f x) (f (x.0, x.1 ++ more)) more) → Grows (r >>= f) (s >>= f) more
grows_bind (Ok x) s more f h k = subst (λ t. Grows (f x) (t >>= f) more) (sym h) (k x)
grows_bind (Err Incomplete) s more f h k = tt
grows_bind (Err (Faulty fault)) s more f h k = ap (λ t. t >>= f) h

grows_cond : {A : Type 0} (t : Bool) (x y x' y' : Result (A × List ℕ) NoPart) (more : List ℕ) → Grows x x' more → Grows y y' more → Grows (cond t x y) (cond t x' y') more
grows_cond true x y x' y' more h k = h
grows_cond false x y x' y' more h k = k

pub bytes_grow : (n : ℕ) (bytes more : List ℕ) → Grows (bytes_at n bytes) (bytes_at n (bytes ++ more)) more
bytes_grow n bytes more = elim (cases_lt (length bytes) n) [
  | inl lt ↦ rw (lt-ltb (length bytes) n lt) tt
  | inr le ↦
      let le' : n ≤ length (bytes ++ more) = omega (arith, length-append bytes more) in
      rw (le-ltb (length bytes) n le, le-ltb (length (bytes ++ more)) n le', take-append-le n bytes more le, drop-append-le n bytes more le) refl
]

pub number_grows : (w : Width) (bytes more : List ℕ) → Grows (number_at w bytes) (number_at w (bytes ++ more)) more
number_grows w bytes more = elim (cases_lt (length bytes) (byte_len w)) [
  | inl lt ↦ rw (lt-ltb (length bytes) (byte_len w) lt) tt
  | inr le ↦
      let le' : byte_len w ≤ length (bytes ++ more) = omega (arith, length-append bytes more) in
      rw (le-ltb (length bytes) (byte_len w) le, le-ltb (length (bytes ++ more)) (byte_len w) le', take-append-le (byte_len w) bytes more le, drop-append-le (byte_len w) bytes more le) refl
]

signature_grows : (bytes more : List ℕ) → Grows (signature_at bytes) (signature_at (bytes ++ more)) more
unfolding signature_at
signature_grows bytes more = grows_bind (bytes_at 11 bytes) (bytes_at 11 (bytes ++ more)) more _ (bytes_grow 11 bytes more) (λ x. grows_cond (bytes_eq x.0 signature) (Ok x) (Err (Faulty Signature)) (Ok (x.0, x.1 ++ more)) (Err (Faulty Signature)) more refl refl)

flags_grow : (bytes more : List ℕ) → Grows (flags_at bytes) (flags_at (bytes ++ more)) more
unfolding flags_at
flags_grow bytes more = grows_bind (number_at w32 bytes) (number_at w32 (bytes ++ more)) more _ (number_grows w32 bytes more) (λ x. grows_cond (ltb x.0 65536) (Ok x) (Err (Faulty (Flags x.0))) (Ok (x.0, x.1 ++ more)) (Err (Faulty (Flags x.0))) more refl refl)

extension_grows : (bytes more : List ℕ) → Grows (extension_at bytes) (extension_at (bytes ++ more)) more
unfolding extension_at
extension_grows bytes more = grows_bind (number_at w32 bytes) (number_at w32 (bytes ++ more)) more _ (number_grows w32 bytes more) (λ x. grows_cond (ltb x.0 2147483648) (Ok x) (Err (Faulty (Extension (cast_signed w32 x.0)))) (Ok (x.0, x.1 ++ more)) (Err (Faulty (Extension (cast_signed w32 x.0)))) more refl refl)

pub fixed_grows : (bytes more : List ℕ) → Grows (fixed_at bytes) (fixed_at (bytes ++ more)) more
unfolding fixed_at
fixed_grows bytes more =
    grows_bind (signature_at bytes) (signature_at (bytes ++ more)) more _ (signature_grows bytes more) (λ s.
    grows_bind (flags_at s.1) (flags_at (s.1 ++ more)) more _ (flags_grow s.1 more) (λ f. extension_grows f.1 more))

pub head_grows : (bytes more : List ℕ) → Grows (head_at bytes) (head_at (bytes ++ more)) more
unfolding head_at
head_grows bytes more = grows_bind (fixed_at bytes) (fixed_at (bytes ++ more)) more _ (fixed_grows bytes more) (λ n. bytes_grow n.0 n.1 more)

pub value_grows : (limit : ℕ) (bytes more : List ℕ) → Grows (value_at limit bytes) (value_at limit (bytes ++ more)) more
unfolding value_at
value_grows limit bytes more =
    grows_bind (number_at w32 bytes) (number_at w32 (bytes ++ more)) more _ (number_grows w32 bytes more) (λ n.
    let bad : Result (Option (List ℕ) × List ℕ) NoPart = Err (Faulty (FieldLength (cast_signed w32 n.0))) in
    let some : List ℕ × List ℕ → Result (Option (List ℕ) × List ℕ) NoPart = λ v. Ok (Some v.0, v.1) in
    let short = bytes_at n.0 n.1 >>= some in
    let long = bytes_at n.0 (n.1 ++ more) >>= some in
    grows_cond (eqb n.0 4294967295) (Ok (None, n.1)) (cond (leb n.0 limit) short bad) (Ok (None, n.1 ++ more)) (cond (leb n.0 limit) long bad) more refl
    (grows_cond (leb n.0 limit) short bad long bad more (grows_bind (bytes_at n.0 n.1) (bytes_at n.0 (n.1 ++ more)) more some (bytes_grow n.0 n.1 more) (λ v. refl)) refl))

pub values_grow : (limit n : ℕ) (bytes more : List ℕ) → Grows (values_at limit n bytes) (values_at limit n (bytes ++ more)) more
unfolding values_at
values_grow limit zero bytes more = refl
values_grow limit (suc n) bytes more =
    grows_bind (value_at limit bytes) (value_at limit (bytes ++ more)) more _ (value_grows limit bytes more) (λ v.
    grows_bind (values_at limit n v.1) (values_at limit n (v.1 ++ more)) more _ (values_grow limit n v.1 more) (λ vs. refl))

pub row_grows : (columns limit : ℕ) (bytes more : List ℕ) → Grows (row_at columns limit bytes) (row_at columns limit (bytes ++ more)) more
unfolding row_at
row_grows columns limit bytes more =
    grows_bind (number_at w16 bytes) (number_at w16 (bytes ++ more)) more _ (number_grows w16 bytes more) (λ n.
    let bad : Result (Option (Row) × List ℕ) NoPart = Err (Faulty (FieldCount (cast_signed w16 n.0))) in
    let some : Row × List ℕ → Result (Option (Row) × List ℕ) NoPart = λ r. Ok (Some r.0, r.1) in
    let short = values_at limit columns n.1 >>= some in
    let long = values_at limit columns (n.1 ++ more) >>= some in
    grows_cond (eqb n.0 65535) (Ok (None, n.1)) (cond (eqb n.0 columns) short bad) (Ok (None, n.1 ++ more)) (cond (eqb n.0 columns) long bad) more refl
    (grows_cond (eqb n.0 columns) short bad long bad more (grows_bind (values_at limit columns n.1) (values_at limit columns (n.1 ++ more)) more some (values_grow limit columns n.1 more) (λ r. refl)) refl))

-- ---- what is read takes bytes off the front

-- at least so many bytes were taken
abbrev pub TakesAtLeast : {A : Type 0} → ℕ → Result (A × List ℕ) NoPart → List ℕ → Type 0
TakesAtLeast least (Ok x) bytes = (n : ℕ) × (least ≤ n) × (n ≤ length bytes) × (x.1 ≡ drop n bytes)
TakesAtLeast least (Err stop) bytes = Unit {0}

takes_then : {A : Type 0} (least : ℕ) (r : Result (A × List ℕ) NoPart) (mid bytes : List ℕ) (n : ℕ) → least ≤ n → n ≤ length bytes → mid ≡ drop n bytes → TakesAtLeast 0 r mid → TakesAtLeast least r bytes
takes_then least (Ok x) mid bytes n le within e h =
    let len : length mid ≡ length bytes - n = ap length e ∙ length-drop n bytes in
    (n + h.0, omega (arith, h.1), omega (arith, h.2, len), h.3 ∙ ap (drop h.0) e ∙ drop-drop h.0 n bytes)
takes_then least (Err stop) mid bytes n le within e h = tt

pub takes_bind : {A B : Type 0} (least : ℕ) (r : Result (A × List ℕ) NoPart) (bytes : List ℕ) (f : A × List ℕ → Result (B × List ℕ) NoPart) → TakesAtLeast least r bytes → ((x : A × List ℕ) → TakesAtLeast 0 (f x) x.1) → TakesAtLeast least (r >>= f) bytes
takes_bind least (Ok x) bytes f h k = takes_then least (f x) x.1 bytes h.0 h.1 h.2 h.3 (k x)
takes_bind least (Err stop) bytes f h k = tt

takes_cond : {A : Type 0} (least : ℕ) (t : Bool) (x y : Result (A × List ℕ) NoPart) (bytes : List ℕ) → TakesAtLeast least x bytes → TakesAtLeast least y bytes → TakesAtLeast least (cond t x y) bytes
takes_cond least true x y bytes h k = h
takes_cond least false x y bytes h k = k

pub takes_none : {A : Type 0} (a : A) (bytes : List ℕ) → TakesAtLeast 0 (Ok (a, bytes)) bytes
takes_none a bytes = (0, omega arith, omega arith, refl)

pub bytes_take : (n : ℕ) (bytes : List ℕ) → TakesAtLeast 0 (bytes_at n bytes) bytes
bytes_take n bytes = elim (cases_lt (length bytes) n) [
  | inl lt ↦ rw (lt-ltb (length bytes) n lt) tt
  | inr le ↦ rw (le-ltb (length bytes) n le) (n, omega arith, le, refl)
]

bytes_take_all : (n : ℕ) (bytes : List ℕ) → TakesAtLeast n (bytes_at n bytes) bytes
bytes_take_all n bytes = elim (cases_lt (length bytes) n) [
  | inl lt ↦ rw (lt-ltb (length bytes) n lt) tt
  | inr le ↦ rw (le-ltb (length bytes) n le) (n, omega arith, le, refl)
]

number_takes : (w : Width) (bytes : List ℕ) → TakesAtLeast (byte_len w) (number_at w bytes) bytes
number_takes w bytes = elim (cases_lt (length bytes) (byte_len w)) [
  | inl lt ↦ rw (lt-ltb (length bytes) (byte_len w) lt) tt
  | inr le ↦ rw (le-ltb (length bytes) (byte_len w) le) (byte_len w, omega arith, le, refl)
]

pub less : {A : Type 0} (m n : ℕ) (r : Result (A × List ℕ) NoPart) (bytes : List ℕ) → m ≤ n → TakesAtLeast n r bytes → TakesAtLeast m r bytes
less m n (Ok x) bytes le h = (h.0, omega (arith, h.1), h.2, h.3)
less m n (Err stop) bytes le h = tt

pub value_takes : (limit : ℕ) (bytes : List ℕ) → TakesAtLeast 0 (value_at limit bytes) bytes
unfolding value_at
value_takes limit bytes =
    takes_bind 0 (number_at w32 bytes) bytes _ (less 0 4 (number_at w32 bytes) bytes (omega arith) (number_takes w32 bytes)) (λ n.
    let some : List ℕ × List ℕ → Result (Option (List ℕ) × List ℕ) NoPart = λ v. Ok (Some v.0, v.1) in
    takes_cond 0 (eqb n.0 4294967295) (Ok (None, n.1)) (cond (leb n.0 limit) (bytes_at n.0 n.1 >>= some) (Err (Faulty (FieldLength (cast_signed w32 n.0))))) n.1 (takes_none {A = Option (List ℕ)} None n.1)
    (takes_cond 0 (leb n.0 limit) (bytes_at n.0 n.1 >>= some) (Err (Faulty (FieldLength (cast_signed w32 n.0)))) n.1 (takes_bind 0 (bytes_at n.0 n.1) n.1 some (bytes_take n.0 n.1) (λ v. takes_none {A = Option (List ℕ)} (Some v.0) v.1)) tt))

pub values_take : (limit n : ℕ) (bytes : List ℕ) → TakesAtLeast 0 (values_at limit n bytes) bytes
unfolding values_at
values_take limit zero bytes = takes_none {A = Row} [] bytes
values_take limit (suc n) bytes =
    takes_bind 0 (value_at limit bytes) bytes _ (value_takes limit bytes) (λ v.
    takes_bind 0 (values_at limit n v.1) v.1 _ (values_take limit n v.1) (λ vs. takes_none {A = Row} (v.0 ∷ vs.0) vs.1))

pub row_takes : (columns limit : ℕ) (bytes : List ℕ) → TakesAtLeast 2 (row_at columns limit bytes) bytes
unfolding row_at
row_takes columns limit bytes =
    takes_bind 2 (number_at w16 bytes) bytes _ (number_takes w16 bytes) (λ n.
    let some : Row × List ℕ → Result (Option (Row) × List ℕ) NoPart = λ r. Ok (Some r.0, r.1) in
    takes_cond 0 (eqb n.0 65535) (Ok (None, n.1)) (cond (eqb n.0 columns) (values_at limit columns n.1 >>= some) (Err (Faulty (FieldCount (cast_signed w16 n.0))))) n.1 (takes_none {A = Option (Row)} None n.1)
    (takes_cond 0 (eqb n.0 columns) (values_at limit columns n.1 >>= some) (Err (Faulty (FieldCount (cast_signed w16 n.0)))) n.1 (takes_bind 0 (values_at limit columns n.1) n.1 some (values_take limit columns n.1) (λ r. takes_none {A = Option (Row)} (Some r.0) r.1)) tt))

-- ---- rows one after the other

pub shorter : {A : Type 0} (r : Result (A × List ℕ) NoPart) (bytes : List ℕ) (x : A × List ℕ) → TakesAtLeast 2 r bytes → r ≡ Ok x → length x.1 < length bytes
shorter r bytes x h e =
    let k = subst (λ t. TakesAtLeast 2 t bytes) e h in
    omega (arith, k.1, k.2, ap length k.3, length-drop k.0 bytes)

part-same : (bytes : List ℕ) (r : Result (Option Row × List ℕ) NoPart) (f g : List ℕ → RowsRead BinaryFault) → ((x : Option (Row) × List ℕ) → r ≡ Ok x → f x.1 ≡ g x.1) → part_reading bytes r f ≡ part_reading bytes r g
part-same bytes (Ok x) f g h = row-same x.0 x.1 (h x refl)
  where
    row-same : (o : Option (Row)) (rest : List ℕ) → f rest ≡ g rest → row_reading o rest f ≡ row_reading o rest g
    row-same None rest e = refl
    row-same (Some row) rest e = ap (after_rows (row ∷ [])) e
part-same bytes (Err stop) f g h = refl

-- it doesn't matter how many rows at most, where there are fewer
rows-enough : (m n columns limit : ℕ) (bytes : List ℕ) → length bytes < m → length bytes < n → rows_reading m columns limit bytes ≡ rows_reading n columns limit bytes
unfolding rows_reading
rows-enough zero n columns limit bytes h k = absurd (omega arith)
rows-enough (suc m) zero columns limit bytes h k = absurd (omega arith)
rows-enough (suc m) (suc n) columns limit bytes h k =
    part-same bytes (row_at columns limit bytes) (λ rest. rows_reading m columns limit rest) (λ rest. rows_reading n columns limit rest) (λ x e.
    let lt = shorter (row_at columns limit bytes) bytes x (row_takes columns limit bytes) e in
    rows-enough m n columns limit x.1 (omega arith) (omega arith))

pub body-step : (columns limit : ℕ) (bytes : List ℕ) → body_reading columns limit bytes ≡ part_reading bytes (row_at columns limit bytes) (body_reading columns limit)
unfolding rows_reading
body-step columns limit bytes =
    part-same bytes (row_at columns limit bytes) (λ rest. rows_reading (length bytes) columns limit rest) (body_reading columns limit) (λ x e.
    let lt = shorter (row_at columns limit bytes) bytes x (row_takes columns limit bytes) e in
    rows-enough (length bytes) (suc (length x.1)) columns limit x.1 lt (omega arith))

-- ---- running out of memory is no fault of a file

abbrev pub NoMemory : {A : Type 0} → Result A NoPart → Type 0
NoMemory (Ok x) = Unit {0}
NoMemory (Err Incomplete) = Unit {0}
NoMemory (Err (Faulty fault)) = fault ≡ Memory → ⊥

nm_bind : {A B : Type 0} (r : Result A NoPart) (f : A → Result B NoPart) → NoMemory r → ((x : A) → NoMemory (f x)) → NoMemory (r >>= f)
nm_bind (Ok x) f h k = k x
nm_bind (Err Incomplete) f h k = tt
nm_bind (Err (Faulty fault)) f h k = h

nm_cond : {A : Type 0} (t : Bool) (x y : Result A NoPart) → NoMemory x → NoMemory y → NoMemory (cond t x y)
nm_cond true x y h k = h
nm_cond false x y h k = k

bytes_nm : (n : ℕ) (bytes : List ℕ) → NoMemory (bytes_at n bytes)
bytes_nm n bytes = nm_cond (ltb (length bytes) n) (Err Incomplete) (Ok (take n bytes, drop n bytes)) tt tt

number_nm : (w : Width) (bytes : List ℕ) → NoMemory (number_at w bytes)
number_nm w bytes = elim (cases_lt (length bytes) (byte_len w)) [
  | inl lt ↦ rw (lt-ltb (length bytes) (byte_len w) lt) tt
  | inr le ↦ rw (le-ltb (length bytes) (byte_len w) le) tt
]

fixed_nm : (bytes : List ℕ) → NoMemory (fixed_at bytes)
unfolding fixed_at signature_at flags_at extension_at
fixed_nm bytes =
    nm_bind (signature_at bytes) _ (nm_bind (bytes_at 11 bytes) _ (bytes_nm 11 bytes) (λ s. nm_cond (bytes_eq s.0 signature) (Ok s) (Err (Faulty Signature)) tt (λ e. cc))) (λ s.
    nm_bind (flags_at s.1) _ (nm_bind (number_at w32 s.1) _ (number_nm w32 s.1) (λ n. nm_cond (ltb n.0 65536) (Ok n) (Err (Faulty (Flags n.0))) tt (λ e. cc))) (λ f.
    nm_bind (number_at w32 f.1) _ (number_nm w32 f.1) (λ n. nm_cond (ltb n.0 2147483648) (Ok n) (Err (Faulty (Extension (cast_signed w32 n.0)))) tt (λ e. cc))))

head_nm : (bytes : List ℕ) → NoMemory (head_at bytes)
unfolding head_at
head_nm bytes = nm_bind (fixed_at bytes) _ (fixed_nm bytes) (λ n. bytes_nm n.0 n.1)

value_nm : (limit : ℕ) (bytes : List ℕ) → NoMemory (value_at limit bytes)
unfolding value_at
value_nm limit bytes =
    nm_bind (number_at w32 bytes) _ (number_nm w32 bytes) (λ n.
    let some : List ℕ × List ℕ → Result (Option (List ℕ) × List ℕ) NoPart = λ v. Ok (Some v.0, v.1) in
    let bad : Result (Option (List ℕ) × List ℕ) NoPart = Err (Faulty (FieldLength (cast_signed w32 n.0))) in
    nm_cond (eqb n.0 4294967295) (Ok (None, n.1)) (cond (leb n.0 limit) (bytes_at n.0 n.1 >>= some) bad) tt
    (nm_cond (leb n.0 limit) (bytes_at n.0 n.1 >>= some) bad (nm_bind (bytes_at n.0 n.1) some (bytes_nm n.0 n.1) (λ v. tt)) (λ e. cc)))

values_nm : (limit n : ℕ) (bytes : List ℕ) → NoMemory (values_at limit n bytes)
unfolding values_at
values_nm limit zero bytes = tt
values_nm limit (suc n) bytes = nm_bind (value_at limit bytes) _ (value_nm limit bytes) (λ v. nm_bind (values_at limit n v.1) _ (values_nm limit n v.1) (λ vs. tt))

body_nm : (columns limit : ℕ) (bytes : List ℕ) → NoMemory (body_at columns limit bytes)
unfolding body_at row_at
body_nm columns limit bytes =
    nm_bind (row_at columns limit bytes) _
    (nm_bind (number_at w16 bytes) _ (number_nm w16 bytes) (λ n.
    let some : Row × List ℕ → Result (Option (Row) × List ℕ) NoPart = λ r. Ok (Some r.0, r.1) in
    let bad : Result (Option (Row) × List ℕ) NoPart = Err (Faulty (FieldCount (cast_signed w16 n.0))) in
    nm_cond (eqb n.0 65535) (Ok (None, n.1)) (cond (eqb n.0 columns) (values_at limit columns n.1 >>= some) bad) tt
    (nm_cond (eqb n.0 columns) (values_at limit columns n.1 >>= some) bad (nm_bind (values_at limit columns n.1) some (values_nm limit columns n.1) (λ r. tt)) (λ e. cc))))
    (λ r. trailer_nm r.0 r.1)
  where
    trailer_nm : (o : Option (Row)) (rest : List ℕ) → NoMemory (row_or_trailer o rest)
    trailer_nm None [] = tt
    trailer_nm None (b ∷ bs) = λ e. cc
    trailer_nm (Some row) rest = tt

-- a reader that failed did so by a fault of its file
pub part_nm : (stage : BinaryStage) (columns limit : ℕ) (bytes : List ℕ) → (stage ≡ Failed Memory → ⊥) → NoMemory (part_at stage columns limit bytes)
unfolding part_at
part_nm Head columns limit bytes h = nm_bind (head_at bytes) _ (head_nm bytes) (λ x. body_nm columns limit x.1)
part_nm (stages.Extension n) columns limit bytes h = nm_bind (bytes_at n bytes) _ (bytes_nm n bytes) (λ x. body_nm columns limit x.1)
part_nm Rows columns limit bytes h = body_nm columns limit bytes
part_nm Closed columns limit [] h = tt
part_nm Closed columns limit (b ∷ bs) h = λ e. cc
part_nm (Failed fault) columns limit bytes h = λ e. h (ap Failed e)

-- how many bytes a part takes

fixed_takes : (bytes : List ℕ) → TakesAtLeast 11 (fixed_at bytes) bytes
unfolding fixed_at signature_at flags_at extension_at
fixed_takes bytes =
    takes_bind 11 (signature_at bytes) bytes _ (takes_bind 11 (bytes_at 11 bytes) bytes _ (bytes_take_all 11 bytes) (λ s. takes_cond 0 (bytes_eq s.0 signature) (Ok s) (Err (Faulty Signature)) s.1 (takes_none s.0 s.1) tt)) (λ s.
    takes_bind 0 (flags_at s.1) s.1 _ (takes_bind 0 (number_at w32 s.1) s.1 _ (less 0 4 (number_at w32 s.1) s.1 (omega arith) (number_takes w32 s.1)) (λ n. takes_cond 0 (ltb n.0 65536) (Ok n) (Err (Faulty (Flags n.0))) n.1 (takes_none n.0 n.1) tt)) (λ f.
    takes_bind 0 (number_at w32 f.1) f.1 _ (less 0 4 (number_at w32 f.1) f.1 (omega arith) (number_takes w32 f.1)) (λ n. takes_cond 0 (ltb n.0 2147483648) (Ok n) (Err (Faulty (Extension (cast_signed w32 n.0)))) n.1 (takes_none n.0 n.1) tt)))

pub head_takes : (bytes : List ℕ) → TakesAtLeast 11 (head_at bytes) bytes
unfolding head_at
head_takes bytes = takes_bind 11 (fixed_at bytes) bytes _ (fixed_takes bytes) (λ n. bytes_take n.0 n.1)

-- what is left is the end of what was there
pub record IsEnd (rest bytes : List ℕ) : Type 0 where
  pub len : length rest ≤ length bytes
  pub is : drop (length bytes - length rest) bytes ≡ rest

-- ---- no part leaves a reader that failed

-- a row leaves a reader among the rows
abbrev RowStands : Result ((Option (Row) × BinaryStage) × List ℕ) NoPart → Type 0
RowStands (Ok x) = (row : Row) → x.0.0 ≡ Some row → x.0.1 ≡ Rows
RowStands (Err stop) = Unit {0}

row_bind : {A : Type 0} (r : Result A NoPart) (f : A → Result ((Option (Row) × BinaryStage) × List ℕ) NoPart) → ((x : A) → RowStands (f x)) → RowStands (r >>= f)
row_bind (Ok x) f h = h x
row_bind (Err stop) f h = tt

body_row : (columns limit : ℕ) (bytes : List ℕ) → RowStands (body_at columns limit bytes)
unfolding body_at
body_row columns limit bytes = row_bind (row_at columns limit bytes) _ (λ r. go r.0 r.1)
  where
    go : (o : Option (Row)) (rest : List ℕ) → RowStands (row_or_trailer o rest)
    go None [] = λ row e. absurd cc
    go None (b ∷ bs) = tt
    go (Some row) rest = λ r e. refl

part_row : (stage : BinaryStage) (columns limit : ℕ) (bytes : List ℕ) → RowStands (part_at stage columns limit bytes)
unfolding part_at
part_row Head columns limit bytes = row_bind (head_at bytes) _ (λ h. body_row columns limit h.1)
part_row (stages.Extension n) columns limit bytes = row_bind (bytes_at n bytes) _ (λ h. body_row columns limit h.1)
part_row Rows columns limit bytes = body_row columns limit bytes
part_row Closed columns limit [] = λ row e. absurd cc
part_row Closed columns limit (b ∷ bs) = tt
part_row (Failed fault) columns limit bytes = tt

pub part-rows : (stage : BinaryStage) (columns limit : ℕ) (bytes : List ℕ) (row : Row) (new : BinaryStage) (rest : List ℕ) → part_at stage columns limit bytes ≡ Ok ((Some row, new), rest) → new ≡ Rows
part-rows stage columns limit bytes row new rest e =
    let h : RowStands (Ok ((Some row, new), rest)) = subst (λ p. RowStands p) e (part_row stage columns limit bytes) in
    h row refl

pub part-fault : (stage : BinaryStage) (columns limit : ℕ) (bytes : List ℕ) (fault : BinaryFault) → (stage ≡ Failed Memory → ⊥) → part_at stage columns limit bytes ≡ Err (Faulty fault) → fault ≡ Memory → ⊥
part-fault stage columns limit bytes fault h e = subst (λ p. NoMemory p) e (part_nm stage columns limit bytes h)
