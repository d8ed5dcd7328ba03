-- What is read of a binary file is what the file is.
use Rattle.std.proofs.Common.{◌≡◌, ℕ, zero, suc, ◌+◌, ◌^◌, ◌<◌, ◌≤◌, Bool, true, false, cond, eqb, ltb, leb, List, [], ◌∷◌, ◌++◌, length, take, drop, Option, Some, None, Result, Ok, Err, refl, sym, ap, subst, ◌∙◌, append_assoc, arith, inl, inr}
use Rattle.std.specs.List.{flat_map, AllByRecursion}
use Rattle.std.specs.Int.{Width, w16, w32, byte_len, from_be_bytes, to_be_bytes, cast_signed}
use Rattle.std.specs.Str.{bytes_eq}
use Rattle.std.proofs.lemmas.Bool.{cases_eq, cases_lt, ne_eqb, eq-eqb, lt-ltb, le-ltb, le-leb, lt-leb, ltb-true, ltb-false, cond-true, cond-false}
use Rattle.std.proofs.lemmas.List.{take_at, take-append-drop, length-take, length-append, get_or-append-add, get_or-take, get_or_past}
use Rattle.std.proofs.lemmas.Nat.{be_bytes_2, be_bytes_4}
use Rattle.pg_copy_rows.specs.declared.fault.BinaryFault.{BinaryFault}
use Rattle.pg_copy_rows.specs.declared.fault.BinaryFault.TheVariants.{Signature, Flags, Extension, FieldCount, FieldLength, AfterTrailer}
use Rattle.pg_copy_rows.specs.Row.{Row}
use Rattle.pg_copy_rows.specs.Reading.{RowsRead, RowsEnding, Open, Done, Ended, Bad, after_rows}
use Rattle.pg_copy_rows.proofs.Bytes.{same-bytes, other-bytes}
use Rattle.pg_copy_binary.specs.Binary.{IsBytes, signature, head, value, binary_row, trailer, IsHead, FitsValue, FitsBinary, IsFaultyRow, field_count, field_length, after_trailer, IsOpenRow, IsRest, IsFaultyHead, signature_differs, flag_set, extension_negative, IsOpenHead, open_head, IsHeadRest, IsBinaryFile, whole, headless}
use Rattle.pg_copy_binary.specs.BinaryPart.{NoPart, Incomplete, Faulty, ◌>>=◌, number_at, bytes_at, signature_at, flags_at, extension_at, fixed_at, head_at, value_at, values_at, row_at, part_reading, rows_reading, body_reading, head_reading, binary_reading, trailer_reading}
use Rattle.pg_copy_rows.proofs.Readings.{after-none}
use Rattle.pg_copy_binary.proofs.BinaryReads.{body-step}
use Rattle.pg_copy_binary.proofs.BinaryRound.{wide16, wide32, number-again, bytes-again, value-again, row-again, head-again, rows-trip, body-trailer}

-- ---- bytes

bytes-right : (first rest : List ℕ) → IsBytes (first ++ rest) → IsBytes rest
bytes-right first rest h i = rw (← get_or-append-add first rest i 0) (h (length first + i))

bytes-take : (n : ℕ) (bytes : List ℕ) → IsBytes bytes → IsBytes (take n bytes)
bytes-take n bytes h i =
    elim (cases_lt i n) [
      | inl lt ↦ rw (get_or-take n bytes i 0 lt) (h i)
      | inr le ↦ rw (get_or_past (take n bytes) i 0 (omega (arith, length-take n bytes))) (omega arith)
    ]

-- ---- numbers

-- a number that is read
record Backed (w : Width) (bound : ℕ) : Type 0 where
  pub back : (bytes : List ℕ) → length bytes ≡ byte_len w → IsBytes bytes → to_be_bytes w (from_be_bytes w bytes) ≡ bytes
  pub below : (bytes : List ℕ) → IsBytes bytes → from_be_bytes w bytes < bound

backed16 : Backed w16 (2 ^ 16)
backed16 = record { back = λ bytes len fits. be_bytes_2 bytes _ len fits refl; below = λ bytes fits. omega (arith, fits 0, fits 1) }

backed32 : Backed w32 (2 ^ 32)
backed32 = record { back = λ bytes len fits. be_bytes_4 bytes _ len fits refl; below = λ bytes fits. omega (arith, fits 0, fits 1, fits 2, fits 3) }

data NumberIs (w : Width) (bound : ℕ) (bytes : List ℕ) : Result (ℕ × List ℕ) NoPart → Type 0 where
  number_there : (n : ℕ) (rest : List ℕ) → n < bound → bytes ≡ to_be_bytes w n ++ rest → IsBytes rest → NumberIs w bound bytes (Ok (n, rest))
  number_short : NumberIs w bound bytes (Err Incomplete)

number-view : (w : Width) (bound : ℕ) (bytes : List ℕ) → Backed w bound → IsBytes bytes → NumberIs w bound bytes (number_at w bytes)
number-view w bound bytes b fits = elim (cases_lt (length bytes) (byte_len w)) [
  | inl lt ↦ subst (NumberIs w bound bytes) (sym (cond-true _ _ _ (lt-ltb (length bytes) (byte_len w) lt))) number_short
  | inr le ↦
      let first = take (byte_len w) bytes in
      let rest = drop (byte_len w) bytes in
      let are = bytes-take (byte_len w) bytes fits in
      let parts : bytes ≡ first ++ rest = sym (take-append-drop (byte_len w) bytes) in
      let same : to_be_bytes w (from_be_bytes w first) ≡ first = b.back first (omega (arith, length-take (byte_len w) bytes)) are in
      subst (NumberIs w bound bytes) (sym (cond-false _ _ _ (le-ltb (length bytes) (byte_len w) le))) (number_there (from_be_bytes w first) rest (b.below first are) (parts ∙ ap (λ (x : List ℕ). x ++ rest) (sym same)) (bytes-right first rest (subst IsBytes parts fits)))
]

data BytesIs (n : ℕ) (bytes : List ℕ) : Result (List ℕ × List ℕ) NoPart → Type 0 where
  bytes_there : (first rest : List ℕ) → length first ≡ n → bytes ≡ first ++ rest → IsBytes rest → BytesIs n bytes (Ok (first, rest))
  bytes_short : BytesIs n bytes (Err Incomplete)

bytes-view : (n : ℕ) (bytes : List ℕ) → IsBytes bytes → BytesIs n bytes (bytes_at n bytes)
bytes-view n bytes fits = elim (cases_lt (length bytes) n) [
  | inl lt ↦ subst (BytesIs n bytes) (sym (cond-true _ _ _ (lt-ltb (length bytes) n lt))) bytes_short
  | inr le ↦
      let parts : bytes ≡ take n bytes ++ drop n bytes = sym (take-append-drop n bytes) in
      subst (BytesIs n bytes) (sym (cond-false _ _ _ (le-ltb (length bytes) n le))) (bytes_there (take n bytes) (drop n bytes) (omega (arith, length-take n bytes)) parts (bytes-right (take n bytes) (drop n bytes) (subst IsBytes parts fits)))
]

-- ---- values

data ValueIs (limit : ℕ) (bytes : List ℕ) : Result (Option (List ℕ) × List ℕ) NoPart → Type 0 where
  value_there : (v : Option (List ℕ)) (rest : List ℕ) → FitsValue limit v → bytes ≡ value v ++ rest → IsBytes rest → ValueIs limit bytes (Ok (v, rest))
  value_long : (n : ℕ) (more : List ℕ) → n < 2 ^ 32 → (n ≡ 4294967295 → ⊥) → limit < n → bytes ≡ to_be_bytes w32 n ++ more → ValueIs limit bytes (Err (Faulty (FieldLength (cast_signed w32 n))))
  value_short : ValueIs limit bytes (Err Incomplete)

value-view : (limit : ℕ) (bytes : List ℕ) → IsBytes bytes → ValueIs limit bytes (value_at limit bytes)
unfolding value_at
value-view limit bytes fits = go (number_at w32 bytes) (number-view w32 (2 ^ 32) bytes backed32 fits)
  where
    some : List ℕ × List ℕ → Result (Option (List ℕ) × List ℕ) NoPart
    some v = Ok (Some v.0, v.1)

    long : (n : ℕ) (rest : List ℕ) → n ≤ limit → bytes ≡ to_be_bytes w32 n ++ rest → (r : Result (List ℕ × List ℕ) NoPart) → BytesIs n rest r → ValueIs limit bytes (r >>= λ v. Ok (Some v.0, v.1))
    long n rest le e _ (bytes_there first after len parts are) =
        value_there (Some first) after (omega arith) (e ∙ ap (λ (k : ℕ). to_be_bytes w32 k ++ rest) (sym len) ∙ ap (λ (x : List ℕ). to_be_bytes w32 (length first) ++ x) parts ∙ sym (append_assoc (to_be_bytes w32 (length first)) first after)) are
    long n rest le e _ bytes_short = value_short

    go : (r : Result (ℕ × List ℕ) NoPart) → NumberIs w32 (2 ^ 32) bytes r
        → ValueIs limit bytes (r >>= λ n. cond (eqb n.0 4294967295) (Ok (None, n.1)) (cond (leb n.0 limit) (bytes_at n.0 n.1 >>= λ v. Ok (Some v.0, v.1)) (Err (Faulty (FieldLength (cast_signed w32 n.0))))))
    go _ (number_there n rest lt e are) = elim (cases_eq n 4294967295) [
      | inl null ↦ subst (ValueIs limit bytes) (sym (cond-true _ _ _ (eq-eqb n 4294967295 null))) (value_there None rest tt (e ∙ ap (λ (k : ℕ). to_be_bytes w32 k ++ rest) null) are)
      | inr other ↦ subst (ValueIs limit bytes) (sym (cond-false _ _ _ (ne_eqb n 4294967295 other))) (elim (cases_lt limit n) [
        | inl over ↦ subst (ValueIs limit bytes) (sym (cond-false _ _ _ (lt-leb n limit over))) (value_long n rest lt other over e)
        | inr le ↦ subst (ValueIs limit bytes) (sym (cond-true _ _ _ (le-leb n limit le))) (long n rest le e (bytes_at n rest) (bytes-view n rest are))
      ])
    ]
    go _ number_short = value_short

data ValuesIs (limit n : ℕ) (bytes : List ℕ) : Result (Row × List ℕ) NoPart → Type 0 where
  values_there : (vs : Row) (rest : List ℕ) → length vs ≡ n → AllByRecursion (FitsValue limit) vs → bytes ≡ flat_map value vs ++ rest → IsBytes rest → ValuesIs limit n bytes (Ok (vs, rest))
  values_long : (vs : Row) (k : ℕ) (more : List ℕ) → AllByRecursion (FitsValue limit) vs → length vs < n → k < 2 ^ 32 → (k ≡ 4294967295 → ⊥) → limit < k → bytes ≡ flat_map value vs ++ (to_be_bytes w32 k ++ more)
      → ValuesIs limit n bytes (Err (Faulty (FieldLength (cast_signed w32 k))))
  values_short : ValuesIs limit n bytes (Err Incomplete)

values-view : (limit n : ℕ) (bytes : List ℕ) → IsBytes bytes → ValuesIs limit n bytes (values_at limit n bytes)
unfolding values_at
values-view limit zero bytes fits = values_there [] bytes refl tt refl fits
values-view limit (suc n) bytes fits = go (value_at limit bytes) (value-view limit bytes fits) (λ rest are. values-view limit n rest are)
  where
    next : (v : Option (List ℕ)) (rest : List ℕ) → FitsValue limit v → bytes ≡ value v ++ rest → (r : Result (Row × List ℕ) NoPart) → ValuesIs limit n rest r → ValuesIs limit (suc n) bytes (r >>= λ vs. Ok (v ∷ vs.0, vs.1))
    next v rest f e _ (values_there vs after len each parts are) = values_there (v ∷ vs) after (ap suc len) (f, each) (e ∙ ap (λ (x : List ℕ). value v ++ x) parts ∙ sym (append_assoc (value v) (flat_map value vs) after)) are
    next v rest f e _ (values_long vs k more each len lt other over parts) = values_long (v ∷ vs) k more (f, each) (omega arith) lt other over (e ∙ ap (λ (x : List ℕ). value v ++ x) parts ∙ sym (append_assoc (value v) (flat_map value vs) (to_be_bytes w32 k ++ more)))
    next v rest f e _ values_short = values_short

    go : (r : Result (Option (List ℕ) × List ℕ) NoPart) → ValueIs limit bytes r → ((rest : List ℕ) → IsBytes rest → ValuesIs limit n rest (values_at limit n rest)) → ValuesIs limit (suc n) bytes (r >>= λ v. (values_at limit n v.1 >>= λ vs. Ok (v.0 ∷ vs.0, vs.1)))
    go _ (value_there v rest f e are) more = next v rest f e (values_at limit n rest) (more rest are)
    go _ (value_long k after lt other over e) more = values_long [] k after tt (omega arith) lt other over e
    go _ value_short more = values_short

-- ---- rows

data RowIs (columns limit : ℕ) (bytes : List ℕ) : Result (Option Row × List ℕ) NoPart → Type 0 where
  row_there : (row : Row) (rest : List ℕ) → FitsBinary columns limit row → bytes ≡ binary_row row ++ rest → IsBytes rest → RowIs columns limit bytes (Ok (Some row, rest))
  trailer_there : (rest : List ℕ) → bytes ≡ trailer ++ rest → RowIs columns limit bytes (Ok (None, rest))
  row_faulty : (f : BinaryFault) → IsFaultyRow columns limit bytes f → RowIs columns limit bytes (Err (Faulty f))
  row_short : RowIs columns limit bytes (Err Incomplete)

row-view : (columns limit : ℕ) (bytes : List ℕ) → IsBytes bytes → RowIs columns limit bytes (row_at columns limit bytes)
unfolding row_at
row-view columns limit bytes fits = go (number_at w16 bytes) (number-view w16 (2 ^ 16) bytes backed16 fits)
  where
    next : (rest : List ℕ) → bytes ≡ to_be_bytes w16 columns ++ rest → (r : Result (Row × List ℕ) NoPart) → ValuesIs limit columns rest r → RowIs columns limit bytes (r >>= λ x. Ok (Some x.0, x.1))
    next rest e _ (values_there vs after len each parts are) =
        row_there vs after (record { width = len; each = each }) (e ∙ ap (λ (k : ℕ). to_be_bytes w16 k ++ rest) (sym len) ∙ ap (λ (x : List ℕ). to_be_bytes w16 (length vs) ++ x) parts ∙ sym (append_assoc (to_be_bytes w16 (length vs)) (flat_map value vs) after)) are
    next rest e _ (values_long vs k more each len lt other over parts) =
        row_faulty (FieldLength (cast_signed w32 k)) (subst (λ (x : List ℕ). IsFaultyRow columns limit x (FieldLength (cast_signed w32 k))) (sym (e ∙ ap (λ (x : List ℕ). to_be_bytes w16 columns ++ x) parts)) (field_length vs k more each len lt other over))
    next rest e _ values_short = row_short

    go : (r : Result (ℕ × List ℕ) NoPart) → NumberIs w16 (2 ^ 16) bytes r
        → RowIs columns limit bytes (r >>= λ n. cond (eqb n.0 65535) (Ok (None, n.1)) (cond (eqb n.0 columns) (values_at limit columns n.1 >>= λ x. Ok (Some x.0, x.1)) (Err (Faulty (FieldCount (cast_signed w16 n.0))))))
    go _ (number_there n rest lt e are) = elim (cases_eq n 65535) [
      | inl last ↦ subst (RowIs columns limit bytes) (sym (cond-true _ _ _ (eq-eqb n 65535 last))) (trailer_there rest (e ∙ ap (λ (k : ℕ). to_be_bytes w16 k ++ rest) last))
      | inr other ↦ subst (RowIs columns limit bytes) (sym (cond-false _ _ _ (ne_eqb n 65535 other))) (elim (cases_eq n columns) [
        | inl same ↦ subst (RowIs columns limit bytes) (sym (cond-true _ _ _ (eq-eqb n columns same))) (next rest (e ∙ ap (λ (k : ℕ). to_be_bytes w16 k ++ rest) same) (values_at limit columns rest) (values-view limit columns rest are))
        | inr differs ↦ subst (RowIs columns limit bytes) (sym (cond-false _ _ _ (ne_eqb n columns differs))) (row_faulty (FieldCount (cast_signed w16 n)) (subst (λ (x : List ℕ). IsFaultyRow columns limit x (FieldCount (cast_signed w16 n))) (sym e) (field_count n rest lt other differs)))
      ])
    ]
    go _ number_short = row_short

-- ---- what is faulty is read so

values-stop : (limit n : ℕ) (vs : Row) (tail : List ℕ) (s : NoPart) → limit ≤ 2147483647 → AllByRecursion (FitsValue limit) vs → length vs < n → value_at limit tail ≡ Err s → values_at limit n (flat_map value vs ++ tail) ≡ Err s
unfolding values_at
values-stop limit zero vs tail s le each few e = absurd (omega arith)
values-stop limit (suc n) [] tail s le each few e = rw e refl
values-stop limit (suc n) (v ∷ vs) tail s le each few e =
    let first = value-again limit v (flat_map value vs ++ tail) le each.0 in
    ap (values_at limit (suc n)) (append_assoc (value v) (flat_map value vs) tail) ∙ rw (first, values-stop limit n vs tail s le each.1 (omega arith) e) refl

long-stop : (limit n : ℕ) (more : List ℕ) → n < 2 ^ 32 → (n ≡ 4294967295 → ⊥) → limit < n → value_at limit (to_be_bytes w32 n ++ more) ≡ Err (Faulty (FieldLength (cast_signed w32 n)))
unfolding value_at
long-stop limit n more lt other over = rw (number-again w32 (2 ^ 32) n more wide32 lt, ne_eqb n 4294967295 other, lt-leb n limit over) refl

-- what a reading of the rest gives at a fault
abbrev faulty : List Row → BinaryFault → RowsRead BinaryFault
faulty rows f = record { rows = rows; ending = Bad f }

body-at : (columns limit : ℕ) (bytes : List ℕ) (r : Result (Option Row × List ℕ) NoPart) → row_at columns limit bytes ≡ r → body_reading columns limit bytes ≡ part_reading bytes r (body_reading columns limit)
body-at columns limit bytes r e = body-step columns limit bytes ∙ ap (λ x. part_reading bytes x (body_reading columns limit)) e

count-stop : (columns limit n : ℕ) (more : List ℕ) → n < 2 ^ 16 → (n ≡ 65535 → ⊥) → (n ≡ columns → ⊥) → row_at columns limit (to_be_bytes w16 n ++ more) ≡ Err (Faulty (FieldCount (cast_signed w16 n)))
unfolding row_at
count-stop columns limit n more lt other differs = rw (number-again w16 (2 ^ 16) n more wide16 lt, ne_eqb n 65535 other, ne_eqb n columns differs) refl

length-stop : (columns limit : ℕ) (vs : Row) (n : ℕ) (more : List ℕ) → columns ≤ 32767 → limit ≤ 2147483647 → AllByRecursion (FitsValue limit) vs → length vs < columns → n < 2 ^ 32 → (n ≡ 4294967295 → ⊥) → limit < n
    → row_at columns limit (to_be_bytes w16 columns ++ (flat_map value vs ++ (to_be_bytes w32 n ++ more))) ≡ Err (Faulty (FieldLength (cast_signed w32 n)))
unfolding row_at
length-stop columns limit vs n more few le each len lt other over =
    let tail = to_be_bytes w32 n ++ more in
    let e = number-again w16 (2 ^ 16) columns (flat_map value vs ++ tail) wide16 (omega arith) in
    let no_trailer : eqb columns 65535 ≡ false = ne_eqb _ _ (λ same. absurd (omega arith)) in
    rw (e, no_trailer, eq-eqb columns columns refl, values-stop limit columns vs tail (Faulty (FieldLength (cast_signed w32 n))) le each len (long-stop limit n more lt other over)) refl

after-stop : (columns limit b : ℕ) (more : List ℕ) → row_at columns limit (trailer ++ b ∷ more) ≡ Ok (None, b ∷ more)
unfolding row_at
after-stop columns limit b more =
    let e : number_at w16 (trailer ++ b ∷ more) ≡ Ok (65535, b ∷ more) = number-again w16 (2 ^ 16) 65535 (b ∷ more) wide16 (omega arith) in
    rw e refl

fault-again : (columns limit : ℕ) (rest : List ℕ) (f : BinaryFault) → columns ≤ 32767 → limit ≤ 2147483647 → IsFaultyRow columns limit rest f → body_reading columns limit rest ≡ faulty [] f
fault-again columns limit _ _ few le (field_count n more lt other differs) = body-at columns limit (to_be_bytes w16 n ++ more) _ (count-stop columns limit n more lt other differs)
fault-again columns limit _ _ few le (field_length vs n more each len lt other over) = body-at columns limit _ _ (length-stop columns limit vs n more few le each len lt other over)
fault-again columns limit _ _ few le (after_trailer b more) = body-at columns limit (trailer ++ b ∷ more) _ (after-stop columns limit b more)

trailer-stop : (columns limit : ℕ) (more : List ℕ) → row_at columns limit (trailer ++ more) ≡ Ok (None, more)
unfolding row_at
trailer-stop columns limit more =
    let e : number_at w16 (trailer ++ more) ≡ Ok (65535, more) = number-again w16 (2 ^ 16) 65535 more wide16 (omega arith) in
    rw e refl

-- ---- a rest that is open

open-rest-is : (columns limit : ℕ) (rest : List ℕ) → columns ≤ 32767 → limit ≤ 2147483647 → row_at columns limit rest ≡ Err Incomplete → IsOpenRow columns limit rest
open-rest-is columns limit rest few le short = record {
  no_row = λ row more fits e. clash (sym short ∙ ap (row_at columns limit) e ∙ row-again columns limit row more few le fits);
  no_trailer = λ more e. clash (sym short ∙ ap (row_at columns limit) e ∙ trailer-stop columns limit more);
  no_fault = λ f h. fault rest f h short;
}
  where
    clash : {x : Option Row × List ℕ} → ◌≡◌ {A = Result (Option Row × List ℕ) NoPart} (Err Incomplete) (Ok x) → ⊥
    clash {x} e = cc

    differ : {f : BinaryFault} → ◌≡◌ {A = Result (Option Row × List ℕ) NoPart} (Err Incomplete) (Err (Faulty f)) → ⊥
    differ {f} e = cc

    fault : (rest : List ℕ) (f : BinaryFault) → IsFaultyRow columns limit rest f → row_at columns limit rest ≡ Err Incomplete → ⊥
    fault _ _ (field_count n more lt other differs) short = differ (sym short ∙ count-stop columns limit n more lt other differs)
    fault _ _ (field_length vs n more each len lt other over) short = differ (sym short ∙ length-stop columns limit vs n more few le each len lt other over)
    fault _ _ (after_trailer b more) short = clash (sym short ∙ after-stop columns limit b more)

open-rest-short : (columns limit : ℕ) (rest : List ℕ) → IsBytes rest → IsOpenRow columns limit rest → row_at columns limit rest ≡ Err Incomplete
open-rest-short columns limit rest fits h = go (row_at columns limit rest) (row-view columns limit rest fits)
  where
    go : (r : Result (Option Row × List ℕ) NoPart) → RowIs columns limit rest r → r ≡ Err Incomplete
    go _ (row_there row more f e are) = absurd (h.no_row row more f e)
    go _ (trailer_there more e) = absurd (h.no_trailer more e)
    go _ (row_faulty f e) = absurd (h.no_fault f e)
    go _ row_short = refl

rest-again : (columns limit : ℕ) (rest : List ℕ) (ending : RowsEnding BinaryFault) → columns ≤ 32767 → limit ≤ 2147483647 → IsBytes rest → IsRest columns limit rest ending → body_reading columns limit rest ≡ record { rows = []; ending = ending }
rest-again columns limit rest (Open kept) few le fits h = body-at columns limit rest (Err Incomplete) (open-rest-short columns limit rest fits h.1) ∙ ap (λ (x : List ℕ). record { rows = []; ending = Open x }) (sym h.0)
rest-again columns limit rest Done few le fits h = ap (body_reading columns limit) h ∙ body-trailer columns limit
rest-again columns limit rest Ended few le fits h = absurd h
rest-again columns limit rest (Bad f) few le fits h = fault-again columns limit rest f few le h

-- ---- rows and what stands after them

record BodyIs (columns limit : ℕ) (bytes : List ℕ) (r : RowsRead BinaryFault) : Type 0 where
  pub rest : List ℕ
  pub each : AllByRecursion (FitsBinary columns limit) r.rows
  pub is : bytes ≡ flat_map binary_row r.rows ++ rest
  pub ends : IsRest columns limit rest r.ending

longer : (row : Row) (rest bytes : List ℕ) → bytes ≡ binary_row row ++ rest → length rest < length bytes
longer row rest bytes e =
    let long : length (binary_row row ++ rest) ≡ length (binary_row row) + length rest = length-append (binary_row row) rest in
    let head : length (binary_row row) ≡ length (to_be_bytes w16 (length row)) + length (flat_map value row) = length-append (to_be_bytes w16 (length row)) (flat_map value row) in
    omega (arith, ap length e, long, head, wide16.len (length row))

body-view : (n columns limit : ℕ) (bytes : List ℕ) → columns ≤ 32767 → limit ≤ 2147483647 → length bytes < n → IsBytes bytes → BodyIs columns limit bytes (rows_reading n columns limit bytes)
unfolding rows_reading
body-view zero columns limit bytes few le lt fits = absurd (omega arith)
body-view (suc n) columns limit bytes few le lt fits = go (row_at columns limit bytes) refl (row-view columns limit bytes fits) (λ rest short are. body-view n columns limit rest few le short are)
  where
    what_follows : (rest : List ℕ) → bytes ≡ trailer ++ rest → BodyIs columns limit bytes (trailer_reading rest)
    what_follows [] e = record { rest = bytes; each = tt; is = refl; ends = e }
    what_follows (b ∷ bs) e = record { rest = bytes; each = tt; is = refl; ends = subst (λ (x : List ℕ). IsFaultyRow columns limit x AfterTrailer) (sym e) (after_trailer b bs) }

    go : (r : Result (Option Row × List ℕ) NoPart) → row_at columns limit bytes ≡ r → RowIs columns limit bytes r → ((rest : List ℕ) → length rest < n → IsBytes rest → BodyIs columns limit rest (rows_reading n columns limit rest))
        → BodyIs columns limit bytes (part_reading bytes r (λ rest. rows_reading n columns limit rest))
    go _ found (row_there row rest f e are) more =
        let short : length rest < n = omega (arith, longer row rest bytes e) in
        let b = more rest short are in
        record { rest = b.rest; each = (f, b.each); is = e ∙ ap (λ (x : List ℕ). binary_row row ++ x) b.is ∙ sym (append_assoc (binary_row row) (flat_map binary_row (rows_reading n columns limit rest).rows) b.rest); ends = b.ends }
    go _ found (trailer_there rest e) more = what_follows rest e
    go _ found (row_faulty f e) more = record { rest = bytes; each = tt; is = refl; ends = e }
    go _ found row_short more = record { rest = bytes; each = tt; is = refl; ends = (refl, open-rest-is columns limit bytes few le found) }

-- ---- heads

data HeadIs (bytes : List ℕ) : Result (List ℕ × List ℕ) NoPart → Type 0 where
  head_there : (h extension rest : List ℕ) → IsHead h → bytes ≡ h ++ rest → IsBytes rest → HeadIs bytes (Ok (extension, rest))
  head_faulty : (f : BinaryFault) → IsFaultyHead bytes f → HeadIs bytes (Err (Faulty f))
  head_short : HeadIs bytes (Err Incomplete)

extension-view : (bytes rest : List ℕ) (flags : ℕ) → flags < 65536 → bytes ≡ signature ++ (to_be_bytes w32 flags ++ rest) → IsBytes rest → HeadIs bytes (extension_at rest >>= λ n. bytes_at n.0 n.1)
unfolding extension_at
extension-view bytes rest flags low parts fits = go (number_at w32 rest) (number-view w32 (2 ^ 32) rest backed32 fits)
  where
    full : (k : ℕ) (what_follows : List ℕ) → k < 2147483648 → rest ≡ to_be_bytes w32 k ++ what_follows → (r : Result (List ℕ × List ℕ) NoPart) → BytesIs k what_follows r → HeadIs bytes r
    full k what_follows short e _ (bytes_there first after len split are) =
        let sized : rest ≡ to_be_bytes w32 (length first) ++ (first ++ after) = e ∙ ap (λ (n : ℕ). to_be_bytes w32 n ++ what_follows) (sym len) ∙ ap (λ (x : List ℕ). to_be_bytes w32 (length first) ++ x) split in
        let all : bytes ≡ signature ++ (to_be_bytes w32 flags ++ (to_be_bytes w32 (length first) ++ (first ++ after))) = parts ∙ ap (λ (x : List ℕ). signature ++ (to_be_bytes w32 flags ++ x)) sized in
        let grouped : head flags first ++ after ≡ signature ++ (to_be_bytes w32 flags ++ (to_be_bytes w32 (length first) ++ (first ++ after))) =
        append_assoc (signature ++ to_be_bytes w32 flags ++ to_be_bytes w32 (length first)) first after ∙ append_assoc (signature ++ to_be_bytes w32 flags) (to_be_bytes w32 (length first)) (first ++ after) ∙ append_assoc signature (to_be_bytes w32 flags) (to_be_bytes w32 (length first) ++ (first ++ after)) in
        head_there (head flags first) first after (flags, first, low, omega arith, refl) (all ∙ sym grouped) are
    full k what_follows short e _ bytes_short = head_short

    sign : (k : ℕ) (what_follows : List ℕ) → k < 2 ^ 32 → rest ≡ to_be_bytes w32 k ++ what_follows → IsBytes what_follows → (t : Bool) → ltb k 2147483648 ≡ t → HeadIs bytes (cond {A = Result (ℕ × List ℕ) NoPart} t (Ok (k, what_follows)) (Err (Faulty (Extension (cast_signed w32 k)))) >>= λ n. bytes_at n.0 n.1)
    sign k what_follows lt e are true h = full k what_follows (ltb-true k 2147483648 h) e (bytes_at k what_follows) (bytes-view k what_follows are)
    sign k what_follows lt e are false h = head_faulty (Extension (cast_signed w32 k)) (subst (λ (x : List ℕ). IsFaultyHead x (Extension (cast_signed w32 k))) (sym (parts ∙ ap (λ (x : List ℕ). signature ++ (to_be_bytes w32 flags ++ x)) e)) (extension_negative flags k what_follows low (omega (arith, ltb-false k 2147483648 h)) lt))

    go : (r : Result (ℕ × List ℕ) NoPart) → NumberIs w32 (2 ^ 32) rest r → HeadIs bytes ((r >>= λ n. cond (ltb n.0 2147483648) (Ok n) (Err (Faulty (Extension (cast_signed w32 n.0))))) >>= λ n. bytes_at n.0 n.1)
    go _ (number_there k what_follows lt e are) = sign k what_follows lt e are (ltb k 2147483648) refl
    go _ number_short = head_short

flags-view : (bytes rest : List ℕ) → bytes ≡ signature ++ rest → IsBytes rest → HeadIs bytes ((flags_at rest >>= λ f. extension_at f.1) >>= λ n. bytes_at n.0 n.1)
unfolding flags_at
flags-view bytes rest parts fits = go (number_at w32 rest) (number-view w32 (2 ^ 32) rest backed32 fits)
  where
    low : (n : ℕ) (after : List ℕ) → n < 2 ^ 32 → rest ≡ to_be_bytes w32 n ++ after → IsBytes after → (t : Bool) → ltb n 65536 ≡ t → HeadIs bytes ((cond {A = Result (ℕ × List ℕ) NoPart} t (Ok (n, after)) (Err (Faulty (Flags n))) >>= λ f. extension_at f.1) >>= λ n. bytes_at n.0 n.1)
    low n after lt e are true h = extension-view bytes after n (ltb-true n 65536 h) (parts ∙ ap (λ (x : List ℕ). signature ++ x) e) are
    low n after lt e are false h = head_faulty (Flags n) (subst (λ (x : List ℕ). IsFaultyHead x (Flags n)) (sym (parts ∙ ap (λ (x : List ℕ). signature ++ x) e)) (flag_set n after (ltb-false n 65536 h) lt))

    go : (r : Result (ℕ × List ℕ) NoPart) → NumberIs w32 (2 ^ 32) rest r → HeadIs bytes (((r >>= λ n. cond (ltb n.0 65536) (Ok n) (Err (Faulty (Flags n.0)))) >>= λ f. extension_at f.1) >>= λ n. bytes_at n.0 n.1)
    go _ (number_there n after lt e are) = low n after lt e are (ltb n 65536) refl
    go _ number_short = head_short

head-view : (bytes : List ℕ) → IsBytes bytes → HeadIs bytes (head_at bytes)
unfolding head_at fixed_at signature_at
head-view bytes fits = go (bytes_at 11 bytes) (bytes-view 11 bytes fits)
  where
    signed : (first rest : List ℕ) → length first ≡ 11 → bytes ≡ first ++ rest → IsBytes rest → (t : Bool) → bytes_eq first signature ≡ t → HeadIs bytes ((cond {A = Result (List ℕ × List ℕ) NoPart} t (Ok (first, rest)) (Err (Faulty Signature)) >>= λ s. (flags_at s.1 >>= λ f. extension_at f.1)) >>= λ n. bytes_at n.0 n.1)
    signed first rest len parts are true e = flags-view bytes rest (parts ∙ ap (λ (x : List ℕ). x ++ rest) (same-bytes first signature e)) are
    signed first rest len parts are false e =
        let front : take 11 bytes ≡ first = ap (take 11) parts ∙ take_at first rest 11 len in
        head_faulty Signature (signature_differs bytes (omega (arith, ap length parts, length-append first rest)) (λ same. clash (sym e ∙ ap (λ (x : List ℕ). bytes_eq x signature) (sym front ∙ same))))
      where
        clash : false ≡ true → ⊥
        clash f = cc

    go : (r : Result (List ℕ × List ℕ) NoPart) → BytesIs 11 bytes r → HeadIs bytes (((r >>= λ s. cond (bytes_eq s.0 signature) (Ok s) (Err (Faulty Signature))) >>= λ s. (flags_at s.1 >>= λ f. extension_at f.1)) >>= λ n. bytes_at n.0 n.1)
    go _ (bytes_there first rest len parts are) = signed first rest len parts are (bytes_eq first signature) refl
    go _ bytes_short = head_short

head-fault-again : (bytes : List ℕ) (f : BinaryFault) → IsFaultyHead bytes f → head_at bytes ≡ Err (Faulty f)
unfolding head_at fixed_at signature_at flags_at extension_at
head-fault-again _ _ (signature_differs bytes long ne) = rw (le-ltb (length bytes) 11 long, other-bytes (take 11 bytes) signature ne) refl
head-fault-again _ _ (flag_set n more high lt) = rw (bytes-again signature (to_be_bytes w32 n ++ more) 11 refl, number-again w32 (2 ^ 32) n more wide32 lt, le-ltb n 65536 high) refl
head-fault-again _ _ (extension_negative flags n more low high lt) =
    rw (bytes-again signature (to_be_bytes w32 flags ++ (to_be_bytes w32 n ++ more)) 11 refl, number-again w32 (2 ^ 32) flags (to_be_bytes w32 n ++ more) wide32 (omega arith), lt-ltb flags 65536 low, number-again w32 (2 ^ 32) n more wide32 lt, le-ltb n 2147483648 (omega arith)) refl

open-head-is : (bytes : List ℕ) → head_at bytes ≡ Err Incomplete → IsOpenHead bytes
open-head-is bytes short = record {
  no_head = λ h more is e. clash (sym short ∙ ap head_at e ∙ (head-again h more is).1);
  no_fault = λ f h. differ (sym short ∙ head-fault-again bytes f h);
}
  where
    clash : {x : List ℕ × List ℕ} → ◌≡◌ {A = Result (List ℕ × List ℕ) NoPart} (Err Incomplete) (Ok x) → ⊥
    clash {x} e = cc

    differ : {f : BinaryFault} → ◌≡◌ {A = Result (List ℕ × List ℕ) NoPart} (Err Incomplete) (Err (Faulty f)) → ⊥
    differ {f} e = cc

open-head-short : (bytes : List ℕ) → IsBytes bytes → IsOpenHead bytes → head_at bytes ≡ Err Incomplete
open-head-short bytes fits h = go (head_at bytes) (head-view bytes fits)
  where
    go : (r : Result (List ℕ × List ℕ) NoPart) → HeadIs bytes r → r ≡ Err Incomplete
    go _ (head_there first extension rest is e are) = absurd (h.no_head first rest is e)
    go _ (head_faulty f e) = absurd (h.no_fault f e)
    go _ head_short = refl

-- ---- files

-- what is read of the bytes is what they are
pub file-there : (columns limit : ℕ) (bytes : List ℕ) → columns ≤ 32767 → limit ≤ 2147483647 → IsBytes bytes → IsBinaryFile columns limit bytes (binary_reading columns limit bytes).rows (binary_reading columns limit bytes).ending
unfolding binary_reading
file-there columns limit bytes few le fits = go (head_at bytes) refl (head-view bytes fits)
  where
    go : (r : Result (List ℕ × List ℕ) NoPart) → head_at bytes ≡ r → HeadIs bytes r → IsBinaryFile columns limit bytes (head_reading (open_head bytes) r (body_reading columns limit)).rows (head_reading (open_head bytes) r (body_reading columns limit)).ending
    go _ found (head_there h extension rest is e are) =
        let b = body-view (suc (length rest)) columns limit rest few le (omega arith) are in
        whole h b.rest is b.each (e ∙ ap (λ (x : List ℕ). h ++ x) b.is ∙ sym (append_assoc h (flat_map binary_row (body_reading columns limit rest).rows) b.rest)) b.ends
    go _ found (head_faulty f e) = headless refl e
    go _ found head_short = headless refl (refl, open-head-is bytes found)

-- and the bytes are nothing else
pub file-once : (columns limit : ℕ) (bytes : List ℕ) (rows : List Row) (ending : RowsEnding BinaryFault) → columns ≤ 32767 → limit ≤ 2147483647 → IsBytes bytes → IsBinaryFile columns limit bytes rows ending → binary_reading columns limit bytes ≡ record { rows = rows; ending = ending }
unfolding binary_reading
file-once columns limit bytes rows ending few le fits (whole h rest is each e ends) =
    let are : IsBytes rest = bytes-right (h ++ flat_map binary_row rows) rest (subst IsBytes e fits) in
    ap (binary_reading columns limit) e ∙ rows-trip columns limit h rows rest few le is each ∙ ap (after_rows rows) (rest-again columns limit rest ending few le are ends) ∙ after-none rows ending
file-once columns limit bytes rows ending few le fits (headless none h) = go ending h ∙ ap (λ (x : List Row). record { rows = x; ending = ending }) (sym none)
  where
    go : (ending : RowsEnding BinaryFault) → IsHeadRest bytes ending → binary_reading columns limit bytes ≡ record { rows = []; ending = ending }
    go (Open kept) (same, h) = ap (λ r. head_reading (open_head bytes) r (body_reading columns limit)) (open-head-short bytes fits h) ∙ ap (λ (x : List ℕ). record { rows = []; ending = Open x }) (sym same)
    go Done h = absurd h
    go Ended h = absurd h
    go (Bad f) h = ap (λ r. head_reading (open_head bytes) r (body_reading columns limit)) (head-fault-again bytes f h)
