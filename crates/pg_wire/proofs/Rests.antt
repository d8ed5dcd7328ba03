-- What the head of a rest says of it.
use Rattle.std.proofs.Common.{◌≡◌, ℕ, ◌+◌, ◌-◌, ◌^◌, ◌<◌, ◌≤◌, List, [], ◌∷◌, ◌++◌, length, take, drop, Err, refl, sym, ap, subst, ◌∙◌, append_assoc, arith, length-append}
use Rattle.std.specs.Prelude.{ℤ, pos, negsuc, ◌<ℤ◌, ◌≤ℤ◌, slice_index}
use Rattle.std.specs.Int.{w32, to_be_bytes, from_be_bytes, cast_signed, cast_unsigned}
use Rattle.std.proofs.lemmas.Int.{ints, of_z-to_z, to_z_pos}
use Rattle.std.specs.Int.RustNames.{unsigned_abs as mag}
use Rattle.std.proofs.lemmas.List.{append-nil, take-append-drop, take-append-le, drop-append-le, length-take, length-drop, drop-drop, get_or-drop, get_or_append_left, take_at}
use Rattle.std.proofs.lemmas.Nat.{be_bytes_4, from_be_bytes-to_be_bytes_4}
use Rattle.pg_wire.specs.declared.fault.WireFault.{WireFault}
use Rattle.pg_wire.specs.declared.fault.WireFault.TheVariants as wire
use Rattle.pg_message.specs.Direction.{Direction, spelling, length_field, longest}
use Rattle.pg_wire.specs.Stream.{IsWithin, Head, IsTag, IsWhole, NoMessage, IsFaulty, BeginsNoMessage, IsOpen}
use Rattle.pg_codec.specs.declared.fault.BodyFault.{BodyFault}
use Rattle.pg_codec.specs.declared.fault.BodyFault.TheVariants as body_faults
use Rattle.pg_message.specs.Message.{IsMessage, ReadsBody}
use Rattle.pg_wire.specs.Decoder.{WantsMemory}
use Rattle.pg_wire.specs.Private.Found.{Awaits, StaysOpen}
use Rattle.pg_codec.proofs.Layouts.{IsBytes, IsBytes-take, wide32}
use Rattle.pg_message.proofs.Bodies.{spelled_parts, spelled_from}

-- ---- heads

pub same_length : (rest : List ℕ) (t u : ℕ) (y z : ℤ) → Head rest t y → Head rest u z → y ≡ z
same_length rest t u y z g h = sym g.length_is ∙ h.length_is

pub same_tag : (rest : List ℕ) (t u : ℕ) (y z : ℤ) → Head rest t y → Head rest u z → t ≡ u
same_tag rest t u y z g h = sym g.tag_is ∙ h.tag_is

pub pos_same : (a b : ℕ) → pos a ≡ pos b → a ≡ b
pos_same a b e = cc

-- a length field that is short isn't long, and neither is that of a whole message
short_long : (n k : ℤ) (limit : ℕ) → 64 ≤ limit → n ≡ k → n <ℤ pos 4 → pos limit <ℤ k → ⊥
short_long n k limit wide e short long = let lt = subst (λ (z : ℤ). z <ℤ pos 4) e short in omega (arith, ints)

short_whole : (n : ℤ) (len : ℕ) → n ≡ pos len → n <ℤ pos 4 → 4 ≤ len → ⊥
short_whole n len e short low = let lt = subst (λ (z : ℤ). z <ℤ pos 4) e short in omega (arith, ints)

long_whole : (n : ℤ) (len limit : ℕ) → n ≡ pos len → pos limit <ℤ n → len ≤ limit → ⊥
long_whole n len limit e long high = let lt = subst (λ (z : ℤ). pos limit <ℤ z) e long in omega (arith, ints)

module _ {M : Type 0} (d : Direction M) where
  pub spelled_head : (m : M) (more : List ℕ) → length_field d m < 2 ^ 31 → Head (spelling d m ++ more) (d.tag m) (pos (length_field d m))
  spelled_head m more short = record {
    there = omega arith;
    tag_is = refl;
    length_is = rw (from_be_bytes-to_be_bytes_4 (length_field d m) (omega arith)) (to_z_pos w32 (length_field d m) short);
  }

  length_of_spelling : (m : M) (more : List ℕ) → length (spelling d m ++ more) ≡ 1 + length_field d m + length more
  length_of_spelling m more = omega (arith, length-append (spelling d m) more, length-append (to_be_bytes w32 (length_field d m)) (d.body m))

  -- what a message at the beginning says of the head
  pub first_head : (limit : ℕ) (rest : List ℕ) (m : M) (more : List ℕ) → IsWithin d limit m → rest ≡ spelling d m ++ more → Head rest (d.tag m) (pos (length_field d m)) × (1 + length_field d m ≤ length rest)
  first_head limit rest m more w is =
      let p = spelled_parts d m w.spelled in
      let short : length_field d m < 2 ^ 31 = omega (arith, p.1) in
      let long : 1 + length_field d m ≤ length (spelling d m ++ more) = omega (arith, length_of_spelling m more) in
      subst (λ (r : List ℕ). Head r (d.tag m) (pos (length_field d m)) × (1 + length_field d m ≤ length r)) (sym is) (spelled_head m more short, long)

  -- ---- open rests

  pub short_open : (limit : ℕ) (rest : List ℕ) → length rest < 5 → IsOpen d limit rest
  short_open limit rest short = record { no_message = no_message; no_fault = no_fault }
    where
      no_message : (m : M) (more : List ℕ) → IsWithin d limit m → rest ≡ spelling d m ++ more → ⊥
      no_message m more w is = let f = first_head limit rest m more w is in omega (arith, f.0.there)

      no_fault : (f : WireFault) → IsFaulty d limit rest f → ⊥
      no_fault (wire.UnknownTag t) p = omega (arith, p.1.there)
      no_fault (wire.ShortLength n) p = omega (arith, p.1.there)
      no_fault (wire.LongLength n) p = omega (arith, p.1.there)
      no_fault (wire.BadBody t) p = omega (arith, p.1.head.there)
      no_fault (wire.BadFirst c) p = p
      no_fault wire.Memory p = p

  pub partial_open : (limit : ℕ) (rest : List ℕ) (t len : ℕ) → Head rest t (pos len) → IsTag d t → 4 ≤ len → len ≤ limit → length rest ≤ len → IsOpen d limit rest
  partial_open limit rest t len head known low high part = record { no_message = no_message; no_fault = no_fault }
    where
      no_message : (m : M) (more : List ℕ) → IsWithin d limit m → rest ≡ spelling d m ++ more → ⊥
      no_message m more w is =
          let f = first_head limit rest m more w is in
          let e = pos_same _ _ (same_length rest t (d.tag m) (pos len) (pos (length_field d m)) head f.0) in
          omega (arith, f.1)

      no_fault : (f : WireFault) → IsFaulty d limit rest f → ⊥
      no_fault (wire.UnknownTag u) p = p.2 (subst (IsTag d) (same_tag rest t u (pos len) p.0 head p.1) known)
      no_fault (wire.ShortLength n) p = let e = same_length rest t p.0 (pos len) n head p.1 in let lt = subst (λ (z : ℤ). z <ℤ pos 4) (sym e) p.3 in omega (arith, ints)
      no_fault (wire.LongLength n) p = let e = same_length rest t p.0 (pos len) n head p.1 in let lt = subst (λ (z : ℤ). pos limit <ℤ z) (sym e) p.3 in omega (arith, ints)
      no_fault (wire.BadBody u) p = let e = pos_same _ _ (same_length rest t u (pos len) (pos p.0) head p.1.head) in omega (arith, p.1.there)
      no_fault (wire.BadFirst c) p = p
      no_fault wire.Memory p = p

  -- ---- faulty rests

  pub faulty_begins_none : (limit : ℕ) (rest : List ℕ) (f : WireFault) → IsFaulty d limit rest f → BeginsNoMessage d limit rest
  faulty_begins_none limit rest (wire.UnknownTag t) p m more w is =
      let h = first_head limit rest m more w is in
      p.2 (m, same_tag rest (d.tag m) t (pos (length_field d m)) p.0 h.0 p.1)
  faulty_begins_none limit rest (wire.ShortLength n) p m more w is =
      let h = first_head limit rest m more w is in
      let e = same_length rest (d.tag m) p.0 (pos (length_field d m)) n h.0 p.1 in
      let lt = subst (λ (z : ℤ). z <ℤ pos 4) (sym e) p.3 in
      omega (arith, ints)
  faulty_begins_none limit rest (wire.LongLength n) p m more w is =
      let h = first_head limit rest m more w is in
      let e = same_length rest (d.tag m) p.0 (pos (length_field d m)) n h.0 p.1 in
      let lt = subst (λ (z : ℤ). pos limit <ℤ z) (sym e) p.3 in
      omega (arith, ints, w.limited)
  faulty_begins_none limit rest (wire.BadBody t) p m more w is =
      let h = first_head limit rest m more w is in
      let e : length_field d m ≡ p.0 = pos_same _ _ (same_length rest (d.tag m) t (pos (length_field d m)) (pos p.0) h.0 p.1.head) in
      let size : p.0 - 4 ≡ length (d.body m) = omega arith in
      let body_is : d.body m ≡ take (p.0 - 4) (drop 5 rest) = sym (body_at m more) ∙ ap (λ (r : List ℕ). take (length (d.body m)) (drop 5 r)) (sym is) ∙ ap (λ (k : ℕ). take k (drop 5 rest)) (sym size) in
      p.2 m w.spelled (same_tag rest (d.tag m) t (pos (length_field d m)) (pos p.0) h.0 p.1.head) body_is
    where
      body_at : (m : M) (more : List ℕ) → take (length (d.body m)) (drop 5 (spelling d m ++ more)) ≡ d.body m
      body_at m more = take_at (d.body m) more (length (d.body m)) refl
  faulty_begins_none limit rest (wire.BadFirst c) p m more w is = p
  faulty_begins_none limit rest wire.Memory p m more w is = p

  pub one_fault : (limit : ℕ) (rest : List ℕ) (f g : WireFault) → 64 ≤ limit → IsFaulty d limit rest f → IsFaulty d limit rest g → f ≡ g
  one_fault limit rest (wire.UnknownTag t) (wire.UnknownTag u) wide p q = ap wire.UnknownTag (same_tag rest t u p.0 q.0 p.1 q.1)
  one_fault limit rest (wire.UnknownTag t) (wire.ShortLength n) wide p q = absurd (p.2 (subst (IsTag d) (same_tag rest q.0 t n p.0 q.1 p.1) q.2))
  one_fault limit rest (wire.UnknownTag t) (wire.LongLength n) wide p q = absurd (p.2 (subst (IsTag d) (same_tag rest q.0 t n p.0 q.1 p.1) q.2))
  one_fault limit rest (wire.UnknownTag t) (wire.BadBody u) wide p q = absurd (p.2 (subst (IsTag d) (same_tag rest u t (pos q.0) p.0 q.1.head p.1) q.1.known))
  one_fault limit rest (wire.ShortLength n) (wire.UnknownTag t) wide p q = absurd (q.2 (subst (IsTag d) (same_tag rest p.0 t n q.0 p.1 q.1) p.2))
  one_fault limit rest (wire.ShortLength n) (wire.ShortLength k) wide p q = ap wire.ShortLength (same_length rest p.0 q.0 n k p.1 q.1)
  one_fault limit rest (wire.ShortLength n) (wire.LongLength k) wide p q = absurd (short_long n k limit wide (same_length rest p.0 q.0 n k p.1 q.1) p.3 q.3)
  one_fault limit rest (wire.ShortLength n) (wire.BadBody t) wide p q = absurd (short_whole n q.0 (same_length rest p.0 t n (pos q.0) p.1 q.1.head) p.3 q.1.not_short)
  one_fault limit rest (wire.LongLength n) (wire.UnknownTag t) wide p q = absurd (q.2 (subst (IsTag d) (same_tag rest p.0 t n q.0 p.1 q.1) p.2))
  one_fault limit rest (wire.LongLength n) (wire.ShortLength k) wide p q = absurd (short_long k n limit wide (same_length rest q.0 p.0 k n q.1 p.1) q.3 p.3)
  one_fault limit rest (wire.LongLength n) (wire.LongLength k) wide p q = ap wire.LongLength (same_length rest p.0 q.0 n k p.1 q.1)
  one_fault limit rest (wire.LongLength n) (wire.BadBody t) wide p q = absurd (long_whole n q.0 limit (same_length rest p.0 t n (pos q.0) p.1 q.1.head) p.3 q.1.not_long)
  one_fault limit rest (wire.BadBody t) (wire.UnknownTag u) wide p q = absurd (q.2 (subst (IsTag d) (same_tag rest t u (pos p.0) q.0 p.1.head q.1) p.1.known))
  one_fault limit rest (wire.BadBody t) (wire.ShortLength n) wide p q = absurd (short_whole n p.0 (same_length rest q.0 t n (pos p.0) q.1 p.1.head) q.3 p.1.not_short)
  one_fault limit rest (wire.BadBody t) (wire.LongLength n) wide p q = absurd (long_whole n p.0 limit (same_length rest q.0 t n (pos p.0) q.1 p.1.head) q.3 p.1.not_long)
  one_fault limit rest (wire.BadBody t) (wire.BadBody u) wide p q = ap wire.BadBody (same_tag rest t u (pos p.0) (pos q.0) p.1.head q.1.head)
  one_fault limit rest f (wire.BadFirst c) wide p q = absurd q
  one_fault limit rest f wire.Memory wide p q = absurd q
  one_fault limit rest (wire.BadFirst c) g wide p q = absurd p
  one_fault limit rest wire.Memory g wide p q = absurd p

-- ---- whole messages

five : (rest : List ℕ) → 5 ≤ length rest → rest ≡ slice_index rest 0 ∷ (take 4 (drop 1 rest) ++ drop 5 rest)
five [] h = absurd (omega arith)
five (a ∷ []) h = absurd (omega arith)
five (a ∷ b ∷ []) h = absurd (omega arith)
five (a ∷ b ∷ c ∷ []) h = absurd (omega arith)
five (a ∷ b ∷ c ∷ d ∷ []) h = absurd (omega arith)
five (a ∷ b ∷ c ∷ d ∷ e ∷ rest) h = refl

pub IsBytes-drop : (n : ℕ) (bytes : List ℕ) → IsBytes bytes → IsBytes (drop n bytes)
IsBytes-drop n bytes h i = rw get_or-drop (h (n + i))

pub message_found : {M : Type 0} (d : Direction M) (limit : ℕ) (rest : List ℕ) (t len n : ℕ) (m : M) → limit ≤ longest → IsBytes rest → IsWhole d limit rest t len → n ≡ len - 4 → IsMessage d t (take n (drop 5 rest)) m
    → IsWithin d limit m × (rest ≡ spelling d m ++ drop (len + 1) rest)
message_found d limit rest t len n m small fits whole size found =
    let bytes = take n (drop 5 rest) in
    let body_len : length (d.body m) ≡ length bytes = ap length found.body_is in
    let lf : length_field d m ≡ len = omega (arith, length-take n (drop 5 rest), length-drop 5 rest, whole.there, whole.not_short) in
    let number_bytes = take 4 (drop 1 rest) in
    let are : IsBytes number_bytes = IsBytes-take 4 (drop 1 rest) (IsBytes-drop 1 rest fits) in
    let number : len ≡ from_be_bytes w32 number_bytes = sym (ap (cast_unsigned w32) whole.head.length_is) ∙ of_z-to_z w32 (from_be_bytes w32 number_bytes) (wide32.below number_bytes are) in
    let written : to_be_bytes w32 len ≡ number_bytes = be_bytes_4 number_bytes len (omega (arith, length-take 4 (drop 1 rest), length-drop 1 rest, whole.there, whole.not_short)) are number in
    let after : drop n (drop 5 rest) ≡ drop (len + 1) rest = drop-drop n 5 rest ∙ ap (λ (j : ℕ). drop j rest) (omega (arith, whole.not_short)) in
    let back : drop 5 rest ≡ d.body m ++ drop (len + 1) rest = sym (take-append-drop n (drop 5 rest)) ∙ ap (λ (u : List ℕ). u ++ drop n (drop 5 rest)) (sym found.body_is) ∙ ap (λ (u : List ℕ). d.body m ++ u) after in
    let tag_same : slice_index rest 0 ≡ d.tag m = whole.head.tag_is ∙ sym found.tag_is in
    let length_same : number_bytes ≡ to_be_bytes w32 (length_field d m) = sym written ∙ ap (to_be_bytes w32) (sym lf) in
    let parts : rest ≡ d.tag m ∷ (to_be_bytes w32 (length_field d m) ++ (d.body m ++ drop (len + 1) rest)) =
    five rest whole.head.there ∙ ap (λ (b : ℕ). b ∷ (number_bytes ++ drop 5 rest)) tag_same ∙ ap (λ (u : List ℕ). d.tag m ∷ (u ++ drop 5 rest)) length_same ∙ ap (λ (u : List ℕ). d.tag m ∷ (to_be_bytes w32 (length_field d m) ++ u)) back in (
      record {
        spelled = spelled_from d m (record { of_type = found.of_type; no_zero = found.no_zero; countable = found.countable; not_reserved = found.not_reserved }) (omega (arith, whole.not_long));
        limited = omega (arith, whole.not_long);
      },
      parts ∙ ap (λ (u : List ℕ). d.tag m ∷ u) (sym (append_assoc (to_be_bytes w32 (length_field d m)) (d.body m) (drop (len + 1) rest))),
    )

-- ---- for the code that judges a head

pub message_wanted : {M : Type 0} (d : Direction M) (limit : ℕ) (rest : List ℕ) (t len n : ℕ) (f : BodyFault) → limit ≤ longest → IsBytes rest → IsWhole d limit rest t len → n ≡ len - 4 → f ≡ body_faults.Memory → ReadsBody d t (take n (drop 5 rest)) (Err f) → WantsMemory d limit rest
message_wanted d limit rest t len n body_faults.Memory small fits whole size e wanted =
    let found = message_found d limit rest t len n wanted.0 small fits whole size wanted.1 in
    (wanted.0, drop (len + 1) rest, found.0, wanted.2, found.1)
message_wanted d limit rest t len n body_faults.Bad small fits whole size e wanted = absurd cc

pub signed_same : (rest : List ℕ) (t : ℕ) (z : ℤ) → IsBytes rest → Head rest t z → cast_signed w32 (cast_unsigned w32 z) ≡ z
signed_same rest t z fits head =
    let x = from_be_bytes w32 (take 4 (drop 1 rest)) in
    let back : cast_unsigned w32 (cast_signed w32 x) ≡ x = of_z-to_z w32 x (wide32.below (take 4 (drop 1 rest)) (IsBytes-take 4 (drop 1 rest) (IsBytes-drop 1 rest fits))) in
    ap (λ (y : ℤ). cast_signed w32 (cast_unsigned w32 y)) (sym head.length_is) ∙ ap (cast_signed w32) back ∙ head.length_is

module _ {M : Type 0} (d : Direction M) (limit : ℕ) (rest : List ℕ) (t : ℕ) (y z : ℤ) (same : y ≡ z) (head : Head rest t z) (known : IsTag d t) where
  head_y : Head rest t y
  head_y = subst (λ (x : ℤ). Head rest t x) (sym same) head

  pub short_fault : y <ℤ pos 4 → IsFaulty d limit rest (wire.ShortLength y)
  short_fault lt = (t, head_y, known, lt)

  pub long_fault : pos limit <ℤ y → IsFaulty d limit rest (wire.LongLength y)
  long_fault lt = (t, head_y, known, lt)

-- the head of bytes that go on
head_on : (rest more : List ℕ) (t : ℕ) (z : ℤ) → Head rest t z → Head (rest ++ more) t z
head_on rest more t z h = record {
  there = omega (arith, h.there, length-append rest more);
  tag_is = get_or_append_left rest more 0 0 (omega (arith, h.there)) ∙ h.tag_is;
  length_is = ap (λ (u : List ℕ). cast_signed w32 (from_be_bytes w32 (take 4 u))) (drop-append-le 1 rest more (omega (arith, h.there)))
      ∙ ap (λ (u : List ℕ). cast_signed w32 (from_be_bytes w32 u)) (take-append-le 4 (drop 1 rest) more (omega (arith, h.there, length-drop 1 rest))) ∙ h.length_is;
}

-- without a head they stay open until there is one
pub headless_open : {M : Type 0} (d : Direction M) (limit : ℕ) (rest : List ℕ) → 64 ≤ limit → Awaits d limit rest 4
headless_open d limit rest wide = λ more le. (short_open d limit (rest ++ more) (omega (arith, le)), omega (arith, le))

pub headless : {M : Type 0} (d : Direction M) (limit : ℕ) (rest : List ℕ) → 64 ≤ limit → length rest < 5 → StaysOpen d limit rest 4
headless d limit rest wide short = (short_open d limit rest short, omega (arith, short), headless_open d limit rest wide)

pub awaits_push : {M : Type 0} (d : Direction M) (limit : ℕ) (rest piece : List ℕ) (size : ℕ) → Awaits d limit rest size → Awaits d limit (rest ++ piece) size
awaits_push d limit rest piece size h = λ more lt. subst (λ (u : List ℕ). IsOpen d limit u × (length u < limit + 1)) (sym (append_assoc rest piece more)) (h (piece ++ more) (omega (arith, lt, ap length (append_assoc rest piece more))))

pub awaits_now : {M : Type 0} (d : Direction M) (limit : ℕ) (rest : List ℕ) (size : ℕ) → Awaits d limit rest size → length rest ≤ size → IsOpen d limit rest × (length rest < limit + 1)
awaits_now d limit rest size h lt = subst (λ (u : List ℕ). IsOpen d limit u × (length u < limit + 1)) (append-nil rest) (h [] (omega (arith, lt, ap length (append-nil rest))))

pub judged_open : {M : Type 0} (d : Direction M) (limit : ℕ) (rest : List ℕ) (t : ℕ) (y z : ℤ) → y ≡ z → Head rest t z → IsTag d t → pos 4 ≤ℤ y → y ≤ℤ pos limit → length rest ≤ mag y → StaysOpen d limit rest (mag y)
judged_open d limit rest t (pos n) z same head known low high part =
    let there = subst (λ (x : ℤ). Head rest t x) (sym same) head in (
      partial_open d limit rest t n there known (omega (arith, ints)) (omega (arith, ints)) part,
      omega (arith, ints),
      λ more lt. (partial_open d limit (rest ++ more) t n (head_on rest more t (pos n) there) known (omega (arith, ints)) (omega (arith, ints)) (omega (arith, lt)), omega (arith, ints, lt)),
    )
judged_open d limit rest t (negsuc n) z same head known low high part = absurd (omega (arith, ints))

pub judged_whole : {M : Type 0} (d : Direction M) (limit : ℕ) (rest : List ℕ) (t : ℕ) (y z : ℤ) → y ≡ z → Head rest t z → IsTag d t → pos 4 ≤ℤ y → y ≤ℤ pos limit → mag y < length rest → IsWhole d limit rest t (mag y)
judged_whole d limit rest t (pos n) z same head known low high there = record {
  head = subst (λ (x : ℤ). Head rest t x) (sym same) head;
  known = known;
  not_short = omega (arith, ints);
  not_long = omega (arith, ints);
  there = omega arith;
}
judged_whole d limit rest t (negsuc n) z same head known low high there = absurd (omega (arith, ints))

pub bad_fault : {M : Type 0} (d : Direction M) (limit : ℕ) (rest : List ℕ) (t len n : ℕ) → IsWhole d limit rest t len → n ≡ len - 4 → NoMessage d t (take n (drop 5 rest)) → IsFaulty d limit rest (wire.BadBody t)
bad_fault d limit rest t len n whole size none = (len, whole, subst (λ (k : ℕ). NoMessage d t (take k (drop 5 rest))) size none)
