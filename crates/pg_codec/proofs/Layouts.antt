-- Bodies and their readers: what is read is spelled so, and what is spelled so is read.
use Rattle.std.proofs.Common.{◌≡◌, ℕ, zero, suc, ◌+◌, ◌^◌, ◌<◌, ◌≤◌, Bool, true, false, ◌||◌, not, cond, ltb, eqb, List, [], ◌∷◌, ◌++◌, length, get_or, take, drop, Option, Some, None, refl, sym, ap, subst, ◌∙◌, append_assoc, arith, inl, inr, length-append, add-one, lit<}
use Rattle.std.specs.Prelude.{ℤ, pos, negsuc, position}
use Rattle.std.proofs.Math.Facts.{sfits_to_z}
use Rattle.std.proofs.lemmas.Bool.{or_from}
use Rattle.std.specs.List.{position_or_len}
use Rattle.std.specs.Int.{Width, w16, w32, byte_len, from_be_bytes, to_be_bytes, cast_signed, cast_unsigned}
use Rattle.std.specs.Int.RustNames.{FitsSigned}
use Rattle.std.proofs.lemmas.Bool.{cases_lt, ltb-true, ltb-false, le-ltb, ne_eqb, lt-ltb, or_parts}
use Rattle.std.proofs.lemmas.List.{append-nil, take_at, drop_at, take-append-drop, length-take, get_or-take, get_or_past, get_or-append-add}
use Rattle.std.proofs.lemmas.Nat.{be_bytes_2, be_bytes_4, from_be_bytes-to_be_bytes_2, from_be_bytes-to_be_bytes_4}
use Rattle.std.proofs.lemmas.Int.{of_z-to_z, to_z-of_z}
use Rattle.pg_codec.specs.Private.Reader.{◌>>=◌, pair_at, mapped_at, times_at, nothing_at, byten_at, number_at, signed_at, string_at, counted_at}
use Rattle.pg_codec.specs.Field.{Body, ◌⨾◌, plain, int16, int32, oid, byten, nothing, string, contains_zero, listed, counted, exceeds_count}

-- ---- bytes

abbrev pub IsBytes : List ℕ → Type 0
IsBytes bytes = (i : ℕ) → get_or bytes i 0 < 256

pub IsBytes-right : (first rest : List ℕ) → IsBytes (first ++ rest) → IsBytes rest
IsBytes-right first rest h i = rw (← get_or-append-add first rest i 0) (h (length first + i))

pub IsBytes-take : (n : ℕ) (bytes : List ℕ) → IsBytes bytes → IsBytes (take n bytes)
IsBytes-take n bytes h i =
    elim (cases_lt i n) [
      | inl lt ↦ rw (get_or-take n bytes i 0 lt) (h i)
      | inr le ↦ rw (get_or_past (take n bytes) i 0 (omega (arith, length-take n bytes))) (omega arith)
    ]

-- ---- options

pub bind_some : {A B : Type 0} (o : Option A) (f : A → Option B) (y : B) → (o >>= f) ≡ Some y → (x : A) × (o ≡ Some x) × (f x ≡ Some y)
bind_some (Some x) f y e = (x, refl, e)
bind_some None f y e = absurd cc

abbrev some : {A : Type 0} → A → Option A
some x = Some x

pub some_is : {A : Type 0} (x y : A) → some x ≡ some y → x ≡ y
some_is x y e = cc

pub guard_some : {A : Type 0} (b : Bool) (x y : A) → cond b None (Some x) ≡ Some y → (b ≡ false) × (x ≡ y)
guard_some true x y e = absurd cc
guard_some false x y e = (refl, cc)

-- ---- layouts: values of a kind, each as a body

-- The body has a spelling, but perhaps for its length.
pub record Spelled (b : Body) : Type 0 where
  pub no_zero : b.has_zero ≡ false
  pub countable : b.has_too_many ≡ false
  pub of_type : b.IsOfType

-- The bytes are the value's spelling and a rest.
pub record BeginsWith {A : Type 0} (l : A → Body) (bytes : List ℕ) (a : A) (rest : List ℕ) : Type 0 where
  pub parts : bytes ≡ (l a).bytes ++ rest
  pub spelled : Spelled (l a)

-- What the reader finds is spelled so.
abbrev pub IsSound : {A : Type 0} → (A → Body) → (List ℕ → Option (A × List ℕ)) → Type 0
IsSound {A} l read = (bytes : List ℕ) (a : A) (rest : List ℕ) → IsBytes bytes → read bytes ≡ Some (a, rest) → BeginsWith l bytes a rest

-- The reader reads this layout.
pub record Reads {A : Type 0} (l : A → Body) (read : List ℕ → Option (A × List ℕ)) : Type 0 where
  pub sound : IsSound l read
  pub again : (a : A) (rest : List ℕ) → Spelled (l a) → length (l a).bytes < 2 ^ 31 → read ((l a).bytes ++ rest) ≡ Some (a, rest)

pub rest_bytes : {A : Type 0} (l : A → Body) (bytes : List ℕ) (a : A) (rest : List ℕ) → IsBytes bytes → BeginsWith l bytes a rest → IsBytes rest
rest_bytes l bytes a rest fits t = IsBytes-right (l a).bytes rest (subst IsBytes t.parts fits)

-- ---- one after the other

abbrev pub pair_of : {A B : Type 0} → (A → Body) → (B → Body) → A × B → Body
pair_of la lb p = la p.0 ⨾ lb p.1

pair_sound : {A B : Type 0} (la : A → Body) (lb : B → Body) (ra : List ℕ → Option (A × List ℕ)) (rb : List ℕ → Option (B × List ℕ)) → IsSound la ra → IsSound lb rb → IsSound (pair_of la lb) (pair_at ra rb)
pair_sound {A} {B} la lb ra rb fa fb bytes p rest fits e =
    let x = bind_some (ra bytes) (λ (a : A × List ℕ). rb a.1 >>= λ b. Some ((a.0, b.0), b.1)) (p, rest) e in
    let y = bind_some (rb x.0.1) (λ (b : B × List ℕ). Some ((x.0.0, b.0), b.1)) (p, rest) x.2 in
    let ta = fa bytes x.0.0 x.0.1 fits x.1 in
    let tb = fb x.0.1 y.0.0 y.0.1 (rest_bytes la bytes x.0.0 x.0.1 fits ta) y.1 in
    let made : (A × B) × List ℕ = ((x.0.0, y.0.0), y.0.1) in
    let first = (la x.0.0).bytes in
    let second = (lb y.0.0).bytes in
    let parts : bytes ≡ (first ++ second) ++ y.0.1 = ta.parts ∙ ap (λ (t : List ℕ). first ++ t) tb.parts ∙ sym (append_assoc first second y.0.1) in
    subst (λ (q : (A × B) × List ℕ). BeginsWith (pair_of la lb) bytes q.0 q.1) (some_is made (p, rest) y.2) (record {
      parts = parts;
      spelled = record { no_zero = or_from _ _ ta.spelled.no_zero tb.spelled.no_zero; countable = or_from _ _ ta.spelled.countable tb.spelled.countable; of_type = (ta.spelled.of_type, tb.spelled.of_type) };
    })

-- what is spelled as a pair has two parts that are spelled
pair_parts : (a b : Body) → Spelled (a ⨾ b) → Spelled a × Spelled b
pair_parts a b s =
    let z = or_parts a.has_zero b.has_zero s.no_zero in
    let m = or_parts a.has_too_many b.has_too_many s.countable in
    (record { no_zero = z.0; countable = m.0; of_type = s.of_type.0 }, record { no_zero = z.1; countable = m.1; of_type = s.of_type.1 })

pub pair_reads : {A B : Type 0} (la : A → Body) (lb : B → Body) (ra : List ℕ → Option (A × List ℕ)) (rb : List ℕ → Option (B × List ℕ)) → Reads la ra → Reads lb rb → Reads (pair_of la lb) (pair_at ra rb)
pair_reads {A} {B} la lb ra rb fa fb = record { sound = pair_sound la lb ra rb fa.sound fb.sound; again = again }
  where
    again : (p : A × B) (rest : List ℕ) → Spelled (pair_of la lb p) → length (pair_of la lb p).bytes < 2 ^ 31 → pair_at ra rb ((pair_of la lb p).bytes ++ rest) ≡ Some (p, rest)
    again p rest s short =
        let len = length-append (la p.0).bytes (lb p.1).bytes in
        let two = pair_parts (la p.0) (lb p.1) s in
        let ea = fa.again p.0 ((lb p.1).bytes ++ rest) two.0 (omega arith) in
        let eb = fb.again p.1 rest two.1 (omega arith) in
        ap (pair_at ra rb) (append_assoc (la p.0).bytes (lb p.1).bytes rest) ∙ rw (ea, eb) refl

-- ---- what stands last in a body

-- The reader reads this layout where nothing comes after it.
pub record ReadsLast {A : Type 0} (l : A → Body) (read : List ℕ → Option (A × List ℕ)) : Type 0 where
  pub sound : IsSound l read
  pub again : (a : A) → Spelled (l a) → length (l a).bytes < 2 ^ 31 → read (l a).bytes ≡ Some (a, [])

pub reads_last : {A : Type 0} (l : A → Body) (read : List ℕ → Option (A × List ℕ)) → Reads l read → ReadsLast l read
reads_last l read f = record {
  sound = f.sound;
  again = λ a s short. ap read (sym (append-nil (l a).bytes)) ∙ f.again a [] s short;
}

pub pair_last : {A B : Type 0} (la : A → Body) (lb : B → Body) (ra : List ℕ → Option (A × List ℕ)) (rb : List ℕ → Option (B × List ℕ)) → Reads la ra → ReadsLast lb rb → ReadsLast (pair_of la lb) (pair_at ra rb)
pair_last {A} {B} la lb ra rb fa fb = record { sound = pair_sound la lb ra rb fa.sound fb.sound; again = again }
  where
    again : (p : A × B) → Spelled (pair_of la lb p) → length (pair_of la lb p).bytes < 2 ^ 31 → pair_at ra rb (pair_of la lb p).bytes ≡ Some (p, [])
    again p s short =
        let len = length-append (la p.0).bytes (lb p.1).bytes in
        let two = pair_parts (la p.0) (lb p.1) s in
        let ea = fa.again p.0 (lb p.1).bytes two.0 (omega arith) in
        let eb = fb.again p.1 two.1 (omega arith) in
        rw (ea, eb) refl

pub byten_reads : ReadsLast byten byten_at
byten_reads = record {
  sound = λ bytes a rest fits e. subst (λ (q : List ℕ × List ℕ). BeginsWith byten bytes q.0 q.1) (some_is (bytes, []) (a, rest) e) (record { parts = sym (append-nil bytes); spelled = record { no_zero = refl; countable = refl; of_type = tt } });
  again = λ a s short. refl;
}

pub nothing_reads : ReadsLast (λ (_ : Unit {0}). nothing) nothing_at
nothing_reads = record {
  sound = λ bytes a rest fits e. subst (λ (q : Unit {0} × List ℕ). BeginsWith (λ (_ : Unit {0}). nothing) bytes q.0 q.1) (some_is (tt, bytes) (a, rest) e) (record { parts = refl; spelled = record { no_zero = refl; countable = refl; of_type = tt } });
  again = λ a s short. refl;
}

-- ---- the same values under another form

pub record SameForm {A B : Type 0} (la : A → Body) (lb : B → Body) (to : A → B) (from : B → A) : Type 0 where
  pub back : (b : B) → to (from b) ≡ b
  pub spell : (a : A) → (lb (to a)).bytes ≡ (la a).bytes
  pub there : (a : A) → Spelled (la a) → Spelled (lb (to a))
  pub again : (b : B) → Spelled (lb b) → Spelled (la (from b))

pub mapped_reads : {A B : Type 0} (la : A → Body) (lb : B → Body) (ra : List ℕ → Option (A × List ℕ)) (to : A → B) (from : B → A) → SameForm la lb to from → Reads la ra → Reads lb (mapped_at to ra)
mapped_reads {A} {B} la lb ra to from form fa = record { sound = sound; again = again }
  where
    sound : (bytes : List ℕ) (b : B) (rest : List ℕ) → IsBytes bytes → mapped_at to ra bytes ≡ Some (b, rest) → BeginsWith lb bytes b rest
    sound bytes b rest fits e =
        let x = bind_some (ra bytes) (λ (a : A × List ℕ). Some (to a.0, a.1)) (b, rest) e in
        let t = fa.sound bytes x.0.0 x.0.1 fits x.1 in
        let made : B × List ℕ = (to x.0.0, x.0.1) in
        subst (λ (q : B × List ℕ). BeginsWith lb bytes q.0 q.1) (some_is made (b, rest) x.2) (record {
          parts = t.parts ∙ ap (λ (u : List ℕ). u ++ x.0.1) (sym (form.spell x.0.0));
          spelled = form.there x.0.0 t.spelled;
        })

    again : (b : B) (rest : List ℕ) → Spelled (lb b) → length (lb b).bytes < 2 ^ 31 → mapped_at to ra ((lb b).bytes ++ rest) ≡ Some (b, rest)
    again b rest s short =
        let same : (lb b).bytes ≡ (la (from b)).bytes = ap (λ (c : B). (lb c).bytes) (sym (form.back b)) ∙ form.spell (from b) in
        let e = fa.again (from b) rest (form.again b s) (subst (λ (t : List ℕ). length t < 2 ^ 31) same short) in
        ap (λ (t : List ℕ). mapped_at to ra (t ++ rest)) same ∙ rw (e, form.back b) refl

-- ---- n times

-- No element has a count of its own.
abbrev pub Uncounted : {A : Type 0} → (A → Body) → Type 0
Uncounted {A} l = (a : A) → (l a).has_too_many ≡ false

pub times_sound : {A : Type 0} (l : A → Body) (read : List ℕ → Option (A × List ℕ)) → Reads l read → (n : ℕ) (bytes : List ℕ) (xs : List A) (rest : List ℕ) → IsBytes bytes → times_at read n bytes ≡ Some (xs, rest) → BeginsWith (listed l) bytes xs rest × (length xs ≡ n)
unfolding times_at
times_sound {A} l read f zero bytes xs rest fits e =
    let made : List A × List ℕ = ([], bytes) in
    subst (λ (q : List A × List ℕ). BeginsWith (listed l) bytes q.0 q.1 × (length q.0 ≡ 0)) (some_is made (xs, rest) e) (record { parts = refl; spelled = record { no_zero = refl; countable = refl; of_type = tt } }, refl)
times_sound {A} l read f (suc n) bytes xs rest fits e =
    let x = bind_some (read bytes) (λ (a : A × List ℕ). times_at read n a.1 >>= λ others. Some (a.0 ∷ others.0, others.1)) (xs, rest) e in
    let y = bind_some (times_at read n x.0.1) (λ (others : List A × List ℕ). Some (x.0.0 ∷ others.0, others.1)) (xs, rest) x.2 in
    let t = f.sound bytes x.0.0 x.0.1 fits x.1 in
    let u = times_sound l read f n x.0.1 y.0.0 y.0.1 (rest_bytes l bytes x.0.0 x.0.1 fits t) y.1 in
    let made : List A × List ℕ = (x.0.0 ∷ y.0.0, y.0.1) in
    let first = (l x.0.0).bytes in
    let others = (listed l y.0.0).bytes in
    let parts : bytes ≡ (first ++ others) ++ y.0.1 = t.parts ∙ ap (λ (v : List ℕ). first ++ v) u.0.parts ∙ sym (append_assoc first others y.0.1) in
    subst (λ (q : List A × List ℕ). BeginsWith (listed l) bytes q.0 q.1 × (length q.0 ≡ suc n)) (some_is made (xs, rest) y.2) (
      record {
        parts = parts;
        spelled = record { no_zero = or_from _ _ t.spelled.no_zero u.0.spelled.no_zero; countable = refl; of_type = (t.spelled.of_type, u.0.spelled.of_type) };
      },
      ap suc u.1,
    )

pub times_again : {A : Type 0} (l : A → Body) (read : List ℕ → Option (A × List ℕ)) → Uncounted l → Reads l read → (xs : List A) (rest : List ℕ) → Spelled (listed l xs) → length (listed l xs).bytes < 2 ^ 31 → times_at read (length xs) ((listed l xs).bytes ++ rest) ≡ Some (xs, rest)
unfolding times_at
times_again l read uncounted f [] rest s short = refl
times_again {A} l read uncounted f (x ∷ xs) rest s short =
    let others = (listed l xs).bytes in
    let len = length-append (l x).bytes others in
    let z = or_parts (l x).has_zero (listed l xs).has_zero s.no_zero in
    let ea = f.again x (others ++ rest) (record { no_zero = z.0; countable = uncounted x; of_type = s.of_type.0 }) (omega arith) in
    let eb = times_again l read uncounted f xs rest (record { no_zero = z.1; countable = refl; of_type = s.of_type.1 }) (omega arith) in
    ap (times_at read (suc (length xs))) (append_assoc (l x).bytes others rest) ∙ rw (ea, eb) refl

-- ---- numbers

pub record IsWide (w : Width) (limit : ℕ) : Type 0 where
  pub len : (n : ℕ) → length (to_be_bytes w n) ≡ byte_len w
  pub back : (bytes : List ℕ) → length bytes ≡ byte_len w → IsBytes bytes → to_be_bytes w (from_be_bytes w bytes) ≡ bytes
  pub again : (n : ℕ) → n < limit → from_be_bytes w (to_be_bytes w n) ≡ n
  pub below : (bytes : List ℕ) → IsBytes bytes → from_be_bytes w bytes < limit

pub wide16 : IsWide w16 (2 ^ 16)
wide16 = record {
  len = λ n. refl;
  back = λ bytes len fits. be_bytes_2 bytes _ len fits refl;
  again = λ n lt. from_be_bytes-to_be_bytes_2 n lt;
  below = λ bytes fits. omega (arith, fits 0, fits 1);
}

pub wide32 : IsWide w32 (2 ^ 32)
wide32 = record {
  len = λ n. refl;
  back = λ bytes len fits. be_bytes_4 bytes _ len fits refl;
  again = λ n lt. from_be_bytes-to_be_bytes_4 n lt;
  below = λ bytes fits. omega (arith, fits 0, fits 1, fits 2, fits 3);
}

pub is_plain : (bytes : List ℕ) (OfType : Type 0) → OfType → Spelled (plain bytes OfType)
is_plain bytes OfType t = record { no_zero = refl; countable = refl; of_type = t }

abbrev number_of : Width → ℕ → ℕ → Body
number_of w limit n = plain (to_be_bytes w n) (n < limit)

number_reads : (w : Width) (limit : ℕ) → IsWide w limit → Reads (number_of w limit) (number_at w)
number_reads w limit wide = record { sound = sound; again = again }
  where
    sound : (bytes : List ℕ) (n : ℕ) (rest : List ℕ) → IsBytes bytes → number_at w bytes ≡ Some (n, rest) → BeginsWith (number_of w limit) bytes n rest
    sound bytes n rest fits e =
        let first = take (byte_len w) bytes in
        let back = drop (byte_len w) bytes in
        let made : ℕ × List ℕ = (from_be_bytes w first, back) in
        let g = guard_some (ltb (length bytes) (byte_len w)) made (n, rest) e in
        let long : byte_len w ≤ length bytes = ltb-false _ _ g.0 in
        let are : IsBytes first = IsBytes-take (byte_len w) bytes fits in
        let same : to_be_bytes w (from_be_bytes w first) ≡ first = wide.back first (omega (arith, length-take (byte_len w) bytes)) are in
        subst (λ (q : ℕ × List ℕ). BeginsWith (number_of w limit) bytes q.0 q.1) g.1 (record {
          parts = sym (take-append-drop (byte_len w) bytes) ∙ ap (λ (t : List ℕ). t ++ back) (sym same);
          spelled = is_plain (to_be_bytes w (from_be_bytes w first)) (from_be_bytes w first < limit) (wide.below first are);
        })

    again : (n : ℕ) (rest : List ℕ) → Spelled (number_of w limit n) → length (to_be_bytes w n) < 2 ^ 31 → number_at w (to_be_bytes w n ++ rest) ≡ Some (n, rest)
    again n rest s short =
        let len = wide.len n in
        let long : ltb (length (to_be_bytes w n ++ rest)) (byte_len w) ≡ false = le-ltb _ _ (omega (arith, length-append (to_be_bytes w n) rest)) in
        rw (long, take_at (to_be_bytes w n) rest (byte_len w) len, drop_at (to_be_bytes w n) rest (byte_len w) len, wide.again n s.of_type) refl

abbrev signed_of : Width → ℤ → Body
signed_of w z = plain (to_be_bytes w (cast_unsigned w z)) (FitsSigned w z)

pub record IsSigned (w : Width) (limit : ℕ) : Type 0 where
  pub to : (n : ℕ) → n < limit → FitsSigned w (cast_signed w n)
  pub there : (n : ℕ) → n < limit → cast_unsigned w (cast_signed w n) ≡ n
  pub from : (z : ℤ) → FitsSigned w z → cast_unsigned w z < limit

below16 : (z : ℤ) → FitsSigned w16 z → cast_unsigned w16 z < 2 ^ 16
below16 (pos n) f = omega (arith, f.sfits)
below16 (negsuc n) f = omega (arith, f.sfits)

below32 : (z : ℤ) → FitsSigned w32 z → cast_unsigned w32 z < 2 ^ 32
below32 (pos n) f = omega (arith, f.sfits)
below32 (negsuc n) f = omega (arith, f.sfits)

pub signed16 : IsSigned w16 (2 ^ 16)
signed16 = record { to = λ n h. sfits_to_z (record { fits = h }); there = λ n h. of_z-to_z w16 n h; from = below16 }

pub signed32 : IsSigned w32 (2 ^ 32)
signed32 = record { to = λ n h. sfits_to_z (record { fits = h }); there = λ n h. of_z-to_z w32 n h; from = below32 }

signed_reads : (w : Width) (limit : ℕ) → IsWide w limit → IsSigned w limit → Reads (signed_of w) (signed_at w)
signed_reads w limit wide signed = record { sound = sound; again = again }
  where
    inner : Reads (number_of w limit) (number_at w)
    inner = number_reads w limit wide

    sound : (bytes : List ℕ) (z : ℤ) (rest : List ℕ) → IsBytes bytes → signed_at w bytes ≡ Some (z, rest) → BeginsWith (signed_of w) bytes z rest
    sound bytes z rest fits e =
        let x = bind_some (number_at w bytes) (λ (a : ℕ × List ℕ). Some (cast_signed w a.0, a.1)) (z, rest) e in
        let t = inner.sound bytes x.0.0 x.0.1 fits x.1 in
        let made : ℤ × List ℕ = (cast_signed w x.0.0, x.0.1) in
        subst (λ (q : ℤ × List ℕ). BeginsWith (signed_of w) bytes q.0 q.1) (some_is made (z, rest) x.2) (record {
          parts = t.parts ∙ ap (λ (n : ℕ). to_be_bytes w n ++ x.0.1) (sym (signed.there x.0.0 t.spelled.of_type));
          spelled = is_plain (to_be_bytes w (cast_unsigned w (cast_signed w x.0.0))) (FitsSigned w (cast_signed w x.0.0)) (signed.to x.0.0 t.spelled.of_type);
        })

    again : (z : ℤ) (rest : List ℕ) → Spelled (signed_of w z) → length (to_be_bytes w (cast_unsigned w z)) < 2 ^ 31 → signed_at w (to_be_bytes w (cast_unsigned w z) ++ rest) ≡ Some (z, rest)
    again z rest s short =
        let e = inner.again (cast_unsigned w z) rest (is_plain (to_be_bytes w (cast_unsigned w z)) (cast_unsigned w z < limit) (signed.from z s.of_type)) short in
        rw (e, to_z-of_z w z s.of_type) refl

pub oid_reads : Reads oid (number_at w32)
oid_reads = number_reads w32 (2 ^ 32) wide32

pub int16_reads : Reads int16 (signed_at w16)
int16_reads = signed_reads w16 (2 ^ 16) wide16 signed16

pub int32_reads : Reads int32 (signed_at w32)
int32_reads = signed_reads w32 (2 ^ 32) wide32 signed32

-- ---- texts

-- the place of the first zero byte, and the text before it
pub not_zero : (b : ℕ) → eqb (suc b) 0 ≡ false
not_zero b = ne_eqb (suc b) 0 (λ e. omega arith)

skip : (b : ℕ) (bs : List ℕ) → contains_zero (suc b ∷ bs) ≡ contains_zero bs
skip b bs = ap (λ t. t || contains_zero bs) (not_zero b)

skip_len : (b : ℕ) (bs : List ℕ) → position_or_len (λ b. eqb b 0) (suc b ∷ bs) ≡ 1 + position_or_len (λ b. eqb b 0) bs
skip_len b bs = ap (λ t. cond (not t) (1 + position_or_len (λ b. eqb b 0) bs) 0) (not_zero b)

before_zero : (bytes : List ℕ) (n : ℕ) → n ≡ position_or_len (λ b. eqb b 0) bytes → n < length bytes → (bytes ≡ (take n bytes ++ 0 ∷ []) ++ drop (suc n) bytes) × (contains_zero (take n bytes) ≡ false)
before_zero [] n e lt = absurd (omega arith)
before_zero (zero ∷ bs) zero e lt = (refl, refl)
before_zero (zero ∷ bs) (suc n) e lt = absurd (omega arith)
before_zero (suc b ∷ bs) zero e lt = absurd (omega (arith, skip_len b bs))
before_zero (suc b ∷ bs) (suc n) e lt =
    let r = before_zero bs n (omega (arith, skip_len b bs)) (omega arith) in
    (ap (λ (t : List ℕ). suc b ∷ t) r.0, skip b (take n bs) ∙ r.1)

before_zero_again : (text rest : List ℕ) → contains_zero text ≡ false → position_or_len (λ b. eqb b 0) (text ++ 0 ∷ rest) ≡ length text
before_zero_again [] rest e = refl
before_zero_again (zero ∷ bs) rest e = absurd cc
before_zero_again (suc b ∷ bs) rest e =
    let r = before_zero_again bs rest (sym (skip b bs) ∙ e) in
    omega (arith, skip_len b (bs ++ 0 ∷ rest))

some_cond : {A : Type 0} (b : Bool) (x y : A) → cond b (Some x) None ≡ Some y → (b ≡ true) × (x ≡ y)
some_cond true x y e = (refl, cc)
some_cond false x y e = absurd cc

pub text_reads : Reads string string_at
text_reads = record { sound = sound; again = again }
  where
    sound : (bytes text rest : List ℕ) → IsBytes bytes → string_at bytes ≡ Some (text, rest) → BeginsWith string bytes text rest
    sound bytes text rest fits e =
        let x = bind_some (position (λ b. eqb b 0) bytes) (λ (i : ℕ). Some (take i bytes, drop (i + 1) bytes)) (text, rest) e in
        let g = some_cond (ltb (position_or_len (λ b. eqb b 0) bytes) (length bytes)) (position_or_len (λ b. eqb b 0) bytes) x.0 x.1 in
        let lt : position_or_len (λ b. eqb b 0) bytes < length bytes = ltb-true _ _ g.0 in
        let f = before_zero bytes x.0 (sym g.1) (omega (arith, g.1, lt)) in
        let made : List ℕ × List ℕ = (take x.0 bytes, drop (x.0 + 1) bytes) in
        let parts : bytes ≡ (take x.0 bytes ++ 0 ∷ []) ++ drop (x.0 + 1) bytes = rw add-one f.0 in
        subst (λ (q : List ℕ × List ℕ). BeginsWith string bytes q.0 q.1) (some_is made (text, rest) x.2) (record {
          parts = parts;
          spelled = record { no_zero = f.1; countable = refl; of_type = tt };
        })

    again : (text rest : List ℕ) → Spelled (string text) → length (string text).bytes < 2 ^ 31 → string_at ((string text).bytes ++ rest) ≡ Some (text, rest)
    again text rest s short =
        let at = before_zero_again text rest s.no_zero in
        let whole : (string text).bytes ++ rest ≡ text ++ 0 ∷ rest = append_assoc text (0 ∷ []) rest in
        let within : ltb (length text) (length (text ++ 0 ∷ rest)) ≡ true = lt-ltb _ _ (omega (arith, length-append text (0 ∷ rest))) in
        let place : position (λ b. eqb b 0) (text ++ 0 ∷ rest) ≡ Some (length text) = rw (at, within) refl in
        let back : drop (length text + 1) (text ++ 0 ∷ rest) ≡ rest = ap (λ (t : List ℕ). drop (length text + 1) t) (sym whole) ∙ drop_at (string text).bytes rest (length text + 1) (length-append text (0 ∷ [])) in
        ap string_at whole ∙ rw (place, take_at text (0 ∷ rest) (length text) refl, back) refl

-- ---- lists after a count

pub counted_reads : {A : Type 0} (l : A → Body) (read : List ℕ → Option (A × List ℕ)) → Uncounted l → Reads l read → Reads (counted l) (counted_at read)
unfolding counted_at
counted_reads {A} l read uncounted f = record { sound = sound; again = again }
  where
    count : Reads (number_of w16 (2 ^ 16)) (number_at w16)
    count = number_reads w16 (2 ^ 16) wide16

    sound : (bytes : List ℕ) (xs : List A) (rest : List ℕ) → IsBytes bytes → counted_at read bytes ≡ Some (xs, rest) → BeginsWith (counted l) bytes xs rest
    sound bytes xs rest fits e =
        let x = bind_some (number_at w16 bytes) (λ (n : ℕ × List ℕ). times_at read n.0 n.1) (xs, rest) e in
        let t = count.sound bytes x.0.0 x.0.1 fits x.1 in
        let u = times_sound l read f x.0.0 x.0.1 xs rest (rest_bytes (number_of w16 (2 ^ 16)) bytes x.0.0 x.0.1 fits t) x.2 in
        let size : exceeds_count xs ≡ false = le-ltb _ _ (omega (arith, u.1, t.spelled.of_type)) in
        let all = (listed l xs).bytes in
        let parts : bytes ≡ (to_be_bytes w16 (length xs) ++ all) ++ rest = t.parts ∙ ap (λ (v : List ℕ). to_be_bytes w16 x.0.0 ++ v) u.0.parts ∙ sym (append_assoc (to_be_bytes w16 x.0.0) all rest) ∙ ap (λ (n : ℕ). (to_be_bytes w16 n ++ all) ++ rest) (sym u.1) in
        record {
          parts = parts;
          spelled = record { no_zero = u.0.spelled.no_zero; countable = size; of_type = u.0.spelled.of_type };
        }

    again : (xs : List A) (rest : List ℕ) → Spelled (counted l xs) → length (counted l xs).bytes < 2 ^ 31 → counted_at read ((counted l xs).bytes ++ rest) ≡ Some (xs, rest)
    again xs rest s short =
        let lt : length xs ≤ 65535 = ltb-false _ _ s.countable in
        let all = (listed l xs).bytes in
        let len = length-append (to_be_bytes w16 (length xs)) all in
        let ea = count.again (length xs) (all ++ rest) (is_plain (to_be_bytes w16 (length xs)) (length xs < 2 ^ 16) (omega arith)) (lit< tt) in
        let eb = times_again l read uncounted f xs rest (record { no_zero = s.no_zero; countable = refl; of_type = s.of_type }) (omega arith) in
        ap (counted_at read) (append_assoc (to_be_bytes w16 (length xs)) all rest) ∙ rw (ea, eb) refl
