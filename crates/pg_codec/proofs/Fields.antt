-- The fields of the messages and their readers.
use Rattle.std.proofs.Common.{◌≡◌, ℕ, zero, suc, ◌^◌, ◌<◌, ◌≤◌, Bool, true, false, cond, ltb, eqb, List, [], ◌∷◌, ◌++◌, length, take, drop, Option, Some, None, refl, sym, ap, subst, ◌∙◌, append_assoc, arith, inl, inr, length-append, lit<}
use Rattle.std.specs.Prelude.{◌⊎◌}
use Rattle.std.specs.Int.{w16, w32, to_be_bytes}
use Rattle.std.proofs.lemmas.Bool.{ltb-false, le-ltb, or_parts, or_from, eqb-true, ne_eqb}
use Rattle.std.proofs.lemmas.List.{take_at, drop_at, take-append-drop, length-take}
use Rattle.pg_codec.specs.declared.value.Status.{Status}
use Rattle.pg_codec.specs.declared.value.Status.TheVariants.{Idle, InBlock, Failed}
use Rattle.pg_codec.specs.declared.value.Column.{Column}
use Rattle.pg_codec.specs.Field.{Body, int16, byte1, value, string, nonzero, contains_zero, listed, counted, terminated}
use Rattle.pg_codec.specs.Value.{column, error_field, copy_head, format_byte, status_byte}
use Rattle.pg_codec.specs.Private.Reader.{◌>>=◌, pair_at, number_at, signed_at, nonzero_at, string_at, value_of_length, value_at, null_length, counted_at, ColumnParts, column_of_parts, column_at, after_zero, up_to_zero_at, terminated_at, error_field_at, choice_at, status_of_byte, binary_of_byte, copy_head_at, name_at, parameter_at}
use Rattle.pg_codec.proofs.Layouts.{IsBytes, bind_some, some_is, Spelled, BeginsWith, Reads, rest_bytes, pair_of, pair_reads, mapped_reads, Uncounted, counted_reads, is_plain, oid_reads, int16_reads, int32_reads, text_reads, not_zero, guard_some}

-- ---- a byte that isn't zero

pub nonzero_reads : Reads nonzero nonzero_at
nonzero_reads = record { sound = sound; again = again }
  where
    sound : (bytes : List ℕ) (b : ℕ) (rest : List ℕ) → IsBytes bytes → nonzero_at bytes ≡ Some (b, rest) → BeginsWith nonzero bytes b rest
    sound [] b rest fits e = absurd cc
    sound (zero ∷ bytes) b rest fits e = absurd cc
    sound (suc x ∷ bytes) b rest fits e =
        let made : ℕ × List ℕ = (suc x, bytes) in
        subst (λ (q : ℕ × List ℕ). BeginsWith nonzero (suc x ∷ bytes) q.0 q.1) (some_is made (b, rest) e) (record { parts = refl; spelled = record { no_zero = not_zero x; countable = refl; of_type = tt } })

    again : (b : ℕ) (rest : List ℕ) → Spelled (nonzero b) → 1 < 2 ^ 31 → nonzero_at (b ∷ rest) ≡ Some (b, rest)
    again zero rest s short = absurd (both s.no_zero)
      where
        both : true ≡ false → ⊥
        both e = cc
    again (suc b) rest s short = refl

-- ---- values

pub chosen : {A : Type 0} (b : Bool) (x y z : A) → cond b x y ≡ z → ((b ≡ true) × (x ≡ z)) ⊎ ((b ≡ false) × (y ≡ z))
chosen true x y z e = inl (refl, e)
chosen false x y z e = inr (refl, e)

pub taken : (n : ℕ) (bytes : List ℕ) (v : Option (List ℕ)) (rest : List ℕ) → value_of_length n bytes ≡ Some (v, rest) → to_be_bytes w32 n ++ bytes ≡ (value v).bytes ++ rest
taken n bytes v rest e =
    let null : Option (Option (List ℕ) × List ℕ) = Some (None, bytes) in
    let full : Option (List ℕ) × List ℕ = (Some (take n bytes), drop n bytes) in
    elim (chosen (eqb n null_length) null (cond (ltb 2147483647 n) None (cond (ltb (length bytes) n) None (Some full))) (Some (v, rest)) e) [
      | inl p ↦ subst (λ (q : Option (List ℕ) × List ℕ). to_be_bytes w32 n ++ bytes ≡ (value q.0).bytes ++ q.1) (some_is (None, bytes) (v, rest) p.1) (ap (λ (k : ℕ). to_be_bytes w32 k ++ bytes) (eqb-true _ _ p.0))
      | inr p ↦
          let g = guard (ltb 2147483647 n) (cond (ltb (length bytes) n) None (Some full)) (v, rest) p.1 in
          let h = guard (ltb (length bytes) n) (Some full) (v, rest) g.1 in
          let long : n ≤ length bytes = ltb-false _ _ h.0 in
          let len : length (take n bytes) ≡ n = omega (arith, length-take n bytes) in
          let parts : to_be_bytes w32 n ++ bytes ≡ (to_be_bytes w32 (length (take n bytes)) ++ take n bytes) ++ drop n bytes = ap (λ (t : List ℕ). to_be_bytes w32 n ++ t) (sym (take-append-drop n bytes)) ∙ sym (append_assoc (to_be_bytes w32 n) (take n bytes) (drop n bytes)) ∙ ap (λ (k : ℕ). (to_be_bytes w32 k ++ take n bytes) ++ drop n bytes) (sym len) in
          subst (λ (q : Option (List ℕ) × List ℕ). to_be_bytes w32 n ++ bytes ≡ (value q.0).bytes ++ q.1) (some_is full (v, rest) h.1) parts
    ]
  where
    guard : {A : Type 0} (b : Bool) (o : Option A) (y : A) → cond b None o ≡ Some y → (b ≡ false) × (o ≡ Some y)
    guard true o y e = absurd cc
    guard false o y e = (refl, e)

pub value_reads : Reads value value_at
unfolding value_at
value_reads = record { sound = sound; again = again }
  where
    sound : (bytes : List ℕ) (v : Option (List ℕ)) (rest : List ℕ) → IsBytes bytes → value_at bytes ≡ Some (v, rest) → BeginsWith value bytes v rest
    sound bytes v rest fits e =
        let x = bind_some (number_at w32 bytes) (λ (n : ℕ × List ℕ). value_of_length n.0 n.1) (v, rest) e in
        let t = oid_reads.sound bytes x.0.0 x.0.1 fits x.1 in
        record { parts = t.parts ∙ taken x.0.0 x.0.1 v rest x.2; spelled = record { no_zero = refl; countable = refl; of_type = tt } }

    again : (v : Option (List ℕ)) (rest : List ℕ) → Spelled (value v) → length (value v).bytes < 2 ^ 31 → value_at ((value v).bytes ++ rest) ≡ Some (v, rest)
    again None rest s short =
        let e : number_at w32 (to_be_bytes w32 null_length ++ rest) ≡ Some (null_length, rest) = oid_reads.again null_length rest (is_plain (to_be_bytes w32 null_length) (null_length < 2 ^ 32) (lit< tt)) (lit< tt) in
        ap (λ (o : Option (ℕ × List ℕ)). o >>= λ n. value_of_length n.0 n.1) e
    again (Some bytes) rest s short =
        let len = length-append (to_be_bytes w32 (length bytes)) bytes in
        let few : length bytes < 2 ^ 31 = omega arith in
        let e = oid_reads.again (length bytes) (bytes ++ rest) (is_plain (to_be_bytes w32 (length bytes)) (length bytes < 2 ^ 32) (omega arith)) (lit< tt) in
        let not_null : eqb (length bytes) null_length ≡ false = ne_eqb _ _ (λ same. omega arith) in
        let not_long : ltb 2147483647 (length bytes) ≡ false = le-ltb _ _ (omega arith) in
        let enough : ltb (length (bytes ++ rest)) (length bytes) ≡ false = le-ltb _ _ (omega (arith, length-append bytes rest)) in
        ap value_at (append_assoc (to_be_bytes w32 (length bytes)) bytes rest) ∙ rw (e, not_null, not_long, enough, take_at bytes rest (length bytes) refl, drop_at bytes rest (length bytes) refl) refl

-- ---- columns

abbrev column_parts : Column → ColumnParts
column_parts c = ((((((c.name, c.table_oid), c.attribute), c.type_oid), c.size), c.modifier), c.format)

pub column_reads : Reads column column_at
unfolding column_at
column_reads = mapped_reads (λ (p : ColumnParts). column (column_of_parts p)) column
    (pair_at (pair_at (pair_at (pair_at (pair_at (pair_at string_at (number_at w32)) (signed_at w16)) (number_at w32)) (signed_at w16)) (signed_at w32)) (signed_at w16))
    column_of_parts column_parts (record { back = λ _. refl; spell = λ _. refl; there = λ c s. s; again = λ c s. s })
    (pair_reads _ _ _ _ (pair_reads _ _ _ _ (pair_reads _ _ _ _ (pair_reads _ _ _ _ (pair_reads _ _ _ _ (pair_reads _ _ _ _ text_reads oid_reads) int16_reads) oid_reads) int16_reads) int32_reads) int16_reads)

-- ---- a byte that stands for one of a few values

pub choice_reads : {A : Type 0} (code : A → ℕ) (choose : ℕ → Option A) → ((b : ℕ) (a : A) → choose b ≡ Some a → code a ≡ b) → ((a : A) → choose (code a) ≡ Some a) → Reads (λ a. byte1 (code a)) (choice_at choose)
choice_reads {A} code choose back there = record { sound = sound; again = λ a rest s short. rw (there a) refl }
  where
    sound : (bytes : List ℕ) (a : A) (rest : List ℕ) → IsBytes bytes → choice_at choose bytes ≡ Some (a, rest) → BeginsWith (λ a. byte1 (code a)) bytes a rest
    sound [] a rest fits e = absurd cc
    sound (x ∷ bytes) a rest fits e =
        let y = bind_some (choose x) (λ (a : A). Some (a, bytes)) (a, rest) e in
        let made : A × List ℕ = (y.0, bytes) in
        subst (λ (q : A × List ℕ). BeginsWith (λ a. byte1 (code a)) (x ∷ bytes) q.0 q.1) (some_is made (a, rest) y.2) (record { parts = ap (λ (b : ℕ). b ∷ bytes) (sym (back x y.0 y.1)); spelled = is_plain (code y.0 ∷ []) (Unit {0}) tt })

-- one case of a chain of tests
pub try_next : {A : Type 0} (b n : ℕ) (a other : Option A) (x : A) (P : Type 0) → cond (eqb b n) a other ≡ Some x → (b ≡ n → a ≡ Some x → P) → (other ≡ Some x → P) → P
try_next b n a other x P e f g = elim (chosen (eqb b n) a other (Some x) e) [ inl p ↦ f (eqb-true _ _ p.0) p.1 | inr p ↦ g p.1 ]

status_back : (b : ℕ) (s : Status) → status_of_byte b ≡ Some s → status_byte s ≡ b
status_back b s e =
    let P : Type 0 = status_byte s ≡ b in
    try_next b 73 (Some Idle) (cond (eqb b 84) (Some InBlock) (cond (eqb b 69) (Some Failed) None)) s P e (λ is o. ap status_byte (sym (some_is Idle s o)) ∙ sym is) (λ e2.
    try_next b 84 (Some InBlock) (cond (eqb b 69) (Some Failed) None) s P e2 (λ is o. ap status_byte (sym (some_is InBlock s o)) ∙ sym is) (λ e3.
    try_next b 69 (Some Failed) None s P e3 (λ is o. ap status_byte (sym (some_is Failed s o)) ∙ sym is) (λ none. absurd cc)))

status_there : (s : Status) → status_of_byte (status_byte s) ≡ Some s
status_there Idle = refl
status_there InBlock = refl
status_there Failed = refl

pub status_reads : Reads (λ a. byte1 (status_byte a)) (choice_at status_of_byte)
status_reads = choice_reads status_byte status_of_byte status_back status_there

binary_back : (b : ℕ) (s : Bool) → binary_of_byte b ≡ Some s → format_byte s ≡ b
binary_back b s e =
    let P : Type 0 = format_byte s ≡ b in
    try_next b 0 (Some false) (cond (eqb b 1) (Some true) None) s P e (λ is o. ap format_byte (sym (some_is false s o)) ∙ sym is) (λ e2.
    try_next b 1 (Some true) None s P e2 (λ is o. ap format_byte (sym (some_is true s o)) ∙ sym is) (λ none. absurd cc))

binary_there : (s : Bool) → binary_of_byte (format_byte s) ≡ Some s
binary_there true = refl
binary_there false = refl

pub binary_reads : Reads (λ a. byte1 (format_byte a)) (choice_at binary_of_byte)
binary_reads = choice_reads format_byte binary_of_byte binary_back binary_there

-- ---- the head of a copy

pub copy_head_reads : Reads copy_head copy_head_at
unfolding copy_head_at
copy_head_reads = mapped_reads (pair_of (λ (b : Bool). byte1 (format_byte b)) (counted int16)) copy_head
    (pair_at (choice_at binary_of_byte) (counted_at (signed_at w16)))
    (λ h. record { binary = h.0; formats = h.1 }) (λ h. (h.binary, h.formats))
    (record { back = λ _. refl; spell = λ _. refl; there = λ h s. s; again = λ h s. s })
    (pair_reads _ _ _ _ binary_reads (counted_reads _ _ (λ _. refl) int16_reads))

-- ---- error fields

-- No spelling begins with a zero byte, and there is no count.
pub record Starts {A : Type 0} (l : A → Body) : Type 0 where
  pub first : (a : A) (rest : List ℕ) → Spelled (l a) → after_zero ((l a).bytes ++ rest) ≡ None
  pub long : (a : A) → Spelled (l a) → 1 ≤ length (l a).bytes
  pub uncounted : Uncounted l

pub terminated_reads : {A : Type 0} (l : A → Body) (read : List ℕ → Option (A × List ℕ)) → Starts l → Reads l read → Reads (terminated l) (terminated_at read)
unfolding terminated_at up_to_zero_at
terminated_reads {A} l read starts f = record { sound = λ bytes xs rest fits e. sound (length bytes) bytes xs rest fits e; again = again }
  where
    after : ℕ → List ℕ → Option (List A × List ℕ)
    after n bytes = read bytes >>= λ first. up_to_zero_at read n first.1 >>= λ others. Some (first.0 ∷ others.0, others.1)

    Sound : ℕ → Type 0
    Sound n = (bytes : List ℕ) (xs : List A) (rest : List ℕ) → IsBytes bytes → up_to_zero_at read n bytes ≡ Some (xs, rest) → BeginsWith (terminated l) bytes xs rest

    more : (n : ℕ) (bytes : List ℕ) (xs : List A) (rest : List ℕ) → Sound n → IsBytes bytes → after n bytes ≡ Some (xs, rest) → BeginsWith (terminated l) bytes xs rest
    more n bytes xs rest hyp fits e =
        let x = bind_some (read bytes) (λ (a : A × List ℕ). up_to_zero_at read n a.1 >>= λ others. Some (a.0 ∷ others.0, others.1)) (xs, rest) e in
        let y = bind_some (up_to_zero_at read n x.0.1) (λ (others : List A × List ℕ). Some (x.0.0 ∷ others.0, others.1)) (xs, rest) x.2 in
        let t = f.sound bytes x.0.0 x.0.1 fits x.1 in
        let u = hyp x.0.1 y.0.0 y.0.1 (rest_bytes l bytes x.0.0 x.0.1 fits t) y.1 in
        let made : List A × List ℕ = (x.0.0 ∷ y.0.0, y.0.1) in
        let first = (l x.0.0).bytes in
        let others = (listed l y.0.0).bytes in
        let parts : bytes ≡ ((first ++ others) ++ 0 ∷ []) ++ y.0.1 = t.parts ∙ ap (λ (v : List ℕ). first ++ v) u.parts ∙ sym (append_assoc first (others ++ 0 ∷ []) y.0.1) ∙ ap (λ (v : List ℕ). v ++ y.0.1) (sym (append_assoc first others (0 ∷ []))) in
        subst (λ (q : List A × List ℕ). BeginsWith (terminated l) bytes q.0 q.1) (some_is made (xs, rest) y.2) (record {
          parts = parts;
          spelled = record { no_zero = or_from _ _ t.spelled.no_zero u.spelled.no_zero; countable = refl; of_type = (t.spelled.of_type, u.spelled.of_type) };
        })

    sound : (n : ℕ) → Sound n
    sound zero bytes xs rest fits e = absurd cc
    sound (suc n) [] xs rest fits e = more n [] xs rest (sound n) fits e
    sound (suc n) (zero ∷ bytes) xs rest fits e =
        let made : List A × List ℕ = ([], bytes) in
        subst (λ (q : List A × List ℕ). BeginsWith (terminated l) (0 ∷ bytes) q.0 q.1) (some_is made (xs, rest) e) (record { parts = refl; spelled = record { no_zero = refl; countable = refl; of_type = tt } })
    sound (suc n) (suc b ∷ bytes) xs rest fits e = more n (suc b ∷ bytes) xs rest (sound n) fits e

    goes : (n : ℕ) (xs : List A) (rest : List ℕ) → length (listed l xs).bytes < n → Spelled (terminated l xs) → length (listed l xs).bytes < 2 ^ 31 → up_to_zero_at read n ((terminated l xs).bytes ++ rest) ≡ Some (xs, rest)
    goes zero xs rest enough s short = absurd (omega arith)
    goes (suc n) [] rest enough s short = refl
    goes (suc n) (x ∷ xs) rest enough s short =
        let one = (l x).bytes in
        let others = (listed l xs).bytes in
        let len = length-append one others in
        let z = or_parts (l x).has_zero (listed l xs).has_zero s.no_zero in
        let sx : Spelled (l x) = record { no_zero = z.0; countable = starts.uncounted x; of_type = s.of_type.0 } in
        let long = starts.long x sx in
        let after = (others ++ 0 ∷ []) ++ rest in
        let regrouped : ((one ++ others) ++ 0 ∷ []) ++ rest ≡ one ++ after = ap (λ (v : List ℕ). v ++ rest) (append_assoc one others (0 ∷ [])) ∙ append_assoc one (others ++ 0 ∷ []) rest in
        let ea = f.again x after sx (omega arith) in
        let eb = goes n xs rest (omega arith) (record { no_zero = z.1; countable = refl; of_type = s.of_type.1 }) (omega arith) in
        ap (up_to_zero_at read (suc n)) regrouped ∙ rw (starts.first x after sx, ea, eb) refl

    again : (xs : List A) (rest : List ℕ) → Spelled (terminated l xs) → length (terminated l xs).bytes < 2 ^ 31 → up_to_zero_at read (length ((terminated l xs).bytes ++ rest)) ((terminated l xs).bytes ++ rest) ≡ Some (xs, rest)
    again xs rest s short =
        let len = length-append (listed l xs).bytes (0 ∷ []) in
        let all = length-append (terminated l xs).bytes rest in
        goes (length ((terminated l xs).bytes ++ rest)) xs rest (omega arith) s (omega arith)

pub error_field_reads : Reads error_field error_field_at
unfolding error_field_at
error_field_reads = mapped_reads (pair_of nonzero string) error_field (pair_at nonzero_at string_at)
    (λ f. record { code = f.0; value = f.1 }) (λ f. (f.code, f.value))
    (record { back = λ _. refl; spell = λ _. refl; there = λ f s. s; again = λ f s. s })
    (pair_reads _ _ _ _ nonzero_reads text_reads)

error_field_starts : Starts error_field
error_field_starts = record { first = λ f rest s. first f.code f.value rest (or_parts (eqb f.code 0) (contains_zero f.value) s.no_zero).0; long = λ f s. omega arith; uncounted = λ _. refl }
  where
    first : (code : ℕ) (text rest : List ℕ) → eqb code 0 ≡ false → after_zero (code ∷ ((string text).bytes ++ rest)) ≡ None
    first zero text rest e = absurd (both e)
      where
        both : true ≡ false → ⊥
        both e = cc
    first (suc b) text rest e = refl

pub error_fields_reads : Reads (terminated error_field) (terminated_at error_field_at)
error_fields_reads = terminated_reads error_field error_field_at error_field_starts error_field_reads

-- ---- parameters of the startup packet

-- a String that isn't empty
abbrev pub name_of : List ℕ → Body
name_of text = record (string text) { IsOfType = 0 < length text }

pub name_reads : Reads name_of name_at
name_reads = record { sound = sound; again = again }
  where
    sound : (bytes text rest : List ℕ) → IsBytes bytes → name_at bytes ≡ Some (text, rest) → BeginsWith name_of bytes text rest
    sound bytes text rest fits e =
        let x = bind_some (string_at bytes) (λ (n : List ℕ × List ℕ). cond (eqb (length n.0) 0) None (Some n)) (text, rest) e in
        let t = text_reads.sound bytes x.0.0 x.0.1 fits x.1 in
        let g = guard_some (eqb (length x.0.0) 0) x.0 (text, rest) x.2 in
        let some : 0 < length x.0.0 = by_size (length x.0.0) g.0 in
        subst (λ (q : List ℕ × List ℕ). BeginsWith name_of bytes q.0 q.1) g.1 (record { parts = t.parts; spelled = record { no_zero = t.spelled.no_zero; countable = refl; of_type = some } })
      where
        by_size : (n : ℕ) → eqb n 0 ≡ false → 0 < n
        by_size zero e = absurd cc
        by_size (suc n) e = omega arith

    again : (text rest : List ℕ) → Spelled (name_of text) → length (string text).bytes < 2 ^ 31 → name_at ((string text).bytes ++ rest) ≡ Some (text, rest)
    again text rest s short =
        let e = text_reads.again text rest (record { no_zero = s.no_zero; countable = refl; of_type = tt }) short in
        let some : eqb (length text) 0 ≡ false = ne_eqb _ _ (λ same. omega (arith, s.of_type)) in
        rw (e, some) refl

abbrev pub parameter_of : List ℕ × List ℕ → Body
parameter_of = pair_of name_of string

parameter_starts : Starts parameter_of
parameter_starts = record { first = λ p rest s. first p.0 p.1 rest (or_parts (contains_zero p.0) (contains_zero p.1) s.no_zero).0 s.of_type.0; long = λ p s. omega (arith, length-append (string p.0).bytes (string p.1).bytes, length-append p.0 (0 ∷ []), s.of_type.0); uncounted = λ _. refl }
  where
    first : (name text rest : List ℕ) → contains_zero name ≡ false → 0 < length name → after_zero (((string name).bytes ++ (string text).bytes) ++ rest) ≡ None
    first [] text rest e some = absurd (omega arith)
    first (zero ∷ name) text rest e some = absurd cc
    first (suc b ∷ name) text rest e some = refl

pub parameters_reads : Reads (terminated parameter_of) (terminated_at parameter_at)
unfolding parameter_at
parameters_reads = terminated_reads parameter_of (pair_at name_at string_at) parameter_starts (pair_reads _ _ _ _ name_reads text_reads)
