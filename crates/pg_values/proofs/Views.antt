-- Reading in place gives what reading gives.
use Rattle.std.proofs.Common.{◌≡◌, ℕ, zero, suc, ◌+◌, ◌<◌, ◌≤◌, Bool, true, false, cond, eqb, ltb, List, [], ◌∷◌, length, take, drop, Option, Some, None, refl, sym, ap, subst, ◌∙◌, arith}
use Rattle.std.specs.Prelude.{position, ◌==◌, is_some, IsSome}
use Rattle.std.specs.Option.{option_map_or}
use Rattle.std.specs.Int.{w16, w32, from_be_bytes}
use Rattle.std.proofs.lemmas.Bool.{eqb-true, ltb-false, le-ltb, ne_eqb}
use Rattle.std.proofs.lemmas.List.{length-drop, length-take}
use Rattle.pg_codec.specs.declared.fault.BodyFault.{BodyFault}
use Rattle.pg_codec.specs.declared.fault.BodyFault.TheVariants as faults
use Rattle.pg_codec.specs.declared.value.ErrorField.{ErrorField}
use Rattle.pg_codec.specs.Private.Reader.{◌>>=◌, Fails, number_at, times_at, up_to_zero_at, counted_at, terminated_at, value_at, value_of_length, null_length, error_field_at, nonzero_at, string_at, pair_at, whole}
use Rattle.pg_values.specs.Private.View.{values_left, fields_within, fields_left, row_of, fields_of}
use Rattle.pg_codec.proofs.Layouts.{bind_some, some_is}

-- ---- what is still to come

pub values_are : (n : ℕ) (bytes : List ℕ) (vs : List (Option (List ℕ))) (rest : List ℕ) → times_at value_at n bytes ≡ Some (vs, rest) → values_left n bytes ≡ vs
unfolding times_at values_left
values_are zero bytes vs rest e =
    let made : List (Option (List ℕ)) × List ℕ = ([], bytes) in
    ap (λ (p : List (Option (List ℕ)) × List ℕ). p.0) (some_is made (vs, rest) e)
values_are (suc n) bytes vs rest e =
    let x = bind_some (value_at bytes) (λ (a : Option (List ℕ) × List ℕ). times_at value_at n a.1 >>= λ others. Some (a.0 ∷ others.0, others.1)) (vs, rest) e in
    let y = bind_some (times_at value_at n x.0.1) (λ (others : List (Option (List ℕ)) × List ℕ). Some (x.0.0 ∷ others.0, others.1)) (vs, rest) x.2 in
    let made : List (Option (List ℕ)) × List ℕ = (x.0.0 ∷ y.0.0, y.0.1) in
    let same : x.0.0 ∷ y.0.0 ≡ vs = ap (λ (p : List (Option (List ℕ)) × List ℕ). p.0) (some_is made (vs, rest) y.2) in
    rw x.1 (ap (λ (others : List (Option (List ℕ))). x.0.0 ∷ others) (values_are n x.0.1 y.0.0 y.0.1 y.1) ∙ same)

pub fields_are : (n : ℕ) (bytes : List ℕ) (fs : List ErrorField) (rest : List ℕ) → up_to_zero_at error_field_at n bytes ≡ Some (fs, rest) → fields_within n bytes ≡ fs
unfolding up_to_zero_at fields_within error_field_at
fields_are zero bytes fs rest e = absurd cc
fields_are (suc n) [] fs rest e = absurd cc
fields_are (suc n) (zero ∷ bytes) fs rest e =
    let made : List ErrorField × List ℕ = ([], bytes) in
    ap (λ (p : List ErrorField × List ℕ). p.0) (some_is made (fs, rest) e)
fields_are (suc n) (suc b ∷ bytes) fs rest e =
    let x = bind_some (error_field_at (suc b ∷ bytes)) (λ (a : ErrorField × List ℕ). up_to_zero_at error_field_at n a.1 >>= λ others. Some (a.0 ∷ others.0, others.1)) (fs, rest) e in
    let y = bind_some (up_to_zero_at error_field_at n x.0.1) (λ (others : List ErrorField × List ℕ). Some (x.0.0 ∷ others.0, others.1)) (fs, rest) x.2 in
    let made : List ErrorField × List ℕ = (x.0.0 ∷ y.0.0, y.0.1) in
    let same : x.0.0 ∷ y.0.0 ≡ fs = ap (λ (p : List ErrorField × List ℕ). p.0) (some_is made (fs, rest) y.2) in
    rw x.1 (ap (λ (others : List ErrorField). x.0.0 ∷ others) (fields_are n x.0.1 y.0.0 y.0.1 y.1) ∙ same)

-- ---- a field has a byte at least

string_sizes : (bytes text rest : List ℕ) → string_at bytes ≡ Some (text, rest) → (length rest ≤ length bytes) × (length text ≤ length bytes)
string_sizes bytes text rest e =
    let x = bind_some (position (λ b. b == 0) bytes) (λ (i : ℕ). Some (take i bytes, drop (i + 1) bytes)) (text, rest) e in
    let made : List ℕ × List ℕ = (take x.0 bytes, drop (x.0 + 1) bytes) in
    let same : made ≡ (text, rest) = some_is made (text, rest) x.2 in
    let first : take x.0 bytes ≡ text = ap (λ (p : List ℕ × List ℕ). p.0) same in
    let second : drop (x.0 + 1) bytes ≡ rest = ap (λ (p : List ℕ × List ℕ). p.1) same in
    (omega (arith, length-drop (x.0 + 1) bytes, ap length second), omega (arith, length-take x.0 bytes, ap length first))

pub field_sizes : (bytes : List ℕ) (f : ErrorField) (rest : List ℕ) → error_field_at bytes ≡ Some (f, rest) → (length rest < length bytes) × (length f.value < length bytes)
unfolding error_field_at
field_sizes [] f rest e = absurd cc
field_sizes (zero ∷ bytes) f rest e = absurd cc
field_sizes (suc b ∷ bytes) f rest e =
    let x = bind_some (pair_at nonzero_at string_at (suc b ∷ bytes)) (λ (p : (ℕ × List ℕ) × List ℕ). Some (record { code = p.0.0; value = p.0.1 }, p.1)) (f, rest) e in
    let y = bind_some (string_at bytes) (λ (t : List ℕ × List ℕ). Some ((suc b, t.0), t.1)) x.0 x.1 in
    let made : (ℕ × List ℕ) × List ℕ = ((suc b, y.0.0), y.0.1) in
    let field : ErrorField × List ℕ = (record { code = x.0.0.0; value = x.0.0.1 }, x.0.1) in
    let one : made ≡ x.0 = some_is made x.0 y.2 in
    let two : field ≡ (f, rest) = some_is field (f, rest) x.2 in
    let left : y.0.1 ≡ rest = ap (λ (p : (ℕ × List ℕ) × List ℕ). p.1) one ∙ ap (λ (p : ErrorField × List ℕ). p.1) two in
    let text : y.0.0 ≡ f.value = ap (λ (p : (ℕ × List ℕ) × List ℕ). p.0.1) one ∙ ap (λ (p : ErrorField × List ℕ). p.0.value) two in
    let sizes = string_sizes bytes y.0.0 y.0.1 y.1 in
    (omega (arith, sizes.0, ap length left), omega (arith, sizes.1, ap length text))

pub field_rest : (bytes : List ℕ) (f : ErrorField) (rest : List ℕ) → error_field_at bytes ≡ Some (f, rest) → length rest < length bytes
field_rest bytes f rest e = (field_sizes bytes f rest e).0

-- enough is enough
pub same_fields : (n m : ℕ) (bytes : List ℕ) → length bytes ≤ n → length bytes ≤ m → fields_within n bytes ≡ fields_within m bytes
unfolding fields_within error_field_at
same_fields zero zero bytes h k = refl
same_fields zero (suc m) [] h k = refl
same_fields zero (suc m) (b ∷ bytes) h k = absurd (omega arith)
same_fields (suc n) zero [] h k = refl
same_fields (suc n) zero (b ∷ bytes) h k = absurd (omega arith)
same_fields (suc n) (suc m) bytes h k = by_field (λ rest. same_fields n m rest) (error_field_at bytes) refl
  where
    by_field : ((rest : List ℕ) → length rest ≤ n → length rest ≤ m → fields_within n rest ≡ fields_within m rest) → (o : Option (ErrorField × List ℕ)) → error_field_at bytes ≡ o → option_map_or (λ x. x.0 ∷ fields_within n x.1) o [] ≡ option_map_or (λ x. x.0 ∷ fields_within m x.1) o []
    by_field same None e = refl
    by_field same (Some x) e =
        let short = field_rest bytes x.0 x.1 e in
        ap (λ (others : List ErrorField). x.0 ∷ others) (same x.1 (omega arith) (omega arith))

-- ---- a value that bytes begin with

-- it is read by its length
reads_on : (bytes : List ℕ) → 4 ≤ length bytes → value_at bytes ≡ value_of_length (from_be_bytes w32 (take 4 bytes)) (drop 4 bytes)
unfolding value_at
reads_on bytes long = rw (le-ltb _ _ long) refl

nothing_there : (o : Option (Option (List ℕ) × List ℕ)) → o ≡ None → IsSome o → ⊥
nothing_there None e is = cc
nothing_there (Some x) e is = cc

pub begun_long : (bytes : List ℕ) → IsSome (value_at bytes) → 4 ≤ length bytes
unfolding value_at
begun_long bytes is = by (ltb (length bytes) 4) refl
  where
    by : (t : Bool) → ltb (length bytes) 4 ≡ t → 4 ≤ length bytes
    by false e = ltb-false _ _ e
    by true e = absurd (nothing_there (value_at bytes) (rw e refl) is)

module _ (bytes : List ℕ) (n : ℕ) (rest : List ℕ) (is : IsSome (value_at bytes)) (number : n ≡ from_be_bytes w32 (take 4 bytes)) (behind : rest ≡ drop 4 bytes) where
  of_length : value_at bytes ≡ value_of_length n rest
  of_length = reads_on bytes (begun_long bytes is) ∙ rw (number, behind) refl

  pub begun_null : n ≡ null_length → value_at bytes ≡ Some (None, rest)
  begun_null e = of_length ∙ rw e refl

  pub begun_value : (n ≡ null_length → ⊥) → (n ≤ length rest) × (value_at bytes ≡ Some (Some (take n rest), drop n rest))
  begun_value other = by (ltb 2147483647 n) (ltb (length rest) n) refl refl
    where
      not_null : eqb n null_length ≡ false
      not_null = ne_eqb _ _ other

      by : (s t : Bool) → ltb 2147483647 n ≡ s → ltb (length rest) n ≡ t → (n ≤ length rest) × (value_at bytes ≡ Some (Some (take n rest), drop n rest))
      by true t e f = absurd (nothing_there (value_at bytes) (of_length ∙ rw (not_null, e) refl) is)
      by false true e f = absurd (nothing_there (value_at bytes) (of_length ∙ rw (not_null, e, f) refl) is)
      by false false e f = (ltb-false _ _ f, of_length ∙ rw (not_null, e, f) refl)

-- ---- one step

pub value_comes : (count others : ℕ) (bytes : List ℕ) (v : Option (List ℕ)) (rest : List ℕ) → count ≡ suc others → Some (v, rest) ≡ value_at bytes → values_left count bytes ≡ v ∷ values_left others rest
unfolding values_left
value_comes count others bytes v rest is e = rw (is, ← e) refl

pub field_comes : (bytes : List ℕ) (f : ErrorField) (rest : List ℕ) → Some (f, rest) ≡ error_field_at bytes → fields_left bytes ≡ f ∷ fields_left rest
unfolding fields_within
field_comes bytes f rest e =
    let short = field_rest bytes f rest (sym e) in
    one (length bytes) (omega arith)
  where
    one : (n : ℕ) → length rest < n → fields_within n bytes ≡ f ∷ fields_left rest
    one zero lt = absurd (omega arith)
    one (suc n) lt = rw (← e) (ap (λ (others : List ErrorField). f ∷ others) (same_fields n (length rest) rest (omega arith) (omega arith)))

pub no_field_comes : (bytes : List ℕ) → None ≡ error_field_at bytes → fields_left bytes ≡ []
unfolding fields_within
no_field_comes bytes e = none (length bytes)
  where
    none : (n : ℕ) → fields_within n bytes ≡ []
    none zero = refl
    none (suc n) = rw (← e) refl

-- ---- the view of a whole body

-- a fault that isn't Memory says that nothing is read
pub read_bad : {A : Type 0} (e : BodyFault) (o : Option A) → e ≡ faults.Bad → Fails e o → o ≡ None
read_bad faults.Bad o is f = f
read_bad faults.Memory o is f = absurd cc

-- what is whole is all that was read
same_whole : {A : Type 0} (o : Option (A × List ℕ)) (a : A) → IsSome (whole (λ x. x) o) → ((b : A) (rest : List ℕ) → o ≡ Some (b, rest) → a ≡ b) → whole (λ x. x) o ≡ Some a
same_whole None a is same = absurd cc
same_whole {A} (Some x) a is same = by_end (length x.1 == 0) is
  where
    by_end : (b : Bool) → IsSome (cond b (Some x.0) None) → cond b (Some x.0) None ≡ Some a
    by_end true is = ap (λ (y : A). Some y) (sym (same x.0 x.1 refl))
    by_end false is = absurd cc

pub row_is : (body : List ℕ) (count : ℕ) (bytes : List ℕ) → number_at w16 body ≡ Some (count, bytes) → IsSome (row_of body) → row_of body ≡ Some (values_left count bytes)
unfolding counted_at
row_is body count bytes h is =
    let read : counted_at value_at body ≡ times_at value_at count bytes = ap (λ (o : Option (ℕ × List ℕ)). o >>= λ n. times_at value_at n.0 n.1) h in
    same_whole (counted_at value_at body) (values_left count bytes) is (λ vs rest e. values_are count bytes vs rest (sym read ∙ e))

no_byte : (xs : List ℕ) → length xs ≡ 0 → xs ≡ []
no_byte [] e = refl
no_byte (x ∷ xs) e = absurd (omega arith)

pub whole_is : (body : List ℕ) (count : ℕ) (bytes : List ℕ) → number_at w16 body ≡ Some (count, bytes) → IsSome (row_of body) → times_at value_at count bytes ≡ Some (values_left count bytes, [])
unfolding counted_at
whole_is body count bytes h is =
    let read : counted_at value_at body ≡ times_at value_at count bytes = ap (λ (o : Option (ℕ × List ℕ)). o >>= λ n. times_at value_at n.0 n.1) h in
    by (times_at value_at count bytes) refl (subst (λ (o : Option (List (Option (List ℕ)) × List ℕ)). IsSome (whole (λ x. x) o)) read is)
  where
    by : (o : Option (List (Option (List ℕ)) × List ℕ)) → times_at value_at count bytes ≡ o → IsSome (whole (λ x. x) o) → times_at value_at count bytes ≡ Some (values_left count bytes, [])
    by None e is = absurd cc
    by (Some x) e is = by_end (eqb (length x.1) 0) refl is
      where
        by_end : (t : Bool) → eqb (length x.1) 0 ≡ t → IsSome (cond t (Some x.0) None) → times_at value_at count bytes ≡ Some (values_left count bytes, [])
        by_end true z is =
            let all : times_at value_at count bytes ≡ Some (x.0, []) = e ∙ ap (λ (r : List ℕ). Some (x.0, r)) (no_byte x.1 (eqb-true _ _ z)) in
            all ∙ ap (λ (v : List (Option (List ℕ))). Some (v, [])) (sym (values_are count bytes x.0 [] all))
        by_end false z is = absurd cc

pub no_whole : (body : List ℕ) (P : Type 0) → number_at w16 body ≡ None → IsSome (row_of body) → P
unfolding counted_at
no_whole body P h is = absurd (differ (sym (ap (λ (o : Option (ℕ × List ℕ)). is_some (whole (λ vs. vs) (o >>= λ n. times_at value_at n.0 n.1))) h) ∙ is))
  where
    differ : false ≡ true → ⊥
    differ e = cc

pub no_row : (body : List ℕ) (values : List (Option (List ℕ))) → number_at w16 body ≡ None → IsSome (row_of body) → row_of body ≡ Some values
unfolding counted_at
no_row body values h is = absurd (differ (sym (ap (λ (o : Option (ℕ × List ℕ)). is_some (whole (λ vs. vs) (o >>= λ n. times_at value_at n.0 n.1))) h) ∙ is))
  where
    differ : false ≡ true → ⊥
    differ e = cc

pub fields_is : (body : List ℕ) → IsSome (fields_of body) → fields_of body ≡ Some (fields_left body)
unfolding terminated_at
fields_is body is = same_whole (terminated_at error_field_at body) (fields_left body) is (λ fs rest e. fields_are (length body) body fs rest e)

pub whole_body : (body : List ℕ) (fs : List ErrorField) → fields_of body ≡ Some fs → terminated_at error_field_at body ≡ Some (fs, [])
whole_body body fs e = by (terminated_at error_field_at body) refl e
  where
    by : (o : Option (List ErrorField × List ℕ)) → terminated_at error_field_at body ≡ o → whole (λ x. x) o ≡ Some fs → terminated_at error_field_at body ≡ Some (fs, [])
    by None t e = absurd cc
    by (Some x) t e = by_end (eqb (length x.1) 0) refl e
      where
        by_end : (b : Bool) → eqb (length x.1) 0 ≡ b → cond b (Some x.0) None ≡ Some fs → terminated_at error_field_at body ≡ Some (fs, [])
        by_end true z e = t ∙ ap (λ (gs : List ErrorField). Some (gs, x.1)) (some_is x.0 fs e) ∙ ap (λ (r : List ℕ). Some (fs, r)) (no_byte x.1 (eqb-true _ _ z))
        by_end false z e = absurd cc
