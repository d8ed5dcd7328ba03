-- Which messages of a direction have a spelling, test by test.
use Rattle.std.proofs.Common.{◌≡◌, ℕ, ◌+◌, ◌≤◌, Bool, true, false, cond, eqb, ltb, List, [], length, Option, Some, None, refl, inl, inr}
use Rattle.std.proofs.lemmas.Bool.{eqb-true, ltb-false, le-ltb}
use Rattle.std.proofs.lemmas.List.{nil_from_length}
use Rattle.std.proofs.lemmas.Option.{none-some}
use Rattle.pg_codec.specs.declared.fault.EncodeFault.{EncodeFault}
use Rattle.pg_codec.specs.declared.fault.EncodeFault.TheVariants as faults
use Rattle.pg_message.specs.Direction.{Direction, HasSpelling, length_field, longest}
use Rattle.pg_codec.proofs.Layouts.{some_is}
use Rattle.pg_codec.proofs.Fields.{chosen}

-- The message has a spelling, but perhaps for its length.
pub record IsSpelled {M : Type 0} (d : Direction M) (m : M) : Type 0 where
  pub of_type : d.IsOfType m
  pub no_zero : d.has_zero m ≡ false
  pub countable : d.has_too_many m ≡ false
  pub not_reserved : d.has_reserved_code m ≡ false

-- one test of a chain that finds no fault
pub passes : (b : Bool) (f : EncodeFault) (o : Option EncodeFault) → cond b (Some f) o ≡ None → (b ≡ false) × (o ≡ None)
passes true f o e = absurd cc
passes false f o e = (refl, e)

-- what a message with a spelling doesn't meet
pub spelled_parts : {M : Type 0} (d : Direction M) (m : M) → HasSpelling d m → IsSpelled d m × (length_field d m ≤ longest)
spelled_parts d m s =
    let long = ltb longest (4 + length (d.body m)) in
    let too_long : Option EncodeFault = cond long (Some faults.TooLong) None in
    let reserved : Option EncodeFault = cond (d.has_reserved_code m) (Some faults.ReservedCode) too_long in
    let a = passes (d.has_zero m) faults.HasZero (cond (d.has_too_many m) (Some faults.TooMany) reserved) s.no_fault in
    let b = passes (d.has_too_many m) faults.TooMany reserved a.1 in
    let c = passes (d.has_reserved_code m) faults.ReservedCode too_long b.1 in
    let e = passes long faults.TooLong None c.1 in
    (record { of_type = s.of_type; no_zero = a.0; countable = b.0; not_reserved = c.0 }, ltb-false _ _ e.0)

pub spelled_from : {M : Type 0} (d : Direction M) (m : M) → IsSpelled d m → length_field d m ≤ longest → HasSpelling d m
spelled_from d m s short = record { of_type = s.of_type; no_fault = rw (s.no_zero, s.countable, s.not_reserved, le-ltb _ _ short) refl }

-- where nothing may be left, nothing is
pub ended : {A : Type 0} (rest : List ℕ) (o : Option A) (y : A) → cond (eqb (length rest) 0) o None ≡ Some y → (rest ≡ []) × (o ≡ Some y)
ended rest o y e = elim (chosen (eqb (length rest) 0) o None (Some y) e) [ inl p ↦ (nil_from_length rest (eqb-true _ _ p.0), p.1) | inr p ↦ absurd (none-some y p.1) ]

pub ended_some : {A : Type 0} (rest : List ℕ) (x y : A) → cond (eqb (length rest) 0) (Some x) None ≡ Some y → (rest ≡ []) × (x ≡ y)
ended_some rest x y e = let p = ended rest (Some x) y e in (p.0, some_is x y p.1)
