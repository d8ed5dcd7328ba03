-- A list of lent values or pairs is spelled as these are.
use Rattle.std.proofs.Common.{◌≡◌, ◌∙◌, ◌==◌, ◌||◌, Bool, ℕ, suc, ◌+◌, ◌<◌, ◌≤◌, arith, get_or, take, List, [], ◌∷◌, ◌++◌, length, length-append, refl, sym, ap}
use Rattle.std.specs.Prelude.{map, option_copied, Option, Some, None, IfSome, Result, Ok, Err}
use Rattle.std.proofs.lemmas.List.{get_or_default}
use Rattle.std.specs.Borrow.{Bor}
use Rattle.std.specs.List.{flat_map, list_any}
use Rattle.std.specs.Int.{w32, to_be_bytes}
use Rattle.pg_codec.specs.Field.{value_bytes}
use Rattle.pg_codec.specs.Value.{parameter}
use Rattle.pg_codec.proofs.Loops.{part_of}

-- what is said of each element of a list, and of each that is made of one
pub spelled_map : {X Y : Type 0} (f : Y → List ℕ) (g : X → Y) (xs : List X) → flat_map (λ x. f (g x)) xs ≡ flat_map f (map g xs)
spelled_map f g [] = refl
spelled_map f g (x ∷ xs) = ap (λ (bytes : List ℕ). f (g x) ++ bytes) (spelled_map f g xs)

pub any_map : {X Y : Type 0} (f : Y → Bool) (g : X → Y) (xs : List X) → list_any (λ x. f (g x)) xs ≡ list_any f (map g xs)
any_map f g [] = refl
any_map f g (x ∷ xs) = ap (λ (b : Bool). f (g x) || b) (any_map f g xs)

pub lent_spelled : (vs : List (Option (Bor (List ℕ)))) → flat_map (λ v. value_bytes (option_copied v)) vs ≡ flat_map value_bytes (map option_copied vs)
lent_spelled vs = spelled_map value_bytes option_copied vs

-- pairs that are lent
abbrev pub LentPairs : Type 0
LentPairs = List (Bor (List ℕ) × Bor (List ℕ))

abbrev pair_of : Bor (List ℕ) × Bor (List ℕ) → List ℕ × List ℕ
pair_of p = (p.0.now, p.1.now)

pub pairs_spelled : (ps : LentPairs) → flat_map (λ p. (parameter (pair_of p)).bytes) ps ≡ flat_map (λ p. (parameter p).bytes) (map pair_of ps)
pairs_spelled ps = spelled_map (λ (p : List ℕ × List ℕ). (parameter p).bytes) pair_of ps

pub pairs_zero : (ps : LentPairs) → list_any (λ p. (parameter (pair_of p)).has_zero) ps ≡ list_any (λ p. (parameter p).has_zero) (map pair_of ps)
pairs_zero ps = any_map (λ (p : List ℕ × List ℕ). (parameter p).has_zero) pair_of ps

pub pairs_unnamed : (ps : LentPairs) → list_any (λ p. length p.0.now == 0) ps ≡ list_any (λ p. length p.0 == 0) (map pair_of ps)
pairs_unnamed ps = any_map (λ (p : List ℕ × List ℕ). length p.0 == 0) pair_of ps

pub lent_count : (vs : List (Option (Bor (List ℕ)))) → length (map option_copied vs) ≡ length vs
lent_count [] = refl
lent_count (v ∷ vs) = ap suc (lent_count vs)

-- one value's part of the spelling of all
pub one_of_all : (vs : List (Option (Bor (List ℕ)))) (i : ℕ) → i < length vs
    → length (flat_map value_bytes (map option_copied (take i vs))) + length (value_bytes (option_copied (get_or vs i None))) ≤ length (flat_map value_bytes (map option_copied vs))
one_of_all vs i lt =
    let v = get_or vs i None in
    let part = part_of (λ v. value_bytes (option_copied v)) vs i v lt (get_or_default vs i None v lt) in
    omega (arith, part, ap length (lent_spelled (take i vs)), ap length (lent_spelled vs))

-- a list of values, each of which has a spelling that isn't longer than all of them have
module _ (vs : List (Option (Bor (List ℕ)))) (most : ℕ) (few : length (flat_map value_bytes (map option_copied vs)) ≤ most) where
  pub each_fits : (i : ℕ) → i < length vs → IfSome (get_or vs i None) (λ bytes. length bytes.now ≤ most)
  each_fits i lt = by (get_or vs i None) (omega (arith, one_of_all vs i lt, few))
    where
      by : (v : Option (Bor (List ℕ))) → length (value_bytes (option_copied v)) ≤ most → IfSome v (λ bytes. length bytes.now ≤ most)
      by None le = tt
      by (Some bytes) le = omega (arith, le, length-append (to_be_bytes w32 (length bytes.now)) bytes.now)

-- ---- a call has one fault at most

abbrev fault_of : {A E : Type 0} → E → Result A E → E
fault_of other (Ok x) = other
fault_of other (Err e) = e

pub same_fault : {A E : Type 0} (r : Result A E) (e f : E) → r ≡ Err e → r ≡ Err f → e ≡ f
same_fault r e f p q = ap (fault_of e) (sym p ∙ q)
