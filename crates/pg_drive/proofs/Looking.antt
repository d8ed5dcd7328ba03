-- What is seen after a piece.
use Rattle.std.proofs.Common.{◌≡◌, List, [], ◌∷◌, Bool, true, false, refl}
use Rattle.std.specs.Prelude.{◌≢◌, IsTrue}
use Rattle.pg_client.specs.declared.phase.Phase.{Phase}
use Rattle.pg_client.specs.declared.phase.Phase.TheVariants as phase

has_some : {A : Type 0} (x : A) (xs : List A) → x ∷ xs ≡ [] → ⊥
has_some x xs e = cc

not_both : (b : Bool) → b ≡ true → b ≡ false → ⊥
not_both b is_true is_false = cc

-- a list that isn't said to have elements has none
pub none_waits : {A : Type 0} (xs : List A) (b : Bool) → (xs ≢ [] → IsTrue b) → b ≡ false → xs ≡ []
none_waits [] b says is_false = refl
none_waits (x ∷ xs) b says is_false = absurd (not_both b (says (has_some x xs)) is_false)

-- a phase is one alone
pub not_both_phases : (seen now : Phase) → seen ≡ now → seen ≡ phase.Ready → now ≡ phase.CopyingIn → ⊥
not_both_phases seen now same ready copying = cc
