-- A script that is judged before clients are served from it.
use Rattle.std.proofs.Common.{◌≡◌, ℕ, List, Result, Ok, Err, ap, subst}
use Rattle.pg_backend.specs.declared.script.Script.{Script}
use Rattle.pgpipe_reasons.specs.declared.failure.Failure.{Failure}
use Rattle.pgpipe_cli.specs.Serving.{ServesScript}

-- what was read, or this other script
abbrev script_in : Script → Result Script ℕ → Script
script_in other (Ok script) = script
script_in other (Err n) = other

-- the script that bytes say is one
pub same_script : (a b : Script) → ◌≡◌ {A = Result Script ℕ} (Ok a) (Ok b) → a ≡ b
same_script a b e = ap (script_in a) e

-- as many clients, by another name of their number
pub counted_so : {L C K : Type 0} (gives takes : L → List ℕ → L → Type 0) (has_ended : L → Type 0) (receive_failures send_failures : L → ℕ) (brings : C → L → C → Type 0) (fails : C → C → Type 0) (sends : K → List ℕ → K → Type 0) (failures : K → ℕ) (port n m : ℕ) (clients : C) (sink : K) (result : Result Unit Failure) (clients' : C) (sink' : K) (bytes : List ℕ) (script : Script) → n ≡ m
    → ServesScript gives takes has_ended receive_failures send_failures brings fails sends failures port n clients sink result clients' sink' bytes script
    → ServesScript gives takes has_ended receive_failures send_failures brings fails sends failures port m clients sink result clients' sink' bytes script
counted_so gives takes has_ended receive_failures send_failures brings fails sends failures port n m clients sink result clients' sink' bytes script e s =
    subst (λ (k : ℕ). ServesScript gives takes has_ended receive_failures send_failures brings fails sends failures port k clients sink result clients' sink' bytes script) e s
