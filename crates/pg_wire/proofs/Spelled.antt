-- A message whose bytes are held.
use Rattle.std.proofs.Common.{◌≡◌, ℕ, ◌≤◌, true, List, ◌++◌, length, take, drop, None, Ok, refl, ap, subst, ◌∙◌, arith}
use Rattle.std.proofs.lemmas.List.{length-append, length-drop, take_at}
use Rattle.pg_message.specs.Direction.{Direction, spelling}
use Rattle.pg_wire.specs.Spellings.{TakesSpelling}
use Rattle.pg_wire.specs.Private.Found.{IsFirst}
use Rattle.pg_wire.specs.Private.Held.{StreamState, spellings_state}
use Rattle.pg_wire.proofs.Lendings.{decoded, takes_first}

-- what is taken off the front of a list is its beginning
first_bytes : (size : ℕ) (items front : List ℕ) → size ≤ length items → items ≡ front ++ drop size items → take size items ≡ front
first_bytes size items front fits e =
    let len : size ≡ length front = omega (arith, fits, ap length e, length-append front (drop size items), length-drop size items) in
    ap (λ (n : ℕ). take n items) len ∙ ap (take (length front)) e ∙ take_at front (drop size items) (length front) refl

-- the message that begins so many bytes of a rest
abbrev Begins : {M : Type 0} → Direction M → ℕ → ℕ → List ℕ → Type 0
Begins {M} d size limit rest = (m : M) × IsFirst d limit rest m size

pub spelling_held : {M : Type 0} (d : Direction M) (old new : StreamState) (limit : ℕ) (rest : List ℕ) (size : ℕ) → limit ≡ old.rest.limit → rest ≡ old.rest.kept → old.rest.fault ≡ None → new.front ≡ take size old.rest.kept → new.rest ≡ decoded (drop size old.rest.kept) old.rest.limit old.rest.fault
    → Begins d size limit rest → TakesSpelling d old.rest (Ok true) (spellings_state new)
spelling_held d old new limit rest size limits at unfailed front left begins =
    let f : Begins d size old.rest.limit old.rest.kept = subst (Begins d size old.rest.limit) at (subst (λ (l : ℕ). Begins d size l rest) limits begins) in
    (f.0, takes_first d old.rest new.rest f.0 size unfailed left f.1, front ∙ first_bytes size old.rest.kept (spelling d f.0) f.1.0 f.1.2)
