-- A copy message by message: what a machine has to count.
use Rattle.std.proofs.Common.{◌≡◌, ℕ, zero, suc, ◌+◌, length, List, [], ◌∷◌, ◌++◌, Option, Some, None, option_map, refl, ap, ◌∙◌, arith}
use Rattle.pg_wire.specs.value.ErrorField.{ErrorField}
use Rattle.pg_backend.specs.declared.meaning.InCopy.{InCopy}
use Rattle.pg_backend.specs.declared.meaning.InCopy.TheVariants as copy
use Rattle.pg_backend.specs.Awaited.{chunks_in, AllWait}
use Rattle.pg_backend.specs.Copies.{CopyEnd, with_chunk, with_wait, accepted, refused}

-- the end of a copy, where these chunks and so many messages came before
abbrev pub after : List (List ℕ) → ℕ → CopyEnd → CopyEnd
after loaded n e = record { loaded = loaded ++ e.loaded; result = e.result; taken = n + e.taken }

map_after : (bytes : List ℕ) (loaded : List (List ℕ)) (n : ℕ) (o : Option CopyEnd) → option_map (with_chunk bytes) (option_map (after loaded n) o) ≡ option_map (after (bytes ∷ loaded) (suc n)) o
map_after bytes loaded n None = refl
map_after bytes loaded n (Some e) = let sum : suc (n + e.taken) ≡ suc n + e.taken = omega arith in rw sum refl

map_wait : (loaded : List (List ℕ)) (n : ℕ) (o : Option CopyEnd) → option_map with_wait (option_map (after loaded n) o) ≡ option_map (after loaded (suc n)) o
map_wait loaded n None = refl
map_wait loaded n (Some e) = let sum : suc (n + e.taken) ≡ suc n + e.taken = omega arith in rw sum refl

map_none : (o : Option CopyEnd) → o ≡ option_map (after [] 0) o
map_none None = refl
map_none (Some e) = let sum : 0 + e.taken ≡ e.taken = omega arith in rw sum refl

-- an accepted copy that goes on
pub accepted_on : (tag : List ℕ) (ms more : List InCopy) → AllWait ms → accepted tag (ms ++ more) ≡ option_map (after (chunks_in ms) (length ms)) (accepted tag more)
accepted_on tag [] more h = map_none (accepted tag more)
accepted_on tag (copy.Chunk bytes ∷ ms) more h = ap (option_map (with_chunk bytes)) (accepted_on tag ms more h) ∙ map_after bytes (chunks_in ms) (length ms) (accepted tag more)
accepted_on tag (copy.Waits ∷ ms) more h = ap (option_map with_wait) (accepted_on tag ms more h) ∙ map_wait (chunks_in ms) (length ms) (accepted tag more)
accepted_on tag (m ∷ ms) more h = absurd h

-- a copy that goes on and is refused n chunks later
pub refused_on : (fields : List ErrorField) (n k : ℕ) (ms more : List InCopy) → AllWait ms → k ≡ length (chunks_in ms) + suc n
    → refused fields k (ms ++ more) ≡ option_map (after (chunks_in ms) (length ms)) (refused fields (suc n) more)
refused_on fields n k [] more h e = let same : k ≡ suc n = omega arith in rw same (map_none (refused fields (suc n) more))
refused_on fields n zero (copy.Chunk bytes ∷ ms) more h e = absurd (omega arith)
refused_on fields n (suc k) (copy.Chunk bytes ∷ ms) more h e =
    ap (option_map (with_chunk bytes)) (refused_on fields n k ms more h (omega arith)) ∙ map_after bytes (chunks_in ms) (length ms) (refused fields (suc n) more)
refused_on fields n zero (copy.Waits ∷ ms) more h e = absurd (omega arith)
refused_on fields n (suc k) (copy.Waits ∷ ms) more h e =
    ap (option_map with_wait) (refused_on fields n (suc k) ms more h e) ∙ map_wait (chunks_in ms) (length ms) (refused fields (suc n) more)
refused_on fields n k (m ∷ ms) more h e = absurd h
