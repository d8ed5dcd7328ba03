-- What is kept of a call: the last request's chunks, taken out of the others and put back.
use Rattle.std.proofs.Common.{◌≡◌, ℕ, List, [], ◌∷◌, ◌++◌, refl, ap, sym, ◌∙◌}
use Rattle.pg_client.specs.declared.call.Call.{Call}
use Rattle.pg_client.specs.declared.call.Call.TheVariants as call
use Rattle.pg_pair.specs.declared.pair.calling.Kept.{Kept}
use Rattle.pg_pair.specs.Calling.{add_to_last, handed_after}
use Rattle.pg_pair.specs.Private.Calling.{handed_by, kept_of}

chunk_at_end : (bytes : List ℕ) (rest : List (List (List ℕ))) (x : List (List ℕ)) (xs : List (List (List ℕ))) → add_to_last bytes (rest ++ x ∷ xs) ≡ rest ++ add_to_last bytes (x ∷ xs)
chunk_at_end bytes [] x xs = refl
chunk_at_end bytes (h ∷ []) x xs = refl
chunk_at_end bytes (h ∷ k ∷ hs) x xs = ap (λ l. h ∷ l) (chunk_at_end bytes (k ∷ hs) x xs)

-- a chunk goes to the list that was taken out
pub chunk_after : (bytes : List ℕ) (rest l : List (List (List ℕ))) → (l ≡ [] → rest ≡ []) → add_to_last bytes (rest ++ l) ≡ rest ++ add_to_last bytes l
chunk_after bytes rest [] none = rw (none refl) refl
chunk_after bytes rest (x ∷ xs) none = chunk_at_end bytes rest x xs

-- what is kept of a call is what becomes of the lists
handed_kept : (c : Call) (handed : List (List (List ℕ))) → handed_by (kept_of c) handed ≡ handed_after c handed
handed_kept call.Start handed = refl
handed_kept (call.Request r) handed = refl
handed_kept (call.Chunk bytes) handed = refl
handed_kept call.Done handed = refl
handed_kept (call.Fail reason) handed = refl
handed_kept call.Terminate handed = refl

pub kept_after : (c : Call) (k : Kept) (before room : List (List (List ℕ))) → k ≡ kept_of c → room ≡ before → handed_by k room ≡ handed_after c before
kept_after c k before room is same = ap (λ (x : Kept). handed_by x room) is ∙ handed_kept c room ∙ ap (handed_after c) same

-- the lists after the call, taken apart before it
pub put_back : (c : Call) (k : Kept) (handed rest before room now : List (List (List ℕ))) → k ≡ kept_of c → room ≡ before
    → handed_after c handed ≡ rest ++ handed_after c before → now ≡ rest ++ handed_by k room → now ≡ handed_after c handed
put_back c k handed rest before room now is same apart put = put ∙ ap (λ l. rest ++ l) (kept_after c k before room is same) ∙ sym apart
