-- One more message for the copies of the last turn.
use Rattle.std.proofs.Common.{◌≡◌, ℕ, true, List, [], ◌∷◌, ◌++◌, refl, ap, sym, arith}
use Rattle.pg_wire.specs.message.FrontMessage.{FrontMessage}
use Rattle.pg_wire.specs.message.FrontMessage.TheVariants as front
use Rattle.pg_client.specs.Answering.{with_copy, last_copies, copies_ended}
use Rattle.pg_backend.specs.declared.script.Answer.{Answer}
use Rattle.pg_backend.specs.Fitting.{others}
use Rattle.pg_wire.specs.Turns.{Turn, is_copy, IsCopy, AreCopied, chunks_of}
use Rattle.pg_backend.specs.Turns.{InTurn}
use Rattle.pg_pair.specs.Calling.{add_to_last}
use Rattle.pg_pair.specs.Copies.{handed_for}
use Rattle.pg_backend.proofs.Beginnings.{all_of_both}

-- chunks alone
abbrev pub AreChunks : List FrontMessage → Type 0
AreChunks [] = Unit {0}
AreChunks (front.CopyData bytes ∷ ms) = AreChunks ms
AreChunks (m ∷ ms) = ⊥

-- a copy that has no end is chunks alone
no_end : (ms : List FrontMessage) → IsCopy ms → copies_ended ms ≡ 0 → AreChunks ms
no_end [] h e = tt
no_end (front.CopyData bytes ∷ ms) h e = no_end ms h e
no_end (front.CopyDone ∷ ms) h e = absurd (omega arith)
no_end (front.CopyFail reason ∷ ms) h e = absurd (omega arith)
no_end (m ∷ ms) h e = absurd h

-- the last turn's copies
pub last_open : (ts : List Turn) → AreCopied ts → copies_ended (last_copies ts) ≡ 0 → AreChunks (last_copies ts)
last_open [] h e = tt
last_open (t ∷ []) h e = no_end t.copies h.0 e
last_open (t ∷ u ∷ us) h e = last_open (u ∷ us) h.1 e

copy_on : (ms : List FrontMessage) (m : FrontMessage) → AreChunks ms → IsCopy (m ∷ []) → IsCopy (ms ++ m ∷ [])
copy_on [] m h k = k
copy_on (front.CopyData bytes ∷ ms) m h k = copy_on ms m h k
copy_on (_ ∷ ms) m h k = absurd h

pub copied_on : (m : FrontMessage) (ts : List Turn) → IsCopy (m ∷ []) → AreCopied ts → AreChunks (last_copies ts) → AreCopied (with_copy m ts)
copied_on m [] is h last = tt
copied_on m (t ∷ []) is h last = (copy_on t.copies m last is, tt)
copied_on m (t ∷ u ∷ us) is h last = (h.0, copied_on m (u ∷ us) is h.1 last)

pub in_turn_on : (answers : List Answer) (m : FrontMessage) (ts : List Turn) → is_copy m ≡ true → InTurn answers ts → InTurn answers (with_copy m ts)
in_turn_on answers m [] is h = tt
in_turn_on answers m (t ∷ []) is h = all_of_both (λ n. is_copy n ≡ true) t.copies (m ∷ []) h (is, tt)
in_turn_on answers m (t ∷ u ∷ []) is h = (h.0, h.1, in_turn_on (others answers) m (u ∷ []) is h.2)
in_turn_on answers m (t ∷ u ∷ v ∷ vs) is h = (h.0, h.1, in_turn_on (others answers) m (u ∷ v ∷ vs) is h.2)

chunks_more : (ms : List FrontMessage) (bytes : List ℕ) → chunks_of (ms ++ front.CopyData bytes ∷ []) ≡ chunks_of ms ++ bytes ∷ []
chunks_more [] bytes = refl
chunks_more (front.CopyData b ∷ ms) bytes = ap (λ l. b ∷ l) (chunks_more ms bytes)
chunks_more (_ ∷ ms) bytes = chunks_more ms bytes

pub handed_chunk : (bytes : List ℕ) (ts : List Turn) → add_to_last bytes (handed_for ts) ≡ handed_for (with_copy (front.CopyData bytes) ts)
handed_chunk bytes [] = refl
handed_chunk bytes (t ∷ []) = ap (λ l. l ∷ []) (sym (chunks_more t.copies bytes))
handed_chunk bytes (t ∷ u ∷ us) = ap (λ l. chunks_of t.copies ∷ l) (handed_chunk bytes (u ∷ us))

chunks_done : (ms : List FrontMessage) → chunks_of (ms ++ front.CopyDone ∷ []) ≡ chunks_of ms
chunks_done [] = refl
chunks_done (front.CopyData b ∷ ms) = ap (λ l. b ∷ l) (chunks_done ms)
chunks_done (_ ∷ ms) = chunks_done ms

pub handed_done : (ts : List Turn) → handed_for ts ≡ handed_for (with_copy front.CopyDone ts)
handed_done [] = refl
handed_done (t ∷ []) = ap (λ l. l ∷ []) (sym (chunks_done t.copies))
handed_done (t ∷ u ∷ us) = ap (λ l. chunks_of t.copies ∷ l) (handed_done (u ∷ us))

chunks_failed : (ms : List FrontMessage) (reason : List ℕ) → chunks_of (ms ++ front.CopyFail reason ∷ []) ≡ chunks_of ms
chunks_failed [] reason = refl
chunks_failed (front.CopyData b ∷ ms) reason = ap (λ l. b ∷ l) (chunks_failed ms reason)
chunks_failed (_ ∷ ms) reason = chunks_failed ms reason

pub handed_failed : (reason : List ℕ) (ts : List Turn) → handed_for ts ≡ handed_for (with_copy (front.CopyFail reason) ts)
handed_failed reason [] = refl
handed_failed reason (t ∷ []) = ap (λ l. l ∷ []) (sym (chunks_failed t.copies reason))
handed_failed reason (t ∷ u ∷ us) = ap (λ l. chunks_of t.copies ∷ l) (handed_failed reason (u ∷ us))
