-- Which first packet a frame is.
use Rattle.std.proofs.Common.{◌≡◌, ℕ, zero, suc, Bool, false, cond, eqb, List, [], ◌∷◌, ◌++◌, length, Option, Some, None, Result, Ok, Err, refl, sym, ap, subst, ◌∙◌, inl, inr, append-nil, arith}
use Rattle.std.specs.Prelude.{IfOk}
use Rattle.std.proofs.lemmas.Bool.{ne_eqb}
use Rattle.std.proofs.lemmas.Option.{none-some}
use Rattle.pg_wire.specs.declared.fault.WireFault.{WireFault}
use Rattle.pg_wire.specs.declared.fault.WireFault.TheVariants as wire
use Rattle.pg_wire.specs.message.First.{First}
use Rattle.pg_wire.specs.Decoder.{IsLasting}
use Rattle.pg_wire.specs.First.{IsPacket, packet, NoPacket, BeginsNoPacket}
use Rattle.pg_wire.specs.FirstDecoder.{FirstState, FirstTakes, NoMorePackets}
use Rattle.pg_wire.proofs.Packets.{one_packet, faulty_begins_none}
use Rattle.pgpipe_frames.specs.Reading.{IsPacketReadAs}

-- what begins with no packet is none
begins_none : (bytes : List ℕ) → BeginsNoPacket bytes → NoPacket bytes
begins_none bytes none p is e = none p [] is (sym e ∙ sym (append-nil (packet p)))

-- what begins with a packet and goes on is none
goes_on : (bytes more : List ℕ) (p : First) → IsPacket p → bytes ≡ packet p ++ more → (length more ≡ 0 → ⊥) → NoPacket bytes
goes_on bytes more p is e some q other same =
    let r = one_packet p q more [] is other (sym e ∙ sym same ∙ sym (append-nil (packet q))) in
    some (ap (λ (l : List ℕ). length l) r.1)

nothing : (xs : List ℕ) → length xs ≡ 0 → xs ≡ []
nothing [] e = refl
nothing (x ∷ xs) e = absurd (omega (arith, e))

-- what begins with a packet is it, where nothing is left
by_left : (bytes more : List ℕ) (p : First) (n : ℕ) → IsPacket p → bytes ≡ packet p ++ more → n ≡ length more → IsPacketReadAs bytes (cond (eqb n 0) (Some p) None)
by_left bytes more p zero is e left = (is, sym (e ∙ ap (λ (l : List ℕ). packet p ++ l) (nothing more (sym left)) ∙ append-nil (packet p)))
by_left bytes more p (suc n) is e left = subst (λ (b : Bool). IsPacketReadAs bytes (cond b (Some p) None)) (sym (ne_eqb (suc n) 0 (λ same. omega (arith, same)))) (goes_on bytes more p is e (λ none. omega (arith, none, left)))

-- ---- what a decoder answered

pub some_is : (old new : FirstState) (p : First) (left : ℕ) (r : Option First) → FirstTakes old (Ok (Some p)) new → left ≡ length new.kept → r ≡ cond (eqb left 0) (Some p) None → IsPacketReadAs old.kept r
some_is old new p left r t is same = subst (IsPacketReadAs old.kept) (sym same) (by_left old.kept new.kept p left t.2 t.3 is)

pub none_is : (old new : FirstState) → old.ended ≡ false → FirstTakes old (Ok None) new → NoPacket old.kept
none_is old new ended t = begins_none old.kept (subst (λ (b : Bool). NoMorePackets b old.kept) ended t.2).0.no_packet

faulty_is : (old new : FirstState) (f : WireFault) → old.fault ≡ None → IsLasting (Some f) → FirstTakes old (Err f) new → NoPacket old.kept
faulty_is old new (wire.UnknownTag x) none lasts (inl t) = absurd (none-some _ (sym none ∙ t.0))
faulty_is old new (wire.UnknownTag x) none lasts (inr t) = absurd t.3
faulty_is old new (wire.ShortLength x) none lasts (inl t) = absurd (none-some _ (sym none ∙ t.0))
faulty_is old new (wire.ShortLength x) none lasts (inr t) = begins_none old.kept (faulty_begins_none old.kept (wire.ShortLength x) t.3)
faulty_is old new (wire.LongLength x) none lasts (inl t) = absurd (none-some _ (sym none ∙ t.0))
faulty_is old new (wire.LongLength x) none lasts (inr t) = begins_none old.kept (faulty_begins_none old.kept (wire.LongLength x) t.3)
faulty_is old new (wire.BadFirst x) none lasts (inl t) = absurd (none-some _ (sym none ∙ t.0))
faulty_is old new (wire.BadFirst x) none lasts (inr t) = begins_none old.kept (faulty_begins_none old.kept (wire.BadFirst x) t.3)
faulty_is old new (wire.BadBody x) none lasts (inl t) = absurd (none-some _ (sym none ∙ t.0))
faulty_is old new (wire.BadBody x) none lasts (inr t) = begins_none old.kept (faulty_begins_none old.kept (wire.BadBody x) t.3)
faulty_is old new wire.Memory none lasts t = absurd lasts

pub fault_is : {E : Type 0} (old new : FirstState) (f : WireFault) (r : Result (Option First) E) → old.fault ≡ None → FirstTakes old (Err f) new → IfOk r (λ p. (p ≡ None) × IsLasting (Some f)) → IfOk r (IsPacketReadAs old.kept)
fault_is old new f (Ok p) none t is = subst (IsPacketReadAs old.kept) (sym is.0) (faulty_is old new f none is.1 t)
fault_is old new f (Err e) none t is = tt
