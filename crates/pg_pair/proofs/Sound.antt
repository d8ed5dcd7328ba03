-- What the backend hasn't handled of what its client sends is no faulty rest.
use Rattle.std.proofs.Common.{◌≡◌, ◌+◌, ℕ, true, false, Bool, List, [], ◌∷◌, ◌++◌, length, refl, ap, sym, subst, ◌∙◌, inl, inr}
use Rattle.std.specs.Prelude.{nat_lt, if◌then◌else◌, Some, None}
use Rattle.std.specs.List.{flat_map, AllByRecursion}
use Rattle.std.proofs.lemmas.Bool.{ltb-false}
use Rattle.std.proofs.lemmas.List.{take-append-drop}
use Rattle.pg_wire.specs.declared.fault.WireFault.{WireFault}
use Rattle.pg_wire.specs.message.FrontMessage.{FrontMessage}
use Rattle.pg_wire.specs.fault.EncodeFault.TheVariants as faults
use Rattle.pg_wire.specs.Direction.{spelling, longest, HasSpelling, fault_of}
use Rattle.pg_wire.specs.First.{IsPacket, packet, IsFaultyPacket}
use Rattle.pg_wire.specs.Frontend.{frontend}
use Rattle.pg_wire.specs.Laws.{FaultyBeginsNone, FaultyBeginsNoPacket}
use Rattle.pg_wire.specs.Stream.{IsWithin, IsFaulty}
use Rattle.pg_client.specs.declared.settings.Settings.{Settings}
use Rattle.pg_client.specs.declared.call.Call.{Call}
use Rattle.pg_client.specs.Turns.{greeting}
use Rattle.pg_client.specs.Answering.{calls_of}
use Rattle.pg_backend.specs.Input.{Input, IsInput, is_started, IsFaultyRest}
use Rattle.pg_pair.specs.Private.Known.{Known}
use Rattle.pg_pair.specs.Invariant.{Tied}
use Rattle.pg_pair.specs.View.{waiting, PairView}
use Rattle.pg_backend.proofs.Beginnings.{all_back, empty_left}
use Rattle.pg_pair.proofs.Faults.{fault_stays, packet_fault_stays, no_fault_of_nothing, no_packet_fault_of_nothing}
use Rattle.pg_pair.proofs.Opening.{opening, IsUnread}
use Rattle.pg_pair.proofs.Settling.{Messages, sent_messages, tied_reads, tied_spelled, tied_packet, tied_none}

-- a message that has a spelling is within the greatest limit
fault_none : (zero too_many reserved : Bool) (n : ℕ) → fault_of zero too_many reserved n ≡ None → nat_lt longest (4 + n) ≡ false
fault_none true too_many reserved n e = absurd cc
fault_none false true reserved n e = absurd cc
fault_none false false true n e = absurd cc
fault_none false false false n e = by_size (nat_lt longest (4 + n)) e
  where
    by_size : (b : Bool) → (if b then Some faults.TooLong else None) ≡ None → b ≡ false
    by_size true e = absurd cc
    by_size false e = refl

spelled_within : (m : FrontMessage) → HasSpelling frontend m → IsWithin frontend longest m
spelled_within m h = record {
  spelled = h;
  limited = ltb-false longest (4 + length (frontend.body m)) (fault_none (frontend.has_zero m) (frontend.has_too_many m) (frontend.has_reserved_code m) (length (frontend.body m)) h.no_fault);
}

-- a rest that the spellings of messages go on with is no faulty one
messages_sound : FaultyBeginsNone frontend → (left : List FrontMessage) (rest more : List ℕ) (f : WireFault) → AllByRecursion (HasSpelling frontend) left → rest ++ more ≡ flat_map (spelling frontend) left → IsFaulty frontend longest rest f → ⊥
messages_sound none [] rest more f spelled e h =
    no_fault_of_nothing frontend longest f (subst (λ l. IsFaulty frontend longest l f) (empty_left rest more (sym e)).0 h)
messages_sound none (m ∷ left) rest more f spelled e h =
    none longest (rest ++ more) f (fault_stays frontend longest rest more f h) m (flat_map (spelling frontend) left) (spelled_within m spelled.0) e

packets_sound : FaultyBeginsNoPacket → (settings : Settings) (cs : List Call) (rest more tail : List ℕ) (f : WireFault) → ((c : Call) (ds : List Call) → cs ≡ c ∷ ds → IsPacket (opening settings)) → (cs ≡ [] → tail ≡ [])
    → rest ++ more ≡ greeting settings cs ++ tail → IsFaultyPacket rest f → ⊥
packets_sound none settings [] rest more tail f is nothing e h =
    no_packet_fault_of_nothing f (subst (λ l. IsFaultyPacket l f) (empty_left rest more (sym (e ∙ nothing refl))).0 h)
packets_sound none settings (c ∷ cs) rest more tail f is nothing e h =
    none (rest ++ more) f (packet_fault_stays rest more f h) (opening settings) tail (is c cs refl) e

-- what nothing was read of
unread_rest : (limit : ℕ) (pushed : List ℕ) (i : Input) (rest : List ℕ) → IsUnread i → IsInput limit pushed i rest → pushed ≡ rest
unread_rest limit pushed i rest u input = input.packets.whole ∙ ap (λ ps. flat_map packet ps ++ input.after_packets) u.packets ∙ input.messages.whole ∙ ap (λ ms. flat_map (spelling frontend) ms ++ rest) u.messages

pub not_faulty : Known → {C : Type 0} (p : PairView C) (t : Tied p) (f : WireFault) → IsFaultyRest (is_started t.backend.history.input.packets) p.backend.limit t.backend.history.rest f → ⊥
not_faulty k p t f h = elim (tied_reads k p t) [
  | inl u ↦
      let faulty : IsFaultyPacket t.backend.history.rest f = subst (λ ps. IsFaultyRest (is_started ps) p.backend.limit t.backend.history.rest f) u.packets h in
      let bytes : t.backend.history.rest ++ waiting p.to_backend ≡ greeting p.client.settings (calls_of t.client.history.calls) ++ flat_map (spelling frontend) (Messages p t) =
      ap (λ l. l ++ waiting p.to_backend) (sym (unread_rest p.backend.limit t.backend.history.pushed t.backend.history.input t.backend.history.rest u t.backend.is_history.input) ∙ t.backend.pushed) ∙ take-append-drop p.to_backend.reached p.to_backend.sent ∙ sent_messages k p t in
      packets_sound k.faulty_packet p.client.settings (calls_of t.client.history.calls) t.backend.history.rest (waiting p.to_backend) (flat_map (spelling frontend) (Messages p t)) f (tied_packet k p t) (λ e. ap (flat_map (spelling frontend)) (tied_none k p t e)) bytes faulty
  | inr r ↦
      let faulty : IsFaulty frontend longest t.backend.history.rest f = subst (λ l. IsFaulty frontend l t.backend.history.rest f) t.backend.limit (subst (λ ps. IsFaultyRest (is_started ps) p.backend.limit t.backend.history.rest f) r.packets h) in
      let left : AllByRecursion (HasSpelling frontend) r.left = all_back (HasSpelling frontend) t.backend.history.input.messages r.left (subst (AllByRecursion (HasSpelling frontend)) r.messages (tied_spelled k p t)) in
      messages_sound k.faulty_message r.left t.backend.history.rest (waiting p.to_backend) f left r.bytes faulty
]
