-- How the lines go on from message to message.
use Rattle.std.proofs.Common.{◌≡◌, ℕ, ◌+◌, ◌-◌, true, false, length, arith, List, [], ◌∷◌, ◌++◌, ◌⊎◌, inl, inr, Some, None, Ok, Err, refl, sym, ap, subst, ◌∙◌, append_assoc, append-nil}
use Rattle.std.specs.List.{flat_map, AllByRecursion}
use Rattle.std.proofs.lemmas.Grind.{flat_map-append}
use Rattle.std.proofs.lemmas.Option.{none-some}
use Rattle.pg_wire.specs.declared.fault.WireFault.{WireFault}
use Rattle.pg_wire.specs.declared.fault.WireFault.TheVariants as wire
use Rattle.pg_wire.specs.declared.link.LinkFault.{LinkFault}
use Rattle.pg_wire.specs.Decoder.{DecoderState}
use Rattle.pg_wire.specs.Spellings.{SpellingsState, TakesSpelling}
use Rattle.pg_wire.specs.Direction.{Direction, spelling}
use Rattle.pg_wire.specs.Stream.{IsStream, IsWithin, IsOpen, IsFaulty}
use Rattle.pgpipe_base.specs.declared.stop.Stop.{Stop}
use Rattle.pgpipe_base.specs.declared.stop.Stop.TheVariants as stop
use Rattle.pgpipe_show.specs.declared.show.Shown.{Shown}
use Rattle.pgpipe_show.specs.declared.show.Shown.TheVariants as shown
use Rattle.pgpipe_show.specs.Messages.{line, lines}
use Rattle.std.specs.Prelude.{slice_index, drop}
use Rattle.pgpipe_base.specs.Outbox.{Puts, line_of}
use Rattle.pgpipe_show.specs.Show.{length_limit}
use Rattle.pgpipe_show.specs.Private.Showing.{IsSound, HasPut, Breaks, PutsMessages, StepsSource, PutsLine, fault_stop}
use Rattle.pgpipe_base.proofs.Pieces.{puts_none, puts_then}

pub each_append : {X : Type 0} (P : X → Type 0) (xs ys : List X) → AllByRecursion P xs → AllByRecursion P ys → AllByRecursion P (xs ++ ys)
each_append P [] ys all more = more
each_append P (x ∷ xs) ys all more = (all.0, each_append P xs ys all.1 more)

-- messages after messages
pub stream_append : {M : Type 0} (D : Direction M) (bytes : List ℕ) (ms : List M) (rest : List ℕ) (ns : List M) (rest' : List ℕ) → IsStream D length_limit bytes ms rest → IsStream D length_limit rest ns rest' → IsStream D length_limit bytes (ms ++ ns) rest'
stream_append D bytes ms rest ns rest' s t = record {
  whole = s.whole ∙ ap (λ (u : List ℕ). flat_map (spelling D) ms ++ u) t.whole ∙ sym (append_assoc (flat_map (spelling D) ms) (flat_map (spelling D) ns) rest') ∙ ap (λ (u : List ℕ). u ++ rest') (sym (flat_map-append (spelling D) ms ns));
  each = each_append (IsWithin D length_limit) ms ns s.each t.each;
}

-- one message at the beginning
one_message : {M : Type 0} (D : Direction M) (rest : List ℕ) (m : M) (rest' : List ℕ) → rest ≡ spelling D m ++ rest' → IsWithin D length_limit m → IsStream D length_limit rest (m ∷ []) rest'
one_message D rest m rest' e w = record { whole = e ∙ ap (λ (u : List ℕ). u ++ rest') (sym (append-nil (spelling D m))); each = (w, tt) }

lines_then : {M : Type 0} (D : Direction M) (ms : List M) (m : M) → lines D (ms ++ m ∷ []) ≡ lines D ms ++ line D m
lines_then D ms m = flat_map-append (line D) ms (m ∷ []) ∙ ap (λ (t : List ℕ). lines D ms ++ t) (append-nil (line D m))

-- where no fault was found before, it was found in this call
found_now : {M : Type 0} (D : Direction M) (d : DecoderState) (f : WireFault) (d' : DecoderState) → d.fault ≡ None → ((d.fault ≡ Some f) × (d' ≡ d)) ⊎ ((d.fault ≡ None) × (d' ≡ record d { fault = Some f }) × IsFaulty D d.limit d.kept f) → IsFaulty D d.limit d.kept f
found_now D d f d' none (inl p) = absurd (none-some f (sym none ∙ p.0))
found_now D d f d' none (inr p) = p.2

module _ {K M : Type 0} (D : Direction M) (takes : K → List ℕ → K → Type 0) (failures : K → ℕ) (c0 : List ℕ) (s0 : K) (bytes : List ℕ) where
  pub has_put_none : HasPut takes failures D c0 s0 bytes bytes c0 s0
  has_put_none = record { messages = []; stream = record { whole = refl; each = tt }; put = puts_none takes failures c0 s0; within = λ w. w }

  -- the line of the next message is put
  has_put_more : (rest c : List ℕ) (s : K) (m : M) (rest' c' : List ℕ) (s' : K) → HasPut takes failures D c0 s0 bytes rest c s → rest ≡ spelling D m ++ rest' → IsWithin D length_limit m
      → PutsLine takes failures c s (line D m) (Ok tt) c' s' → HasPut takes failures D c0 s0 bytes rest' c' s'
  has_put_more rest c s m rest' c' s' h e w p = record {
    messages = h.messages ++ m ∷ [];
    stream = stream_append D bytes h.messages rest (m ∷ []) rest' h.stream (one_message D rest m rest' e w);
    put = subst (λ (t : List ℕ). Puts {A = Unit {0}} takes failures c0 s0 t (Ok tt) c' s') (sym (lines_then D h.messages m)) (puts_then takes failures c0 s0 (lines D h.messages) c s (line D m) (Ok tt) c' s' h.put p.0);
    within = λ w. p.1;
  }

  -- the sink failed in the line of the next message
  breaks_more : (rest c : List ℕ) (s : K) (m : M) (rest' c' : List ℕ) (s' : K) (f : LinkFault) → HasPut takes failures D c0 s0 bytes rest c s → rest ≡ spelling D m ++ rest' → IsWithin D length_limit m
      → Puts {A = Unit {0}} takes failures c s (line D m) (Err f) c' s' → Breaks takes failures D c0 s0 bytes c' s'
  breaks_more rest c s m rest' c' s' f h e w p = record {
    fault = f;
    messages = h.messages ++ m ∷ [];
    rest = rest';
    stream = stream_append D bytes h.messages rest (m ∷ []) rest' h.stream (one_message D rest m rest' e w);
    put = subst (λ (t : List ℕ). Puts {A = Unit {0}} takes failures c0 s0 t (Err f) c' s') (sym (lines_then D h.messages m)) (puts_then takes failures c0 s0 (lines D h.messages) c s (line D m) (Err f) c' s' h.put p);
  }

  module _ (d : DecoderState) (c : List ℕ) (s : K) (sound : IsSound d) (h : HasPut takes failures D c0 s0 bytes d.kept c s) where
    -- ---- what the reader answers

    -- no whole message waits
    pub at_none : (new : SpellingsState) → TakesSpelling D d (Ok false) new → PutsMessages takes failures D c0 s0 bytes (Ok new) c s
    at_none new taken =
        let t = taken.0 in
        let is_open : IsOpen D length_limit d.kept = subst (λ (l : ℕ). IsOpen D l d.kept) sound.limited t.2 in
        subst (λ (e : DecoderState). IsSound e × HasPut takes failures D c0 s0 bytes e.kept c s × IsOpen D length_limit e.kept) (sym t.1) (sound, h, is_open)

    -- the rest is faulty
    pub at_fault : (f : WireFault) (new : SpellingsState) → TakesSpelling D d (Err f) new → PutsMessages takes failures D c0 s0 bytes (Err (fault_stop f)) c s
    at_fault wire.Memory new t = absurd t
    at_fault (wire.UnknownTag b) new t = (d.kept, h, subst (λ (l : ℕ). IsFaulty D l d.kept (wire.UnknownTag b)) sound.limited (found_now D d (wire.UnknownTag b) new.stream sound.no_fault t.0))
    at_fault (wire.ShortLength n) new t = (d.kept, h, subst (λ (l : ℕ). IsFaulty D l d.kept (wire.ShortLength n)) sound.limited (found_now D d (wire.ShortLength n) new.stream sound.no_fault t.0))
    at_fault (wire.LongLength n) new t = (d.kept, h, subst (λ (l : ℕ). IsFaulty D l d.kept (wire.LongLength n)) sound.limited (found_now D d (wire.LongLength n) new.stream sound.no_fault t.0))
    at_fault (wire.BadFirst n) new t = (d.kept, h, subst (λ (l : ℕ). IsFaulty D l d.kept (wire.BadFirst n)) sound.limited (found_now D d (wire.BadFirst n) new.stream sound.no_fault t.0))
    at_fault (wire.BadBody b) new t = (d.kept, h, subst (λ (l : ℕ). IsFaulty D l d.kept (wire.BadBody b)) sound.limited (found_now D d (wire.BadBody b) new.stream sound.no_fault t.0))

    -- ---- what is done with a message, whose bytes are these

    module _ (new : SpellingsState) (taken : TakesSpelling D d (Ok true) new) (spelled : List ℕ) (lent : spelled ≡ new.held) where
      abbrev m : M
      m = taken.0

      spelled_is : spelled ≡ spelling D m
      spelled_is = lent ∙ taken.2

      within : IsWithin D length_limit m
      within = subst (λ (l : ℕ). IsWithin D l m) sound.limited taken.1.1

      size_is : length spelled - 1 ≡ 4 + length (D.body m)
      size_is = omega (arith, ap length spelled_is)

      line_is : line_of (slice_index spelled 0 ∷ []) (length spelled - 1) (drop 5 spelled) ≡ line D m
      line_is =
          ap (λ (b : List ℕ). line_of (slice_index b 0 ∷ []) (length spelled - 1) (drop 5 b)) spelled_is ∙ ap (λ (n : ℕ). line_of (D.tag m ∷ []) n (D.body m)) size_is

      -- its line is put
      pub at_line : (c' : List ℕ) (s' : K) → PutsLine takes failures c s (line_of (slice_index spelled 0 ∷ []) (length spelled - 1) (drop 5 spelled)) (Ok tt) c' s'
          → IsSound new.stream × HasPut takes failures D c0 s0 bytes new.stream.kept c' s'
      at_line c' s' p =
          let t = taken.1 in
          let put : PutsLine takes failures c s (line D m) (Ok tt) c' s' = subst (λ (text : List ℕ). PutsLine takes failures c s text (Ok tt) c' s') line_is p in
          (record { limited = ap (λ (e : DecoderState). e.limit) t.3 ∙ sound.limited; no_fault = ap (λ (e : DecoderState). e.fault) t.3 ∙ sound.no_fault }, has_put_more d.kept c s m new.stream.kept c' s' h t.2 within put)

      -- the work stopped in it
      stopped : (w : Stop Shown) (c' : List ℕ) (s' : K) → PutsLine takes failures c s (line D m) (Err w) c' s' → PutsMessages takes failures D c0 s0 bytes (Err w) c' s'
      stopped stop.Memory c' s' p =
          (d.kept, subst (λ (k : List ℕ). HasPut takes failures D c0 s0 bytes d.kept k s') (sym p.0) (subst (λ (k : K). HasPut takes failures D c0 s0 bytes d.kept c k) (sym p.1) h))
      stopped stop.SinkFailed c' s' p = breaks_more d.kept c s m new.stream.kept c' s' p.0 h taken.1.2 within p.1
      stopped (stop.Answer shown.Whole) c' s' p = absurd p
      stopped (stop.Answer (shown.Rest n)) c' s' p = absurd p
      stopped (stop.Answer (shown.Fault f)) c' s' p = absurd p
      stopped stop.SourceFailed c' s' p = absurd p
      stopped stop.Endless c' s' p = absurd p

      pub at_stop : (w : Stop Shown) (c' : List ℕ) (s' : K) → PutsLine takes failures c s (line_of (slice_index spelled 0 ∷ []) (length spelled - 1) (drop 5 spelled)) (Err w) c' s' → PutsMessages takes failures D c0 s0 bytes (Err w) c' s'
      at_stop w c' s' p = stopped w c' s' (subst (λ (text : List ℕ). PutsLine takes failures c s text (Err w) c' s') line_is p)

pub faults_leave_source : (A : Type 0) (ended : Type 0) (n : ℕ) (f : WireFault) → StepsSource {A = A} ended n n (Err (fault_stop f))
faults_leave_source A ended n wire.Memory = refl
faults_leave_source A ended n (wire.UnknownTag b) = refl
faults_leave_source A ended n (wire.ShortLength b) = refl
faults_leave_source A ended n (wire.LongLength b) = refl
faults_leave_source A ended n (wire.BadFirst b) = refl
faults_leave_source A ended n (wire.BadBody b) = refl
