-- How the lines go on from packet to packet.
use Rattle.std.proofs.Common.{◌≡◌, ℕ, ◌≤◌, Bool, true, false, cond, ltb, List, [], ◌∷◌, ◌++◌, ◌⊎◌, inl, inr, Option, Some, None, Ok, Err, refl, sym, ap, subst, ◌∙◌, append_assoc, append-nil, arith}
use Rattle.std.specs.List.{flat_map}
use Rattle.std.proofs.lemmas.Bool.{ltb-false}
use Rattle.std.proofs.lemmas.Grind.{flat_map-append}
use Rattle.std.proofs.lemmas.Option.{none-some}
use Rattle.pg_wire.specs.fault.EncodeFault.{EncodeFault}
use Rattle.pg_wire.specs.fault.EncodeFault.TheVariants as faults
use Rattle.pg_wire.specs.declared.fault.WireFault.{WireFault}
use Rattle.pg_wire.specs.declared.fault.WireFault.TheVariants as wire
use Rattle.pg_wire.specs.message.First.{First}
use Rattle.pg_wire.specs.message.First.TheVariants as first
use Rattle.pg_wire.specs.First.{packet, longest_packet, packet_length, packet_has_zero, packet_has_no_name, packet_fault, IsPacket, is_last, EndsIn, IsBeginning, IsFaultyPacket, IsOpenPacket, BeginsNoPacket}
use Rattle.pg_wire.specs.FirstDecoder.{FirstState, FirstTakes, NoMorePackets}
use Rattle.pgpipe_show.specs.Packets.{packet_line, packet_lines, after_packet, next_after, have_ended}
use Rattle.pgpipe_base.specs.declared.stop.Stop.{Stop}
use Rattle.pgpipe_base.specs.declared.stop.Stop.TheVariants as stop
use Rattle.pgpipe_show.specs.declared.show.Shown.{Shown}
use Rattle.pgpipe_show.specs.declared.show.Shown.TheVariants as shown
use Rattle.pgpipe_frames.specs.declared.next.NextFrame.{NextFrame}
use Rattle.pgpipe_frames.specs.declared.next.NextFrame.TheVariants as next
use Rattle.pgpipe_base.specs.Outbox.{Puts}
use Rattle.pgpipe_show.specs.Private.Showing.{HasPutPackets, PutsPackets, PutsLine, fault_stop}
use Rattle.pgpipe_show.proofs.MessageLines.{each_append}
use Rattle.pgpipe_base.proofs.Pieces.{puts_none, puts_then}

-- ---- how long a packet is

passes : (b : Bool) (f : EncodeFault) (o : Option EncodeFault) → cond b (Some f) o ≡ None → o ≡ None
passes true f o e = absurd (none-some f (sym e))
passes false f o e = e

is_short : (b : Bool) (f : EncodeFault) → cond b (Some f) None ≡ None → b ≡ false
is_short true f e = absurd (none-some f (sym e))
is_short false f e = refl

pub packet_is_short : (p : First) → packet_fault p ≡ None → packet_length p ≤ longest_packet
packet_is_short p e =
    let long = ltb longest_packet (packet_length p) in
    let too_long : Option EncodeFault = cond long (Some faults.TooLong) None in
    let named : Option EncodeFault = cond (packet_has_no_name p) (Some faults.EmptyName) too_long in
    ltb-false _ _ (is_short long faults.TooLong (passes (packet_has_no_name p) faults.EmptyName too_long (passes (packet_has_zero p) faults.HasZero named e)))

-- ---- packets after packets

pub next_append : (ps qs : List First) → next_after ps ≡ next.Packet → next_after (ps ++ qs) ≡ next_after qs
next_append [] qs e = refl
next_append (p ∷ []) [] e = e
next_append (p ∷ []) (q ∷ qs) e = refl
next_append (p ∷ r ∷ ps) qs e = next_append (r ∷ ps) qs e

ends_append : (ps qs : List First) (e : Bool) → EndsIn ps false → EndsIn qs e → EndsIn (ps ++ qs) e
ends_append [] qs e x y = y
ends_append (p ∷ []) [] e x y = y ∙ x
ends_append (p ∷ []) (q ∷ qs) e x y = (sym x, y)
ends_append (p ∷ r ∷ ps) qs e x y = (x.0, ends_append (r ∷ ps) qs e x.1 y)

pub beginning_append : (bytes : List ℕ) (ps : List First) (rest : List ℕ) (qs : List First) (e : Bool) (rest' : List ℕ) → IsBeginning bytes ps false rest → IsBeginning rest qs e rest' → IsBeginning bytes (ps ++ qs) e rest'
beginning_append bytes ps rest qs e rest' s t = record {
  whole = s.whole ∙ ap (λ (u : List ℕ). flat_map packet ps ++ u) t.whole ∙ sym (append_assoc (flat_map packet ps) (flat_map packet qs) rest') ∙ ap (λ (u : List ℕ). u ++ rest') (sym (flat_map-append packet ps qs));
  each = each_append IsPacket ps qs s.each t.each;
  last = ends_append ps qs e s.last t.last;
}

last_has_ended : (p : First) → have_ended (after_packet p) ≡ is_last p
last_has_ended (first.Startup pairs) = refl
last_has_ended (first.Cancel process secret) = refl
last_has_ended first.Ssl = refl
last_has_ended first.Gss = refl

-- one packet at the beginning
one_packet : (rest : List ℕ) (p : First) (rest' : List ℕ) → rest ≡ packet p ++ rest' → IsPacket p → IsBeginning rest (p ∷ []) (have_ended (after_packet p)) rest'
one_packet rest p rest' e w = record { whole = e ∙ ap (λ (u : List ℕ). u ++ rest') (sym (append-nil (packet p))); each = (w, tt); last = last_has_ended p }

lines_then : (ps : List First) (p : First) → packet_lines (ps ++ p ∷ []) ≡ packet_lines ps ++ packet_line p
lines_then ps p = flat_map-append packet_line ps (p ∷ []) ∙ ap (λ (t : List ℕ). packet_lines ps ++ t) (append-nil (packet_line p))

-- where no fault was found before, it was found in this call
found_now : (d : FirstState) (f : WireFault) (d' : FirstState) → d.fault ≡ None → ((d.fault ≡ Some f) × (d' ≡ d)) ⊎ ((d.fault ≡ None) × (d.ended ≡ false) × (d' ≡ record d { fault = Some f }) × IsFaultyPacket d.kept f) → IsFaultyPacket d.kept f
found_now d f d' none (inl p) = absurd (none-some f (sym none ∙ p.0))
found_now d f d' none (inr p) = p.3

module _ {K : Type 0} (takes : K → List ℕ → K → Type 0) (failures : K → ℕ) (c0 : List ℕ) (s0 : K) (bytes : List ℕ) where
  pub has_put_none : HasPutPackets takes failures c0 s0 bytes next.Packet bytes c0 s0
  has_put_none = record { packets = []; beginning = record { whole = refl; each = tt; last = refl }; next_is = refl; put = puts_none takes failures c0 s0; within = λ w. w }

  module _ (d : FirstState) (c : List ℕ) (s : K) (more : d.ended ≡ false) (sound : d.fault ≡ None) (h : HasPutPackets takes failures c0 s0 bytes next.Packet d.kept c s) where
    -- ---- what the decoder answers

    -- no whole packet waits
    pub at_none : (o : Option First) (d' : FirstState) → o ≡ None → FirstTakes d (Ok o) d' → PutsPackets takes failures c0 s0 bytes (Ok next.Packet) d' c s
    at_none o d' none got =
        let t = subst (λ (x : Option First). FirstTakes d (Ok x) d') none got in
        let is_open : NoMorePackets false d.kept = subst (λ (b : Bool). NoMorePackets b d.kept) more t.2 in
        subst (λ (e : FirstState). PutsPackets takes failures c0 s0 bytes (Ok next.Packet) e c s) (sym t.1) (more, sound, h, is_open.0)

    -- the rest is faulty, or memory was refused
    pub at_fault : (f : WireFault) (d' : FirstState) → FirstTakes d (Err f) d' → PutsPackets takes failures c0 s0 bytes (Err (fault_stop f)) d' c s
    at_fault wire.Memory d' t = (d.kept, h)
    at_fault (wire.UnknownTag b) d' t = (d.kept, h, found_now d (wire.UnknownTag b) d' sound t)
    at_fault (wire.ShortLength n) d' t = (d.kept, h, found_now d (wire.ShortLength n) d' sound t)
    at_fault (wire.LongLength n) d' t = (d.kept, h, found_now d (wire.LongLength n) d' sound t)
    at_fault (wire.BadFirst n) d' t = (d.kept, h, found_now d (wire.BadFirst n) d' sound t)
    at_fault (wire.BadBody b) d' t = (d.kept, h, found_now d (wire.BadBody b) d' sound t)

    -- ---- what is done with a packet

    module _ (o : Option First) (d' : FirstState) (p : First) (some : o ≡ Some p) (got : FirstTakes d (Ok o) d') where
      taken : FirstTakes d (Ok (Some p)) d'
      taken = subst (λ (x : Option First). FirstTakes d (Ok x) d') some got

      begins : IsBeginning bytes (h.packets ++ p ∷ []) (have_ended (after_packet p)) d'.kept
      begins = beginning_append bytes h.packets d.kept (p ∷ []) (have_ended (after_packet p)) d'.kept h.beginning (one_packet d.kept p d'.kept taken.3 taken.2)

      next_is : next_after (h.packets ++ p ∷ []) ≡ after_packet p
      next_is = next_append h.packets (p ∷ []) h.next_is

      -- its line is put
      pub at_line : (c' : List ℕ) (s' : K) → PutsLine takes failures c s (packet_line p) (Ok tt) c' s' → (d'.ended ≡ have_ended (after_packet p)) × (d'.fault ≡ None) × HasPutPackets takes failures c0 s0 bytes (after_packet p) d'.kept c' s'
      at_line c' s' q = (
        ap (λ (e : FirstState). e.ended) taken.4 ∙ sym (last_has_ended p),
        ap (λ (e : FirstState). e.fault) taken.4 ∙ sound,
        record {
          packets = h.packets ++ p ∷ [];
          beginning = begins;
          next_is = next_is;
          put = subst (λ (t : List ℕ). Puts {A = Unit {0}} takes failures c0 s0 t (Ok tt) c' s') (sym (lines_then h.packets p)) (puts_then takes failures c0 s0 (packet_lines h.packets) c s (packet_line p) (Ok tt) c' s' h.put q.0);
          within = λ w. q.1;
        },
      )

      -- the work stopped in it
      pub at_stop : (w : Stop Shown) (c' : List ℕ) (s' : K) → PutsLine takes failures c s (packet_line p) (Err w) c' s' → PutsPackets takes failures c0 s0 bytes (Err w) d' c' s'
      at_stop stop.Memory c' s' q =
          (d.kept, subst (λ (k : List ℕ). HasPutPackets takes failures c0 s0 bytes next.Packet d.kept k s') (sym q.0) (subst (λ (k : K). HasPutPackets takes failures c0 s0 bytes next.Packet d.kept c k) (sym q.1) h))
      at_stop stop.SinkFailed c' s' q = record {
        fault = q.0;
        packets = h.packets ++ p ∷ [];
        rest = d'.kept;
        beginning = subst (λ (n : NextFrame). IsBeginning bytes (h.packets ++ p ∷ []) (have_ended n) d'.kept) (sym next_is) begins;
        put = subst (λ (t : List ℕ). Puts {A = Unit {0}} takes failures c0 s0 t (Err q.0) c' s') (sym (lines_then h.packets p)) (puts_then takes failures c0 s0 (packet_lines h.packets) c s (packet_line p) (Err q.0) c' s' h.put q.1);
      }
      at_stop (stop.Answer shown.Whole) c' s' q = absurd q
      at_stop (stop.Answer (shown.Rest n)) c' s' q = absurd q
      at_stop (stop.Answer (shown.Fault f)) c' s' q = absurd q
      at_stop stop.SourceFailed c' s' q = absurd q
      at_stop stop.Endless c' s' q = absurd q

      -- it was the last packet
      pub at_last : (n : NextFrame) (c' : List ℕ) (s' : K) → n ≡ after_packet p → (n ≡ next.Packet → ⊥) → PutsLine takes failures c s (packet_line p) (Ok tt) c' s' → PutsPackets takes failures c0 s0 bytes (Ok n) d' c' s'
      at_last next.Packet c' s' is last q = absurd (last refl)
      at_last next.Message c' s' is last q = let l = at_line c' s' q in (l.1, subst (λ (n : NextFrame). HasPutPackets takes failures c0 s0 bytes n d'.kept c' s') (sym is) l.2)
      at_last next.Nothing c' s' is last q = let l = at_line c' s' q in (l.1, subst (λ (n : NextFrame). HasPutPackets takes failures c0 s0 bytes n d'.kept c' s') (sym is) l.2)

      -- more packets may come
      pub at_more : (c' : List ℕ) (s' : K) → after_packet p ≡ next.Packet → PutsLine takes failures c s (packet_line p) (Ok tt) c' s' → (d'.ended ≡ false) × (d'.fault ≡ None) × HasPutPackets takes failures c0 s0 bytes next.Packet d'.kept c' s'
      at_more c' s' is q = let l = at_line c' s' q in (l.0 ∙ ap have_ended is, l.1, subst (λ (n : NextFrame). HasPutPackets takes failures c0 s0 bytes n d'.kept c' s') is l.2)

pub is_no_packet : (n : NextFrame) → (n ≡ next.Message) ⊎ (n ≡ next.Nothing) → n ≡ next.Packet → ⊥
is_no_packet n (inl e) is = absurd (differ (sym is ∙ e))
  where
    differ : next.Packet ≡ next.Message → ⊥
    differ e = absurd cc
is_no_packet n (inr e) is = absurd (differ (sym is ∙ e))
  where
    differ : next.Packet ≡ next.Nothing → ⊥
    differ e = absurd cc

-- ---- where nothing came yet

pub nothing_open : IsOpenPacket []
nothing_open = record { no_packet = no_packet; no_fault = no_fault }
  where
    no_packet : BeginsNoPacket []
    no_packet p more s is = absurd cc

    no_fault : (f : WireFault) → IsFaultyPacket [] f → ⊥
    no_fault (wire.UnknownTag t) h = h
    no_fault (wire.ShortLength n) h = omega (arith, h.0.there)
    no_fault (wire.LongLength n) h = omega (arith, h.0.there)
    no_fault (wire.BadFirst c) h = omega (arith, h.1.there)
    no_fault (wire.BadBody t) h = omega (arith, h.3.head.there)
    no_fault wire.Memory h = h
