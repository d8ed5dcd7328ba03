-- How the work goes on from decoding to decoding.
use Rattle.std.proofs.Common.{◌≡◌, ℕ, zero, suc, ◌+◌, ◌≤◌, Bool, true, false, List, [], ◌++◌, length, take, Result, Ok, Err, refl, sym, ap, subst, ◌∙◌, append_assoc, append-nil, length-append, arith}
use Rattle.std.specs.List.{flat_map}
use Rattle.std.specs.Result.{is_err}
use Rattle.std.proofs.lemmas.Grind.{flat_map-append}
use Rattle.pg_wire.specs.declared.fault.WireFault.{WireFault}
use Rattle.pg_wire.specs.message.First.{First}
use Rattle.pg_wire.specs.Backend.{backend}
use Rattle.pg_wire.specs.Spellings.{SpellingsState}
use Rattle.pg_wire.specs.Direction.{Direction, spelling}
use Rattle.pg_wire.specs.First.{packet, IsBeginning}
use Rattle.pg_wire.specs.FirstDecoder.{FirstState, FirstPushes}
use Rattle.pg_wire.specs.Frontend.{frontend}
use Rattle.pg_wire.specs.Stream.{IsStream, IsFaulty}
use Rattle.pgpipe_show.specs.Packets.{packet_line, packet_lines, next_after, have_ended}
use Rattle.pgpipe_base.specs.declared.stop.Stop.{Stop}
use Rattle.pgpipe_base.specs.declared.stop.Stop.TheVariants as stop
use Rattle.pgpipe_show.specs.declared.show.Shown.{Shown}
use Rattle.pgpipe_show.specs.declared.show.Shown.TheVariants as shown
use Rattle.pgpipe_frames.specs.declared.next.NextFrame.{NextFrame}
use Rattle.pgpipe_frames.specs.declared.next.NextFrame.TheVariants as next
use Rattle.pgpipe_show.specs.declared.decoding.Decoding.{Decoding}
use Rattle.pgpipe_show.specs.declared.decoding.Decoding.TheVariants as decoding
use Rattle.pgpipe_show.specs.Messages.{line, lines}
use Rattle.pgpipe_base.specs.Outbox.{Puts}
use Rattle.pg_wire.specs.declared.link.LinkFault.{LinkFault}
use Rattle.pgpipe_show.specs.declared.form.Form.{Form}
use Rattle.pgpipe_show.specs.declared.form.Form.TheVariants as forms
use Rattle.pgpipe_show.specs.declared.form.Line.{Line}
use Rattle.pgpipe_show.specs.declared.framing.Framing.{Framing}
use Rattle.pgpipe_show.specs.Way.{Way, messages_of}
use Rattle.pgpipe_show.specs.Show.{length_limit, AreMessages, ComesAfter, IsClientSide, AreShown, AreShownIn, AreAllShown, IsOpenFor, IsFaultyFor}
use Rattle.pgpipe_show.specs.Private.Showing.{HasPut, PutsMessages, HasPutPackets, PutsPackets, end_stop, way_of, unshown, AreAt, IsSoundAt, HasShown, GoesOn, ArePut, Stops, StepShows, StepsSource}
use Rattle.pgpipe_show.proofs.Framings.{frames_received, frames_within}
use Rattle.pgpipe_show.proofs.MessageLines.{stream_append}
use Rattle.pgpipe_show.proofs.PacketLines.{next_append, beginning_append}
use Rattle.pgpipe_base.proofs.Pieces.{prefix_of_itself, puts_none, puts_then, puts_as, sends_on}

-- ---- more bytes come

pub messages_received : {M : Type 0} (D : Direction M) (bytes text rest piece : List ℕ) → AreMessages D bytes text rest → AreMessages D (bytes ++ piece) text (rest ++ piece)
messages_received D bytes text rest piece a = record {
  messages = a.messages;
  stream = record { whole = ap (λ (u : List ℕ). u ++ piece) a.stream.whole ∙ append_assoc (flat_map (spelling D) a.messages) rest piece; each = a.stream.each };
  each_line = a.each_line;
}

following_received : (n : NextFrame) (following text rest piece : List ℕ) → ComesAfter n following text rest → ComesAfter n (following ++ piece) text (rest ++ piece)
following_received next.Message following text rest piece b = messages_received frontend following text rest piece b
following_received next.Packet following text rest piece b = (b.0, ap (λ (u : List ℕ). u ++ piece) b.1)
following_received next.Nothing following text rest piece b = (b.0, ap (λ (u : List ℕ). u ++ piece) b.1)

pub client_received : (bytes text : List ℕ) (n : NextFrame) (rest piece : List ℕ) → IsClientSide bytes text n rest → IsClientSide (bytes ++ piece) text n (rest ++ piece)
client_received bytes text n rest piece c = record {
  packets = c.packets;
  following = c.following ++ piece;
  later = c.later;
  beginning = record { whole = ap (λ (u : List ℕ). u ++ piece) c.beginning.whole ∙ append_assoc (flat_map packet c.packets) c.following piece; each = c.beginning.each; last = c.beginning.last };
  next_is = c.next_is;
  follows = following_received n c.following c.later rest piece c.follows;
  each_line = c.each_line;
}

-- ---- more is taken off the rest

lines_append : {M : Type 0} (D : Direction M) (ms ns : List M) → lines D (ms ++ ns) ≡ lines D ms ++ lines D ns
lines_append D ms ns = flat_map-append (line D) ms ns

messages_then : {M : Type 0} (D : Direction M) (bytes text rest : List ℕ) (ns : List M) (rest' : List ℕ) → AreMessages D bytes text rest → IsStream D length_limit rest ns rest' → AreMessages D bytes (text ++ lines D ns) rest'
messages_then D bytes text rest ns rest' a s = record {
  messages = a.messages ++ ns;
  stream = stream_append D bytes a.messages rest ns rest' a.stream s;
  each_line = ap (λ (u : List ℕ). u ++ lines D ns) a.each_line ∙ sym (lines_append D a.messages ns);
}

client_messages : (bytes text rest : List ℕ) (ns : List _) (rest' : List ℕ) → IsClientSide bytes text next.Message rest → IsStream frontend length_limit rest ns rest' → IsClientSide bytes (text ++ lines frontend ns) next.Message rest'
client_messages bytes text rest ns rest' c s = record {
  packets = c.packets;
  following = c.following;
  later = c.later ++ lines frontend ns;
  beginning = c.beginning;
  next_is = c.next_is;
  follows = messages_then frontend c.following c.later rest ns rest' c.follows s;
  each_line = ap (λ (u : List ℕ). u ++ lines frontend ns) c.each_line ∙ append_assoc (packet_lines c.packets) c.later (lines frontend ns);
}

nothing_following : (n : NextFrame) (following : List ℕ) → ComesAfter n following [] following
nothing_following next.Message following = record { messages = []; stream = record { whole = refl; each = tt }; each_line = refl }
nothing_following next.Packet following = (refl, refl)
nothing_following next.Nothing following = (refl, refl)

pub client_packets : (bytes text rest : List ℕ) (qs : List First) (n : NextFrame) (rest' : List ℕ) → IsClientSide bytes text next.Packet rest → IsBeginning rest qs (have_ended n) rest' → next_after qs ≡ n → IsClientSide bytes (text ++ packet_lines qs) n rest'
client_packets bytes text rest qs n rest' c s is = record {
  packets = c.packets ++ qs;
  following = rest';
  later = [];
  beginning = beginning_append bytes c.packets rest qs (have_ended n) rest' (subst (λ (r : List ℕ). IsBeginning bytes c.packets false r) (sym c.follows.1) c.beginning) s;
  next_is = next_append c.packets qs c.next_is ∙ is;
  follows = nothing_following n rest';
  each_line = ap (λ (u : List ℕ). u ++ packet_lines qs) (c.each_line ∙ ap (λ (u : List ℕ). packet_lines c.packets ++ u) c.follows.0 ∙ append-nil (packet_lines c.packets)) ∙ sym (flat_map-append packet_line c.packets qs) ∙ sym (append-nil (packet_lines (c.packets ++ qs)));
}

-- ---- a rest is no longer than the bytes

rest_within : (bytes way rest : List ℕ) → bytes ≡ way ++ rest → length rest ≤ length bytes
rest_within bytes way rest e = omega (arith, ap (λ (l : List ℕ). length l) e, length-append way rest)

messages_within : {M : Type 0} (D : Direction M) (bytes text rest : List ℕ) → AreMessages D bytes text rest → length rest ≤ length bytes
messages_within D bytes text rest a = rest_within bytes (flat_map (spelling D) a.messages) rest a.stream.whole

following_within : (n : NextFrame) (following text rest : List ℕ) → ComesAfter n following text rest → length rest ≤ length following
following_within next.Message following text rest b = messages_within frontend following text rest b
following_within next.Packet following text rest b = rest_within following [] rest (sym b.1)
following_within next.Nothing following text rest b = rest_within following [] rest (sym b.1)

shown_within_in : (form : Form) (front : Bool) (bytes text : List ℕ) (n : NextFrame) (rest : List ℕ) → AreShownIn form front bytes text n rest → length rest ≤ length bytes
shown_within_in forms.Messages false bytes text n rest a = messages_within backend bytes text rest a.1
shown_within_in forms.Messages true bytes text n rest a = omega (arith, following_within n a.following a.later rest a.follows, rest_within bytes (flat_map packet a.packets) a.following a.beginning.whole)
shown_within_in (forms.Frames line) front bytes text n rest a = frames_within line front bytes text n rest a

shown_within : (way : Way) (bytes text : List ℕ) (n : NextFrame) (rest : List ℕ) → AreShown way bytes text n rest → length rest ≤ length bytes
shown_within way bytes text n rest a = shown_within_in way.form way.front bytes text n rest a

module _ {K : Type 0} (takes : K → List ℕ → K → Type 0) (failures : K → ℕ) (start : K) (bytes : List ℕ) where
  -- ---- what taking messages leads to

  module _ {M : Type 0} (D : Direction M) (way : Way) (n : NextFrame) (kept : List ℕ) (earlier : List (List ℕ)) (c : List ℕ) (s : K)
      (more : (text : List ℕ) (ns : List M) (rest : List ℕ) → AreShown way bytes text n kept → IsStream D length_limit kept ns rest → AreShown way bytes (text ++ lines D ns) n rest)
      (faulty : (rest : List ℕ) (f : WireFault) → IsFaulty D length_limit rest f → IsFaultyFor way n rest f)
      (p : ArePut takes failures way start bytes earlier n kept c s) where
    abbrev all_put : (rest c' : List ℕ) (s' : K) → HasPut takes failures D c s kept rest c' s' → ArePut takes failures way start bytes earlier n rest c' s'
    all_put rest c' s' h = record {
      text = p.text ++ lines D h.messages;
      shown = more p.text h.messages rest p.shown h.stream;
      put = puts_then takes failures [] start p.text c s (lines D h.messages) (Ok tt) c' s' p.put h.put;
      begins = sends_on takes failures earlier [] start p.text c s (lines D h.messages) (Ok tt) c' s' p.put h.put p.begins;
      within = h.within p.within;
    }

    messages_stop : (w : Stop Shown) (c' : List ℕ) (s' : K) → PutsMessages takes failures D c s kept (Err w) c' s' → Stops takes failures way start bytes earlier w c' s'
    messages_stop (stop.Answer (shown.Fault f)) c' s' h = (n, h.0, all_put h.0 c' s' h.1, faulty h.0 f h.2)
    messages_stop stop.Memory c' s' h = (n, h.0, all_put h.0 c' s' h.1)
    messages_stop stop.SinkFailed c' s' h = record {
      fault = h.fault;
      text = p.text ++ lines D h.messages;
      n = n;
      rest = h.rest;
      shown = more p.text h.messages h.rest p.shown h.stream;
      put = puts_then takes failures [] start p.text c s (lines D h.messages) (Err h.fault) c' s' p.put h.put;
      begins = sends_on takes failures earlier [] start p.text c s (lines D h.messages) (Err h.fault) c' s' p.put h.put p.begins;
    }
    messages_stop (stop.Answer shown.Whole) c' s' h = absurd h
    messages_stop (stop.Answer (shown.Rest k)) c' s' h = absurd h
    messages_stop stop.SourceFailed c' s' h = absurd h
    messages_stop stop.Endless c' s' h = absurd h

  back_more : (kept text : List ℕ) (ns : List _) (rest : List ℕ) → AreShown (messages_of false) bytes text next.Message kept → IsStream backend length_limit kept ns rest → AreShown (messages_of false) bytes (text ++ lines backend ns) next.Message rest
  back_more kept text ns rest a s = (refl, messages_then backend bytes text kept ns rest a.1 s)

  front_more : (kept text : List ℕ) (ns : List _) (rest : List ℕ) → AreShown (messages_of true) bytes text next.Message kept → IsStream frontend length_limit kept ns rest → AreShown (messages_of true) bytes (text ++ lines frontend ns) next.Message rest
  front_more kept text ns rest a s = client_messages bytes text kept ns rest a s

  module _ (kept : List ℕ) (earlier : List (List ℕ)) (c : List ℕ) (s : K) (p : ArePut takes failures (messages_of false) start bytes earlier next.Message kept c s) where
    pub back_ok : (d : SpellingsState) (c' : List ℕ) (s' : K) → PutsMessages takes failures backend c s kept (Ok d) c' s' → GoesOn takes failures start bytes earlier (decoding.Back d) c' s'
    back_ok d c' s' h =
        let a = all_put backend (messages_of false) next.Message kept earlier c s (back_more kept) (λ rest f x. x) p d.stream.kept c' s' h.1 in
        (record { text = a.text; are_at = (h.0, a.shown.1, h.2); put = a.put; within = a.within }, a.begins)

    pub back_err : (w : Stop Shown) (c' : List ℕ) (s' : K) → PutsMessages takes failures backend c s kept (Err w) c' s' → Stops takes failures (messages_of false) start bytes earlier w c' s'
    back_err w c' s' h = messages_stop backend (messages_of false) next.Message kept earlier c s (back_more kept) (λ rest f x. x) p w c' s' h

  module _ (kept : List ℕ) (earlier : List (List ℕ)) (c : List ℕ) (s : K) (p : ArePut takes failures (messages_of true) start bytes earlier next.Message kept c s) where
    pub front_ok : (d : SpellingsState) (c' : List ℕ) (s' : K) → PutsMessages takes failures frontend c s kept (Ok d) c' s' → GoesOn takes failures start bytes earlier (decoding.Front d) c' s'
    front_ok d c' s' h =
        let a = all_put frontend (messages_of true) next.Message kept earlier c s (front_more kept) (λ rest f x. x) p d.stream.kept c' s' h.1 in
        (record { text = a.text; are_at = (h.0, a.shown, h.2); put = a.put; within = a.within }, a.begins)

    pub front_err : (w : Stop Shown) (c' : List ℕ) (s' : K) → PutsMessages takes failures frontend c s kept (Err w) c' s' → Stops takes failures (messages_of true) start bytes earlier w c' s'
    front_err w c' s' h = messages_stop frontend (messages_of true) next.Message kept earlier c s (front_more kept) (λ rest f x. x) p w c' s' h

  -- ---- what taking packets leads to

  module _ (kept : List ℕ) (earlier : List (List ℕ)) (c : List ℕ) (s : K) (p : ArePut takes failures (messages_of true) start bytes earlier next.Packet kept c s) where
    abbrev pub packets_put : (n : NextFrame) (rest c' : List ℕ) (s' : K) → HasPutPackets takes failures c s kept n rest c' s' → ArePut takes failures (messages_of true) start bytes earlier n rest c' s'
    packets_put n rest c' s' h = record {
      text = p.text ++ packet_lines h.packets;
      shown = client_packets bytes p.text kept h.packets n rest p.shown h.beginning h.next_is;
      put = puts_then takes failures [] start p.text c s (packet_lines h.packets) (Ok tt) c' s' p.put h.put;
      begins = sends_on takes failures earlier [] start p.text c s (packet_lines h.packets) (Ok tt) c' s' p.put h.put p.begins;
      within = h.within p.within;
    }

    pub packets_err : (w : Stop Shown) (d : FirstState) (c' : List ℕ) (s' : K) → PutsPackets takes failures c s kept (Err w) d c' s' → Stops takes failures (messages_of true) start bytes earlier w c' s'
    packets_err (stop.Answer (shown.Fault f)) d c' s' h = (next.Packet, h.0, packets_put next.Packet h.0 c' s' h.1, h.2)
    packets_err stop.Memory d c' s' h = (next.Packet, h.0, packets_put next.Packet h.0 c' s' h.1)
    packets_err stop.SinkFailed d c' s' h = record {
      fault = h.fault;
      text = p.text ++ packet_lines h.packets;
      n = next_after h.packets;
      rest = h.rest;
      shown = client_packets bytes p.text kept h.packets (next_after h.packets) h.rest p.shown h.beginning refl;
      put = puts_then takes failures [] start p.text c s (packet_lines h.packets) (Err h.fault) c' s' p.put h.put;
      begins = sends_on takes failures earlier [] start p.text c s (packet_lines h.packets) (Err h.fault) c' s' p.put h.put p.begins;
    }
    packets_err (stop.Answer shown.Whole) d c' s' h = absurd h
    packets_err (stop.Answer (shown.Rest k)) d c' s' h = absurd h
    packets_err stop.SourceFailed d c' s' h = absurd h
    packets_err stop.Endless d c' s' h = absurd h

    -- more packets may come
    pub still_first : (n : NextFrame) (d : FirstState) (c' : List ℕ) (s' : K) → n ≡ next.Packet → PutsPackets takes failures c s kept (Ok n) d c' s' → GoesOn takes failures start bytes earlier (decoding.First d) c' s'
    still_first n d c' s' is puts =
        let h = subst (λ (x : NextFrame). PutsPackets takes failures c s kept (Ok x) d c' s') is puts in
        let a = packets_put next.Packet d.kept c' s' h.2 in
        (record { text = a.text; are_at = (h.0, h.1, a.shown, h.3); put = a.put; within = a.within }, a.begins)

    -- a Startup came
    pub now_messages : (n : NextFrame) (d : FirstState) (kept' c' : List ℕ) (s' : K) → n ≡ next.Message → kept' ≡ d.kept → PutsPackets takes failures c s kept (Ok n) d c' s'
        → ArePut takes failures (messages_of true) start bytes earlier next.Message kept' c' s'
    now_messages n d kept' c' s' is e puts =
        let h = subst (λ (x : NextFrame). PutsPackets takes failures c s kept (Ok x) d c' s') is puts in
        let a = packets_put next.Message d.kept c' s' h.1 in
        record { text = a.text; shown = subst (λ (k : List ℕ). AreShown (messages_of true) bytes a.text next.Message k) (sym e) a.shown; put = a.put; begins = a.begins; within = a.within }

    -- a Cancel came
    pub now_over : (n : NextFrame) (size : ℕ) (d : FirstState) (c' : List ℕ) (s' : K) → n ≡ next.Nothing → size ≡ length d.kept → PutsPackets takes failures c s kept (Ok n) d c' s' → GoesOn takes failures start bytes earlier (decoding.Over size) c' s'
    now_over n size d c' s' is e puts =
        let h = subst (λ (x : NextFrame). PutsPackets takes failures c s kept (Ok x) d c' s') is puts in
        let a = packets_put next.Nothing d.kept c' s' h.1 in
        (record { text = a.text; are_at = (d.kept, a.shown, e); put = a.put; within = a.within }, a.begins)

-- ---- a decoding and a piece

module _ {K : Type 0} (takes : K → List ℕ → K → Type 0) (failures : K → ℕ) (start : K) (bytes piece c : List ℕ) (s : K) where
  abbrev pub back_received : (d : SpellingsState) (st : HasShown takes failures start bytes (decoding.Back d) c s) → ArePut takes failures (messages_of false) start (bytes ++ piece) st.put.pieces next.Message (d.stream.kept ++ piece) c s
  back_received d st = record { text = st.text; shown = (refl, messages_received backend bytes st.text d.stream.kept piece st.are_at.1); put = st.put; begins = prefix_of_itself st.put.pieces; within = st.within }

  abbrev pub front_received : (d : SpellingsState) (st : HasShown takes failures start bytes (decoding.Front d) c s) → ArePut takes failures (messages_of true) start (bytes ++ piece) st.put.pieces next.Message (d.stream.kept ++ piece) c s
  front_received d st = record { text = st.text; shown = client_received bytes st.text next.Message d.stream.kept piece st.are_at.1; put = st.put; begins = prefix_of_itself st.put.pieces; within = st.within }

  abbrev pub first_received : (d : FirstState) (st : HasShown takes failures start bytes (decoding.First d) c s) → ArePut takes failures (messages_of true) start (bytes ++ piece) st.put.pieces next.Packet (d.kept ++ piece) c s
  first_received d st = record { text = st.text; shown = client_received bytes st.text next.Packet d.kept piece st.are_at.2; put = st.put; begins = prefix_of_itself st.put.pieces; within = st.within }

  pub kept_pushed : (d : FirstState) (r : Result Unit WireFault) (d' : FirstState) → false ≡ is_err r → FirstPushes d piece r d' → d.kept ++ piece ≡ d'.kept
  kept_pushed d (Ok x) d' e p = sym (ap (λ (x : FirstState). x.kept) p.1)
  kept_pushed d (Err f) d' e p = absurd cc

  abbrev pub first_pushed : (d : FirstState) (r : Result Unit WireFault) (d' : FirstState) → false ≡ is_err r → FirstPushes d piece r d' → (st : HasShown takes failures start bytes (decoding.First d) c s) → ArePut takes failures (messages_of true) start (bytes ++ piece) st.put.pieces next.Packet d'.kept c s
  first_pushed d r d' e p st = record {
    text = st.text;
    shown = subst (λ (k : List ℕ). AreShown (messages_of true) (bytes ++ piece) st.text next.Packet k) (kept_pushed d r d' e p) (client_received bytes st.text next.Packet d.kept piece st.are_at.2);
    put = st.put;
    begins = prefix_of_itself st.put.pieces;
    within = st.within;
  }

  -- memory was refused before the piece was taken
  pub first_refused : (d : FirstState) (st : HasShown takes failures start bytes (decoding.First d) c s) → Stops takes failures (messages_of true) start (bytes ++ piece) st.put.pieces stop.Memory c s
  first_refused d st = (next.Packet, d.kept ++ piece, first_received d st)

  -- what comes after a Cancel
  abbrev over_received : (n : ℕ) → HasShown takes failures start bytes (decoding.Over n) c s → HasShown takes failures start (bytes ++ piece) (decoding.Over (n + length piece)) c s
  over_received n st = record { text = st.text; are_at = (st.are_at.0 ++ piece, client_received bytes st.text next.Nothing st.are_at.0 piece st.are_at.1, ap (λ (k : ℕ). k + length piece) st.are_at.2 ∙ sym (length-append st.are_at.0 piece)); put = st.put; within = st.within }

  -- the same of frames
  abbrev framed_over_received : (line : Line) (side : Bool) (n : ℕ) → HasShown takes failures start bytes (decoding.FramedOver line side n) c s → HasShown takes failures start (bytes ++ piece) (decoding.FramedOver line side (n + length piece)) c s
  framed_over_received line side n st = record { text = st.text; are_at = (st.are_at.0 ++ piece, frames_received line side bytes st.text next.Nothing st.are_at.0 piece st.are_at.1, ap (λ (k : ℕ). k + length piece) st.are_at.2 ∙ sym (length-append st.are_at.0 piece)); put = st.put; within = st.within }

module _ {K : Type 0} (takes : K → List ℕ → K → Type 0) (failures : K → ℕ) (start : K) (bytes piece c : List ℕ) (s : K) (at : Decoding) (st : HasShown takes failures start bytes at c s) where
  abbrev as_it_is : (at' : Decoding) → at ≡ at' → HasShown takes failures start bytes at' c s
  as_it_is at' is = record { text = st.text; are_at = subst (λ (x : Decoding). AreAt bytes st.text x) is st.are_at; put = st.put; within = st.within }

  side_of : (at' : Decoding) (h : Stop Shown) (c' : List ℕ) (s' : K) → at ≡ at' → Stops takes failures (way_of at') start (bytes ++ piece) st.put.pieces h c' s' → Stops takes failures (way_of at) start (bytes ++ piece) st.put.pieces h c' s'
  side_of at' h c' s' is = subst (λ (f : Way). Stops takes failures f start (bytes ++ piece) st.put.pieces h c' s') (sym (ap way_of is))

  pub take_back_ok : (d d' : SpellingsState) (c' : List ℕ) (s' : K) → at ≡ decoding.Back d → PutsMessages takes failures backend c s (d.stream.kept ++ piece) (Ok d') c' s' → StepShows takes failures (way_of at) start (bytes ++ piece) st.put.pieces (Ok (decoding.Back d')) c' s'
  take_back_ok d d' c' s' is h =
      let on = back_ok takes failures start (bytes ++ piece) (d.stream.kept ++ piece) st.put.pieces c s (back_received takes failures start bytes piece c s d (as_it_is (decoding.Back d) is)) d' c' s' h in
      (sym (ap way_of is), on.0, on.1)

  pub take_back_err : (d : SpellingsState) (w : Stop Shown) (c' : List ℕ) (s' : K) → at ≡ decoding.Back d → PutsMessages takes failures backend c s (d.stream.kept ++ piece) (Err w) c' s' → Stops takes failures (way_of at) start (bytes ++ piece) st.put.pieces w c' s'
  take_back_err d w c' s' is h = side_of (decoding.Back d) w c' s' is (back_err takes failures start (bytes ++ piece) (d.stream.kept ++ piece) st.put.pieces c s (back_received takes failures start bytes piece c s d (as_it_is (decoding.Back d) is)) w c' s' h)

  pub take_first : (d : FirstState) (r : Result Decoding (Stop Shown)) (c' : List ℕ) (s' : K) → at ≡ decoding.First d → ((stands : HasShown takes failures start bytes (decoding.First d) c s) → StepShows takes failures (messages_of true) start (bytes ++ piece) stands.put.pieces r c' s') → StepShows takes failures (way_of at) start (bytes ++ piece) st.put.pieces r c' s'
  take_first d r c' s' is h = subst (λ (f : Way). StepShows takes failures f start (bytes ++ piece) st.put.pieces r c' s') (sym (ap way_of is)) (h (as_it_is (decoding.First d) is))

  pub take_front_ok : (d d' : SpellingsState) (c' : List ℕ) (s' : K) → at ≡ decoding.Front d → PutsMessages takes failures frontend c s (d.stream.kept ++ piece) (Ok d') c' s' → StepShows takes failures (way_of at) start (bytes ++ piece) st.put.pieces (Ok (decoding.Front d')) c' s'
  take_front_ok d d' c' s' is h =
      let on = front_ok takes failures start (bytes ++ piece) (d.stream.kept ++ piece) st.put.pieces c s (front_received takes failures start bytes piece c s d (as_it_is (decoding.Front d) is)) d' c' s' h in
      (sym (ap way_of is), on.0, on.1)

  pub take_front_err : (d : SpellingsState) (w : Stop Shown) (c' : List ℕ) (s' : K) → at ≡ decoding.Front d → PutsMessages takes failures frontend c s (d.stream.kept ++ piece) (Err w) c' s' → Stops takes failures (way_of at) start (bytes ++ piece) st.put.pieces w c' s'
  take_front_err d w c' s' is h = side_of (decoding.Front d) w c' s' is (front_err takes failures start (bytes ++ piece) (d.stream.kept ++ piece) st.put.pieces c s (front_received takes failures start bytes piece c s d (as_it_is (decoding.Front d) is)) w c' s' h)

  pub take_over : (n : ℕ) → at ≡ decoding.Over n → StepShows takes failures (way_of at) start (bytes ++ piece) st.put.pieces (Ok (decoding.Over (n + length piece))) c s
  take_over n is = (sym (ap way_of is), over_received takes failures start bytes piece c s n (as_it_is (decoding.Over n) is), prefix_of_itself st.put.pieces)

  -- frames, which go on by themselves
  pub take_framed : (f : Framing) (r : Result Decoding (Stop Shown)) (c' : List ℕ) (s' : K) → at ≡ decoding.Framed f → ((stands : HasShown takes failures start bytes (decoding.Framed f) c s) → StepShows takes failures (way_of (decoding.Framed f)) start (bytes ++ piece) stands.put.pieces r c' s') → StepShows takes failures (way_of at) start (bytes ++ piece) st.put.pieces r c' s'
  take_framed f r c' s' is h = subst (λ (w : Way). StepShows takes failures w start (bytes ++ piece) st.put.pieces r c' s') (sym (ap way_of is)) (h (as_it_is (decoding.Framed f) is))

  pub take_framed_over : (line : Line) (side : Bool) (n : ℕ) → at ≡ decoding.FramedOver line side n → StepShows takes failures (way_of at) start (bytes ++ piece) st.put.pieces (Ok (decoding.FramedOver line side (n + length piece))) c s
  take_framed_over line side n is = (sym (ap way_of is), framed_over_received takes failures start bytes piece c s line side n (as_it_is (decoding.FramedOver line side n) is), prefix_of_itself st.put.pieces)

-- ---- a decoding and the end

module _ {K : Type 0} (takes : K → List ℕ → K → Type 0) (failures : K → ℕ) (start : K) (bytes c : List ℕ) (s : K) where
  -- what stands is put but for an open rest
  abbrev pub all_shown : (at : Decoding) (st : HasShown takes failures start bytes at c s) → AreAllShown (way_of at) bytes st.text
  all_shown (decoding.Back d) st = record { n = next.Message; rest = d.stream.kept; shown = (refl, st.are_at.1); is_open = st.are_at.2 }
  all_shown (decoding.First d) st = record { n = next.Packet; rest = d.kept; shown = st.are_at.2; is_open = st.are_at.3 }
  all_shown (decoding.Front d) st = record { n = next.Message; rest = d.stream.kept; shown = st.are_at.1; is_open = st.are_at.2 }
  all_shown (decoding.Over n) st = record { n = next.Nothing; rest = st.are_at.0; shown = st.are_at.1; is_open = tt }
  all_shown (decoding.Framed f) st = record { n = f.frames.next; rest = f.frames.kept; shown = st.are_at.0; is_open = st.are_at.1 }
  all_shown (decoding.FramedOver line side n) st = record { n = next.Nothing; rest = st.are_at.0; shown = st.are_at.1; is_open = refl }

  kept_is : (at : Decoding) (st : HasShown takes failures start bytes at c s) → unshown at ≡ length (all_shown at st).rest
  kept_is (decoding.Back d) st = refl
  kept_is (decoding.First d) st = refl
  kept_is (decoding.Front d) st = refl
  kept_is (decoding.Over n) st = st.are_at.2
  kept_is (decoding.Framed f) st = refl
  kept_is (decoding.FramedOver line side n) st = st.are_at.2

  pub kept_within : (at : Decoding) → HasShown takes failures start bytes at c s → unshown at ≤ length bytes
  kept_within at st = let a = all_shown at st in omega (arith, kept_is at st, shown_within (way_of at) bytes st.text a.n a.rest a.shown)

  pub sound_at : (at : Decoding) → HasShown takes failures start bytes at c s → IsSoundAt at
  sound_at (decoding.Back d) st = st.are_at.0
  sound_at (decoding.First d) st = (st.are_at.0, st.are_at.1)
  sound_at (decoding.Front d) st = st.are_at.0
  sound_at (decoding.Over n) st = tt
  sound_at (decoding.Framed f) st = tt
  sound_at (decoding.FramedOver line side n) st = tt

  -- the work may stop at any time
  pub at_any_time : (at : Decoding) (st : HasShown takes failures start bytes at c s) → (n : NextFrame) × (rest : List ℕ) × ArePut takes failures (way_of at) start bytes st.put.pieces n rest c s × IsOpenFor (way_of at) n rest
  at_any_time at st = let a = all_shown at st in (a.n, a.rest, record { text = st.text; shown = a.shown; put = st.put; begins = prefix_of_itself st.put.pieces; within = st.within }, a.is_open)

  at_end : (at : Decoding) (st : HasShown takes failures start bytes at c s) (size : ℕ) → size ≡ unshown at → Stops takes failures (way_of at) start bytes st.put.pieces (end_stop size) c s
  at_end at st zero e = let a = all_shown at st in (a.n, a.rest, record { text = st.text; shown = a.shown; put = st.put; begins = prefix_of_itself st.put.pieces; within = st.within }, a.is_open, e ∙ kept_is at st)
  at_end at st (suc n) e = let a = all_shown at st in (a.n, a.rest, record { text = st.text; shown = a.shown; put = st.put; begins = prefix_of_itself st.put.pieces; within = st.within }, a.is_open, e ∙ kept_is at st, omega arith)

  -- the source has ended
  pub ended_at : (n : ℕ) (into : List ℕ) (at : Decoding) (size : ℕ) → n ≡ 0 → size ≡ unshown at → (st : HasShown takes failures start bytes at c s) → Stops takes failures (way_of at) start (bytes ++ take n into) st.put.pieces (end_stop size) c s
  ended_at n into at size none e st =
      let same : bytes ≡ bytes ++ take n into = sym (ap (λ (k : ℕ). bytes ++ take k into) none ∙ append-nil bytes) in
      subst (λ (b : List ℕ). Stops takes failures (way_of at) start b st.put.pieces (end_stop size) c s) same (at_end at st size e)

  -- the source has failed
  pub failed_at : (at : Decoding) (st : HasShown takes failures start bytes at c s) → Stops takes failures (way_of at) start (bytes ++ []) st.put.pieces stop.SourceFailed c s
  failed_at at st = subst (λ (b : List ℕ). Stops takes failures (way_of at) start b st.put.pieces stop.SourceFailed c s) (sym (append-nil bytes)) (at_any_time at st)

  pub at_begin : (at : Decoding) → bytes ≡ [] → AreAt [] [] at → c ≡ [] → s ≡ start → HasShown takes failures start bytes at c s
  at_begin at none a empty same = record {
    text = [];
    are_at = subst (λ (b : List ℕ). AreAt b [] at) (sym none) a;
    put = subst (λ (k : List ℕ). Puts {A = Unit {0}} takes failures [] start [] (Ok tt) k s) (sym empty) (subst (λ (k : K). Puts {A = Unit {0}} takes failures [] start [] (Ok tt) [] k) (sym same) (puts_none takes failures [] start));
    within = omega (arith, ap (λ (k : List ℕ). length k) empty);
  }

-- ---- what was collected is sent

module _ {K : Type 0} (takes : K → List ℕ → K → Type 0) (failures : K → ℕ) (way : Way) (start : K) (bytes : List ℕ) (earlier : List (List ℕ)) (at : Decoding) (c : List ℕ) (s : K) (step : StepShows takes failures way start bytes earlier (Ok at) c s) where
  -- the same text, sent in more pieces
  abbrev all_sent : {A : Type 0} (r : Result A LinkFault) (c' : List ℕ) (s' : K) → Puts {A = A} takes failures c s [] r c' s' → Puts {A = A} takes failures [] start step.1.text r c' s'
  all_sent {A} r c' s' p = puts_as takes failures [] start (step.1.text ++ []) step.1.text r c' s' (append-nil step.1.text) (puts_then takes failures [] start step.1.text c s [] r c' s' step.1.put p)

  pub flushed : (c' : List ℕ) (s' : K) → Puts {A = Unit {0}} takes failures c s [] (Ok tt) c' s' → c' ≡ [] → StepShows takes failures way start bytes earlier (Ok at) c' s'
  flushed c' s' p none = (
    step.0,
    record { text = step.1.text; are_at = step.1.are_at; put = all_sent (Ok tt) c' s' p; within = omega (arith, ap (λ (l : List ℕ). length l) none) },
    sends_on takes failures earlier [] start step.1.text c s [] (Ok tt) c' s' step.1.put p step.2,
  )

  pub unflushed : (f : LinkFault) (c' : List ℕ) (s' : K) → Puts {A = Unit {0}} takes failures c s [] (Err f) c' s' → StepShows takes failures way start bytes earlier (Err stop.SinkFailed) c' s'
  unflushed f c' s' p =
      let all = all_shown takes failures start bytes c s at step.1 in
      record {
        fault = f;
        text = step.1.text;
        n = all.n;
        rest = all.rest;
        shown = subst (λ (x : Way). AreShown x bytes step.1.text all.n all.rest) step.0 all.shown;
        put = all_sent (Err f) c' s' p;
        begins = sends_on takes failures earlier [] start step.1.text c s [] (Err f) c' s' step.1.put p step.2;
      }

-- the source has ended, and didn't fail
pub end_of_source : (A ended : Type 0) (old new size : ℕ) → ended → new ≡ old → StepsSource {A = A} ended old new (Err (end_stop size))
end_of_source A ended old new zero is same = (is, same)
end_of_source A ended old new (suc n) is same = (is, same)

pub client_begins : IsClientSide [] [] next.Packet []
client_begins = record { packets = []; following = []; later = []; beginning = record { whole = refl; each = tt; last = refl }; next_is = refl; follows = (refl, refl); each_line = refl }
