-- What a backend reads of what a client sends: nothing yet, or the startup packet and the first of its messages.
use Rattle.std.proofs.Common.{◌≡◌, ℕ, Bool, true, false, List, [], ◌∷◌, ◌++◌, refl, ap, sym, ◌∙◌, append_assoc, ◌⊎◌, inl, inr}
use Rattle.std.specs.List.{flat_map, AllByRecursion}
use Rattle.std.proofs.lemmas.List.{append-nil}
use Rattle.pg_wire.specs.message.First.{First}
use Rattle.pg_wire.specs.message.First.TheVariants.{Startup}
use Rattle.pg_wire.specs.message.FrontMessage.{FrontMessage}
use Rattle.pg_wire.specs.Direction.{spelling, HasSpelling}
use Rattle.pg_wire.specs.First.{IsPacket, packet, is_last, EndsIn}
use Rattle.pg_wire.specs.Frontend.{frontend}
use Rattle.pg_wire.specs.Laws.{OneSpelling, OnePacket}
use Rattle.pg_client.specs.declared.settings.Settings.{Settings}
use Rattle.pg_client.specs.declared.call.Call.{Call}
use Rattle.pg_client.specs.Sent.{startup_pairs}
use Rattle.pg_client.specs.Turns.{greeting}
use Rattle.pg_backend.specs.Input.{Input, IsInput, is_started}
use Rattle.pg_pair.proofs.Streams.{within_spelled, reads_first}

abbrev pub opening : Settings → First
opening settings = Startup (startup_pairs settings)

-- The backend has read nothing.
pub record IsUnread (i : Input) : Type 0 where
  pub packets : i.packets ≡ []
  pub messages : i.messages ≡ []

-- The backend has read the startup packet, and of these messages all but those that are left.
pub record IsRead (settings : Settings) (ms : List FrontMessage) (i : Input) (rest more sent : List ℕ) : Type 0 where
  pub sent_is : sent ≡ packet (opening settings) ++ flat_map (spelling frontend) ms
  pub packets : i.packets ≡ opening settings ∷ []
  pub left : List FrontMessage
  pub messages : ms ≡ i.messages ++ left
  pub bytes : rest ++ more ≡ flat_map (spelling frontend) left

packet_not_nil : (p : First) (x : List ℕ) → packet p ++ x ≡ [] → ⊥
packet_not_nil p x e = cc

-- the first packet that is read is the one that was sent
one_read : OnePacket → (settings : Settings) (p : First) (ps : List First) (ended : Bool) (bytes more tail : List ℕ)
    → IsPacket (opening settings) → AllByRecursion IsPacket (p ∷ ps) → EndsIn (p ∷ ps) ended
    → (flat_map packet (p ∷ ps) ++ bytes) ++ more ≡ packet (opening settings) ++ tail
    → (p ∷ ps ≡ opening settings ∷ []) × (bytes ++ more ≡ tail)
one_read one settings p [] ended bytes more tail is each last e =
    let first = one p (opening settings) (bytes ++ more) tail each.0 is (sym (append_assoc (packet p) bytes more) ∙ ap (λ l. (l ++ bytes) ++ more) (sym (append-nil (packet p))) ∙ e) in
    (ap (λ q. q ∷ []) first.0, first.1)
one_read one settings p (q ∷ qs) ended bytes more tail is each last e =
    let first = one p (opening settings) ((flat_map packet (q ∷ qs) ++ bytes) ++ more) tail each.0 is
    (sym (append_assoc (packet p) (flat_map packet (q ∷ qs) ++ bytes) more) ∙ ap (λ l. l ++ more) (sym (append_assoc (packet p) (flat_map packet (q ∷ qs)) bytes)) ∙ e) in
    let not : true ≡ false = ap is_last (sym (first.0)) ∙ last.0 in cc

nothing_read : (ps : List First) (bytes more : List ℕ) → (flat_map packet ps ++ bytes) ++ more ≡ [] → ps ≡ []
nothing_read [] bytes more e = refl
nothing_read (p ∷ ps) bytes more e =
    absurd (packet_not_nil p ((flat_map packet ps ++ bytes) ++ more)
    (sym (append_assoc (packet p) (flat_map packet ps ++ bytes) more) ∙ ap (λ l. l ++ more) (sym (append_assoc (packet p) (flat_map packet ps) bytes)) ∙ e))

read_with : OneSpelling frontend → OnePacket → (settings : Settings) (ms : List FrontMessage) (limit : ℕ) (i : Input) (after_packets rest more sent : List ℕ) (ps : List First) (ended : Bool)
    → IsPacket (opening settings) → AllByRecursion (HasSpelling frontend) ms → AllByRecursion IsPacket ps → EndsIn ps ended
    → i.packets ≡ ps → (is_started i.packets ≡ false → i.messages ≡ [])
    → after_packets ≡ flat_map (spelling frontend) i.messages ++ rest → AllByRecursion (HasSpelling frontend) i.messages
    → (flat_map packet ps ++ after_packets) ++ more ≡ packet (opening settings) ++ flat_map (spelling frontend) ms
    → sent ≡ packet (opening settings) ++ flat_map (spelling frontend) ms
    → IsUnread i ⊎ IsRead settings ms i rest more sent
read_with front one settings ms limit i after_packets rest more sent [] ended is spelled each last ps started split read e all =
    inl (record { packets = ps; messages = started (ap is_started ps) })
read_with front one settings ms limit i after_packets rest more sent (p ∷ qs) ended is spelled each last ps started split read e all =
    let first = one_read one settings p qs ended after_packets more (flat_map (spelling frontend) ms) is each last e in
    let bytes : flat_map (spelling frontend) i.messages ++ (rest ++ more) ≡ flat_map (spelling frontend) ms =
    sym (append_assoc (flat_map (spelling frontend) i.messages) rest more) ∙ ap (λ l. l ++ more) (sym split) ∙ first.1 in
    let later = reads_first frontend front i.messages ms (rest ++ more) read spelled bytes in
    inr (record { sent_is = all; packets = ps ∙ first.0; left = later.0; messages = later.1; bytes = later.2 })

-- what is read of what was sent
pub reads : OneSpelling frontend → OnePacket → (settings : Settings) (cs : List Call) (ms : List FrontMessage) (limit : ℕ) (pushed more sent : List ℕ) (i : Input) (rest : List ℕ)
    → ((c : Call) (ds : List Call) → cs ≡ c ∷ ds → IsPacket (opening settings)) → AllByRecursion (HasSpelling frontend) ms → (cs ≡ [] → ms ≡ [])
    → IsInput limit pushed i rest → pushed ++ more ≡ sent → sent ≡ greeting settings cs ++ flat_map (spelling frontend) ms
    → IsUnread i ⊎ IsRead settings ms i rest more sent
reads front one settings [] ms limit pushed more sent i rest is spelled none input both e =
    let nothing : (flat_map packet i.packets ++ input.after_packets) ++ more ≡ [] = ap (λ l. l ++ more) (sym (input.packets.whole)) ∙ both ∙ e ∙ ap (flat_map (spelling frontend)) (none refl) in
    let ps = nothing_read i.packets input.after_packets more nothing in
    inl (record { packets = ps; messages = input.started (ap is_started ps) })
reads front one settings (c ∷ cs) ms limit pushed more sent i rest is spelled none input both e =
    read_with front one settings ms limit i input.after_packets rest more sent i.packets input.ended (is c cs refl) spelled input.packets.each input.packets.last refl input.started
    input.messages.whole (within_spelled frontend limit i.messages input.messages.each) (ap (λ l. l ++ more) (sym (input.packets.whole)) ∙ both ∙ e) e
