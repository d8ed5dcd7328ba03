-- What a client finds first among the bytes that it keeps, and what taking that message in does to it.
use Rattle.std.proofs.Common.{◌≡◌, ℕ, ℤ, List, [], ◌++◌, Bool, false, true, cond, Option, Some, None, Result, Ok, Err, refl, sym, ap, subst, ◌∙◌, arith, not, ◌<◌, length, inl, inr}
use Rattle.std.specs.List.{flat_map, AllByRecursion}
use Rattle.std.specs.Option.{option_map}
use Rattle.std.proofs.lemmas.List.{append-nil}
use Rattle.pg_wire.specs.declared.session.Aside.{Aside}
use Rattle.pg_wire.specs.declared.session.Request.{Request}
use Rattle.pg_wire.specs.message.BackMessage.{BackMessage}
use Rattle.pg_wire.specs.message.BackMessage.TheVariants as back
use Rattle.pg_wire.specs.message.FrontMessage.{FrontMessage}
use Rattle.pg_wire.specs.value.Status.{Status}
use Rattle.pg_wire.specs.Direction.{spelling, HasSpelling}
use Rattle.pg_wire.specs.Frontend.{frontend}
use Rattle.pg_wire.specs.Segment.{aside_of, asked, status_of}
use Rattle.pg_response.specs.declared.place.Place.{Place}
use Rattle.pg_response.specs.Kind.{is_welcome, IsPart}
use Rattle.pg_response.specs.declared.mark.Mark.{Mark}
use Rattle.pg_response.specs.Collected.{RowValues}
use Rattle.pg_response.specs.Place.{goes, mark_of}
use Rattle.pg_client.specs.declared.fault.FeedFault.{FeedFault}
use Rattle.pg_client.specs.declared.fault.FeedFault.TheVariants as feeding
use Rattle.pg_client.specs.declared.known.Known.{Known}
use Rattle.pg_client.specs.declared.settings.Settings.{Settings}
use Rattle.pg_client.specs.declared.stand.CopyAnswer.{CopyAnswer}
use Rattle.pg_client.specs.declared.stand.Stand.{Stand}
use Rattle.pg_client.specs.declared.stand.Stand.TheVariants.{Starting, Busy}
use Rattle.pg_client.specs.declared.startup.Welcome.{Welcome}
use Rattle.pg_client.specs.View.{key_said, option_or, value_of, value_said, View, row_at}
use Rattle.pg_client.specs.Client.{Keeps}
use Rattle.pg_client.specs.Keeping.{AgreesAs}
use Rattle.pg_client.specs.Sent.{answer_to}
use Rattle.pg_client.specs.Session.{asks_password}
use Rattle.pg_client.specs.Stand.{answer_after, fault_at, hear, hear_by, hear_other, hear_with, is_too_early, leads, leads_in, starting_at}
use Rattle.pg_client.specs.Startup.{greet}
use Rattle.pg_client.specs.Private.Hearing.{aside_message, HearsMessage, HearsAlone, HearsOne, KeepsOne, KeepsPart, led_to, PassesRow, Closes, Cuts, GoesOn, HearsAll, HearsNext, IsRefused, of_wire, Owns}
use Rattle.pg_client.specs.Private.Sending.{PutsAnswer}
use Rattle.pg_client.proofs.Hearing.Faults.{fault_named, IsNamed}
use Rattle.std.specs.Prelude.{◌⊎◌, ◌≢◌}
use Rattle.pg_wire.specs.declared.back.Cut.TheVariants as cut
use Rattle.pg_wire.specs.declared.fault.WireFault.{WireFault}
use Rattle.pg_wire.specs.declared.fault.WireFault.TheVariants as wire
use Rattle.pg_wire.specs.lent.Lent.{Lent}
use Rattle.pg_wire.specs.lent.Lent.TheVariants as lents
use Rattle.pg_wire.specs.Lent.{is_lent}
use Rattle.pg_wire.specs.Backend.{backend}
use Rattle.pg_wire.specs.BackDecoder.{as_next, BackState, TakesLent}
use Rattle.pg_wire.specs.Decoder.{Takes}
use Rattle.pg_wire.specs.Stream.{IsFaulty, IsWithin}
use Rattle.pg_client.specs.declared.connection.feed.Heard.{Heard}
use Rattle.pg_client.specs.declared.connection.feed.Heard.TheVariants as heard
use Rattle.pg_client.specs.declared.phase.Cause.{Cause}
use Rattle.pg_client.specs.Closed.{cause_of}
use Rattle.pg_client.proofs.Hearing.Feeding.{goes_end, goes_fault, goes_next, shorter}

-- ---- messages for which nothing is sent

-- what is no question is heard with or without a password
asks_nothing : (password : Option (List ℕ)) (stand : Stand) (m : BackMessage) → asks_password m ≡ false → hear_with password stand m ≡ hear stand m
asks_nothing (Some p) stand m e = refl
asks_nothing None stand m e = ap (λ (b : Bool). cond (not b) (hear stand m) None) e

-- and what may not come there doesn't with one
pub rejected_with : (password : Option (List ℕ)) (stand : Stand) (m : BackMessage) → hear stand m ≡ None → hear_with password stand m ≡ None
rejected_with password stand m e = grind arith

no_answer : (settings : Settings) (m : BackMessage) → asks_password m ≡ false → answer_to settings m ≡ []
no_answer settings m e = grind arith

pub nothing_put : (settings : Settings) (m : BackMessage) (out : List ℕ) → asks_password m ≡ false → PutsAnswer settings m out out
nothing_put settings m out e = subst (λ (ms : List FrontMessage). AllByRecursion (HasSpelling frontend) ms × (out ≡ out ++ flat_map (spelling frontend) ms)) (sym (no_answer settings m e)) (tt, sym (append-nil out))

-- the one message that is this aside
pub is_aside_message : (m : BackMessage) (a : Aside) → aside_of m ≡ Some a → aside_message a ≡ m
is_aside_message m a e = grind arith

-- ---- what a message says

-- The message says nothing that outlives its segment.
pub record SaysNothing (m : BackMessage) : Type 0 where
  pub no_question : asks_password m ≡ false
  pub no_status : status_of m ≡ None
  pub no_value : (name : List ℕ) → value_said name m ≡ None
  pub no_key : key_said m ≡ None

pub part_says : (m : BackMessage) → IsPart m → SaysNothing m
part_says m is = record { no_question = grind (arith, is.no_welcome); no_status = is.no_end; no_value = λ name. grind (arith, is.no_aside); no_key = grind (arith, is.no_welcome) }

-- ---- where a message leads

-- a part is heard by its mark
pub part_heard : (stand : Stand) (m : BackMessage) → IsPart m → hear stand m ≡ hear_other stand m
part_heard stand m is = ap (λ (o : Option Aside). hear_by stand o (status_of m) m) is.no_aside ∙ ap (λ (o : Option Status). hear_by stand None o m) is.no_end

-- no part comes in the startup
no_part : (w : Welcome) (m : BackMessage) → is_welcome m ≡ false → greet w m ≡ None
no_part w m none = grind arith

-- where it leads nowhere, it may not come
pub part_refused : (stand : Stand) (m : BackMessage) → IsPart m → leads stand (mark_of m) ≡ None → hear stand m ≡ None
part_refused (Starting w) m is e = part_heard (Starting w) m is ∙ ap starting_at (no_part w m is.no_welcome)
part_refused (Busy r p a) m is e = part_heard (Busy r p a) m is ∙ ap (option_map (λ (q : Place). Busy r q (answer_after a (mark_of m)))) e
part_refused stand m is e = part_heard stand m is

-- and else it leads there
pub part_led : (stand : Stand) (m : BackMessage) (next : Place) → IsPart m → leads stand (mark_of m) ≡ Some next → hear stand m ≡ Some (led_to stand next (mark_of m))
part_led (Busy r p a) m next is e = part_heard (Busy r p a) m is ∙ ap (option_map (λ (q : Place). Busy r q (answer_after a (mark_of m)))) e
part_led _ m next is e = absurd cc

in_time : (b : Bool) (o : Option Place) (next : Place) → cond b None o ≡ Some next → o ≡ Some next
in_time b o next e = grind arith

-- ---- a fault of a message that may not come has a name of its own

module _ {K : Type 0} (way : Keeps K) where
  pub alone_refused : (m : BackMessage) (old : Known K) (f : FeedFault) → hear old.stand m ≡ None → f ≡ fault_at old.stand m → HearsAlone way m old (Err f) old
  alone_refused m old feeding.Memory none is = absurd (subst IsNamed (sym is) (fault_named old.stand m))
  alone_refused m old f none is = (none, is, refl)

  -- a message for which nothing is sent, with the settings
  pub heard_alone : (settings : Settings) (m : BackMessage) (old new : Known K) (r : Result Unit FeedFault) (out : List ℕ) → asks_password m ≡ false → HearsAlone way m old r new → HearsMessage way settings m old r new out out
  heard_alone settings m old new (Ok x) out plain h = (h settings.password, nothing_put settings m out plain)
  heard_alone settings m old new (Err feeding.Memory) out plain h = (h, refl)
  heard_alone settings m old new (Err f) out plain h = (rejected_with settings.password old.stand m h.0, h.1, h.2, refl)

  -- a message that says nothing leads the client on, and is kept
  pub led : (m : BackMessage) (old : Known K) (stand : Stand) (k : K) → SaysNothing m → hear old.stand m ≡ Some stand → KeepsOne way old.stand m stand old.keeper k → (password : Option (List ℕ)) → HearsOne way password m old (record old { stand = stand; keeper = k })
  led m old stand k says is keeps password = record {
    led = asks_nothing password old.stand m says.no_question ∙ is;
    status = ap (λ (o : Option Status). option_or o old.status) (sym says.no_status);
    parameters = λ name. ap (λ (o : Option (List ℕ)). option_or o (value_of name old.parameters)) (sym (says.no_value name));
    key = ap (λ (o : Option (ℤ × ℤ)). option_or o old.key) (sym says.no_key);
    keeps = keeps;
  }

  -- ---- a message of a response

  pub part_not_heard : (m : BackMessage) (old : Known K) (f : FeedFault) → IsPart m → leads old.stand (mark_of m) ≡ None → f ≡ fault_at old.stand m → HearsAlone way m old (Err f) old
  part_not_heard m old f is none e = alone_refused m old f (part_refused old.stand m is none) e

  pub part_kept : (m : BackMessage) (old : Known K) (next : Place) (request : Request) (place : Place) (answer : CopyAnswer) (k : K) → IsPart m → old.stand ≡ Busy request place answer → leads old.stand (mark_of m) ≡ Some next → KeepsPart way request place m old.keeper k
      → (password : Option (List ℕ)) → HearsOne way password m old (record old { stand = led_to old.stand next (mark_of m); keeper = k })
  part_kept m old next request place answer k is at leads_there keeps =
      let there : leads_in request place answer (mark_of m) ≡ Some next = subst (λ (s : Stand). leads s (mark_of m) ≡ Some next) at leads_there in
      let goes_there : goes (asked request) place (mark_of m) ≡ Some next = in_time (is_too_early place.opened answer (mark_of m)) (goes (asked request) place (mark_of m)) next there in
      led m old (led_to old.stand next (mark_of m)) k (part_says m is) (part_led old.stand m next is leads_there)
      (subst (λ (s : Stand). KeepsOne way s m (led_to s next (mark_of m)) old.keeper k) (sym at) (keeps next answer (answer_after answer (mark_of m)) goes_there))

  -- nothing is led on that stands nowhere in a response
  pub leads_busy : (stand : Stand) (x : Mark) (next : Place) → leads stand x ≡ Some next → ((r : Request) (p : Place) (a : CopyAnswer) → stand ≡ Busy r p a → ⊥) → ⊥
  leads_busy (Busy r p a) x next e other = other r p a refl
  leads_busy _ x next e other = cc

  -- ---- a row that isn't kept

  pub row_is_part : (row : RowValues) → IsPart (back.DataRow row)
  row_is_part row = record { no_aside = refl; no_end = refl; no_welcome = refl }

  pub row_fault : (stand : Stand) (row : RowValues) → fault_at stand (back.DataRow row) ≡ feeding.Unexpected 68
  row_fault stand row = grind arith

  -- a row that was passed, where something else is kept of it
  pub row_kept : (password : Option (List ℕ)) (row : RowValues) (old new : Known K) (k : K) → PassesRow old (Ok tt) new → KeepsOne way old.stand (back.DataRow row) new.stand old.keeper k → HearsOne way password (back.DataRow row) old (record new { keeper = k })
  row_kept password row old new k passes keeps =
      subst (λ (x : Known K). HearsOne way password (back.DataRow row) old (record x { keeper = k })) (sym passes.1)
      (led (back.DataRow row) old new.stand k (part_says (back.DataRow row) (row_is_part row)) (passes.0 row) keeps password)

-- ---- what is found first

-- where rows stay lent, the message is no row, and none is lent
abbrev pub IsNoRow : Bool → BackMessage → Option Lent → Type 0
IsNoRow lends m held = lends ≡ true → ((row : RowValues) → m ≢ back.DataRow row) × (row_at None held ≡ None)

pub other_is_no_row : (lends : Bool) (m : BackMessage) (d new : BackState) → TakesLent d (Ok (cut.Other m)) new → IsNoRow lends m new.held
other_is_no_row lends m d new t is = (λ row e. let k : false ≡ true = sym t.holds.1 ∙ ap is_lent e in cc, ap (row_at None) t.holds.0)

pub owned_is_no_row : (lends : Bool) (m : BackMessage) (held : Option Lent) → Owns lends held (Ok (Some m)) → IsNoRow lends m held
owned_is_no_row lends m (Some (lents.Error fields)) e is = (λ row q. let k : Some (back.DataRow row) ≡ Some (back.ErrorResponse fields) = ap Some (sym q) ∙ e in cc, refl)
owned_is_no_row lends m (Some (lents.Notice fields)) e is = (λ row q. let k : Some (back.DataRow row) ≡ Some (back.NoticeResponse fields) = ap Some (sym q) ∙ e in cc, refl)
owned_is_no_row true m (Some (lents.Row row)) e is = absurd (let k : Some m ≡ None = e in cc)
owned_is_no_row false m (Some (lents.Row row)) e is = absurd cc
owned_is_no_row lends m None e is = absurd (let k : Some m ≡ None = e in cc)

module _ {K : Type 0} (way : Keeps K) where
  -- ---- why a message isn't heard

  pub refuses : (v : View K) (m : BackMessage) (rest : List ℕ) (f : FeedFault) (known : Known K) (before after : List ℕ) → Cuts v m rest → HearsMessage way v.settings m v.known (Err f) known before after → IsRefused v f × (known ≡ v.known) × (after ≡ before)
  refuses v m rest feeding.Memory known before after cuts h = ((m, rest, cuts), h.0, h.1)
  refuses v m rest (feeding.Wire w) known before after cuts h = absurd (subst IsNamed (sym h.1) (fault_named v.known.stand m))
  refuses v m rest feeding.Closed known before after cuts h = absurd (subst IsNamed (sym h.1) (fault_named v.known.stand m))
  -- any other has a name of its own
  refuses v m rest f known before after cuts h = ((m, rest, cuts, h.0, h.1), h.2, h.3)

  -- ---- what the decoder cuts off, by the fields of a value that was opened

  module _ (v : View K) (d new : BackState) (kept : v.kept ≡ d.stream.kept) (limit : d.stream.limit ≡ v.settings.limit) where
    cuts_off : (m : BackMessage) → Takes backend d.stream (Ok (Some m)) new.stream → Cuts v m new.stream.kept
    cuts_off m t = record { within = subst (λ (n : ℕ). IsWithin backend n m) limit t.1; begins = kept ∙ t.2 }

    pub other_cuts : (m : BackMessage) → TakesLent d (Ok (cut.Other m)) new → Cuts v m new.stream.kept
    other_cuts m t = cuts_off m t.takes

    owned_as : (lends : Bool) (lent : Option Lent) (m : BackMessage) → Owns lends lent (Ok (Some m)) → as_next (Ok cut.Held) lent ≡ Ok (Some m)
    owned_as lends lent m e = grind arith

    pub held_cuts : (lends : Bool) (m : BackMessage) → TakesLent d (Ok cut.Held) new → Owns lends new.held (Ok (Some m)) → Cuts v m new.stream.kept
    held_cuts lends m t owns = cuts_off m (subst (λ (r : Result (Option BackMessage) WireFault). Takes backend d.stream r new.stream) (owned_as lends new.held m owns) t.takes)

    faulty : (none : d.stream.fault ≡ None) (w : WireFault) → (d.stream.fault ≡ Some w) × (new.stream ≡ d.stream) ⊎ (d.stream.fault ≡ None) × (new.stream ≡ record d.stream { fault = Some w }) × IsFaulty backend d.stream.limit d.stream.kept w → IsFaulty backend v.settings.limit v.kept w
    faulty none w (inl t) = absurd (let k : None ≡ Some w = sym none ∙ t.0 in cc)
    faulty none w (inr t) = subst (λ (n : ℕ). IsFaulty backend n v.kept w) limit (subst (λ (bs : List ℕ). IsFaulty backend d.stream.limit bs w) (sym kept) t.2)

    refused_wire : (w : WireFault) → d.stream.fault ≡ None → Takes backend d.stream (Err w) new.stream → IsRefused v (of_wire w)
    refused_wire wire.Memory none t = (t.2.0, t.2.1, record { within = subst (λ (n : ℕ). IsWithin backend n t.2.0) limit t.2.2; begins = kept ∙ t.2.4 })
    refused_wire w none t = faulty none w t

    -- the bytes are no message
    pub wire_closes : (old : View K) → v ≡ old → (w : WireFault) (f : FeedFault) (closed : Option Cause) → d.stream.fault ≡ None → TakesLent d (Err w) new → f ≡ of_wire w → closed ≡ cause_of f → Closes old f (record v { kept = new.stream.kept; held = new.held; closed = closed })
    wire_closes old same w f closed none t is cause =
        subst (λ (x : View K). Closes x f (record v { kept = new.stream.kept; held = new.held; closed = closed })) same
        (record { refused = subst (IsRefused v) (sym is) (refused_wire w none t.takes); settings = refl; known = refl; closed = cause })

  -- the message is heard
  pub message_found : (lends : Bool) (v old : View K) → v ≡ old → (m : BackMessage) (rest : List ℕ) (held : Option Lent) (known : Known K) (before after : List ℕ) → Cuts v m rest → IsNoRow lends m held → HearsMessage way v.settings m v.known (Ok tt) known before after
      → HearsNext way lends old (Ok heard.Message) (record v { kept = rest; held = held; known = known }) before after
  message_found lends v old same m rest held known before after cuts no_row h =
      subst (λ (x : View K). HearsNext way lends x (Ok heard.Message) (record v { kept = rest; held = held; known = known }) before after) same
      (m, (λ is. (no_row is).0), cuts, refl, (λ is. (no_row is).1), h.0, h.1)

  -- the message isn't heard
  pub message_closes : (v old : View K) → v ≡ old → (m : BackMessage) (rest : List ℕ) (f g : FeedFault) (mid new : View K) (before after : List ℕ) → Cuts v m rest → mid.settings ≡ v.settings → HearsMessage way v.settings m v.known (Err f) mid.known before after → g ≡ f → new ≡ record mid { closed = cause_of f }
      → Closes old g new × (after ≡ before)
  message_closes v old same m rest f g mid new before after cuts settings h is closed =
      let r = refuses v m rest f mid.known before after cuts h in (
        subst (λ (x : FeedFault). Closes old x new) (sym is) (subst (λ (x : View K). Closes x f new) same
            (record { refused = r.0; settings = ap (λ (x : View K). x.settings) closed ∙ settings; known = ap (λ (x : View K). x.known) closed ∙ r.1; closed = ap (λ (x : View K). x.closed) closed })),
        r.2,
      )

  -- what was found, by a test of it
  pub as_found : (lends : Bool) (found x : Heard) → found ≡ x → (now mid : View K) (out end : List ℕ) → HearsNext way lends now (Ok found) mid out end → HearsNext way lends now (Ok x) mid out end
  as_found lends found x is now mid out end h = subst (λ (f : Heard). HearsNext way lends now (Ok f) mid out end) is h

module _ {K : Type 0} (way : Keeps K) (law : AgreesAs way) where
  -- ---- from message to message

  module _ (old now : View K) (start out : List ℕ) (g : GoesOn way old now start out) (lends : Bool) (found : Heard) (mid : View K) (end : List ℕ) (h : HearsNext way lends now (Ok found) mid out end) where
    -- no message is whole any more
    pub all_heard : found ≡ heard.Nothing → HearsAll way old (Ok tt) mid start end
    all_heard is =
        let x = as_found way lends found heard.Nothing is now mid out end h in
        subst (HearsAll way old (Ok tt) mid start) (sym x.2) (goes_end way law old now mid start out g x.0 (x.1 ∙ ap (λ (o : Option Lent). record now { held = o }) (sym (ap (λ (v : View K). v.held) x.1))))

    pub message_heard : found ≡ heard.Message → GoesOn way old mid start end × (length mid.kept < length now.kept) × (mid.closed ≡ now.closed)
    message_heard is =
        let x = as_found way lends found heard.Message is now mid out end h in (
          goes_next way law old now mid start out end g x.0 x.2 (ap (λ (v : View K). v.settings) x.3) (ap (λ (v : View K). v.closed) x.3) x.5 x.6,
          shorter x.0 now.kept mid.kept x.2.begins,
          ap (λ (v : View K). v.closed) x.3,
        )

    -- no row stays lent
    pub any_heard : lends ≡ false → (found ≡ heard.Row) ⊎ (found ≡ heard.Message) → GoesOn way old mid start end × (length mid.kept < length now.kept) × (mid.closed ≡ now.closed)
    any_heard none (inl is) = absurd (let k : true ≡ false = sym (as_found way lends found heard.Row is now mid out end h).4 ∙ none in cc)
    any_heard none (inr is) = message_heard is

  -- the bytes are no message, or one that isn't heard
  pub all_stops : (lends : Bool) (old now new : View K) (f : FeedFault) (start out end : List ℕ) → GoesOn way old now start out → HearsNext way lends now (Err f) new out end → HearsAll way old (Err f) new start end
  all_stops lends old now new f start out end g h = subst (HearsAll way old (Err f) new start) (sym h.1) (goes_fault way law old now new f start out g h.0)
