-- Taking items one by one: what of the bytes was heard up to one, and what is still to be heard.
use Rattle.std.proofs.Common.{◌≡◌, ℕ, ◌+◌, ◌≤◌, ◌<◌, List, [], ◌∷◌, ◌++◌, length, Bool, true, Option, Some, None, Result, Ok, Err, refl, sym, ap, subst, ◌∙◌, append_assoc, arith, length-append}
use Rattle.std.specs.Prelude.{cond, is_err}
use Rattle.std.specs.List.{flat_map}
use Rattle.std.proofs.lemmas.List.{append-nil, append_cancel_left}
use Rattle.pg_wire.specs.declared.fault.WireFault.{WireFault}
use Rattle.pg_wire.specs.declared.fault.WireFault.TheVariants as wire
use Rattle.pg_wire.specs.lent.Lent.{Lent}
use Rattle.pg_wire.specs.lent.Lent.TheVariants as lents
use Rattle.pg_wire.specs.message.BackMessage.{BackMessage}
use Rattle.pg_wire.specs.message.BackMessage.TheVariants as back
use Rattle.pg_wire.specs.Backend.{backend}
use Rattle.pg_wire.specs.BackDecoder.{BackState, LetsGo}
use Rattle.pg_wire.specs.Decoder.{DecoderState}
use Rattle.pg_wire.specs.Decoder.{Pushes as DecoderPushes}
use Rattle.pg_wire.specs.Direction.{spelling}
use Rattle.pg_wire.specs.Frontend.{frontend}
use Rattle.pg_wire.specs.Stream.{IsOpen, IsStream, IsWithin}
use Rattle.pg_wire.proofs.Rests.{short_open}
use Rattle.pg_response.proofs.Lists.{prefix_of}
use Rattle.pg_client.specs.declared.connection.feed.Heard.TheVariants as heard
use Rattle.pg_client.specs.declared.fault.FeedFault.{FeedFault}
use Rattle.pg_client.specs.declared.fault.FeedFault.TheVariants as feeding
use Rattle.pg_client.specs.declared.item.Item.{Item}
use Rattle.pg_client.specs.declared.item.Item.TheVariants.{Early}
use Rattle.pg_client.specs.declared.known.Known.{Known}
use Rattle.pg_client.specs.declared.next.Next.TheVariants as next
use Rattle.pg_client.specs.declared.phase.Cause.{Cause}
use Rattle.pg_client.specs.declared.phase.Cause.TheVariants as cause
use Rattle.pg_client.specs.declared.stand.Stand.{Stand}
use Rattle.pg_client.specs.View.{EarlyView, View, items_waiting, lent_row, row_at, with_items}
use Rattle.pg_client.specs.Closed.{cause_of}
use Rattle.pg_client.specs.Client.{Carries, History, IsHistoryBefore, happenings, with_fed, with_given, with_heard, Keeps, Hears}
use Rattle.pg_client.specs.Keeping.{AgreesAs, items_in, queueing}
use Rattle.pg_client.specs.Lent.{HearsRest, HearsSome, HearsUpTo, Pushes, PushesBy}
use Rattle.pg_client.specs.Session.{Happening, Came}
use Rattle.pg_client.specs.Sent.{answer_to}
use Rattle.pg_client.specs.Stand.{can_answer, hear, Stands}
use Rattle.pg_client.specs.Private.Hearing.{Cuts, GoesOn, HearsAll, HearsNext, HearsOne, IsHearing, IsRefused, PassesRow}
use Rattle.pg_client.specs.Private.Sending.{PutsAnswer}
use Rattle.pg_client.proofs.Hearing.Faults.{fault_named, IsNamed}
use Rattle.pg_client.proofs.Hearing.Feeding.{all_heard, came, goes_end, goes_fault, heard_bytes, heard_one, heard_twice, hears_rest, here, some_bytes, starves, to_hear}
use Rattle.pg_client.proofs.Histories.Lifetime.{taken}
use Rattle.pg_client.proofs.Histories.Seen.{seen}
use Rattle.pg_client.proofs.Hearing.Messages.{rejected_with, row_fault}
use Rattle.pg_client.proofs.Keeping.Queueing.{AtMostOne, HasItems, has_items, IsOf, item_taken, keeps_row, queueing_is_silent}

abbrev pub queue_agrees : AgreesAs queueing
queue_agrees = queueing_is_silent.agrees_as

nothing_open : (limit : ℕ) → IsOpen backend limit []
nothing_open limit = short_open backend limit [] (omega arith)

-- ---- what was heard, and what is left

module _ {K : Type 0} (way : Keeps K) (law : AgreesAs way) where
  -- What of these bytes was heard, where the messages that were heard end in them.
  pub record HeardOf (h : History way.Given) (unread : List ℕ) (more : List BackMessage) (added : List ℕ) (now : View K) : Type 0 where
    pub taken : List ℕ
    pub cut : unread ≡ taken ++ now.kept
    pub history : IsHistoryBefore way now.kept (with_heard more [] added (with_fed taken h)) now

  pub heard_of : (h : History way.Given) (unread : List ℕ) (more : List BackMessage) (added : List ℕ) (now : View K) → IsHearing way (length h.fed) (with_heard more now.kept added (with_fed unread h)) now → length h.fed < length (flat_map (spelling backend) (h.heard ++ more)) → HeardOf h unread more added now
  heard_of h unread more added now r past =
      let all : flat_map (spelling backend) (h.heard ++ more) ++ now.kept ≡ h.fed ++ unread = sym r.stream.whole in
      let u = prefix_of (flat_map (spelling backend) (h.heard ++ more)) now.kept h.fed unread all (omega (arith, past)) in
      let cut : unread ≡ u.0 ++ now.kept = append_cancel_left h.fed unread (u.0 ++ now.kept) (sym all ∙ (ap (λ (bs : List ℕ). bs ++ now.kept) u.1 ∙ append_assoc h.fed u.0 now.kept)) in
      record {
        taken = u.0;
        cut = cut;
        history = record { first = []; kept = refl; history = seen way law (with_heard more [] added (with_fed u.0 h)) (record now { kept = [] }) (all_heard way law (length h.fed) (with_heard more [] added (with_fed u.0 h)) (record now { kept = [] }) (up_to u.0 u.1) (record now { kept = [] }) refl (nothing_open now.settings.limit)) };
      }
    where
      up_to : (taken : List ℕ) → flat_map (spelling backend) (h.heard ++ more) ≡ h.fed ++ taken → IsHearing way (length h.fed) (with_heard more [] added (with_fed taken h)) (record now { kept = [] })
      up_to taken e =
          let stream : IsStream backend now.settings.limit (h.fed ++ taken) (h.heard ++ more) [] = record { whole = sym e ∙ sym (append-nil (flat_map (spelling backend) (h.heard ++ more))); each = r.stream.each } in
          let within : length h.fed ≤ length (h.fed ++ taken) = omega (arith, length-append h.fed taken) in
          let late : (m : BackMessage) (after : List ℕ) → IsWithin backend now.settings.limit m → [] ≡ spelling backend m ++ after → length h.fed < length (flat_map (spelling backend) (h.heard ++ more)) + length (spelling backend m) =
          (λ m after within begins. absurd (omega (arith, ap length begins, length-append (spelling backend m) after, some_bytes m))) in
          search (stream, within, late)

-- ---- past one message

-- What was heard up to a message, and with it, of a client where no item waited before that.
pub record HearsPast (m : BackMessage) (before : ℕ) (past : History Item) (added : List ℕ) (now : EarlyView) : Type 0 where
  pub more : List BackMessage
  pub hearing : IsHearing queueing before (with_heard more now.kept added past) now
  -- the message ends after those bytes
  pub beyond : before < length (flat_map (spelling backend) (past.heard ++ more))
  -- the items of the message, at most one
  pub events : List Happening
  pub one : AtMostOne events m (items_waiting now)

-- A client has gone on up to a message, and with it.
pub record GoesPast (m : BackMessage) (old now : EarlyView) (start out : List ℕ) : Type 0 where
  pub added : List ℕ
  pub put : out ≡ start ++ added
  pub history : (before : ℕ) (past : History Item) → IsHearing queueing before past old → HearsPast m before past added now

answered : (b : Bool) (o : Option Stand) (s : Stand) → cond b o None ≡ Some s → o ≡ Some s
answered b o s e = grind arith

-- what waits then are the items of the message
waits_now : (given was now before after items : List Item) → was ≡ [] → given ++ was ≡ before → given ++ now ≡ after → after ≡ before ++ items → now ≡ items
waits_now given was now before after items empty t u e =
    append_cancel_left given now items
    (u ∙ (e ∙ ap (λ (x : List Item). x ++ items) (sym t ∙ (ap (λ (x : List Item). given ++ x) empty ∙ append-nil given))))

pub goes_past : (m : BackMessage) (old mid now : EarlyView) (start out end : List ℕ) → GoesOn queueing old mid start out → items_waiting mid ≡ [] → Cuts mid m now.kept → now.settings ≡ mid.settings → now.closed ≡ mid.closed → HearsOne queueing mid.settings.password m mid.known now.known → PutsAnswer mid.settings m out end
    → GoesPast m old now start end
goes_past m old mid now start out end g empty cuts settings closed one put =
    let answer : List ℕ = flat_map (spelling frontend) (answer_to mid.settings m) in
    record {
      added = g.added ++ answer;
      put = put.1 ∙ (ap (λ (bs : List ℕ). bs ++ answer) g.put ∙ append_assoc start g.added answer);
      history = λ before past r.
          let k = g.history before past r in
          let so_far : History Item = with_heard k.0 mid.kept g.added past in
          let n = heard_one queueing queue_agrees before so_far mid k.1 m now.kept cuts now settings refl (closed ∙ k.1.is_open) one put.0 in
          let there : Stands (happenings so_far) mid.known.stand = subst (Stands (happenings so_far)) (sym (here queueing queue_agrees before so_far mid k.1 m now.kept cuts)) k.1.led.stands in
          let leads : hear mid.known.stand m ≡ Some now.known.stand = answered (can_answer mid.settings.password m) (hear mid.known.stand m) now.known.stand one.led in
          let has : HasItems (happenings so_far) m = has_items (happenings so_far) m mid.known.stand now.known.stand there leads in
          let waits : items_waiting now ≡ has.items = waits_now past.given (items_waiting mid) (items_waiting now) (items_in (happenings so_far)) (items_in (happenings so_far ++ Came m ∷ [])) has.items empty k.1.led.kept (n.led.kept ∙ ap items_in (came queueing queue_agrees before so_far mid k.1 m now.kept cuts)) has.then in
          record {
            more = k.0 ++ m ∷ [];
            hearing = subst (λ (x : History Item). IsHearing queueing before x now) (heard_twice queueing queue_agrees k.0 (m ∷ []) mid.kept now.kept g.added answer past) n;
            beyond = subst (λ (ms : List BackMessage). before < length (flat_map (spelling backend) ms)) (append_assoc past.heard k.0 (m ∷ []))
                (omega (arith, k.1.late m now.kept cuts.within cuts.begins, ap length (heard_bytes queueing queue_agrees before so_far mid k.1 m now.kept cuts), length-append (flat_map (spelling backend) so_far.heard) (spelling backend m)));
            events = happenings so_far;
            one = subst (AtMostOne (happenings so_far) m) (sym waits) has.one;
          };
    }

one_of : (hs : List Happening) (m : BackMessage) (items ts : List Item) (t : Item) → items ≡ t ∷ ts → AtMostOne hs m items → (ts ≡ []) × IsOf hs m t
one_of hs m [] ts t e one = absurd cc
one_of hs m (x ∷ []) ts t e one = (let k : x ∷ [] ≡ t ∷ ts = e in cc, subst (IsOf hs m) (let k : x ∷ [] ≡ t ∷ ts = e in cc) one)
one_of hs m (x ∷ y ∷ ys) ts t e one = absurd one

-- its item is given
pub gives : (m : BackMessage) (old now new : EarlyView) (t : Item) (start out : List ℕ) → old.closed ≡ None → GoesPast m old now start out → items_waiting now ≡ t ∷ items_waiting new → new ≡ with_items now (items_waiting new)
    → (unread : List ℕ) (h : History Item) → IsHistoryBefore queueing unread h old → (hs : List Happening) × IsOf hs m t × HearsSome unread h t new start out
gives m old now new t start out none g waits same unread h r =
    let k = g.history (length h.fed) (with_fed unread h) (to_hear queueing queue_agrees old none unread h r) in
    let of = heard_of queueing queue_agrees h unread k.more g.added now k.hearing k.beyond in
    let one = one_of k.events m (items_waiting now) (items_waiting new) t waits k.one in
    let carries : Carries queueing now new (with_given t) = taken queueing queue_agrees now new t same (λ stand given hs told. item_taken (items_waiting now) (items_waiting new) t given hs waits told) in (
      k.events,
      one.1,
      record {
        added = g.added;
        put = g.put;
        taken = of.taken;
        left = now.kept;
        cut = of.cut;
        more = k.more;
        history = carries now.kept (with_heard k.more [] g.added (with_fed of.taken h)) of.history;
        none_waits = one.0;
      },
    )

-- ---- all that was to be heard

all_rest : (old : EarlyView) (r : Result Unit FeedFault) (new : EarlyView) (before after : List ℕ) → old.closed ≡ None → items_waiting new ≡ [] → HearsAll queueing old r new before after → (unread : List ℕ) (h : History Item) → IsHistoryBefore queueing unread h old → HearsRest unread h r new before after
all_rest old r new before after none empty all unread h b = record { added = all.added; put = all.put; hears = hears_rest queueing queue_agrees old r new before after none all unread h b; none_waits = empty }

-- a client that was closed for a fault lends no row
lends_none : (new : EarlyView) (c : Cause) → new.closed ≡ Some c → lent_row new ≡ None
lends_none new c is = ap (λ (o : Option Cause). row_at o new.held) is

has_cause : {K : Type 0} (old : View K) (f : FeedFault) → IsRefused old f → (c : Cause) × (cause_of f ≡ Some c)
has_cause old feeding.Closed h = absurd (subst IsNamed (sym h.4) (fault_named old.known.stand h.0))
has_cause old f h = (_, refl)

-- ---- what is found

module _ (old now : EarlyView) (start out : List ℕ) (none : old.closed ≡ None) (g : GoesOn queueing old now start out) (is_open : now.closed ≡ None) (empty : items_waiting now ≡ []) where
  -- no message is whole
  pub up_nothing : (new : EarlyView) (end : List ℕ) → HearsNext queueing true now (Ok heard.Nothing) new out end → HearsUpTo old (Ok next.Nothing) new start end
  up_nothing new end h =
      subst (λ (bs : List ℕ). HearsUpTo old (Ok next.Nothing) new start bs) (sym h.2)
      (ap lent_row h.1 ∙ ap (λ (o : Option Cause). row_at o None) is_open, all_rest old (Ok tt) new start out none (ap items_waiting h.1 ∙ empty) (goes_end queueing queue_agrees old now new start out g h.0 (h.1 ∙ ap (λ x. record now { held = x }) (sym (ap (λ (v : EarlyView). v.held) h.1)))))

  -- a message that isn't a row has an item
  pub up_item : (mid new : EarlyView) (t : Item) (end : List ℕ) → HearsNext queueing true now (Ok heard.Message) mid out end → items_waiting mid ≡ t ∷ items_waiting new → new ≡ with_items mid (items_waiting new) → HearsUpTo old (Ok (next.Item t)) new start end
  up_item mid new t end (m, no_row, cuts, same, none_held, one, put) waits is =
      let closed : mid.closed ≡ now.closed = ap (λ (v : EarlyView). v.closed) same in
      let past = goes_past m old now mid start out end g empty cuts (ap (λ (v : EarlyView). v.settings) same) closed one put in
      (ap lent_row is ∙ (ap (λ (o : Option Cause). row_at o mid.held) (closed ∙ is_open) ∙ none_held refl), λ unread h r. let given = gives m old mid new t start end none past waits is unread h r in (λ row e. no_row refl row (given.1 row e), given.2))

  -- a message was refused
  pub up_fault : (new : EarlyView) (f : FeedFault) (end : List ℕ) → HearsNext queueing true now (Err f) new out end → HearsUpTo old (Err f) new start end
  up_fault new f end h =
      let c = has_cause now f h.0.refused in
      subst (λ (bs : List ℕ). HearsUpTo old (Err f) new start bs) (sym h.1)
      (lends_none new c.0 (h.0.closed ∙ c.1), all_rest old (Err f) new start out none (ap (λ (k : Known (List Item)). k.keeper) h.0.known ∙ empty) (goes_fault queueing queue_agrees old now new f start out g h.0))

  -- a row is lent, and isn't kept
  pub up_row : (v mid : EarlyView) (passed : Known (List Item)) (end : List ℕ) → HearsNext queueing true now (Ok heard.Row) mid out end → v ≡ mid → PassesRow v.known (Ok tt) passed → HearsUpTo old (Ok next.Held) (record v { known = passed }) start end
  up_row v mid passed end (row, same, cuts, put, lends) view passed_it =
      let new : EarlyView = record v { known = passed } in
      let at : v ≡ record now { kept = mid.kept; held = Some (lents.Row row) } = view ∙ same in
      let closed : new.closed ≡ now.closed = ap (λ (x : EarlyView). x.closed) at in
      let passes : PassesRow now.known (Ok tt) passed = subst (λ (x : EarlyView). PassesRow x.known (Ok tt) passed) at passed_it in
      let waiting : items_waiting new ≡ [] = ap (λ (k : Known (List Item)). k.keeper) passes.1 ∙ empty in
      -- as if it were kept, and then given
      let kept : EarlyView = record new { known = record passed { keeper = Early (back.DataRow row) ∷ [] } } in
      let past : GoesPast (back.DataRow row) old kept start end =
      goes_past (back.DataRow row) old now kept start out end g empty (subst (Cuts now (back.DataRow row)) (sym (ap (λ (x : EarlyView). x.kept) at)) cuts) (ap (λ (x : EarlyView). x.settings) at) closed
      (keeps_row now.settings.password row now.known passed passes empty) (tt, put ∙ sym (append-nil out)) in (
        row,
        ap (λ (o : Option Cause). row_at o new.held) (closed ∙ is_open) ∙ ap (λ (x : EarlyView). row_at None x.held) at,
        λ unread h r. (gives (back.DataRow row) old kept new (Early (back.DataRow row)) start end none past (ap (λ (is : List Item). Early (back.DataRow row) ∷ is) (sym waiting)) refl unread h r).2,
      )

  -- a row may not come, by the fields of a value that was opened
  pub up_row_fault : (v mid : EarlyView) (passed : Known (List Item)) (new : EarlyView) (f g : FeedFault) (end : List ℕ) → HearsNext queueing true now (Ok heard.Row) mid out end → v ≡ mid → PassesRow v.known (Err f) passed → g ≡ f → new ≡ record v { known = passed; closed = cause_of f } → HearsUpTo old (Err g) new start end
  up_row_fault v mid passed new f g end (row, same, cuts, put, lends) view passes fault is =
      let at : v ≡ record now { kept = mid.kept; held = Some (lents.Row row) } = view ∙ same in
      let nowhere : hear now.known.stand (back.DataRow row) ≡ None = subst (λ (x : EarlyView). hear x.known.stand (back.DataRow row) ≡ None) at (passes.0 row) in
      rw fault (up_fault new f end (
        record {
          refused = rw passes.1 (back.DataRow row, mid.kept, cuts, rejected_with now.settings.password now.known.stand (back.DataRow row) nowhere, sym (row_fault queueing now.known.stand row));
          settings = ap (λ (x : EarlyView). x.settings) is ∙ ap (λ (x : EarlyView). x.settings) at;
          known = ap (λ (x : EarlyView). x.known) is ∙ passes.2 ∙ ap (λ (x : EarlyView). x.known) at;
          closed = ap (λ (x : EarlyView). x.closed) is;
        },
        put,
      ))

-- ---- push

-- memory ran out for the piece, by the fields of a value that was opened
module _ (v old : EarlyView) (same : v ≡ old) (none : v.closed ≡ None) (d new : BackState) (kept : v.kept ≡ d.stream.kept) (held : v.held ≡ d.held) (sound : d.stream.fault ≡ None) (piece : List ℕ) where
  abbrev pub after_push : EarlyView
  after_push = record v { kept = new.stream.kept; held = new.held; closed = Some cause.Memory }

  push_starved : 0 < length piece → new.stream ≡ d.stream → new.held ≡ d.held → Pushes v piece (Err feeding.Memory) after_push
  push_starved some stream lent =
      let bytes : new.stream.kept ≡ v.kept = ap (λ (s : DecoderState). s.kept) stream ∙ sym kept in
      let but_held : after_push ≡ record v { held = new.held; closed = Some cause.Memory } = ap (λ (bs : List ℕ). record v { kept = bs; held = new.held; closed = Some cause.Memory }) bytes in
      record {
        by_cause = subst (λ (o : Option Cause). PushesBy o v piece (Err feeding.Memory) after_push) (sym none) (some, but_held ∙ ap (λ (o : Option Lent). record v { held = o; closed = Some cause.Memory }) (lent ∙ sym held));
        history = λ e. absurd cc;
        refused = λ f e is_open unread h r.
            subst (λ (x : Result Unit FeedFault). Hears queueing (with_fed (unread ++ piece) h) (unread ++ piece) [] x after_push) e
            (starves queueing queue_agrees v piece (Err feeding.Memory) after_push [] [] none some but_held unread h r);
      }

  pub push_fails : (r : Result Unit WireFault) → is_err r ≡ true → DecoderPushes d.stream piece r new.stream → LetsGo d.held r new.held → Pushes old piece (Err feeding.Memory) after_push
  push_fails (Ok x) e p lets = absurd cc
  push_fails (Err wire.Memory) e p lets = subst (λ (x : EarlyView). Pushes x piece (Err feeding.Memory) after_push) same (push_starved p.1 p.2 lets)
  push_fails (Err f) e p lets = absurd (let k : None ≡ Some f = sym sound ∙ p.0 in cc)
