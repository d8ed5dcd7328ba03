-- The items of one event more.
use Rattle.std.proofs.Common.{◌≡◌, ℕ, suc, ◌≤◌, List, [], ◌∷◌, ◌++◌, length, map, Option, Some, None, Ok, refl, sym, ap, subst, ◌∙◌, append_assoc, arith, length-append}
use Rattle.std.specs.List.{AllByRecursion}
use Rattle.std.proofs.lemmas.List.{append-nil, map_push}
use Rattle.pg_wire.specs.message.BackMessage.{BackMessage}
use Rattle.pg_wire.specs.message.BackMessage.TheVariants as back
use Rattle.pg_wire.specs.declared.session.Request.{Request}
use Rattle.pg_wire.specs.value.Status.{Status}
use Rattle.pg_wire.specs.Segment.{asked, Segments, segments, put_before, status_of}
use Rattle.pg_response.specs.declared.place.Place.{Place}
use Rattle.pg_response.specs.Collected.{RowValues}
use Rattle.pg_response.proofs.Marks.{goes_no_end}
use Rattle.pg_client.specs.declared.call.Call.{Call}
use Rattle.pg_client.specs.declared.call.Call.TheVariants as call
use Rattle.pg_client.specs.declared.item.Item.{Item}
use Rattle.pg_client.specs.declared.item.Item.TheVariants.{Early}
use Rattle.pg_client.specs.declared.item.Item.TheVariants as item
use Rattle.pg_client.specs.declared.stand.CopyAnswer.{CopyAnswer}
use Rattle.pg_client.specs.declared.stand.Stand.{Stand}
use Rattle.pg_client.specs.declared.stand.Stand.TheVariants.{New, Starting, Idle, Busy}
use Rattle.pg_client.specs.Session.{Happening, Did, Came, messages_in, requests_in, rest_in, whole_in}
use Rattle.pg_client.specs.Stand.{hear, Stands}
use Rattle.pg_client.specs.Keeping.{IsSilent, item_for, items_after_startup, items_in, items_of, queueing}
use Rattle.pg_client.specs.declared.known.Known.{Known}
use Rattle.pg_client.specs.Private.Hearing.{HearsOne, PassesRow, IsPastStartup, KeepsAside, KeepsEnd, KeepsPart}
use Rattle.pg_client.proofs.Events.Happening.{messages_in-did, requests_in-more, segments-came}
use Rattle.pg_client.proofs.Hearing.Messages.{row_kept}
use Rattle.pg_client.proofs.Events.OneMessage.{EachFits-length, is_ready, put_after}

abbrev Group : Type 0
Group = List BackMessage

-- ---- the messages of the segment that isn't whole

none_ends : (o : Option Status) (m : BackMessage) (whole : List Group) (rest : Group) → status_of m ≡ o → AllByRecursion (λ x. status_of x ≡ None) rest → AllByRecursion (λ x. status_of x ≡ None) (put_before o m whole rest).rest
none_ends (Some status) m whole rest e h = h
none_ends None m [] rest e h = (e, h)
none_ends None m (s ∷ ss) rest e h = h

rest_ends_nothing : (ms : List BackMessage) → AllByRecursion (λ x. status_of x ≡ None) (segments ms).rest
rest_ends_nothing [] = tt
rest_ends_nothing (m ∷ ms) = none_ends (status_of m) m (segments ms).whole (segments ms).rest refl (rest_ends_nothing ms)

early_one : (r : Request) (m : BackMessage) → status_of m ≡ None → item_for r m ≡ Early m
early_one r m e = grind arith

early_all : (r : Request) (ms : List BackMessage) → AllByRecursion (λ x. status_of x ≡ None) ms → map (item_for r) ms ≡ map Early ms
early_all r [] h = refl
early_all r (m ∷ ms) h = ap (λ (i : Item). i ∷ map (item_for r) ms) (early_one r m h.0) ∙ ap (λ (is : List Item). Early m ∷ is) (early_all r ms h.1)

-- ---- lists of segments

-- one message more of the segment that isn't whole
of_rest : (rs : List Request) (ss : List Group) (rest : Group) (m : BackMessage) → length ss ≤ length rs → items_of rs ss (rest ++ m ∷ []) ≡ items_of rs ss rest ++ Early m ∷ []
of_rest rs [] rest m le = map_push Early rest m
of_rest [] (s ∷ ss) rest m le = absurd (omega (arith, le))
of_rest (r ∷ rs) (s ∷ ss) rest m le =
    ap (λ (is : List Item). map (item_for r) s ++ is) (of_rest rs ss rest m (omega (arith, le))) ∙ sym (append_assoc (map (item_for r) s) (items_of rs ss rest) (Early m ∷ []))

-- one segment more, of the last request
of_whole : (rs : List Request) (ss : List Group) (rest : Group) (r : Request) (m : BackMessage) → length ss ≡ length rs → AllByRecursion (λ x. status_of x ≡ None) rest
    → items_of (rs ++ r ∷ []) (ss ++ (rest ++ m ∷ []) ∷ []) [] ≡ items_of (rs ++ r ∷ []) ss rest ++ item_for r m ∷ []
of_whole [] [] rest r m e none = append-nil (map (item_for r) (rest ++ m ∷ [])) ∙ map_push (item_for r) rest m ∙ ap (λ (is : List Item). is ++ item_for r m ∷ []) (early_all r rest none)
of_whole (q ∷ rs) [] rest r m e none = absurd (omega (arith, e))
of_whole [] (s ∷ ss) rest r m e none = absurd (omega (arith, e))
of_whole (q ∷ rs) (s ∷ ss) rest r m e none =
    ap (λ (is : List Item). map (item_for q) s ++ is) (of_whole rs ss rest r m (omega (arith, e)) none) ∙ sym (append_assoc (map (item_for q) s) (items_of (rs ++ r ∷ []) ss rest) (item_for r m ∷ []))

-- more requests
of_more : (rs more : List Request) (ss : List Group) (rest : Group) → length ss ≤ length rs → items_of (rs ++ more) ss rest ≡ items_of rs ss rest
of_more rs more [] rest le = refl
of_more [] more (s ∷ ss) rest le = absurd (omega (arith, le))
of_more (r ∷ rs) more (s ∷ ss) rest le = ap (λ (is : List Item). map (item_for r) s ++ is) (of_more rs more ss rest (omega (arith, le)))

-- ---- one message more

module _ (hs : List Happening) (m : BackMessage) where
  -- by the segments then
  items_then : items_in (hs ++ Came m ∷ []) ≡ items_after_startup (requests_in hs) (put_after (status_of m) m (whole_in hs) (rest_in hs)).whole (put_after (status_of m) m (whole_in hs) (rest_in hs)).rest
  items_then = rw (requests_in-more hs (Came m), append-nil (requests_in hs)) (ap (λ (s : Segments). items_after_startup (requests_in hs) s.whole s.rest) (segments-came hs m))

  starting_items : whole_in hs ≡ [] → requests_in hs ≡ [] → items_in (hs ++ Came m ∷ []) ≡ items_in hs ++ []
  starting_items none no_request = items_then ∙ elim (status_of m) as (λ o. items_after_startup (requests_in hs) (put_after o m (whole_in hs) (rest_in hs)).whole (put_after o m (whole_in hs) (rest_in hs)).rest ≡ []) [ Some status ↦ rw none refl | None ↦ rw none refl ]
      ∙ sym (append-nil (items_in hs) ∙ ap (λ (w : List Group). items_after_startup (requests_in hs) w (rest_in hs)) none)

  module _ (startup : Group) (groups : List Group) (cut : whole_in hs ≡ startup ∷ groups) where
    going_items : status_of m ≡ None → length groups ≤ length (requests_in hs) → items_in (hs ++ Came m ∷ []) ≡ items_in hs ++ Early m ∷ []
    going_items none le = items_then ∙ rw (none, cut) (of_rest (requests_in hs) groups (rest_in hs) m le)

    ending_items : (earlier : List Request) (r : Request) (status : Status) → status_of m ≡ Some status → requests_in hs ≡ earlier ++ r ∷ [] → length groups ≡ length earlier → items_in (hs ++ Came m ∷ []) ≡ items_in hs ++ item_for r m ∷ []
    ending_items earlier r status is last len = items_then ∙ rw (is, cut, last) (of_whole earlier groups (rest_in hs) r m len (rest_ends_nothing (messages_in hs)))

  -- a message after the startup, which is no ReadyForQuery
  pub came_early : (stand : Stand) → IsPastStartup stand → Stands hs stand → status_of m ≡ None → items_in (hs ++ Came m ∷ []) ≡ items_in hs ++ Early m ∷ []
  came_early Idle s h none = going_items h.1.answered.startup h.1.answered.groups h.1.answered.cut none (omega (arith, EachFits-length (requests_in hs) h.1.answered.groups h.1.answered.fit))
  came_early (Busy request place answer) s h none =
      going_items h.1.answered.startup h.1.answered.groups h.1.answered.cut none (omega (arith, EachFits-length h.1.earlier h.1.answered.groups h.1.answered.fit, ap length h.1.last, length-append h.1.earlier (request ∷ [])))
  came_early _ s h none = absurd s

  -- and one that is
  pub came_last : (request : Request) (place : Place) (answer : CopyAnswer) (status : Status) → Stands hs (Busy request place answer) → status_of m ≡ Some status → items_in (hs ++ Came m ∷ []) ≡ items_in hs ++ item_for request m ∷ []
  came_last request place answer status h is = ending_items h.1.answered.startup h.1.answered.groups h.1.answered.cut h.1.earlier request status is h.1.last (EachFits-length h.1.earlier h.1.answered.groups h.1.answered.fit)

  -- ---- a message has one item at most

  -- the item is a row only where the message is that row
  abbrev pub IsOf : Item → Type 0
  IsOf t = (row : RowValues) → t ≡ Early (back.DataRow row) → m ≡ back.DataRow row

  abbrev pub AtMostOne : List Item → Type 0
  AtMostOne [] = Unit {0}
  AtMostOne (t ∷ []) = IsOf t
  AtMostOne (t ∷ u ∷ ts) = ⊥

  pub record HasItems : Type 0 where
    pub items : List Item
    pub then : items_in (hs ++ Came m ∷ []) ≡ items_in hs ++ items
    pub one : AtMostOne items

  has_early : (stand : Stand) → IsPastStartup stand → Stands hs stand → status_of m ≡ None → HasItems
  has_early stand s h none = record { items = Early m ∷ []; then = came_early stand s h none; one = λ row e. (let k : Early m ≡ Early (back.DataRow row) = e in cc) }

  has_last : (request : Request) (place : Place) (answer : CopyAnswer) (status : Status) → Stands hs (Busy request place answer) → status_of m ≡ Some status → HasItems
  has_last request place answer status h is = record {
    items = item_for request m ∷ [];
    then = came_last request place answer status h is;
    one = λ row e. absurd (let k : item.Settled request status ≡ Early (back.DataRow row) = ap (item_for request) (sym (is_ready m status is)) ∙ e in cc);
  }

  -- nothing is heard before start
  not_new : (next : Stand) → hear New m ≡ Some next → ⊥
  not_new next e = grind arith

  -- where no request is outstanding, ReadyForQuery isn't heard
  not_idle : (status : Status) (next : Stand) → status_of m ≡ Some status → hear Idle m ≡ Some next → ⊥
  not_idle status next is e = (let k : hear Idle (back.Ready status) ≡ Some next = subst (λ (x : BackMessage). hear Idle x ≡ Some next) (is_ready m status is) e in cc)

  pub has_items : (stand next : Stand) → Stands hs stand → hear stand m ≡ Some next → HasItems
  has_items New next h e = absurd (not_new next e)
  has_items (Starting w) next h e = record { items = []; then = starting_items h.1.no_segment h.1.no_request; one = tt }
  has_items Idle next h e = (elim (status_of m) as (λ o. status_of m ≡ o → HasItems) [ Some status ↦ λ is. absurd (not_idle status next is e) | None ↦ λ is. has_early Idle tt h is ]) refl
  has_items (Busy request place answer) next h e = (elim (status_of m) as (λ o. status_of m ≡ o → HasItems) [ Some status ↦ λ is. has_last request place answer status h is | None ↦ λ is. has_early (Busy request place answer) tt h is ]) refl

-- ---- one call more

module _ (hs : List Happening) (c : Call) where
  did_more : length (whole_in hs) ≤ suc (length (requests_in hs)) → items_in (hs ++ Did c ∷ []) ≡ items_in hs
  did_more le =
      ap (λ (ms : List BackMessage). items_after_startup (requests_in (hs ++ Did c ∷ [])) (segments ms).whole (segments ms).rest) (messages_in-did hs c)
      ∙ rw (requests_in-more hs (Did c)) (by (whole_in hs) le)
    where
      by : (whole : List Group) → length whole ≤ suc (length (requests_in hs)) → items_after_startup (requests_in hs ++ requests_in (Did c ∷ [])) whole (rest_in hs) ≡ items_after_startup (requests_in hs) whole (rest_in hs)
      by [] e = refl
      by (s ∷ ss) e = of_more (requests_in hs) (requests_in (Did c ∷ [])) ss (rest_in hs) (omega (arith, e))

  -- a call is no item
  pub items_did : (stand : Stand) → Stands hs stand → items_in (hs ++ Did c ∷ []) ≡ items_in hs
  items_did New h = did_more (subst (λ (x : List Happening). length (whole_in x) ≤ suc (length (requests_in x))) (sym h) (omega arith))
  items_did (Starting w) h = did_more (omega (arith, ap length h.1.no_segment))
  items_did Idle h = did_more (omega (arith, ap length h.1.answered.cut, EachFits-length (requests_in hs) h.1.answered.groups h.1.answered.fit))
  items_did (Busy request place answer) h =
      did_more (omega (arith, ap length h.1.answered.cut, EachFits-length h.1.earlier h.1.answered.groups h.1.answered.fit, ap length h.1.last, length-append h.1.earlier (request ∷ [])))

-- ---- what it keeps

pub queueing_is_silent : IsSilent queueing
queueing_is_silent = record {
  agrees_as = λ h client. (λ a. a, λ a. a);
  started = λ q given t. t;
  asked = λ q given hs r there t. t ∙ sym (items_did hs (call.Request r) Idle there);
  called = λ q given hs c none was stand there t. t ∙ sym (items_did hs c was there);
  answered = λ q given hs r place was is t. t;
  welcomed = λ q given hs w v m there none t. t ∙ sym (starting_items hs m there.1.no_segment there.1.no_request ∙ append-nil (items_in hs));
  let_in = λ q given hs w status there t. t ∙ sym (starting_items hs (back.Ready status) there.1.no_segment there.1.no_request ∙ append-nil (items_in hs));
}

-- one item more
item_more : (given was is all : List Item) (i : Item) (then : List Item) → is ≡ was ++ i ∷ [] → given ++ was ≡ all → then ≡ all ++ i ∷ [] → given ++ is ≡ then
item_more given was is all i then more t e = ap (λ (x : List Item). given ++ x) more ∙ (sym (append_assoc given was (i ∷ [])) ∙ (ap (λ (x : List Item). x ++ i ∷ []) t ∙ sym e))

pub keeps_aside : (IsIt : BackMessage → Type 0) (x : BackMessage) (old new : List Item) → ((m : BackMessage) → IsIt m → (m ≡ x) × (status_of m ≡ None)) → new ≡ old ++ Early x ∷ [] → KeepsAside queueing IsIt old new
keeps_aside IsIt x old new one more m stand is s given hs there t =
    item_more given old new (items_in hs) (Early m) (items_in (hs ++ Came m ∷ [])) (more ∙ ap (λ (y : BackMessage). old ++ Early y ∷ []) (sym (one m is).0)) t (came_early hs m stand s there (one m is).1)

pub keeps_part : (request : Request) (place : Place) (m : BackMessage) (old new : List Item) → new ≡ old ++ Early m ∷ [] → KeepsPart queueing request place m old new
keeps_part request place m old new more next was is leads given hs there t =
    item_more given old new (items_in hs) (Early m) (items_in (hs ++ Came m ∷ [])) more t (came_early hs m (Busy request place was) tt there (goes_no_end (asked request) place next m leads))

pub keeps_end : (request : Request) (status : Status) (old new : List Item) → new ≡ old ++ item.Settled request status ∷ [] → KeepsEnd queueing request status old new
keeps_end request status old new more place answer may given hs there t =
    item_more given old new (items_in hs) (item.Settled request status) (items_in (hs ++ Came (back.Ready status) ∷ [])) more t (came_last hs (back.Ready status) request place answer status there refl)

-- a row that was passed, as if it were kept
pub keeps_row : (password : Option (List ℕ)) (row : RowValues) (old new : Known (List Item)) → PassesRow old (Ok tt) new → old.keeper ≡ [] → HearsOne queueing password (back.DataRow row) old (record new { keeper = Early (back.DataRow row) ∷ [] })
keeps_row password row old new passes empty =
    row_kept queueing password row old new (Early (back.DataRow row) ∷ []) passes (λ given hs there t.
    let has = passed_early hs row old.stand new.stand there (passes.0 row) in
    item_more given old.keeper (Early (back.DataRow row) ∷ []) (items_in hs) (Early (back.DataRow row)) (items_in (hs ++ Came (back.DataRow row) ∷ [])) (ap (λ (is : List Item). is ++ Early (back.DataRow row) ∷ []) (sym empty)) t has)
  where
    passed_early : (hs : List Happening) (r : RowValues) (stand next : Stand) → Stands hs stand → hear stand (back.DataRow r) ≡ Some next → items_in (hs ++ Came (back.DataRow r) ∷ []) ≡ items_in hs ++ Early (back.DataRow r) ∷ []
    passed_early hs r (Busy request place answer) next h e = came_early hs (back.DataRow r) (Busy request place answer) tt h refl
    passed_early hs r _ next h e = absurd (grind arith)

-- an item is taken
pub item_taken : (old new : List Item) (i : Item) (given : List Item) (hs : List Happening) → old ≡ i ∷ new → given ++ old ≡ items_in hs → (given ++ i ∷ []) ++ new ≡ items_in hs
item_taken old new i given hs e t = append_assoc given (i ∷ []) new ∙ (sym (ap (λ (x : List Item). given ++ x) e) ∙ t)
