-- What a client collects until it is settled.
use Rattle.std.proofs.Common.{◌≡◌, List, [], ◌∷◌, ◌++◌, drop, Some, None, refl, sym, ap, subst, ◌∙◌, append_assoc}
use Rattle.std.proofs.lemmas.List.{append-nil}
use Rattle.pg_wire.specs.message.BackMessage.{BackMessage}
use Rattle.pg_wire.specs.message.BackMessage.TheVariants as back
use Rattle.pg_wire.specs.value.Status.{Status}
use Rattle.pg_wire.specs.declared.session.Aside.{Aside}
use Rattle.pg_wire.specs.declared.session.Request.{Request}
use Rattle.pg_wire.specs.Segment.{aside_of, asides_of, Asked, asked, Fits, Segments, status_of, without_asides}
use Rattle.pg_response.specs.declared.place.Place.{Place}
use Rattle.pg_response.specs.Collected.{collect, collected_with, CollectedView, Holds, nothing_collected, outcome_of}
use Rattle.pg_response.specs.Place.{start}
use Rattle.pg_response.proofs.Holding.{collect_asides, holds_next, holds_start, with_asides}
use Rattle.std.proofs.lemmas.List.Elements.{filter_map-append}
use Rattle.pg_response.proofs.Marks.{goes_no_aside, goes_no_end}
use Rattle.pg_response.proofs.Segments.{holds_fits}
use Rattle.pg_client.specs.declared.call.Call.{Call}
use Rattle.pg_client.specs.declared.call.Call.TheVariants as call
use Rattle.pg_client.specs.declared.settled.Settled.{Settled}
use Rattle.pg_client.specs.declared.stand.CopyAnswer.TheVariants.{Awaited}
use Rattle.pg_client.specs.declared.stand.Stand.{Stand}
use Rattle.pg_client.specs.declared.stand.Stand.TheVariants.{Idle, Busy}
use Rattle.pg_client.specs.Keeping.{collecting, CollectingView, CollectsAt, CollectsBusy, EachSettled, IsSilent}
use Rattle.pg_client.specs.Session.{Happening, Did, Came, groups_in, requests_in, rest_in, whole_in}
use Rattle.pg_client.specs.Private.Hearing.{IsPastStartup, KeepsAside, KeepsEnd, KeepsPart}
use Rattle.pg_client.proofs.Events.Beginnings.{requests_came, segments_came, segments_did}
use Rattle.pg_client.proofs.Events.Happening.{requests_in-more}
use Rattle.pg_client.proofs.Events.OneMessage.{aside_ends_nothing, kept, left_out, put_after}

-- ---- by the requests and the segments

-- one more message
came_at : (hs : List Happening) (m : BackMessage) (stand : Stand) (settled : List Settled) (c : CollectedView)
    → CollectsAt stand (requests_in hs) (drop 1 (put_after (status_of m) m (whole_in hs) (rest_in hs)).whole) (put_after (status_of m) m (whole_in hs) (rest_in hs)).rest settled c
    → CollectsAt stand (requests_in (hs ++ Came m ∷ [])) (groups_in (hs ++ Came m ∷ [])) (rest_in (hs ++ Came m ∷ [])) settled c
came_at hs m stand settled c h = rw (requests_came hs m) (subst (λ (s : Segments). CollectsAt stand (requests_in hs) (drop 1 s.whole) s.rest settled c) (sym (segments_came hs m)) h)

-- one more call
did_at : (hs : List Happening) (call : Call) (stand : Stand) (settled : List Settled) (c : CollectedView)
    → CollectsAt stand (requests_in hs ++ requests_in (Did call ∷ [])) (groups_in hs) (rest_in hs) settled c
    → CollectsAt stand (requests_in (hs ++ Did call ∷ [])) (groups_in (hs ++ Did call ∷ [])) (rest_in (hs ++ Did call ∷ [])) settled c
did_at hs call stand settled c h = rw (requests_in-more hs (Did call)) (subst (λ (s : Segments). CollectsAt stand (requests_in hs ++ requests_in (Did call ∷ [])) (drop 1 s.whole) s.rest settled c) (sym (segments_did hs call)) h)

-- what came at the start of a segment is nothing
fresh_holds : (a : Asked) (ms : List BackMessage) (c : CollectedView) (asides : List Aside) → ms ≡ [] → c ≡ record nothing_collected { asides = asides } → Holds a ms start c
fresh_holds a ms c asides none is = rw (is, none) (with_asides a [] start nothing_collected asides (holds_start a))

-- ---- what it isn't told of

pub collecting_is_silent : IsSilent collecting
collecting_is_silent = record {
  agrees_as = λ h client. (λ a. a, λ a. a);
  started = λ k given t. t;
  asked = λ k given hs r there t.
      did_at hs (call.Request r) (Busy r start Awaited) (given ++ k.settled) k.collected (record {
        earlier = requests_in hs;
        last = refl;
        settled_as = t.0;
        asides_are = sym (ap (λ (c : CollectedView). c.asides) t.1);
        holds = fresh_holds (asked r) (without_asides (rest_in hs)) k.collected (asides_of (rest_in hs)) there.1.only_asides t.1;
      });
  called = λ k given hs c none was stand there t.
      did_at hs c stand (given ++ k.settled) k.collected
      (subst (λ (rs : List Request). CollectsAt stand rs (groups_in hs) (rest_in hs) (given ++ k.settled) k.collected) (sym (ap (λ (rs : List Request). requests_in hs ++ rs) none ∙ append-nil (requests_in hs))) t);
  answered = λ k given hs r place was is t. assumption;
  welcomed = λ k given hs w v m there none t. t;
  let_in = λ k given hs w status there t.
      came_at hs (back.Ready status) Idle (given ++ k.settled) k.collected (rw (there.1.no_request, there.1.no_segment, t.0) tt, t.1);
}

-- ---- an aside

module _ (hs : List Happening) (m : BackMessage) (a : Aside) (is : aside_of m ≡ Some a) where
  collected_more : asides_of (rest_in hs ++ m ∷ []) ≡ asides_of (rest_in hs) ++ a ∷ []
  collected_more = filter_map-append aside_of (rest_in hs) (m ∷ []) ∙ rw is refl

  aside_at : (stand : Stand) (settled : List Settled) (c : CollectedView) → IsPastStartup stand → CollectsAt stand (requests_in hs) (groups_in hs) (rest_in hs) settled c
      → CollectsAt stand (requests_in hs) (drop 1 (put_after None m (whole_in hs) (rest_in hs)).whole) (put_after None m (whole_in hs) (rest_in hs)).rest settled (collected_with c a)
  aside_at Idle settled c s h = (h.0, ap (λ (x : CollectedView). collected_with x a) h.1 ∙ ap (λ (xs : List Aside). record nothing_collected { asides = xs }) (sym collected_more))
  aside_at (Busy request place answer) settled c s h = record {
    earlier = h.earlier;
    last = h.last;
    settled_as = h.settled_as;
    asides_are = collected_more ∙ ap (λ (xs : List Aside). xs ++ a ∷ []) h.asides_are;
    holds = rw (left_out (rest_in hs) m a is) (with_asides (asked request) (without_asides (rest_in hs)) place c (c.asides ++ a ∷ []) h.holds);
  }
  aside_at _ settled c s h = absurd s

  pub aside_kept : (given : List Settled) (old new : CollectingView) (stand : Stand) → IsPastStartup stand → new.settled ≡ old.settled → new.collected ≡ collected_with old.collected a → collecting.tells old stand given hs → collecting.tells new stand given (hs ++ Came m ∷ [])
  aside_kept given old new stand s same more t = came_at hs m stand (given ++ new.settled) new.collected (rw (aside_ends_nothing m a is, same, more) (aside_at stand (given ++ old.settled) old.collected s t))

pub keeps_aside : (a : Aside) (IsIt : BackMessage → Type 0) → ((m : BackMessage) → IsIt m → aside_of m ≡ Some a) → (v old : CollectingView) → v ≡ old → (c : CollectedView) → c ≡ collected_with v.collected a → KeepsAside collecting IsIt old (record v { collected = c })
keeps_aside a IsIt is_aside v old same c more =
    subst (λ (x : CollectingView). KeepsAside collecting IsIt x (record v { collected = c })) same
    (λ m stand is s given hs there t. aside_kept hs m a (is_aside m is) given v (record v { collected = c }) stand s refl more t)

-- ---- a message of a response

part_kept : (request : Request) (place : Place) (m : BackMessage) (old new : CollectingView) → new.settled ≡ old.settled → new.collected ≡ collect (asked request) place.opened old.collected m → KeepsPart collecting request place m old new
part_kept request place m old new same more next was is leads given hs there t =
    let a = asked request in
    let no_aside = goes_no_aside a place next m leads in
    let after : CollectsBusy (requests_in hs) (groups_in hs) (rest_in hs ++ m ∷ []) (given ++ new.settled) (collect a place.opened old.collected m) request next = record {
      earlier = t.earlier;
      last = t.last;
      settled_as = rw same t.settled_as;
      asides_are = filter_map-append aside_of (rest_in hs) (m ∷ []) ∙ (rw no_aside (append-nil (asides_of (rest_in hs))) ∙ (t.asides_are ∙ sym (collect_asides a place.opened old.collected m)));
      holds = rw (kept (rest_in hs) m no_aside) (holds_next a (without_asides (rest_in hs)) old.collected m place next t.holds leads);
    } in
    came_at hs m (Busy request next is) (given ++ new.settled) new.collected (rw (goes_no_end a place next m leads, more) after)

pub keeps_part : (request : Request) (place : Place) (m : BackMessage) (v old : CollectingView) → v ≡ old → (c : CollectedView) → c ≡ collect (asked request) place.opened v.collected m → KeepsPart collecting request place m old (record v { collected = c })
keeps_part request place m v old same c more = subst (λ (x : CollectingView). KeepsPart collecting request place m x (record v { collected = c })) same (part_kept request place m v (record v { collected = c }) refl more)

-- ---- the end of a segment

EachSettled-more : (rs : List Request) (ss : List (List BackMessage)) (ts : List Settled) (r : Request) (s : List BackMessage) (t : Settled) → EachSettled rs ss ts → t.request ≡ r → Fits r s t.outcome → EachSettled (rs ++ r ∷ []) (ss ++ s ∷ []) (ts ++ t ∷ [])
EachSettled-more [] [] [] r s t h e f = (e, f, tt)
EachSettled-more (q ∷ rs) (u ∷ ss) (v ∷ ts) r s t h e f = (h.0, h.1, EachSettled-more rs ss ts r s t h.2 e f)
EachSettled-more _ _ _ r s t h e f = absurd h

end_kept : (request : Request) (status : Status) (old new : CollectingView) → new.settled ≡ old.settled ++ record { request = request; outcome = outcome_of old.collected status } ∷ [] → new.collected ≡ nothing_collected → KeepsEnd collecting request status old new
end_kept request status old new more nothing place answer may given hs there t =
    let group : Settled = record { request = request; outcome = outcome_of old.collected status } in
    let segment = rest_in hs ++ back.Ready status ∷ [] in
    let fits = holds_fits request (rest_in hs) status place old.collected t.holds may t.asides_are in
    let groups : groups_in hs ≡ there.1.answered.groups = ap (drop 1) there.1.answered.cut in
    let then : drop 1 (whole_in hs ++ segment ∷ []) ≡ groups_in hs ++ segment ∷ [] = ap (λ (w : List (List BackMessage)). drop 1 (w ++ segment ∷ [])) there.1.answered.cut ∙ sym (ap (λ (g : List (List BackMessage)). g ++ segment ∷ []) groups) in
    let settled : given ++ new.settled ≡ (given ++ old.settled) ++ group ∷ [] = ap (λ (ts : List Settled). given ++ ts) more ∙ sym (append_assoc given old.settled (group ∷ [])) in
    came_at hs (back.Ready status) Idle (given ++ new.settled) new.collected (rw (settled, then, t.last) (EachSettled-more t.earlier (groups_in hs) (given ++ old.settled) request segment group t.settled_as refl fits), nothing)

pub keeps_end : (request : Request) (status : Status) (v old : CollectingView) → v ≡ old → (new : CollectingView) → new.settled ≡ v.settled ++ record { request = request; outcome = outcome_of v.collected status } ∷ [] → new.collected ≡ nothing_collected → KeepsEnd collecting request status old new
keeps_end request status v old same new more nothing = subst (λ (x : CollectingView). KeepsEnd collecting request status x new) same (end_kept request status v new more nothing)
