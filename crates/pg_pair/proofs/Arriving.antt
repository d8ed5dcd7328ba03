-- Bytes that reach an end keep what is so of a pair.
use Rattle.pg_client.specs.Closed.{Ends}
use Rattle.pg_client.specs.declared.settled.Settled.{Settled}
use Rattle.pg_client.specs.Keeping.{collecting, CollectsAt}
use Rattle.std.proofs.Common.{◌≡◌, ◌≤◌, ◌+◌, ℕ, List, [], ◌∷◌, ◌++◌, Option, None, Result, Ok, length, take, refl, ap, sym, subst, ◌∙◌}
use Rattle.std.proofs.lemmas.List.{append-nil}
use Rattle.std.proofs.Math.Seq.{take-add}
use Rattle.pg_client.specs.declared.fault.FeedFault.{FeedFault}
use Rattle.pg_client.specs.View.{with_groups, groups_waiting, ClientView}
use Rattle.pg_client.specs.Client.{happenings, History, IsHistoryOf, with_fed, with_heard, Feeds, FeedsByCause, Hears}
use Rattle.pg_client.specs.declared.phase.Cause.{Cause}
use Rattle.pg_client.specs.Session.{groups_in, requests_in, rest_in}
use Rattle.pg_client.proofs.Hearing.Feeding.{nothing_heard}
use Rattle.pg_client.proofs.Histories.Seen.{seen}
use Rattle.pg_client.proofs.Keeping.Groups.{collecting_is_silent}
use Rattle.pg_client.proofs.Histories.Unread.{none_unread}
use Rattle.pg_backend.specs.declared.stage.BackStage.{BackStage}
use Rattle.pg_backend.specs.declared.stage.BackStage.TheVariants as stage
use Rattle.pg_backend.specs.Backend.{BackendState, was_lost, stored}
use Rattle.pg_backend.specs.History as back
use Rattle.pg_pair.specs.Delivering.{IsStored, reached_more}
use Rattle.pg_pair.specs.Invariant.{Tied}
use Rattle.pg_pair.specs.View.{WayState, arrived, waiting, PairView}
use Rattle.pg_pair.proofs.Ends.{backend_stays}

-- with more bytes of those that wait
arrived_with : (s : WayState) (bytes : List ℕ) → bytes ≡ take (length bytes) (waiting s) → arrived (reached_more s bytes) ≡ arrived s ++ bytes
arrived_with s bytes e = take-add s.reached (length bytes) s.sent ∙ ap (λ l. arrived s ++ l) (sym e)

-- ---- at the client

-- a client without its settled groups, which are among those that it has given
emptied : (h : History Settled) (c : ClientView) → IsHistoryOf collecting h c → IsHistoryOf collecting (record h { given = h.given ++ groups_waiting c }) (with_groups c [])
emptied h c r = seen collecting collecting_is_silent.agrees_as (record h { given = h.given ++ groups_waiting c }) (with_groups c []) (record {
  stream = r.agrees.stream;
  places = r.agrees.places;
  ordered = r.agrees.ordered;
  happened = r.agrees.happened;
  led = record {
    was = r.agrees.led.was;
    stands = r.agrees.led.stands;
    now = r.agrees.led.now;
    kept = subst (λ (ts : List Settled). CollectsAt r.agrees.led.was (requests_in (happenings h)) (groups_in (happenings h)) (rest_in (happenings h)) ts c.known.keeper.collected) (sym (append-nil (h.given ++ groups_waiting c))) r.agrees.led.kept;
    knows = r.agrees.led.knows;
  };
  ends = r.agrees.ends;
  terminated = r.agrees.terminated;
  lost = r.agrees.lost;
})

-- the pair after the client was fed, and has put out what was sent then
abbrev pub fed_pair : {C : Type 0} → PairView C → List ℕ → ClientView → List ℕ → PairView C
fed_pair p bytes fed sent =
    record p { client = with_groups fed []; to_backend = record p.to_backend { sent = sent }; to_client = reached_more p.to_client bytes; settled = p.settled ++ groups_waiting fed }

abbrev WithinMore : WayState → List ℕ → Type 0
WithinMore s bytes = s.reached + length bytes ≤ length s.sent

-- What an open client hears that is fed, where no bytes were still to be heard.
pub record IsFed (old : ClientView) (bytes : List ℕ) (result : Result Unit FeedFault) (fed : ClientView) (before after : List ℕ) : Type 0 where
  pub added : List ℕ
  pub put : after ≡ before ++ added
  pub hears : (h : History Settled) → IsHistoryOf collecting h old → Hears collecting (with_fed bytes h) bytes added result fed

pub fed_open : (old : ClientView) (bytes : List ℕ) (result : Result Unit FeedFault) (fed : ClientView) (before after : List ℕ) → old.closed ≡ None → Feeds collecting old bytes result fed before after → IsFed old bytes result fed before after
fed_open old bytes result fed before after none feeds = by bytes (subst (λ (c : Option Cause). FeedsByCause collecting c old bytes result fed before after) none feeds)
  where
    -- a piece without bytes changes nothing
    same : (h : History Settled) → h ≡ with_heard [] h.rest [] (with_fed [] h)
    same h = ap (λ (bs : List ℕ). record h { fed = bs }) (sym (append-nil h.fed)) ∙ nothing_heard collecting collecting_is_silent.agrees_as (with_fed [] h) h.rest

    by : (bs : List ℕ) → FeedsByCause collecting None old bs result fed before after → IsFed old bs result fed before after
    by [] f = record {
      added = [];
      put = f.2 ∙ sym (append-nil before);
      hears = λ h r.
          subst (λ (x : Result Unit FeedFault). Hears collecting (with_fed [] h) [] [] x fed) (sym f.0)
          (subst (λ (v : ClientView). Hears collecting (with_fed [] h) [] [] (Ok tt) v) (sym f.1)
          (record { more = []; rest = h.rest; history = subst (λ (x : History Settled). IsHistoryOf collecting x old) (same h) r; answers = ((subst (λ (c : Option Cause). Ends old.settings (happenings h) h.rest old.kept c) none r.agrees.ends).is_open, none) }));
    }
    by (b ∷ bs) f = record { added = f.added; put = f.put; hears = λ h r. f.hears [] h (none_unread collecting h old r) }

pub heard_more : {C : Type 0} (p : PairView C) (t : Tied p) (bytes : List ℕ) (result : Result Unit FeedFault) (fed : ClientView) (sent : List ℕ)
    → (feeds : IsFed p.client bytes result fed p.to_backend.sent sent)
    → Hears collecting (with_fed bytes t.client.history) bytes feeds.added result fed
heard_more p t bytes result fed sent feeds = feeds.hears t.client.history t.client.is_history

pub keeps_fed : {C : Type 0} (p : PairView C) (bytes : List ℕ) (result : Result Unit FeedFault) (fed : ClientView) (sent : List ℕ)
    → p.client.closed ≡ None → bytes ≡ take (length bytes) (waiting p.to_client) → WithinMore p.to_client bytes → Feeds collecting p.client bytes result fed p.to_backend.sent sent
    → Tied p → Tied (fed_pair p bytes fed sent)
keeps_fed p bytes result fed sent none e within feeds t =
    let does = fed_open p.client bytes result fed p.to_backend.sent sent none feeds in
    let put : sent ≡ p.to_backend.sent ++ does.added = does.put in
    let hears = heard_more p t bytes result fed sent does in
    let heard : History Settled = with_heard hears.more hears.rest does.added (with_fed bytes t.client.history) in
    record {
      client = record {
        history = record heard { given = heard.given ++ groups_waiting fed };
        is_history = emptied heard fed hears.history;
        fed = ap (λ l. l ++ bytes) t.client.fed ∙ sym (arrived_with p.to_client bytes e);
        given = ap (λ l. l ++ groups_waiting fed) t.client.given;
        sent = ap (λ l. l ++ does.added) t.client.sent ∙ sym put;
        fed_before = t.client.fed_before;
        taken = refl;
        within = within;
      };
      backend = backend_stays p sent does.added put t.backend;
      turns = t.turns;
    }

-- ---- at the backend

-- the pair after the backend has stored a piece
abbrev pub stored_pair : {C : Type 0} → PairView C → List ℕ → BackendState → PairView C
stored_pair p bytes b = record p { backend = b; to_backend = reached_more p.to_backend bytes }

stored_lost : (s : BackStage) (bytes : List ℕ) → was_lost (stored s bytes) ≡ was_lost s
stored_lost (stage.First d) bytes = refl
stored_lost (stage.Open d a) bytes = refl
stored_lost (stage.Closed e) bytes = refl

pub keeps_stored : {C : Type 0} (p : PairView C) (bytes : List ℕ) (b : BackendState)
    → bytes ≡ take (length bytes) (waiting p.to_backend) → WithinMore p.to_backend bytes → IsStored p.backend bytes b → Tied p → Tied (stored_pair p bytes b)
keeps_stored p bytes b e within stored_is t =
    let same : b ≡ record p.backend { stage = stored p.backend.stage bytes } = stored_is.stores.1 in
    let history = back.with_pushed bytes t.backend.history in
    subst (λ (x : BackendState). Tied (stored_pair p bytes x)) (sym same) (record {
      client = t.client;
      backend = record {
        checked = t.backend.checked;
        limit = t.backend.limit;
        history = history;
        is_history = subst (back.IsHistoryOf history) same (stored_is.history t.backend.history t.backend.is_history);
        pushed = ap (λ l. l ++ bytes) t.backend.pushed ∙ sym (arrived_with p.to_backend bytes e);
        sent = t.backend.sent;
        faultless = t.backend.faultless;
        not_lost = λ h. stored_lost p.backend.stage bytes ∙ t.backend.not_lost h;
        within = within;
      };
      turns = t.turns;
    })

-- ---- along the way

-- what is so doesn't depend on the carrier
pub keeps_carrier : {C : Type 0} (p : PairView C) (carrier : C) → Tied p → Tied (record p { carrier = carrier })
keeps_carrier p carrier t = record { client = t.client; backend = t.backend; turns = t.turns }
