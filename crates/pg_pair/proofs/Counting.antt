-- A delivery settles one group at most, and there is room for it.
use Rattle.pg_client.specs.declared.settled.Settled.{Settled}
use Rattle.pg_client.specs.Keeping.{collecting}
use Rattle.std.proofs.Common.{◌≡◌, ◌≤◌, ◌+◌, suc, ℕ, List, [], ◌++◌, None, Result, length, ap, sym, ◌∙◌, arith, length-append}
use Rattle.std.proofs.lemmas.List.{append-nil, length-map}
use Rattle.pg_client.specs.declared.fault.FeedFault.{FeedFault}
use Rattle.pg_client.specs.Session.{groups_in}
use Rattle.pg_client.specs.View.{groups_waiting, ClientView}
use Rattle.pg_client.specs.Client.{happenings, History, with_fed, with_heard, Feeds}
use Rattle.pg_client.specs.Turns.{turns_of}
use Rattle.pg_client.specs.Answering.{calls_of, turns_in}
use Rattle.pg_wire.specs.Turns.{Turn, chunks_of}
use Rattle.pg_pair.specs.Copies.{turns_made}
use Rattle.pg_pair.specs.Private.Known.{Known}
use Rattle.pg_pair.specs.Invariant.{Tied}
use Rattle.pg_pair.specs.View.{PairView}
use Rattle.pg_pair.proofs.Histories.{in_pair, tied_history}
use Rattle.pg_pair.proofs.Arriving.{fed_open}

-- What a client that was fed has settled.
pub record SettlesOne {C : Type 0} (p : PairView C) (fed : ClientView) : Type 0 where
  pub one : length (groups_waiting fed) ≤ 1
  pub room : length p.settled + length (groups_waiting fed) ≤ length p.handed

pub settles_one : Known → {C : Type 0} (p : PairView C) (t : Tied p) (bytes : List ℕ) (result : Result Unit FeedFault) (fed : ClientView) (sent : List ℕ)
    → p.client.closed ≡ None → Feeds collecting p.client bytes result fed p.to_backend.sent sent → SettlesOne p fed
settles_one k p t bytes result fed sent none feeds =
    let does = fed_open p.client bytes result fed p.to_backend.sent sent none feeds in
    let hears = does.hears (in_pair p t.client.history) (tied_history p t) in
    let past : History Settled = with_heard hears.more hears.rest does.added (with_fed bytes (in_pair p t.client.history)) in
    let was = happenings t.client.history in
    let now = happenings past in
    let before = k.answering (in_pair p t.client.history) p.client (tied_history p t) in
    let after = k.answering past fed hears.history in
    let turns_was : length (turns_in was) ≡ length (turns_of (calls_of t.client.history.calls)) = ap (λ cs. length (turns_of cs)) ((k.order t.client.history).calls) in
    let turns_now : length (turns_in now) ≡ length (turns_of (calls_of t.client.history.calls)) = ap (λ cs. length (turns_of cs)) ((k.order past).calls) in
    let few : length (turns_in was) ≤ suc (length (groups_in was)) = (before.in_turn was [] (sym (append-nil was))).one_at_most in
    let many : length (groups_in now) ≤ length (turns_in now) = (after.in_turn now [] (sym (append-nil now))).none_ahead in
    let all_was : length (p.settled ++ groups_waiting p.client) ≡ length (groups_in was) = before.settled_all in
    let all_now : length (p.settled ++ groups_waiting fed) ≡ length (groups_in now) = after.settled_all in
    let empty : length (groups_waiting p.client) ≡ 0 = ap length t.client.taken in
    let handed : length p.handed ≡ length (turns_of (calls_of t.client.history.calls)) = ap length t.turns.handed ∙ length-map (turns_made t.client.history.calls) (λ (x : Turn). chunks_of x.copies) in
    record {
      one = omega (arith, length-append p.settled (groups_waiting p.client), length-append p.settled (groups_waiting fed));
      room = omega (arith, length-append p.settled (groups_waiting fed));
    }
