-- A call that the client accepts keeps what is so of a pair.
use Rattle.pg_client.specs.Keeping.{collecting}
use Rattle.std.proofs.Common.{◌≡◌, ℕ, List, [], ◌∷◌, ◌++◌, length, refl, ap, sym, subst, ◌∙◌}
use Rattle.std.proofs.lemmas.List.{map-append, length-take-le}
use Rattle.pg_client.specs.View.{ClientView, groups_waiting, phase_of}
use Rattle.pg_client.proofs.Histories.Unread.{carried}
use Rattle.pg_client.specs.Sent.{sent_by}
use Rattle.pg_client.specs.Client.{with_call, Accepts}
use Rattle.pg_wire.specs.Turns.{Turn}
use Rattle.pg_client.specs.declared.call.Call.{Call}
use Rattle.pg_client.specs.declared.call.Call.TheVariants as call
use Rattle.pg_pair.specs.Calling.{handed_after, IsAllowedIn}
use Rattle.pg_pair.specs.Copies.{turns_made}
use Rattle.pg_pair.specs.Invariant.{Tied, TurnsTied}
use Rattle.pg_pair.specs.Private.Known.{Known}
use Rattle.pg_pair.specs.View.{PairView}
use Rattle.pg_pair.proofs.Asking.{asked_goes_on, GoesOn, more_turns, same_goes_on}
use Rattle.pg_pair.proofs.CopyCalls.{chunk_goes_on, done_goes_on, fail_goes_on}
use Rattle.pg_pair.proofs.Ends.{backend_stays}

-- the calls with one more
abbrev pub more_calls : {C : Type 0} (p : PairView C) → Tied p → Call → List (Call × ℕ)
more_calls p t c = t.client.history.calls ++ (c, length t.client.history.fed) ∷ []

turns_of_more : Known → {C : Type 0} (p : PairView C) (t : Tied p) (c : Call) → turns_made (more_calls p t c) ≡ more_turns p t c
turns_of_more k p t c = k.one_more t.client.history.calls c (length t.client.history.fed)

-- the pair after a call
abbrev pub called : {C : Type 0} → PairView C → Call → ClientView → List ℕ → PairView C
called p c new sent = record p { client = new; to_backend = record p.to_backend { sent = sent }; fed_before = p.fed_before ++ p.to_client.reached ∷ []; handed = handed_after c p.handed }

-- Where the turns go on so, a call that was accepted keeps what is so.
pub accepted : Known → {C : Type 0} (p : PairView C) (t : Tied p) (c : Call) (new : ClientView) (sent : List ℕ)
    → IsAllowedIn c (phase_of p.client) → Accepts collecting c p.client new p.to_backend.sent sent → GoesOn p t c → Tied (called p c new sent)
accepted k p t c new sent allowed accepts on =
    let put : List ℕ = sent_by p.client.settings c in
    let turns : more_turns p t c ≡ turns_made (more_calls p t c) = sym (turns_of_more k p t c) in
    let place : length t.client.history.fed ≡ p.to_client.reached = ap length t.client.fed ∙ length-take-le p.to_client.reached p.to_client.sent t.client.within in
    record {
      client = record {
        history = with_call p.client.settings c t.client.history;
        is_history = carried collecting p.client new (with_call p.client.settings c) accepts.history t.client.history t.client.is_history;
        fed = t.client.fed;
        given = t.client.given;
        sent = ap (λ l. l ++ put) t.client.sent ∙ sym accepts.put;
        fed_before = map-append (λ (x : Call × ℕ). x.1) t.client.history.calls ((c, length t.client.history.fed) ∷ [])
            ∙ ap (λ l. l ++ length t.client.history.fed ∷ []) t.client.fed_before ∙ ap (λ n. p.fed_before ++ n ∷ []) place;
        taken = ap groups_waiting accepts.others ∙ t.client.taken;
        within = t.client.within;
      };
      backend = backend_stays p sent put accepts.put t.backend;
      turns = subst (λ (ts : List Turn). TurnsTied (called p c new sent) ts) turns on;
    }

-- each call that is allowed goes on so
goes_on : Known → {C : Type 0} (p : PairView C) (t : Tied p) (c : Call) → IsAllowedIn c (phase_of p.client) → GoesOn p t c
goes_on k p t call.Start allowed = same_goes_on p t call.Start refl refl
goes_on k p t (call.Request r) allowed = asked_goes_on k p t r allowed
goes_on k p t (call.Chunk bytes) allowed = chunk_goes_on k p t bytes allowed
goes_on k p t call.Done allowed = done_goes_on k p t allowed
goes_on k p t (call.Fail reason) allowed = fail_goes_on k p t reason allowed
goes_on k p t call.Terminate allowed = same_goes_on p t call.Terminate refl refl

pub keeps_called : Known → {C : Type 0} (p : PairView C) (c : Call) (new : ClientView) (sent : List ℕ)
    → IsAllowedIn c (phase_of p.client) → Accepts collecting c p.client new p.to_backend.sent sent → Tied p → Tied (called p c new sent)
keeps_called k p c new sent allowed accepts t = accepted k p t c new sent allowed accepts (goes_on k p t c allowed)
