-- A break keeps what is so of a pair.
use Rattle.pg_client.specs.Client.{IsLost, with_handed_back}
use Rattle.pg_client.specs.Keeping.{collecting}
use Rattle.pg_client.proofs.Histories.Unread.{carried}
use Rattle.std.proofs.Common.{◌≡◌, true, false, Some, refl, sym, ap, subst, ◌∙◌}
use Rattle.pg_client.specs.declared.settled.Loss.{Loss}
use Rattle.pg_client.specs.View.{ClientView}
use Rattle.pg_backend.specs.Backend.{BackendState, lost_stage}
use Rattle.pg_backend.specs.History as back
use Rattle.pg_pair.specs.declared.carry.Way.TheVariants.{ToClient}
use Rattle.pg_pair.specs.Breaking.{Breaks, broken, is_closed, BreaksToClient}
use Rattle.pg_pair.specs.Invariant.{Tied}
use Rattle.pg_pair.specs.View.{PairView}

-- the pair after the way to the client broke, and after the way to the backend broke
abbrev pub client_told : {C : Type 0} → PairView C → ClientView → Loss → PairView C
client_told p c loss = record p { client = c; to_client = broken p.to_client; loss = Some loss }

pub keeps_client_told : {C : Type 0} (p : PairView C) (c : ClientView) (loss : Loss) → IsLost collecting p.client loss c → Tied p → Tied (client_told p c loss)
keeps_client_told p c loss told t = record {
  client = record {
    history = with_handed_back t.client.history;
    is_history = carried collecting p.client c with_handed_back told.history t.client.history t.client.is_history;
    fed = t.client.fed;
    given = t.client.given;
    sent = t.client.sent;
    fed_before = t.client.fed_before;
    taken = ap (λ k. k.settled) told.keeper ∙ t.client.taken;
    within = t.client.within;
  };
  backend = t.backend;
  turns = t.turns;
}

abbrev pub backend_told : {C : Type 0} → PairView C → BackendState → PairView C
backend_told p b = record p { backend = b; to_backend = broken p.to_backend }

-- a backend that is told that the connection is gone has handled what it had
pub keeps_backend_told : {C : Type 0} (p : PairView C) (b : BackendState) → b ≡ record p.backend { stage = lost_stage p.backend.stage }
    → back.Carries p.backend b back.unchanged → Tied p → Tied (backend_told p b)
keeps_backend_told p b e carries t =
    subst (λ (x : BackendState). Tied (backend_told p x)) (sym e) (record {
      client = t.client;
      backend = record {
        checked = t.backend.checked;
        limit = t.backend.limit;
        history = t.backend.history;
        is_history = subst (back.IsHistoryOf t.backend.history) e (carries t.backend.history t.backend.is_history);
        pushed = t.backend.pushed;
        sent = t.backend.sent;
        faultless = t.backend.faultless;
        not_lost = λ h. absurd cc;
        within = t.backend.within;
      };
      turns = t.turns;
    })

pub breaks_client : {C : Type 0} (p : PairView C) (c : ClientView) (loss : Loss) → is_closed ToClient p ≡ false → IsLost collecting p.client loss c → Breaks ToClient p (client_told p c loss)
breaks_client p c loss going told = subst (λ b. BreaksToClient b p (client_told p c loss)) (sym going) (loss, told, refl)

-- a closed client isn't told
abbrev pub client_marked : {C : Type 0} → PairView C → PairView C
client_marked p = record p { to_client = broken p.to_client }

pub keeps_marked : {C : Type 0} (p : PairView C) → Tied p → Tied (client_marked p)
keeps_marked p t = record { client = t.client; backend = t.backend; turns = t.turns }

pub breaks_closed : {C : Type 0} (p : PairView C) → is_closed ToClient p ≡ true → Breaks ToClient p (client_marked p)
breaks_closed p closed = subst (λ b. BreaksToClient b p (client_marked p)) (sym closed) refl
