-- The histories of a pair's ends.
use Rattle.pg_client.specs.Keeping.{collecting}
use Rattle.std.proofs.Common.{ℕ, List, subst}
use Rattle.pg_client.specs.declared.settled.Settled.{Settled}
use Rattle.pg_client.specs.Client.{History, IsHistoryOf}
use Rattle.pg_backend.specs.History as back
use Rattle.pg_pair.specs.Invariant.{Tied}
use Rattle.pg_pair.specs.View.{arrived, PairView}

-- a history of the client, with what the pair holds of it
abbrev pub in_pair : {C : Type 0} → PairView C → History Settled → History Settled
in_pair p h = record h { fed = arrived p.to_client; given = p.settled; sent = p.to_backend.sent }

pub tied_history : {C : Type 0} (p : PairView C) (t : Tied p) → IsHistoryOf collecting (in_pair p t.client.history) p.client
tied_history p t =
    subst (λ (bs : List ℕ). IsHistoryOf collecting (record t.client.history { fed = bs; given = p.settled; sent = p.to_backend.sent }) p.client) t.client.fed
    (subst (λ (ts : List Settled). IsHistoryOf collecting (record t.client.history { given = ts; sent = p.to_backend.sent }) p.client) t.client.given
    (subst (λ (bs : List ℕ). IsHistoryOf collecting (record t.client.history { sent = bs }) p.client) t.client.sent t.client.is_history))

-- what the backend has handled of what has reached it
pub tied_handled : {C : Type 0} (p : PairView C) (t : Tied p) → back.HasHandled p.backend (arrived p.to_backend) t.backend.history.input t.backend.history.rest p.to_client.sent
tied_handled p t =
    subst (λ (bs : List ℕ). back.IsHistoryOf (record t.backend.history { pushed = bs; sent = p.to_client.sent }) p.backend) t.backend.pushed
    (subst (λ (bs : List ℕ). back.IsHistoryOf (record t.backend.history { sent = bs }) p.backend) t.backend.sent t.backend.is_history)
