-- A client that is still to hear no bytes.
use Rattle.std.proofs.Common.{ℕ, List, [], sym, subst, ◌∙◌}
use Rattle.std.proofs.lemmas.List.{append-nil}
use Rattle.pg_client.specs.View.{View}
use Rattle.pg_client.specs.Client.{Carries, History, IsHistoryBefore, IsHistoryOf, Keeps}

module _ {K : Type 0} (way : Keeps K) where
  pub none_unread : (h : History way.Given) (client : View K) → IsHistoryOf way h client → IsHistoryBefore way [] h client
  none_unread h client r = record { first = client.kept; kept = sym (append-nil client.kept); history = r }

  pub all_read : (h : History way.Given) (client : View K) → IsHistoryBefore way [] h client → IsHistoryOf way h client
  all_read h client r = subst (λ (bs : List ℕ). IsHistoryOf way h (record client { kept = bs })) (sym (append-nil r.first) ∙ sym r.kept) r.history

  -- what a call appends to the history of such a client
  pub carried : (old new : View K) (append : History way.Given → History way.Given) → Carries way old new append → (h : History way.Given) → IsHistoryOf way h old → IsHistoryOf way (append h) new
  carried old new append carries h r = all_read (append h) new (carries [] h (none_unread h old r))
