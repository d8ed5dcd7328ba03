-- What is so of one end stays so while the other end sends more.
use Rattle.std.proofs.Common.{◌≡◌, ℕ, List, ◌++◌, length, take, ap, sym, ◌∙◌, arith, length-append}
use Rattle.std.proofs.lemmas.List.{take-append-le}
use Rattle.pg_pair.specs.Invariant.{BackendTied, ClientTied, IsWithin}
use Rattle.pg_pair.specs.View.{WayState, arrived, PairView}

-- a way on which this was sent
abbrev pub with_sent : WayState → List ℕ → WayState
with_sent s sent = record s { sent = sent }

-- what had arrived is as it was
pub still_arrived : (s : WayState) (sent added : List ℕ) → sent ≡ s.sent ++ added → IsWithin s → arrived s ≡ arrived (with_sent s sent)
still_arrived s sent added more within = sym (ap (take s.reached) more ∙ take-append-le s.reached s.sent added within)

pub still_within : (s : WayState) (sent added : List ℕ) → sent ≡ s.sent ++ added → IsWithin s → IsWithin (with_sent s sent)
still_within s sent added more within = let n = ap length more in omega (arith, n, within, length-append s.sent added)

unfoldable pub client_stays : {C : Type 0} (p : PairView C) (sent added : List ℕ) → sent ≡ p.to_client.sent ++ added
    → ClientTied p → ClientTied (record p { to_client = with_sent p.to_client sent })
client_stays p sent added more t = record {
  history = t.history;
  is_history = t.is_history;
  fed = t.fed ∙ still_arrived p.to_client sent added more t.within;
  given = t.given;
  sent = t.sent;
  fed_before = t.fed_before;
  taken = t.taken;
  within = still_within p.to_client sent added more t.within;
}

pub backend_stays : {C : Type 0} (p : PairView C) (sent added : List ℕ) → sent ≡ p.to_backend.sent ++ added
    → BackendTied p → BackendTied (record p { to_backend = with_sent p.to_backend sent })
backend_stays p sent added more t = record {
  checked = t.checked;
  limit = t.limit;
  history = t.history;
  is_history = t.is_history;
  pushed = t.pushed ∙ still_arrived p.to_backend sent added more t.within;
  sent = t.sent;
  faultless = t.faultless;
  not_lost = t.not_lost;
  within = still_within p.to_backend sent added more t.within;
}
