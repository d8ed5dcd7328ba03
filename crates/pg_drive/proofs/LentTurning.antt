-- How a session finds its next event, and turns in which it finds none.
use Rattle.std.proofs.Common.{◌≡◌, ℕ, ◌+◌, ◌<◌, ◌≤◌, List, [], Option, Some, None, Result, Ok, Err, refl, sym, inl, inr, subst}
use Rattle.pg_client.specs.declared.item.Item.TheVariants as item
use Rattle.pg_client.specs.declared.next.Next.{Next}
use Rattle.pg_client.specs.declared.next.Next.TheVariants as next
use Rattle.pg_client.specs.View.{EarlyView}
use Rattle.pg_client.specs.Lent.{TakesLent}
use Rattle.pg_drive.specs.declared.event.Event.{Event}
use Rattle.pg_drive.specs.declared.event.Event.TheVariants as event
use Rattle.pg_drive.specs.declared.event.SessionFault.{SessionFault}
use Rattle.pg_drive.specs.declared.event.SessionFault.TheVariants as fault
use Rattle.pg_drive.specs.Drive.{connected}
use Rattle.pg_drive.specs.Early.{LinkedEarly}
use Rattle.pg_drive.specs.Lent.{FailsTurn, GivesLent, Hears, HearsNext, LentAnswers, LentTurn}
use Rattle.pg_drive.specs.Private.LentTurning.{TakesLentTurn, TakesPiece, TellsNext, WaitsOn}
use Rattle.pg_wire.specs.Sending.{Sends}
use Rattle.pg_drive.proofs.Turning.{WentOn, went_one_more}

module _ {L : Type 0} (takes : L → List ℕ → L → Type 0) (send_failures : L → ℕ) where
  -- nothing is sent where nothing waits
  pub sends_nothing : (link : L) → Sends takes send_failures link [] link
  sends_nothing link = record { pieces = []; calls = refl; whole = refl; none_failed = refl }

  waited : (old : LinkedEarly L) (client : EarlyView) (put : List ℕ) (result : Result (Option Event) SessionFault) (new : LinkedEarly L) → TakesLent old.client (Ok next.Nothing) client old.out put → WaitsOn takes send_failures (connected old.link client put) result new
      → Hears takes send_failures old result new
  waited old client put (Ok None) new heard w =
      (w.0, w.1, record { put = put; heard = subst (λ (v : EarlyView). TakesLent old.client (Ok next.Nothing) v old.out put) (sym w.2.client) heard; sent = w.2.sent; none_left = w.2.none_left; in_phase = w.2.in_phase })
  waited old client put (Ok (Some event.CopyIn)) new heard w =
      record { put = put; heard = subst (λ (v : EarlyView). TakesLent old.client (Ok next.Nothing) v old.out put) (sym w.client) heard; sent = w.sent; none_left = w.none_left; in_phase = w.in_phase }
  waited old client put (Ok (Some event.Row)) new heard w = absurd w
  waited old client put (Ok (Some (event.Message m))) new heard w = absurd w
  waited old client put (Ok (Some (event.Settled request status))) new heard w = absurd w
  waited old client put (Err (fault.Lost loss)) new heard w = record { put = put; client = client; heard = heard; sent = w.sent; lost = w.lost }
  waited old client put (Err (fault.Call f)) new heard w = absurd w
  waited old client put (Err (fault.Feed f loss)) new heard w = absurd w
  waited old client put (Err fault.PiecesUsed) new heard w = absurd w
  waited old client put (Err fault.Memory) new heard w = absurd w

  heard_next : (old : LinkedEarly L) (heard : Next) (client : EarlyView) (put : List ℕ) (new : LinkedEarly L) → TakesLent old.client (Ok heard) client old.out put → new ≡ connected old.link client put → HearsNext old heard new
  heard_next old heard client put new t same = subst (λ (c : LinkedEarly L). HearsNext old heard c) (sym same) (record { takes = t; link = refl })

  -- what was heard, by what is told of it
  pub hears_told : (old : LinkedEarly L) (heard : Next) (client : EarlyView) (put : List ℕ) (result : Result (Option Event) SessionFault) (new : LinkedEarly L) → TakesLent old.client (Ok heard) client old.out put
      → TellsNext takes send_failures heard (connected old.link client put) result new → Hears takes send_failures old result new
  hears_told old next.Nothing client put result new t told = waited old client put result new t told
  hears_told old next.Held client put result new t told =
      subst (λ (r : Result (Option Event) SessionFault). Hears takes send_failures old r new) (sym told.0) (heard_next old next.Held client put new t told.1)
  hears_told old (next.Item (item.Early m)) client put result new t told =
      subst (λ (r : Result (Option Event) SessionFault). Hears takes send_failures old r new) (sym told.0) (heard_next old (next.Item (item.Early m)) client put new t told.1)
  hears_told old (next.Item (item.Settled request status)) client put result new t told =
      subst (λ (r : Result (Option Event) SessionFault). Hears takes send_failures old r new) (sym told.0) (heard_next old (next.Item (item.Settled request status)) client put new t told.1)

module _ {L : Type 0} (gives takes : L → List ℕ → L → Type 0) (has_ended : L → Type 0) (receive_failures send_failures : L → ℕ) where
  -- a turn in which an event was found
  pub turn_finds : (old : LinkedEarly L) (found : Option Event) (one : Event) (new : LinkedEarly L) → found ≡ Some one → Hears takes send_failures old (Ok found) new
      → TakesLentTurn gives takes has_ended receive_failures send_failures old (Ok (Some one)) new
  turn_finds old found one new some h = subst (λ (o : Option Event). Hears takes send_failures old (Ok o) new) some h

  -- nothing was found, so nothing waits to be sent
  found_none : (old : LinkedEarly L) (found : Option Event) (link : L) (client : EarlyView) (out : List ℕ) → found ≡ None → Hears takes send_failures old (Ok found) (connected link client out) → (out ≡ []) × Hears takes send_failures old (Ok None) (connected link client [])
  found_none old found link client out none h =
      let heard : Hears takes send_failures old (Ok None) (connected link client out) = subst (λ (o : Option Event). Hears takes send_failures old (Ok o) (connected link client out)) none h in
      let empty : out ≡ [] = heard.2.none_left in
      (empty, subst (λ (o : List ℕ). Hears takes send_failures old (Ok None) (connected link client o)) empty heard)

  -- a turn in which a piece was pushed
  pub turn_pushes : (old : LinkedEarly L) (found : Option Event) (link : L) (client : EarlyView) (out : List ℕ) (link' : L) (client' : EarlyView) → found ≡ None → Hears takes send_failures old (Ok found) (connected link client out)
      → TakesPiece gives takes has_ended receive_failures send_failures (connected link client []) (Ok tt) (connected link' client' []) → TakesLentTurn gives takes has_ended receive_failures send_failures old (Ok None) (connected link' client' out)
  turn_pushes old found link client out link' client' none h t =
      let k = found_none old found link client out none h in
      let turned : LentTurn gives takes has_ended receive_failures send_failures old t.0 (connected link' client' []) = record { between = connected link client []; heard = k.1; turn = t.1 } in
      (t.0, subst (λ (o : List ℕ). LentTurn gives takes has_ended receive_failures send_failures old t.0 (connected link' client' o)) (sym k.0) turned)

  -- a turn in which none was
  pub turn_fails : (old : LinkedEarly L) (found : Option Event) (link : L) (client : EarlyView) (out : List ℕ) (f : SessionFault) (link' : L) (client' : EarlyView) → found ≡ None → Hears takes send_failures old (Ok found) (connected link client out)
      → TakesPiece gives takes has_ended receive_failures send_failures (connected link client []) (Err f) (connected link' client' []) → TakesLentTurn gives takes has_ended receive_failures send_failures old (Err f) (connected link' client' out)
  turn_fails old found link client out f link' client' none h t =
      let k = found_none old found link client out none h in
      let failed : FailsTurn gives takes has_ended receive_failures send_failures old f (connected link' client' []) = record { between = connected link client []; heard = k.1; failed = t } in
      inr (subst (λ (o : List ℕ). FailsTurn gives takes has_ended receive_failures send_failures old f (connected link' client' o)) (sym k.0) failed)

  -- one turn more went on
  pub went_lent : (start : LinkedEarly L) (count : ℕ) (mid : LinkedEarly L) (found : Option Event) (new : LinkedEarly L) → WentOn (LentTurn gives takes has_ended receive_failures send_failures) start count mid → found ≡ None
      → TakesLentTurn gives takes has_ended receive_failures send_failures mid (Ok found) new → WentOn (LentTurn gives takes has_ended receive_failures send_failures) start (count + 1) new
  went_lent start count mid found new w none took =
      let t : TakesLentTurn gives takes has_ended receive_failures send_failures mid (Ok None) new = subst (λ (o : Option Event). TakesLentTurn gives takes has_ended receive_failures send_failures mid (Ok o) new) none took in
      went_one_more (LentTurn gives takes has_ended receive_failures send_failures) start count mid t.0 new w t.1

  -- this many turns went on, and this was answered then
  pub gives_lent : (most count : ℕ) (old last : LinkedEarly L) (result : Result Event SessionFault) (new : LinkedEarly L) → WentOn (LentTurn gives takes has_ended receive_failures send_failures) old count last
      → LentAnswers gives takes has_ended receive_failures send_failures most count last result new → GivesLent gives takes has_ended receive_failures send_failures most old result new
  gives_lent most count old last result new w a = record {
    pieces = w.pieces;
    last = last;
    went_on = w.turns;
    answered = subst (λ (n : ℕ). LentAnswers gives takes has_ended receive_failures send_failures most n last result new) (sym w.counted) a;
  }

  -- an event was found
  pub finds_lent : (most count : ℕ) (old : LinkedEarly L) (found : Option Event) (one : Event) (new : LinkedEarly L) → count ≤ most → found ≡ Some one → Hears takes send_failures old (Ok found) new
      → LentAnswers gives takes has_ended receive_failures send_failures most count old (Ok one) new
  finds_lent most count old found one new within some h = (within, subst (λ (o : Option Event). Hears takes send_failures old (Ok o) new) some h)

  -- an event was found in a turn
  pub finds_in_turn : (most count : ℕ) (old : LinkedEarly L) (found : Option Event) (one : Event) (new : LinkedEarly L) → count ≤ most → found ≡ Some one → TakesLentTurn gives takes has_ended receive_failures send_failures old (Ok found) new
      → LentAnswers gives takes has_ended receive_failures send_failures most count old (Ok one) new
  finds_in_turn most count old found one new within some t =
      (within, subst (λ (o : Option Event). TakesLentTurn gives takes has_ended receive_failures send_failures old (Ok o) new) some t)

  -- the last look found nothing
  pub used_lent : (most count : ℕ) (old : LinkedEarly L) (found : Option Event) (new : LinkedEarly L) → count ≡ most → found ≡ None → Hears takes send_failures old (Ok found) new
      → LentAnswers gives takes has_ended receive_failures send_failures most count old (Err fault.PiecesUsed) new
  used_lent most count old found new all none h = (all, subst (λ (o : Option Event). Hears takes send_failures old (Ok o) new) none h)

  -- a fault was found in a turn
  pub fails_in_turn : (most count : ℕ) (old : LinkedEarly L) (f : SessionFault) (new : LinkedEarly L) → count < most → count ≤ most → TakesLentTurn gives takes has_ended receive_failures send_failures old (Err f) new
      → LentAnswers gives takes has_ended receive_failures send_failures most count old (Err f) new
  fails_in_turn most count old (fault.Call f) new less within (inl h) = absurd h
  fails_in_turn most count old (fault.Call f) new less within (inr k) = absurd k.failed
  fails_in_turn most count old (fault.Feed f loss) new less within (inl h) = inl (within, h)
  fails_in_turn most count old (fault.Feed f loss) new less within (inr k) = inr (less, k)
  fails_in_turn most count old (fault.Lost loss) new less within (inl h) = inl (within, h)
  fails_in_turn most count old (fault.Lost loss) new less within (inr k) = inr (less, k)
  fails_in_turn most count old fault.PiecesUsed new less within (inl h) = absurd h
  fails_in_turn most count old fault.PiecesUsed new less within (inr k) = absurd k.failed
  fails_in_turn most count old fault.Memory new less within (inl h) = absurd h
  fails_in_turn most count old fault.Memory new less within (inr k) = absurd k.failed

  -- a fault was found in the last look
  pub fails_lent : (most count : ℕ) (old : LinkedEarly L) (f : SessionFault) (new : LinkedEarly L) → count ≤ most → Hears takes send_failures old (Err f) new
      → LentAnswers gives takes has_ended receive_failures send_failures most count old (Err f) new
  fails_lent most count old (fault.Call f) new within h = absurd h
  fails_lent most count old (fault.Feed f loss) new within h = inl (within, h)
  fails_lent most count old (fault.Lost loss) new within h = inl (within, h)
  fails_lent most count old fault.PiecesUsed new within h = absurd h
  fails_lent most count old fault.Memory new within h = absurd h
