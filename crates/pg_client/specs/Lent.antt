-- Taking the items of a client one by one, with rows lent: push keeps bytes, and next_lent hears
-- their messages up to the next item.
use Rattle.std.specs.Prelude.{◌≡◌, ◌≢◌, ℕ, ◌<◌, List, [], ◌∷◌, ◌++◌, length, Option, Some, None, Result, Ok, Err}
use Rattle.pg_wire.specs.message.BackMessage.{BackMessage}
use Rattle.pg_wire.specs.message.BackMessage.TheVariants.{DataRow}
use Rattle.pg_response.specs.Collected.{RowValues}
use Rattle.pg_client.specs.declared.fault.FeedFault.{FeedFault}
use Rattle.pg_client.specs.declared.fault.FeedFault.TheVariants as feeding
use Rattle.pg_client.specs.declared.item.Item.{Item}
use Rattle.pg_client.specs.declared.item.Item.TheVariants.{Early}
use Rattle.pg_client.specs.declared.next.Next.{Next}
use Rattle.pg_client.specs.declared.next.Next.TheVariants as next
use Rattle.pg_client.specs.declared.phase.Cause.{Cause}
use Rattle.pg_client.specs.declared.phase.Cause.TheVariants as cause
use Rattle.pg_client.specs.View.{EarlyView, items_waiting, lent_row, with_items}
use Rattle.pg_client.specs.Client.{Hears, Carries, History, IsHistoryBefore, with_fed, with_given, with_heard}
use Rattle.pg_client.specs.Keeping.{queueing}

-- ---- push

-- What push does to a client that is closed for this reason, or open (None). A closed one returns
-- Closed, and nothing changes. Ok: it keeps the piece, after the bytes that it is still to hear, and
-- lends no row any more. Memory: memory ran out, which closes it; a piece without bytes takes none.
abbrev pub PushesBy : Option Cause → EarlyView → List ℕ → Result Unit FeedFault → EarlyView → Type 0
PushesBy (Some c) old piece result new = (result ≡ Err feeding.Closed) × (new ≡ old)
PushesBy None old piece (Ok x) new = new ≡ record old { kept = old.kept ++ piece; held = None }
PushesBy None old piece (Err feeding.Memory) new = (0 < length piece)
    × (new ≡ record old { closed = Some cause.Memory })
PushesBy None old piece (Err f) new = ⊥

-- The pushed bytes are still to be heard.
pub record Pushes (old : EarlyView) (piece : List ℕ) (result : Result Unit FeedFault)
    (new : EarlyView) : Type 0 where
  pub by_cause : PushesBy old.closed old piece result new
  pub history : result ≡ Ok tt → (unread : List ℕ) (h : History Item)
      → IsHistoryBefore queueing unread h old → IsHistoryBefore queueing (unread ++ piece) h new
  -- where memory ran out, it is as if the piece had been fed, and feed had run out of memory before
  -- it heard a message
  pub refused : (f : FeedFault) → result ≡ Err f → old.closed ≡ None
      → (unread : List ℕ) (h : History Item) → IsHistoryBefore queueing unread h old
      → Hears queueing (with_fed (unread ++ piece) h) (unread ++ piece) [] (Err f) new

-- ---- next_lent

-- A client with this history hears some of the bytes that it was still to hear, all bytes of some
-- messages, puts out what it has to send for these, and gives the item of the last one. The lists at
-- the end are the output before and after.
pub record HearsSome (unread : List ℕ) (h : History Item) (gives : Item) (new : EarlyView)
    (before after : List ℕ) : Type 0 where
  pub added : List ℕ
  pub put : after ≡ before ++ added
  -- the bytes that it hears, and those that it is still to hear
  pub taken : List ℕ
  pub left : List ℕ
  pub cut : unread ≡ taken ++ left
  pub more : List BackMessage
  pub history : IsHistoryBefore queueing left
      (with_given gives (with_heard more [] added (with_fed taken h))) new
  pub none_waits : items_waiting new ≡ []

-- All bytes that were still to be heard are heard, as if they were fed now.
pub record HearsRest (unread : List ℕ) (h : History Item) (result : Result Unit FeedFault)
    (new : EarlyView) (before after : List ℕ) : Type 0 where
  pub added : List ℕ
  pub put : after ≡ before ++ added
  pub hears : Hears queueing (with_fed unread h) unread added result new
  pub none_waits : items_waiting new ≡ []

-- The item is no row.
abbrev pub IsNoRow : Item → Type 0
IsNoRow t = (row : RowValues) → t ≢ Early (DataRow row)

-- What an open client, where no item waits, does with the bytes that it is still to hear, by each
-- history of it. Nothing: it hears all of them. Held: it hears messages up to a row, whose item is
-- given as the row is lent. Item: it hears messages up to one with this item, which is given and is
-- no row. A fault: it hears all messages up to that, and lends no row.
abbrev pub HearsUpTo : EarlyView → Result Next FeedFault → EarlyView → List ℕ → List ℕ → Type 0
HearsUpTo old (Ok next.Nothing) new before after = (lent_row new ≡ None)
    × ((unread : List ℕ) (h : History Item) → IsHistoryBefore queueing unread h old
    → HearsRest unread h (Ok tt) new before after)
HearsUpTo old (Ok next.Held) new before after = (row : RowValues) × (lent_row new ≡ Some row)
    × ((unread : List ℕ) (h : History Item) → IsHistoryBefore queueing unread h old
    → HearsSome unread h (Early (DataRow row)) new before after)
HearsUpTo old (Ok (next.Item t)) new before after = (lent_row new ≡ None)
    × ((unread : List ℕ) (h : History Item) → IsHistoryBefore queueing unread h old
    → IsNoRow t × HearsSome unread h t new before after)
HearsUpTo old (Err f) new before after = (lent_row new ≡ None)
    × ((unread : List ℕ) (h : History Item) → IsHistoryBefore queueing unread h old
    → HearsRest unread h (Err f) new before after)

-- What next_lent does to a client where these items wait, and which is closed for this reason, or
-- open (None). Where items wait, the oldest is given, and nothing else changes. A closed one, where
-- none waits, returns Closed, and nothing changes. Of an open one no item waits then either, as at
-- most one of the messages that it hears has an item, and that is given.
abbrev pub TakesBy : List Item → Option Cause → EarlyView → Result Next FeedFault → EarlyView
    → List ℕ → List ℕ → Type 0
TakesBy (t ∷ ts) closed old result new before after = (result ≡ Ok (next.Item t))
    × (new ≡ with_items old ts) × (after ≡ before) × Carries queueing old new (with_given t)
TakesBy [] (Some c) old result new before after = (result ≡ Err feeding.Closed) × (new ≡ old)
    × (after ≡ before)
TakesBy [] None old result new before after = HearsUpTo old result new before after

-- What next_lent does. The arguments are the client before, the result, the client after, and the
-- output before and after.
abbrev pub TakesLent : EarlyView → Result Next FeedFault → EarlyView → List ℕ → List ℕ → Type 0
TakesLent old result new before after =
    TakesBy (items_waiting old) old.closed old result new before after
