-- What a carrier over two ends does: a piece is sent at one end and received at the other.
use Rattle.std.specs.Prelude.{ℕ, ◌≡◌, ◌+◌, ◌<◌, ◌⊎◌, List, [], length, min, Result, Ok, Err, IsErr}
use Rattle.std.specs.List.{FoldsTo, concat}
use Rattle.pg_wire.specs.declared.link.LinkFault.{LinkFault}
use Rattle.pg_wire.specs.Link.{HasRisen, last_count}
use Rattle.pg_pair.specs.declared.carry.CarryFault.{CarryFault}
use Rattle.pg_pair.specs.declared.carry.Way.{Way}
use Rattle.pg_pair.specs.declared.carry.Way.TheVariants.{ToBackend, ToClient}
use Rattle.pgpipe_base.specs.Outbox.{Puts}

-- the two ends, and how many calls of the carrier have failed
pub record CarrierEnds (A B : Type 0) : Type 0 where
  pub client : A
  pub backend : B
  pub failures : ℕ

-- the count of failures after a call: one more for a fault, up to its greatest value
abbrev pub count_after : Result (List ℕ) CarryFault → ℕ → ℕ
count_after (Ok bytes) n = n
count_after (Err fault) n = min (n + 1) last_count

-- The first of two facts for the way to the backend, and the second for the way to the client.
abbrev pub Along : Way → Type 0 → Type 0 → Type 0
Along ToBackend first second = first
Along ToClient first second = second

-- ---- what is received

module _ {S : Type 0} (gives : S → List ℕ → S → Type 0) (failures : S → ℕ) (has_ended : S → Type 0)
  where
    -- By the result: the bytes are the pieces together, as many as were wanted, and no call failed;
    -- or there are fewer, and a call failed or found the end.
    abbrev pub AreReceived : List (List ℕ) → ℕ → S → Result (List ℕ) CarryFault → S → Type 0
    AreReceived pieces wanted source (Ok bytes) source' = (concat pieces ≡ bytes)
        × (length bytes ≡ wanted) × (failures source' ≡ failures source)
    AreReceived pieces wanted source (Err fault) source' = (length (concat pieces) < wanted)
        × (HasRisen (failures source) (failures source') ⊎ has_ended source')

    -- So many bytes were wanted of a source. It gave them in pieces, call by call, or failed or
    -- ended before.
    pub record Receives (wanted : ℕ) (source : S) (result : Result (List ℕ) CarryFault)
        (source' : S) : Type 0 where
      pub pieces : List (List ℕ)
      pub calls : FoldsTo gives source pieces source'
      pub received : AreReceived pieces wanted source result source'

-- ---- a piece that goes from one end to the other

module _ {K S : Type 0} (takes : K → List ℕ → K → Type 0) (sink_failures : K → ℕ) (gives : S
    → List ℕ → S → Type 0) (source_failures : S → ℕ) (has_ended : S → Type 0) where
  -- By what came of sending: as many bytes were wanted as were sent; or sending failed, and nothing
  -- was received.
  abbrev pub ReceivesAfter : Result Unit LinkFault → ℕ → S → Result (List ℕ) CarryFault → S
      → Type 0
  ReceivesAfter (Ok x) sent source result source' =
      Receives gives source_failures has_ended sent source result source'
  ReceivesAfter (Err fault) sent source result source' = IsErr result × (source' ≡ source)

  -- A piece was sent at one end, all of it or, where that end failed, a prefix. Once all of it was
  -- sent, as many bytes were received at the other end.
  pub record Crosses (piece : List ℕ) (sink : K) (source : S) (result : Result (List ℕ) CarryFault)
      (sink' : K) (source' : S) : Type 0 where
    pub sending : Result Unit LinkFault
    pub sent : Puts takes sink_failures [] sink piece sending [] sink'
    pub received : ReceivesAfter sending (length piece) source result source'
