-- What sending all of some bytes does: calls of `send` take them from their front.
use Rattle.std.specs.Prelude.{◌≡◌, ◌≢◌, ℕ, List, [], ◌++◌, Result, Ok, Err}
use Rattle.std.specs.List.{FoldsTo, concat}
use Rattle.pg_wire.specs.Link.{HasRisen}
use Rattle.pg_wire.specs.declared.link.LinkFault.{LinkFault}

-- `takes` and `failures` are those of the link, as a sink.
module _ {L : Type 0} (takes : L → List ℕ → L → Type 0) (failures : L → ℕ) where
  -- Calls of `send` took these bytes together, none failed, and they left the link so.
  pub record Sends (link : L) (bytes : List ℕ) (link' : L) : Type 0 where
    pub pieces : List (List ℕ)
    pub calls : FoldsTo takes link pieces link'
    pub whole : concat pieces ≡ bytes
    pub none_failed : failures link' ≡ failures link

  -- Bytes were sent from their front until a call of `send` failed, which took none. Some are left,
  -- and those only weren't sent.
  pub record FailsToSend (link : L) (bytes left : List ℕ) (link' : L) : Type 0 where
    pub sent : List ℕ
    pub split : bytes ≡ sent ++ left
    pub some_left : left ≢ []
    -- the link before the call that failed
    pub before : L
    pub was_sent : Sends link sent before
    pub took_none : takes before [] link'
    pub counted : HasRisen (failures before) (failures link')

  -- What sending these bytes comes to, by its result: all were sent and none is left, or a call of
  -- `send` failed.
  abbrev pub SendsOut : L → List ℕ → Result Unit LinkFault → L → List ℕ → Type 0
  SendsOut link bytes (Ok x) link' left = Sends link bytes link' × (left ≡ [])
  SendsOut link bytes (Err fault) link' left = FailsToSend link bytes left link'

  -- What sending these bytes does, by its result, where it doesn't matter how many are left.
  abbrev pub SendsAll : L → List ℕ → Result Unit LinkFault → L → Type 0
  SendsAll link bytes (Ok x) link' = Sends link bytes link'
  SendsAll link bytes (Err fault) link' = (left : List ℕ) × FailsToSend link bytes left link'
