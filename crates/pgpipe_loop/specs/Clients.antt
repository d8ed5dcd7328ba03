-- What `serve_all` does: clients are served one after another, each from the script's beginning.
use Rattle.std.specs.Prelude.{◌≡◌, ℕ, ◌+◌, ◌<◌, ◌⊎◌, List, [], ◌∷◌, ◌++◌, Result, Ok, Err}
use Rattle.pg_copy.specs.Row.{Row}
use Rattle.pg_backend.specs.Check.{IsChecked}
use Rattle.pg_backend.specs.declared.script.Script.{Script}
use Rattle.pgpipe_base.specs.declared.fault.ToolFault.{ToolFault}
use Rattle.pgpipe_base.specs.declared.fault.ToolFault.TheVariants as tool
use Rattle.pgpipe_files.specs.ScriptFile.{script_of}
use Rattle.pgpipe_loop.specs.Lines.{port_row}
use Rattle.pgpipe_loop.specs.Serving.{AreCutOff, AreSent, IsServed, IsServedInPart, IsServedSoFar}

-- Each script that these bytes say can be played.
abbrev pub CanBePlayed : List ℕ → Type 0
CanBePlayed bytes = (script : Script) → script_of bytes ≡ Ok script → IsChecked script

-- The first five are those of the link to a client, as in Serving. `brings` and `fails` are those of
-- the clients.
module _ {L C : Type 0} (gives takes : L → List ℕ → L → Type 0) (has_ended : L → Type 0)
    (receive_failures send_failures : L → ℕ) (brings : C → L → C → Type 0) (fails : C → C → Type 0)
    (bytes : List ℕ) where
  -- From `start` on so many clients were served, one after the other, each over the link that was
  -- given for it and from the script's beginning. These are still to come, and these are the lines
  -- of all, as rows.
  pub data AreServed (start : C) : ℕ → C → List Row → Type 0 where
    none_yet : AreServed start 0 start []
    one_more : (count : ℕ) (old new : C) (link link' : L) (script : Script) (before rows : List Row)
        → AreServed start count old before
        → brings old link new → script_of bytes ≡ Ok script
        → IsServed gives takes has_ended receive_failures send_failures script link link' rows
        → AreServed start (count + 1) new (before ++ rows)

  -- The next client has come, and these are its lines, as rows, by what holds of them.
  abbrev pub NextHas : (Script → L → List Row → Type 0) → C → List Row → Type 0
  NextHas holds clients rows = (link : L) × (new : C) × (script : Script) × brings clients link new
      × (script_of bytes ≡ Ok script) × holds script link rows

  -- These are the lines of some turns of the next client, as rows, or none if it hasn't come or
  -- memory ran out for its script.
  abbrev pub IsNextInPart : C → List Row → Type 0
  IsNextInPart clients rows = (rows ≡ [])
      ⊎ NextHas (IsServedInPart gives takes has_ended receive_failures send_failures) clients rows

  -- These are the lines of the next client, as rows, so far.
  abbrev pub IsNextSoFar : C → List Row → Type 0
  IsNextSoFar clients rows =
      NextHas (IsServedSoFar gives takes has_ended receive_failures send_failures) clients rows

  module _ {K : Type 0} (sends : K → List ℕ → K → Type 0) (failures : K → ℕ) where
    -- After the lines of the rows `first` were sent from this sink on: `count` clients are to be
    -- served, from `start` on.
    module _ (first : List Row) (count : ℕ) (start : C) (sink : K) where
      -- Fewer clients than that were served to the end, and memory ran out: whole lines were
      -- sent.
      pub record IsRefused (sink' : K) : Type 0 where
        pub done : ℕ
        pub fewer : done < count
        pub clients : C
        pub before : List Row
        pub rows : List Row
        pub served : AreServed start done clients before
        pub next : IsNextInPart clients rows
        pub sent : AreSent sends failures sink (first ++ (before ++ rows)) sink'

      -- Fewer clients than that were served to the end, and the next one couldn't be had, or the
      -- sink failed.
      pub record IsBroken (clients' : C) (sink' : K) : Type 0 where
        pub done : ℕ
        pub fewer : done < count
        pub clients : C
        pub before : List Row
        pub served : AreServed start done clients before
        pub broke : (fails clients clients' × AreSent sends failures sink (first ++ before) sink')
            ⊎ ((rows : List Row) × IsNextSoFar clients rows
            × AreCutOff sends failures sink (first ++ (before ++ rows)) sink')

      -- By the result: so many clients were served, and all lines sent; or memory ran out; or
      -- a client couldn't be had, or the sink failed.
      abbrev pub ServesAfter : Result Unit ToolFault → C → K → Type 0
      ServesAfter (Ok x) clients' sink' = (rows : List Row) × AreServed start count clients' rows
          × AreSent sends failures sink (first ++ rows) sink'
      ServesAfter (Err tool.Memory) clients' sink' = IsRefused sink'
      ServesAfter (Err tool.Device) clients' sink' = IsBroken clients' sink'

    -- What `serve_all` comes to, by its result: the line of the port was sent, and then so many
    -- clients were served; or memory ran out for that line, or the sink failed in it.
    abbrev pub ServesAll : (port count : ℕ) (start : C) → K → Result Unit ToolFault → C → K
        → Type 0
    ServesAll port count start sink (Ok x) clients' sink' =
        ServesAfter (port_row port ∷ []) count start sink (Ok x) clients' sink'
    ServesAll port count start sink (Err tool.Memory) clients' sink' =
        (sink' ≡ sink)
        ⊎ ServesAfter (port_row port ∷ []) count start sink (Err tool.Memory) clients' sink'
    ServesAll port count start sink (Err tool.Device) clients' sink' =
        AreCutOff sends failures sink (port_row port ∷ []) sink'
        ⊎ ServesAfter (port_row port ∷ []) count start sink (Err tool.Device) clients' sink'
