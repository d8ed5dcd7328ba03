-- How clients are served from a file: it is read, its script is judged, and then one client after
-- another is served.
use Rattle.std.specs.Prelude.{ℕ, ◌≡◌, ◌-◌, ◌^◌, ◌⊎◌, List, Option, Some, None, Result, Ok, Err}
use Rattle.pg_backend.specs.declared.script_fault.ScriptFault.{ScriptFault}
use Rattle.pg_backend.specs.declared.script.Script.{Script}
use Rattle.pg_backend.specs.Check.{Checks}
use Rattle.pgpipe_base.specs.declared.fault.ToolFault.{ToolFault}
use Rattle.pgpipe_base.specs.declared.fault.ToolFault.TheVariants as fault
use Rattle.pgpipe_lines.specs.declared.fault.LineFault.{LineFault}
use Rattle.pgpipe_files.specs.ScriptFile.{script_of}
use Rattle.pgpipe_loop.specs.Clients.{ServesAll}
use Rattle.pgpipe_reasons.specs.declared.failure.Failure.{Failure}
use Rattle.pgpipe_reasons.specs.declared.failure.Failure.TheVariants as failure
use Rattle.pgpipe_reasons.specs.Failure.{check_failure, script_failure}
use Rattle.pgpipe_cli.specs.LoopFiles.{IsAt}

-- how many clients are served at most: so many, or without a number 2^64 - 1, more than ever come
abbrev pub most_clients : Option ℕ → ℕ
most_clients (Some count) = count
most_clients None = 2 ^ 64 - 1

-- what the answer of `serve_all` means for the program
abbrev pub served_result : Result Unit ToolFault → Result Unit Failure
served_result (Ok x) = Ok tt
served_result (Err fault.Device) = Err failure.Device
served_result (Err fault.Memory) = Err failure.Memory

-- `gives` to `failures` are those of the links, the clients and the sink, as `serve_all` has them.
module _ {L C K : Type 0} (gives takes : L → List ℕ → L → Type 0) (has_ended : L → Type 0)
    (receive_failures send_failures : L → ℕ) (brings : C → L → C → Type 0) (fails : C → C → Type 0)
    (sends : K → List ℕ → K → Type 0) (failures : K → ℕ) (port count : ℕ) (clients : C) (sink : K)
    (result : Result Unit Failure) (clients' : C) (sink' : K) where
  -- This failure is the result, no client was awaited, and nothing was sent.
  abbrev pub FailsBy : Failure → Type 0
  FailsBy f = (result ≡ Err f) × (clients' ≡ clients) × (sink' ≡ sink)

  -- By what `check` answered: clients were served if the script can be played, and else its fault
  -- is the failure.
  abbrev pub ServesJudged : List ℕ → Result Unit ScriptFault → Type 0
  ServesJudged bytes (Ok x) = (answer : Result Unit ToolFault)
      × ServesAll gives takes has_ended receive_failures send_failures brings fails bytes sends
      failures port count clients sink answer clients' sink'
      × (result ≡ served_result answer)
  ServesJudged bytes (Err f) = FailsBy (check_failure f)

  -- Clients were served from this script, which these bytes say, and which is judged first.
  abbrev pub ServesScript : List ℕ → Script → Type 0
  ServesScript bytes script = (judged : Result Unit ScriptFault) × Checks script judged
      × ServesJudged bytes judged

  module _ (holds : List ℕ → List ℕ → Type 0) (misses : List ℕ → Failure → Type 0) where
    -- Clients were served from the file at this path, by what came of it: it can't be read; or it
    -- has these bytes, which have a fault, or memory ran out for them; or they say a script.
    abbrev pub ServesFile : List ℕ → Type 0
    ServesFile path = ((f : Failure) × misses path f × FailsBy f)
        ⊎ ((bytes : List ℕ) × holds path bytes
        × (((f : LineFault) × IsAt f (script_of bytes) × FailsBy (script_failure f))
        ⊎ ((script : Script) × (script_of bytes ≡ Ok script) × ServesScript bytes script)))
