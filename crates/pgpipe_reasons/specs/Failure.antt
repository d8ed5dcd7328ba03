-- How the program fails.
use Rattle.std.specs.Prelude.{ℕ, ◌≡◌, Option, Some, None, Result, Ok, Err}
use Rattle.pgpipe_reasons.specs.declared.failure.Failure.{Failure}
use Rattle.pgpipe_reasons.specs.declared.failure.Failure.TheVariants as failure
use Rattle.pgpipe_show.specs.declared.both.turn.Ended.{Ended}
use Rattle.pgpipe_show.specs.declared.both.turn.Ended.TheVariants as ending
use Rattle.pgpipe_show.specs.declared.both.turn.BothEnds.{BothEnds}
use Rattle.pgpipe_convert.specs.declared.convert.Converted.{Converted}
use Rattle.pgpipe_convert.specs.declared.convert.Converted.TheVariants as converted
use Rattle.pg_backend.specs.declared.script_fault.ScriptFault.{ScriptFault}
use Rattle.pg_backend.specs.declared.script_fault.ScriptFault.TheVariants as check
use Rattle.pgpipe_lines.specs.declared.fault.LineFault.{LineFault}
use Rattle.pgpipe_lines.specs.declared.fault.LineFault.TheVariants as line
use Rattle.pgpipe_loop.specs.declared.run_loop.Ran.{Ran}
use Rattle.pgpipe_loop.specs.declared.run_loop.Ran.TheVariants as ran
use Rattle.pgpipe_loop.specs.declared.run_loop.places.Place.{Place}
use Rattle.pgpipe_show.specs.declared.show.Shown.{Shown}
use Rattle.pgpipe_show.specs.declared.show.Shown.TheVariants as shown
use Rattle.pgpipe_base.specs.declared.fault.ToolFault.{ToolFault}
use Rattle.pgpipe_base.specs.declared.fault.ToolFault.TheVariants as fault

-- the exit status: 1 for a wrong word; 2 for wrong options, for a fault of what was read, and where
-- a broken loop wasn't seen to settle what was answered; 3 for a failed file, stream or carrier; 4
-- where memory ran out
abbrev pub failure_status : Failure → ℕ
failure_status failure.NotUtf8 = 1
failure_status failure.Delimiter = 1
failure_status failure.BreaksOverTcp = 1
failure_status failure.BreaksTraced = 1
failure_status failure.Sides = 1
failure_status (failure.Options f) = 2
failure_status (failure.Rest n) = 2
failure_status (failure.Fault f) = 2
failure_status (failure.FrontRest n) = 2
failure_status (failure.FrontFault f) = 2
failure_status (failure.BackRest n) = 2
failure_status (failure.BackFault f) = 2
failure_status failure.Encrypted = 2
failure_status (failure.Text f) = 2
failure_status (failure.Binary f) = 2
failure_status (failure.Row f) = 2
failure_status (failure.Script n) = 2
failure_status (failure.Calls n) = 2
failure_status (failure.Check f) = 2
failure_status (failure.Unseen place) = 2
failure_status failure.Device = 3
failure_status failure.Memory = 4

-- What the result of `show` means for the program: success where the stream is whole, and else a
-- failure.
abbrev pub ShowResults : Result Shown ToolFault → Result Unit Failure → Type 0
ShowResults (Ok shown.Whole) r = r ≡ Ok tt
ShowResults (Ok (shown.Rest n)) r = r ≡ Err (failure.Rest n)
ShowResults (Ok (shown.Fault f)) r = r ≡ Err (failure.Fault f)
ShowResults (Err fault.Device) r = r ≡ Err failure.Device
ShowResults (Err fault.Memory) r = r ≡ Err failure.Memory

-- How the program ends, by how the server's stream ended, where the client's has no fault. After a
-- request to cancel nothing is missing.
abbrev pub back_result : Ended → Result Unit Failure
back_result ending.Whole = Ok tt
back_result (ending.Rest n) = Err (failure.BackRest n)
back_result (ending.Fault f) = Err (failure.BackFault f)
back_result ending.Canceled = Ok tt
back_result ending.Encrypted = Err failure.Encrypted

-- How the program ends, by how both streams ended: the client's fault comes first.
abbrev pub ends_result : Ended → Ended → Result Unit Failure
ends_result ending.Whole back = back_result back
ends_result (ending.Rest n) back = Err (failure.FrontRest n)
ends_result (ending.Fault f) back = Err (failure.FrontFault f)
ends_result ending.Canceled back = back_result back
ends_result ending.Encrypted back = Err failure.Encrypted

-- What the result of `show_both` means for the program: success where both streams are whole, and else
-- a failure.
abbrev pub BothResults : Result BothEnds ToolFault → Result Unit Failure → Type 0
BothResults (Ok ends) r = r ≡ ends_result ends.front ends.back
BothResults (Err fault.Device) r = r ≡ Err failure.Device
BothResults (Err fault.Memory) r = r ≡ Err failure.Memory

-- What the result of `convert_with` means for the program: success where the file is whole, and else a
-- failure.
abbrev pub ConversionResults : Result Converted ToolFault → Result Unit Failure → Type 0
ConversionResults (Ok converted.Whole) r = r ≡ Ok tt
ConversionResults (Ok (converted.Text f)) r = r ≡ Err (failure.Text f)
ConversionResults (Ok (converted.Binary f)) r = r ≡ Err (failure.Binary f)
ConversionResults (Ok (converted.Row f)) r = r ≡ Err (failure.Row f)
ConversionResults (Err fault.Device) r = r ≡ Err failure.Device
ConversionResults (Err fault.Memory) r = r ≡ Err failure.Memory

-- what a fault in reading SCRIPT means for the program
abbrev pub script_failure : LineFault → Failure
script_failure (line.Line n) = failure.Script n
script_failure line.Memory = failure.Memory

-- what a fault in reading CALLS means for the program
abbrev pub calls_failure : LineFault → Failure
calls_failure (line.Line n) = failure.Calls n
calls_failure line.Memory = failure.Memory

-- what the answer of `check`, that a script can't be played, means for the program
abbrev pub check_failure : ScriptFault → Failure
check_failure check.Memory = failure.Memory
check_failure f = failure.Check f

-- What the result of `run_loop` means for the program: success where no event came to Carrier, and
-- else a failure.
abbrev pub LoopResults : Result Ran ToolFault → Result Unit Failure → Type 0
LoopResults (Ok ran.Whole) r = r ≡ Ok tt
LoopResults (Ok ran.CarrierFailed) r = r ≡ Err failure.Device
LoopResults (Err fault.Device) r = r ≡ Err failure.Device
LoopResults (Err fault.Memory) r = r ≡ Err failure.Memory

-- What the result of `break_everywhere` means for the program: success where it names no place at
-- which the headline wasn't seen, and else a failure that names it.
abbrev pub BreakResults : Result (Option Place) ToolFault → Result Unit Failure → Type 0
BreakResults (Ok None) r = r ≡ Ok tt
BreakResults (Ok (Some place)) r = r ≡ Err (failure.Unseen place)
BreakResults (Err fault.Device) r = r ≡ Err failure.Device
BreakResults (Err fault.Memory) r = r ≡ Err failure.Memory
