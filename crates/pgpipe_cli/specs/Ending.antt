-- How the program ends where its words are no task.
use Rattle.std.specs.Prelude.{◌≡◌, ◌≢◌, ◌⊎◌, Result, Ok, Err}
use Rattle.std.specs.Process.{exit_status}
use Rattle.std.specs.declared.process.ExitCode.{ExitCode}
use Rattle.clap.specs.declared.error.kind.ErrorKind.{ErrorKind}
use Rattle.clap.specs.declared.error.kind.ErrorKind.TheVariants as kind
use Rattle.pgpipe_reasons.specs.declared.failure.Failure.{Failure}
use Rattle.pgpipe_reasons.specs.declared.failure.Failure.TheVariants as failure

-- This kind of clap's errors is no mistake in the words: help or the version was asked for.
abbrev pub IsHelp : ErrorKind → Type 0
IsHelp k = (k ≡ kind.DisplayHelp) ⊎ (k ≡ kind.DisplayVersion)

-- How the program ends where clap has an error for the words: help with status 0, a mistake with 1.
-- Where the text can't be printed, that is the failure Device. Where memory ran out, it is Memory.
abbrev pub Explains : ErrorKind → Result ExitCode Failure → Type 0
Explains k (Ok code) = (k ≢ kind.OutOfMemory) × (IsHelp k → exit_status code ≡ 0)
    × ((IsHelp k → ⊥) → exit_status code ≡ 1)
Explains k (Err failure.Memory) = k ≡ kind.OutOfMemory
Explains k (Err failure.Device) = k ≢ kind.OutOfMemory
Explains k (Err _) = ⊥
