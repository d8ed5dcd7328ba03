-- What functions answer that read a path or a whole file: what its definition gives, or that there is nothing, unless memory ran out.
use Rattle.std.specs.Prelude.{◌≡◌, ℕ, List, Option, Some, Result, Ok, Err, String, string_bytes}
use Rattle.pgpipe_lines.specs.declared.fault.LineFault.{LineFault}
use Rattle.pgpipe_lines.specs.declared.fault.LineFault.TheVariants as fault
use Rattle.pgpipe_lines.specs.declared.fault.Refusal.{Refusal}
use Rattle.pgpipe_lines.specs.Reads.{Fails}

-- a function that makes a text of bytes
abbrev pub GivesText : {Z : Type 0} → Result (String Z) Refusal → Option (List ℕ) → Type 0
GivesText (Ok x) read = read ≡ Some (string_bytes x)
GivesText (Err e) read = Fails e read

-- a function that answers what a whole file is read as, seen by view
abbrev pub ReadsFileAs : {A B : Type 0} → (A → B) → Result A LineFault → Result B ℕ → Type 0
ReadsFileAs view (Ok x) read = read ≡ Ok (view x)
ReadsFileAs view (Err (fault.Line n)) read = read ≡ Err n
ReadsFileAs view (Err fault.Memory) read = Unit {0}
