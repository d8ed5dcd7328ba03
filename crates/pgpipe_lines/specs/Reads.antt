-- What a function that reads a line returns: what its definition gives, or that there is nothing,
-- unless memory ran out.
use Rattle.std.specs.Prelude.{◌≡◌, ℕ, Option, Some, None, Result, Ok, Err}
use Rattle.pg_copy.specs.Row.{Row}
use Rattle.pgpipe_lines.specs.declared.fault.LineFault.{LineFault}
use Rattle.pgpipe_lines.specs.declared.fault.LineFault.TheVariants as fault
use Rattle.pgpipe_lines.specs.declared.fault.Refusal.{Refusal}
use Rattle.pgpipe_lines.specs.declared.fault.Refusal.TheVariants.{Wrong, Memory}

-- a fault that comes of this reading: a line that is rejected as wrong is read as nothing
abbrev pub Fails : {A : Type 0} → Refusal → Option A → Type 0
Fails Memory read = Unit {0}
Fails Wrong read = read ≡ None

-- a function returns what the fields of a line are read as
abbrev pub ReadsAs : {A : Type 0} → Result A Refusal → Option A → Type 0
ReadsAs (Ok x) read = read ≡ Some x
ReadsAs (Err e) read = Fails e read

-- a function that takes a value off the fields, and leaves those after it
abbrev pub TakesOff : {A : Type 0} → Result A Refusal → Row → Option (A × Row) → Type 0
TakesOff (Ok x) left read = read ≡ Some (x, left)
TakesOff (Err e) left read = Fails e read

-- a function that changes something, and leaves it so
abbrev pub Leaves : {S : Type 0} → Result Unit Refusal → S → Option S → Type 0
Leaves (Ok x) new read = read ≡ Some new
Leaves (Err e) new read = Fails e read

-- the fault of a file whose row of this number is rejected
abbrev pub fault_at : Refusal → ℕ → LineFault
fault_at Wrong n = fault.Line n
fault_at Memory n = fault.Memory

-- a function that reads a whole file, and leaves what was read so
abbrev pub LeavesAll : {S : Type 0} → Result Unit LineFault → S → Result S ℕ → Type 0
LeavesAll (Ok x) new read = read ≡ Ok new
LeavesAll (Err (fault.Line n)) new read = read ≡ Err n
LeavesAll (Err fault.Memory) new read = Unit {0}
