-- Why a file isn't read where its reader gives no row.
use Rattle.std.specs.Prelude.{ℕ}
use Rattle.pg_copy.specs.fault.TextFault.{TextFault}
use Rattle.pg_copy.specs.fault.TextFault.TheVariants as text_fault
use Rattle.pgpipe_lines.specs.declared.fault.LineFault.{LineFault}
use Rattle.pgpipe_lines.specs.declared.fault.LineFault.TheVariants as fault

-- the fault of a file whose row of this number isn't given
abbrev pub text_fault_at : TextFault → ℕ → LineFault
text_fault_at text_fault.Memory n = fault.Memory
text_fault_at _ n = fault.Line n
