-- Why the work on a stream stops.
use Rattle.std.specs.Prelude.{ℕ, zero, suc}
use Rattle.pg_wire.specs.declared.fault.WireFault.{WireFault}
use Rattle.pg_wire.specs.declared.fault.WireFault.TheVariants as wire
use Rattle.pgpipe_base.specs.declared.stop.Stop.{Stop}
use Rattle.pgpipe_base.specs.declared.stop.Stop.TheVariants as stop
use Rattle.pgpipe_show.specs.declared.show.Shown.{Shown}
use Rattle.pgpipe_show.specs.declared.show.Shown.TheVariants as shown

-- why the work stops where a decoder, or a reader of frames, answers a fault
abbrev pub fault_stop : WireFault → Stop Shown
fault_stop wire.Memory = stop.Memory
fault_stop f = stop.Answer (shown.Fault f)

-- why the work stops where the source has ended, and so many bytes are left
abbrev pub end_stop : ℕ → Stop Shown
end_stop zero = stop.Answer shown.Whole
end_stop (suc n) = stop.Answer (shown.Rest (suc n))
