-- What is sent as the work of a tool stops, and what the tool returns then.
use Rattle.std.specs.Prelude.{ℕ, ◌≡◌, List, [], Result, Ok, Err, IsErr}
use Rattle.pg_wire.specs.declared.link.LinkFault.{LinkFault}
use Rattle.pgpipe_base.specs.declared.fault.ToolFault.{ToolFault}
use Rattle.pgpipe_base.specs.declared.fault.ToolFault.TheVariants as fault
use Rattle.pgpipe_base.specs.declared.stop.Stop.{Stop}
use Rattle.pgpipe_base.specs.declared.stop.Stop.TheVariants as stop
use Rattle.pgpipe_base.specs.Outbox.{Puts}

-- As the work stops, what is still collected is sent; where the sink has failed, nothing is, and
-- the result is an error.
abbrev pub Settles : {K A : Type 0} → (K → List ℕ → K → Type 0) → (K → ℕ) → Stop A → List ℕ → K
    → Result Unit LinkFault → K → Type 0
Settles takes failures stop.SinkFailed collected sink result sink' = IsErr result × (sink' ≡ sink)
Settles takes failures _ collected sink result sink' =
    Puts {A = Unit {0}} takes failures collected sink [] result [] sink'

-- a tool's answer where its work stopped for this reason, and all that was collected could be sent
abbrev pub answer_of : {A : Type 0} → Stop A → Result A ToolFault
answer_of (stop.Answer answer) = Ok answer
answer_of stop.Memory = Err fault.Memory
answer_of _ = Err fault.Device
