-- Several messages that are written to a buffer as one.
use Rattle.std.specs.Prelude.{ℕ, ◌≡◌, ◌++◌, List, None, Result, Ok, Err}
use Rattle.std.specs.List.{flat_map, AllByRecursion}
use Rattle.pg_wire.specs.fault.EncodeFault.{EncodeFault}
use Rattle.pg_wire.specs.fault.EncodeFault.TheVariants as faults
use Rattle.pg_wire.specs.message.BackMessage.{BackMessage}
use Rattle.pg_backend.specs.declared.script_fault.ScriptFault.{ScriptFault}
use Rattle.pg_backend.specs.declared.script_fault.ScriptFault.TheVariants as scripts
use Rattle.pg_wire.specs.Backend.{backend}
use Rattle.pg_wire.specs.Direction.{spelling, encode_fault, HasSpelling}

-- No encoder would reject one of these messages.
abbrev pub AreEncodable : List BackMessage → Type 0
AreEncodable ms = AllByRecursion (λ m. encode_fault backend m ≡ None) ms

-- Ok: each message has a spelling, and the bytes are all of these, in order. Memory: no message is
-- at fault. Any other fault: some message is.
abbrev pub AreEncoded : List BackMessage → List ℕ → Result Unit EncodeFault → Type 0
AreEncoded ms added (Ok x) = AllByRecursion (HasSpelling backend) ms
    × (added ≡ flat_map (spelling backend) ms)
AreEncoded ms added (Err faults.Memory) = AreEncodable ms
AreEncoded ms added (Err f) = AreEncodable ms → ⊥

-- The messages were appended to the buffer. Where the answer is a fault, some of their bytes may
-- have been appended.
pub record EncodesAll (ms : List BackMessage) (old : List ℕ)
    (result : Result Unit EncodeFault) (new : List ℕ) : Type 0 where
  pub added : List ℕ
  pub appended : new ≡ old ++ added
  pub says : AreEncoded ms added result

-- the result of two writes, one after the other: Ok where both are, else the first fault other than
-- Memory, else Memory
abbrev pub both : Result Unit EncodeFault → Result Unit EncodeFault → Result Unit EncodeFault
both (Ok x) second = second
both (Err faults.Memory) (Ok x) = Err faults.Memory
both (Err faults.Memory) (Err f) = Err f
both (Err f) second = Err f

-- what an encoder's fault in one of a script's messages is in `check`: S3 Memory for Memory, and
-- else S2 Encode
abbrev pub script_fault : EncodeFault → ScriptFault
script_fault faults.Memory = scripts.Memory
script_fault f = scripts.Encode
