-- What is done at a Startup that names a user.
use Rattle.std.specs.Prelude.{ℕ, ◌≡◌, List, [], Result, Ok, Err}
use Rattle.pg_wire.specs.message.BackMessage.{BackMessage}
use Rattle.pg_wire.specs.Password.{md5_text}
use Rattle.pg_backend.specs.declared.fault.BackendFault.{BackendFault}
use Rattle.pg_backend.specs.declared.fault.BackendFault.TheVariants as faults
use Rattle.pg_backend.specs.declared.script.Auth.{Auth}
use Rattle.pg_backend.specs.declared.script.Auth.TheVariants.{Trust, Cleartext, Md5}
use Rattle.pg_backend.specs.declared.script.Script.{Script}
use Rattle.pg_backend.specs.declared.stage.Awaits.{Awaits}
use Rattle.pg_backend.specs.declared.stage.Awaits.TheVariants as awaits
use Rattle.pg_backend.specs.Lists.{IsPrefix}
use Rattle.pg_backend.specs.Opening.{welcome, question}
use Rattle.pg_backend.specs.Private.Telling.{AreSent}

-- what is awaited then
abbrev pub awaits_first : Auth → List ℕ → Awaits
awaits_first Trust user = awaits.Request []
awaits_first (Cleartext password) user = awaits.Password password
awaits_first (Md5 password salt) user = awaits.Password (md5_text user password salt)

-- what is sent
abbrev pub greeting : Script → Auth → List BackMessage
greeting s Trust = welcome s
greeting s auth = question auth

-- Both; or memory ran out, and some bytes may stand after what was there.
abbrev pub Greets : Script → List ℕ → List ℕ → Result Awaits BackendFault → List ℕ → Type 0
Greets s user old (Ok awaits) new =
    (awaits ≡ awaits_first s.auth user) × AreSent (greeting s s.auth) old new
Greets s user old (Err f) new = (f ≡ faults.Memory) × IsPrefix old new
