-- What a call puts out. The last argument of these definitions is the output after the call, and
-- `before` the output before.
use Rattle.std.specs.Prelude.{◌≡◌, ℕ, List, ◌++◌, Bool, true, false, Option, Some, None, Result, Ok, Err}
use Rattle.std.specs.List.{flat_map, AllByRecursion}
use Rattle.pg_wire.specs.fault.EncodeFault.{EncodeFault}
use Rattle.pg_wire.specs.fault.EncodeFault.TheVariants as encoding
use Rattle.pg_wire.specs.message.BackMessage.{BackMessage}
use Rattle.pg_wire.specs.message.FrontMessage.{FrontMessage}
use Rattle.pg_wire.specs.Direction.{spelling, HasSpelling}
use Rattle.pg_wire.specs.Frontend.{frontend}
use Rattle.pg_wire.specs.Password.{md5_text}
use Rattle.pg_client.specs.declared.settings.Settings.{Settings}
use Rattle.pg_client.specs.declared.call.Call.TheVariants as call
use Rattle.pg_client.specs.declared.fault.FeedFault.{FeedFault}
use Rattle.pg_client.specs.declared.fault.FeedFault.TheVariants as feeding
use Rattle.pg_client.specs.Sent.{answer_to, call_fault, first_fault, sent_by, IsSpelled}
use Rattle.pg_client.specs.Stand.{can_answer}

-- All of these messages are appended, or nothing is, and the fault says why: it is that of the
-- first message that has one, or Memory where none has.
abbrev pub SendsAll : List FrontMessage → List ℕ → Result Unit EncodeFault → List ℕ → Type 0
SendsAll messages before (Ok x) after = AllByRecursion (HasSpelling frontend) messages
    × (after ≡ before ++ flat_map (spelling frontend) messages)
SendsAll messages before (Err encoding.Memory) after = (first_fault messages ≡ None)
    × (after ≡ before)
SendsAll messages before (Err f) after = (first_fault messages ≡ Some f) × (after ≡ before)

-- The startup packet is appended, or nothing is, and the fault says why: it is that of the packet,
-- or else of the password, or Memory where neither has one.
abbrev pub SendsStart : Settings → List ℕ → Result Unit EncodeFault → List ℕ → Type 0
SendsStart settings before (Ok x) after = IsSpelled settings call.Start
    × (after ≡ before ++ sent_by settings call.Start)
SendsStart settings before (Err encoding.Memory) after = (call_fault settings call.Start ≡ None)
    × (after ≡ before)
SendsStart settings before (Err f) after = (call_fault settings call.Start ≡ Some f)
    × (after ≡ before)

-- The text of the PasswordMessage ("Start-up"): the password as it is, or its MD5 text for this
-- user where the server gave a salt.
abbrev pub password_text : List ℕ → List ℕ → Option (List ℕ) → List ℕ
password_text user password None = password
password_text user password (Some salt) = md5_text user password salt

-- The bytes of what is sent for a message are appended.
abbrev pub PutsAnswer : Settings → BackMessage → List ℕ → List ℕ → Type 0
PutsAnswer settings m before after = AllByRecursion (HasSpelling frontend) (answer_to settings m)
    × (after ≡ before ++ flat_map (spelling frontend) (answer_to settings m))

-- What is sent for a message of the startup is appended, or nothing is: there is no password where one
-- is asked for, or memory ran out.
abbrev pub SendsAnswer : Settings → BackMessage → List ℕ → Result Unit FeedFault → List ℕ → Type 0
SendsAnswer settings m before (Ok x) after = (can_answer settings.password m ≡ true)
    × PutsAnswer settings m before after
SendsAnswer settings m before (Err feeding.PasswordWanted) after =
    (can_answer settings.password m ≡ false) × (after ≡ before)
SendsAnswer settings m before (Err feeding.Memory) after = after ≡ before
SendsAnswer settings m before (Err f) after = ⊥

-- Some bytes are appended, or none.
abbrev pub Lengthens : List ℕ → List ℕ → Type 0
Lengthens before after = (some : List ℕ) × (after ≡ before ++ some)

-- All of these messages are appended. Where there is a fault, any bytes may be appended, which the
-- caller takes away; it is the fault of the first message that has one, or Memory where none has.
abbrev pub Puts : List FrontMessage → List ℕ → Result Unit EncodeFault → List ℕ → Type 0
Puts messages before (Ok x) after = AllByRecursion (HasSpelling frontend) messages
    × (after ≡ before ++ flat_map (spelling frontend) messages)
Puts messages before (Err encoding.Memory) after = (first_fault messages ≡ None)
    × Lengthens before after
Puts messages before (Err f) after = (first_fault messages ≡ Some f) × Lengthens before after

-- Whether memory ran out so far, after one more message was put out: `starved` is whether it
-- was before. A fault of that message is kept as the answer.
abbrev pub starved_after : Bool → Result Unit EncodeFault → Result Bool EncodeFault
starved_after starved (Ok x) = Ok starved
starved_after starved (Err encoding.Memory) = Ok true
starved_after starved (Err f) = Err f

-- These messages have no fault, and all are appended (false). Or memory ran out for one (true),
-- and any bytes may be appended.
abbrev pub ArePut : List FrontMessage → List ℕ → Bool → List ℕ → Type 0
ArePut messages before false now = AllByRecursion (HasSpelling frontend) messages
    × (now ≡ before ++ flat_map (spelling frontend) messages)
ArePut messages before true now = (first_fault messages ≡ None) × Lengthens before now
