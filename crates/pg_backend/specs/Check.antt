-- Which scripts can be played.
use Rattle.std.specs.Prelude.{None, ◌≡◌, nat_le, count_by, Bool, true, false, List, [], ◌∷◌, ◌++◌, map, Result, Ok, Err}
use Rattle.std.specs.List.{flat_map, list_all, AllByRecursion}
use Rattle.pg_wire.specs.message.BackMessage.{BackMessage}
use Rattle.pg_wire.specs.message.BackMessage.TheVariants as back
use Rattle.pg_wire.specs.Backend.{backend}
use Rattle.pg_wire.specs.Direction.{encode_fault, HasSpelling}
use Rattle.pg_wire.specs.Segment.{messages_of}
use Rattle.pg_backend.specs.declared.script_fault.ScriptFault.{ScriptFault}
use Rattle.pg_backend.specs.declared.script_fault.ScriptFault.TheVariants as faults
use Rattle.pg_backend.specs.declared.script.Answer.{Answer}
use Rattle.pg_backend.specs.declared.script.Load.TheVariants.{Refuse}
use Rattle.pg_backend.specs.declared.script.Script.{Script}
use Rattle.pg_backend.specs.declared.script.ScriptPart.{ScriptPart}
use Rattle.pg_backend.specs.declared.script.ScriptPart.TheVariants as part
use Rattle.pg_backend.specs.Outcome.{complete}
use Rattle.pg_backend.specs.Replies.{aside_message, error_sent}
use Rattle.pg_backend.specs.Opening.{pair_message, key_messages}

-- ---- copies

-- whether the part is a copy from the client
abbrev pub is_copy_in : ScriptPart → Bool
is_copy_in (part.CopyIn head load) = true
is_copy_in p = false

-- whether the answer has at most one copy from the client
abbrev pub has_one_copy : Answer → Bool
has_one_copy a = nat_le (count_by is_copy_in a.parts) 1

-- Each answer of the script has at most one copy from the client.
abbrev pub HasOneCopyEach : Script → Type 0
HasOneCopyEach s = list_all has_one_copy s.answers ≡ true

-- ---- messages

-- the messages that may be sent for a part; for a copy that is rejected, its CopyInResponse and its
-- error
abbrev pub part_messages : ScriptPart → List BackMessage
part_messages (part.CopyIn head (Refuse after fields)) =
    back.CopyIn head ∷ back.ErrorResponse fields ∷ []
part_messages p = flat_map messages_of (complete p)

-- the messages that may be sent for an answer, but for ReadyForQuery, whether it fits its request
-- or not
abbrev pub answer_messages : Answer → List BackMessage
answer_messages a =
    map aside_message a.before ++ (flat_map part_messages a.parts ++ error_sent a.error)

-- the messages whose content the script gives: its run-time parameters, its key, and those of all
-- its answers
abbrev pub script_messages : Script → List BackMessage
script_messages s =
    map pair_message s.pairs ++ (key_messages s.key ++ flat_map answer_messages s.answers)

-- Each of the script's messages has a spelling.
abbrev pub IsSpelledWhole : Script → Type 0
IsSpelledWhole s = AllByRecursion (HasSpelling backend) (script_messages s)

-- No encoder would reject a message of the script. For a script in a program that means that each
-- has a spelling, as its numbers are of their types.
abbrev pub IsEncodable : Script → Type 0
IsEncodable s = AllByRecursion (λ m. encode_fault backend m ≡ None) (script_messages s)

-- The script can be played: an answer has at most one copy from the client, and each message has a
-- spelling.
pub record IsChecked (s : Script) : Type 0 where
  pub one_copy : HasOneCopyEach s
  pub spelled : IsSpelledWhole s

-- What `check` returns: Ok where the script can be played; S1 for an answer with two copies from
-- the client, else S2 for a message without a spelling; S3 Memory only where neither holds.
abbrev pub Checks : Script → Result Unit ScriptFault → Type 0
Checks s (Ok x) = IsChecked s
Checks s (Err faults.Copies) = HasOneCopyEach s → ⊥
Checks s (Err faults.Encode) = HasOneCopyEach s × (IsEncodable s → ⊥)
Checks s (Err faults.Memory) = HasOneCopyEach s × IsEncodable s
