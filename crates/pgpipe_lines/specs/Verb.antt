-- Which word of a line is which verb, and which words stand after some of them.
use Rattle.std.specs.Prelude.{ℕ, List, Option, Some, None, if◌then◌else◌, codes}
use Rattle.std.specs.Str.{bytes_eq}
use Rattle.pgpipe_lines.specs.declared.verb.AnswerVerb.{AnswerVerb}
use Rattle.pgpipe_lines.specs.declared.verb.AnswerVerb.TheVariants as answer
use Rattle.pgpipe_lines.specs.declared.verb.AuthWay.{AuthWay}
use Rattle.pgpipe_lines.specs.declared.verb.AuthWay.TheVariants as way
use Rattle.pgpipe_lines.specs.declared.verb.CallVerb.{CallVerb}
use Rattle.pgpipe_lines.specs.declared.verb.CallVerb.TheVariants as call
use Rattle.pgpipe_lines.specs.declared.verb.CopyFormat.{CopyFormat}
use Rattle.pgpipe_lines.specs.declared.verb.CopyFormat.TheVariants as format
use Rattle.pgpipe_lines.specs.declared.verb.LoadWay.{LoadWay}
use Rattle.pgpipe_lines.specs.declared.verb.LoadWay.TheVariants as load
use Rattle.pgpipe_lines.specs.declared.verb.EndWay.{EndWay}
use Rattle.pgpipe_lines.specs.declared.verb.EndWay.TheVariants as end
use Rattle.pgpipe_lines.specs.declared.verb.StepVerb.{StepVerb}
use Rattle.pgpipe_lines.specs.declared.verb.StepVerb.TheVariants as step
use Rattle.pg_wire.specs.value.Target.{Target}
use Rattle.pg_wire.specs.value.Target.TheVariants as target
use Rattle.pgpipe_lines.specs.declared.verb.ScriptVerb.{ScriptVerb}
use Rattle.pgpipe_lines.specs.declared.verb.ScriptVerb.TheVariants as script

-- the verb of a line of SCRIPT that belongs to no answer, or begins one
abbrev pub script_verb : List ℕ → Option ScriptVerb
script_verb word =
    if bytes_eq word (codes "auth") then Some script.Auth
    else if bytes_eq word (codes "pair") then Some script.Pair
    else if bytes_eq word (codes "key") then Some script.Key
    else if bytes_eq word (codes "answer") then Some script.Answer
    else None

-- the word after `auth`: how a client is let in
abbrev pub auth_way : List ℕ → Option AuthWay
auth_way word =
    if bytes_eq word (codes "trust") then Some way.Trust
    else if bytes_eq word (codes "cleartext") then Some way.Cleartext
    else if bytes_eq word (codes "md5") then Some way.Md5
    else None

-- the verb of a line of SCRIPT that belongs to an answer
abbrev pub answer_verb : List ℕ → Option AnswerVerb
answer_verb word =
    if bytes_eq word (codes "notice") then Some answer.Notice
    else if bytes_eq word (codes "set") then Some answer.Set
    else if bytes_eq word (codes "notify") then Some answer.Notify
    else if bytes_eq word (codes "rows") then Some answer.Rows
    else if bytes_eq word (codes "row") then Some answer.Row
    else if bytes_eq word (codes "command") then Some answer.Command
    else if bytes_eq word (codes "empty") then Some answer.Empty
    else if bytes_eq word (codes "copyout") then Some answer.CopyOut
    else if bytes_eq word (codes "chunk") then Some answer.Chunk
    else if bytes_eq word (codes "copyin") then Some answer.CopyIn
    else if bytes_eq word (codes "parsed") then Some answer.Parsed
    else if bytes_eq word (codes "bound") then Some answer.Bound
    else if bytes_eq word (codes "paramtypes") then Some answer.ParamTypes
    else if bytes_eq word (codes "described") then Some answer.Described
    else if bytes_eq word (codes "executed") then Some answer.Executed
    else if bytes_eq word (codes "shut") then Some answer.Shut
    else if bytes_eq word (codes "error") then Some answer.Error
    else None

-- the word for the format of a copy
abbrev pub format_of : List ℕ → Option CopyFormat
format_of word =
    if bytes_eq word (codes "text") then Some format.Text
    else if bytes_eq word (codes "binary") then Some format.Binary
    else None

-- the word for how a copy from the client ends
abbrev pub load_way : List ℕ → Option LoadWay
load_way word =
    if bytes_eq word (codes "accept") then Some load.Accept
    else if bytes_eq word (codes "refuse") then Some load.Refuse
    else None

-- the word for how an Execute ended
abbrev pub end_way : List ℕ → Option EndWay
end_way word =
    if bytes_eq word (codes "complete") then Some end.Complete
    else if bytes_eq word (codes "empty") then Some end.Empty
    else if bytes_eq word (codes "suspended") then Some end.Suspended
    else None

-- the verb of a line of CALLS in a group; `sync` isn't among these
abbrev pub step_verb : List ℕ → Option StepVerb
step_verb word =
    if bytes_eq word (codes "parse") then Some step.Parse
    else if bytes_eq word (codes "bind") then Some step.Bind
    else if bytes_eq word (codes "describe") then Some step.Describe
    else if bytes_eq word (codes "execute") then Some step.Execute
    else if bytes_eq word (codes "close") then Some step.Close
    else None

-- the letter after `describe` or `close`: S for a statement, P for a portal
abbrev pub target_of : List ℕ → Option Target
target_of letter =
    if bytes_eq letter (codes "S") then Some target.Statement
    else if bytes_eq letter (codes "P") then Some target.Portal
    else None

-- the verb of a line of CALLS in no group
abbrev pub call_verb : List ℕ → Option CallVerb
call_verb word =
    if bytes_eq word (codes "user") then Some call.User
    else if bytes_eq word (codes "database") then Some call.Database
    else if bytes_eq word (codes "option") then Some call.Parameter
    else if bytes_eq word (codes "password") then Some call.Password
    else if bytes_eq word (codes "start") then Some call.Start
    else if bytes_eq word (codes "query") then Some call.Query
    else if bytes_eq word (codes "group") then Some call.Group
    else if bytes_eq word (codes "chunk") then Some call.Chunk
    else if bytes_eq word (codes "file") then Some call.File
    else if bytes_eq word (codes "done") then Some call.Done
    else if bytes_eq word (codes "fail") then Some call.Fail
    else if bytes_eq word (codes "terminate") then Some call.Terminate
    else if bytes_eq word (codes "toback") then Some call.ToBackend
    else if bytes_eq word (codes "toclient") then Some call.ToClient
    else if bytes_eq word (codes "step") then Some call.Step
    else if bytes_eq word (codes "breakback") then Some call.BreakToBackend
    else if bytes_eq word (codes "breakclient") then Some call.BreakToClient
    else if bytes_eq word (codes "flow") then Some call.Flow
    else None
