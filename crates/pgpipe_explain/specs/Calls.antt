-- Why a line of CALLS is rejected.
use Rattle.std.specs.Prelude.{ℕ, ◌==◌, ◌&&◌, Bool, true, false, if◌then◌else◌, List, [], ◌∷◌, Option, Some, None, codes}
use Rattle.std.specs.Str.{bytes_eq}
use Rattle.pg_copy.specs.Row.{Row}
use Rattle.pgpipe_lines.specs.declared.verb.CallVerb.{CallVerb}
use Rattle.pgpipe_lines.specs.declared.verb.CallVerb.TheVariants as call
use Rattle.pgpipe_lines.specs.declared.verb.StepVerb.{StepVerb}
use Rattle.pgpipe_lines.specs.declared.verb.StepVerb.TheVariants as step
use Rattle.pgpipe_lines.specs.Verb.{call_verb, step_verb}
use Rattle.pgpipe_explain.specs.declared.calls.CallsSearch.{CallsSearch}
use Rattle.pgpipe_explain.specs.declared.calls.CallsSeen.{CallsSeen}
use Rattle.pgpipe_explain.specs.declared.fields.Tail.TheVariants as tail
use Rattle.pgpipe_explain.specs.declared.kind.FieldKind.TheVariants as kind
use Rattle.pgpipe_explain.specs.declared.reason.LineReason.{LineReason}
use Rattle.pgpipe_explain.specs.declared.reason.LineReason.TheVariants as reason
use Rattle.pgpipe_explain.specs.Fields.{judge_fields, or_else}
use Rattle.pgpipe_explain.specs.Verbs.{is_of_calls, is_of_script, is_sync, no_verb}

-- ---- the fields of a line

-- why these can't be the fields of a step
abbrev pub step_fields : StepVerb → Row → Option LineReason
step_fields step.Parse fields =
    judge_fields (kind.Text ∷ kind.Text ∷ []) (tail.All kind.Number) fields
step_fields step.Bind fields = judge_fields (kind.Text ∷ kind.Text ∷ []) tail.Values fields
step_fields step.Describe fields = judge_fields (kind.Target ∷ kind.Text ∷ []) tail.Nothing fields
step_fields step.Execute fields = judge_fields (kind.Text ∷ kind.Signed ∷ []) tail.Nothing fields
step_fields step.Close fields = judge_fields (kind.Target ∷ kind.Text ∷ []) tail.Nothing fields

-- why these can't be the fields of a line that stands in no group
abbrev pub call_fields : CallVerb → Row → Option LineReason
call_fields call.User fields = judge_fields (kind.Text ∷ []) tail.Nothing fields
call_fields call.Database fields = judge_fields (kind.Text ∷ []) tail.Nothing fields
call_fields call.Password fields = judge_fields (kind.Text ∷ []) tail.Nothing fields
call_fields call.Query fields = judge_fields (kind.Text ∷ []) tail.Nothing fields
call_fields call.Chunk fields = judge_fields (kind.Text ∷ []) tail.Nothing fields
call_fields call.Fail fields = judge_fields (kind.Text ∷ []) tail.Nothing fields
call_fields call.Parameter fields = judge_fields (kind.Text ∷ kind.Text ∷ []) tail.Nothing fields
call_fields call.File fields = judge_fields (kind.Path ∷ []) tail.Nothing fields
call_fields call.ToBackend fields = judge_fields (kind.Number ∷ []) tail.Nothing fields
call_fields call.ToClient fields = judge_fields (kind.Number ∷ []) tail.Nothing fields
call_fields verb fields = judge_fields [] tail.Nothing fields

-- ---- a line

-- a setting, which stands before `start`
abbrev pub is_setting : CallVerb → Bool
is_setting call.User = true
is_setting call.Database = true
is_setting call.Parameter = true
is_setting call.Password = true
is_setting _ = false

-- why a word begins no line of CALLS
abbrev pub no_call : List ℕ → LineReason
no_call word = if is_of_script word then reason.OfScript else no_verb word

-- why a line in a group is rejected, by the step that its verb is
abbrev pub grouped_by : Option StepVerb → List ℕ → Row → Option LineReason
grouped_by (Some verb) word fields = step_fields verb fields
grouped_by None word fields =
    if is_sync word then judge_fields [] tail.Nothing fields
    else if is_of_calls word then Some reason.InGroup
    else Some (no_call word)

-- why a line in a group is rejected
abbrev pub judge_grouped : List ℕ → Row → Option LineReason
judge_grouped word fields = grouped_by (step_verb word) word fields

-- a `group` whose line has no fault of its own isn't ended
abbrev pub open_group : CallVerb → Option LineReason
open_group call.Group = Some reason.OpenGroup
open_group _ = None

-- why a line with this verb is rejected that stands in no group
abbrev pub judge_call : Bool → CallVerb → Row → Option LineReason
judge_call started verb fields =
    if started && is_setting verb then Some reason.AfterStart
    else or_else (call_fields verb fields) (open_group verb)

-- why a line in no group is rejected, by its verb
abbrev pub alone_by : Option CallVerb → Bool → List ℕ → Row → Option LineReason
alone_by (Some verb) started word fields = judge_call started verb fields
alone_by None started word fields =
    if is_of_calls word then Some reason.NoGroup else Some (no_call word)

-- why a line in no group is rejected
abbrev pub judge_alone : Bool → List ℕ → Row → Option LineReason
judge_alone started word fields = alone_by (call_verb word) started word fields

-- why a line with this verb is rejected
abbrev pub judge_calls : CallsSeen → List ℕ → Row → Option LineReason
judge_calls s word fields =
    if s.grouped then judge_grouped word fields else judge_alone s.started word fields

-- ---- what stands before a line

-- after a line with this verb
abbrev pub passed_calls : CallsSeen → List ℕ → CallsSeen
passed_calls s word =
    if bytes_eq word (codes "group") then record s { grouped = true }
    else if bytes_eq word (codes "sync") then record s { grouped = false }
    else if bytes_eq word (codes "start") then record s { started = true }
    else s

-- ---- the search for the line in a row

-- before the first line
abbrev pub calls_search : ℕ → CallsSearch
calls_search row = record {
  seen = record { started = false; grouped = false };
  row = row;
  reason = None;
}

-- after a line: the one that is looked for is judged
abbrev pub calls_searched : CallsSearch → ℕ → List ℕ → Row → Option CallsSearch
calls_searched s n word fields =
    if n == s.row then Some (record s { reason = judge_calls s.seen word fields })
    else Some (record s { seen = passed_calls s.seen word })
