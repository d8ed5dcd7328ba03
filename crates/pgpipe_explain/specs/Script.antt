-- Why a line of SCRIPT is rejected.
use Rattle.std.specs.Prelude.{ℕ, ◌==◌, ◌&&◌, Bool, true, false, not, if◌then◌else◌, List, [], ◌∷◌, Option, Some, None}
use Rattle.std.specs.List.{slice_get}
use Rattle.pg_copy.specs.Row.{Row}
use Rattle.pgpipe_lines.specs.declared.verb.AnswerVerb.{AnswerVerb}
use Rattle.pgpipe_lines.specs.declared.verb.AnswerVerb.TheVariants as answer
use Rattle.pgpipe_lines.specs.declared.verb.AuthWay.{AuthWay}
use Rattle.pgpipe_lines.specs.declared.verb.AuthWay.TheVariants as way
use Rattle.pgpipe_lines.specs.declared.verb.EndWay.{EndWay}
use Rattle.pgpipe_lines.specs.declared.verb.EndWay.TheVariants as end
use Rattle.pgpipe_lines.specs.declared.verb.LoadWay.{LoadWay}
use Rattle.pgpipe_lines.specs.declared.verb.LoadWay.TheVariants as load
use Rattle.pgpipe_lines.specs.declared.verb.ScriptVerb.{ScriptVerb}
use Rattle.pgpipe_lines.specs.declared.verb.ScriptVerb.TheVariants as script
use Rattle.pgpipe_lines.specs.Verb.{answer_verb, auth_way, end_way, load_way, script_verb}
use Rattle.pgpipe_explain.specs.declared.fields.Tail.TheVariants as tail
use Rattle.pgpipe_explain.specs.declared.kind.FieldKind.TheVariants as kind
use Rattle.pgpipe_explain.specs.declared.reason.LineReason.{LineReason}
use Rattle.pgpipe_explain.specs.declared.reason.LineReason.TheVariants as reason
use Rattle.pgpipe_explain.specs.declared.script.ScriptSearch.{ScriptSearch}
use Rattle.pgpipe_explain.specs.declared.script.ScriptSeen.{ScriptSeen}
use Rattle.pgpipe_explain.specs.Fields.{judge_fields, or_else, word_of}
use Rattle.pgpipe_explain.specs.Verbs.{is_of_calls, no_verb}

-- ---- the fields of a line

-- why these can't be the fields of an `auth`, by its first field
abbrev pub auth_fields : Option AuthWay → Row → Option LineReason
auth_fields (Some way.Cleartext) fields =
    judge_fields (kind.Way ∷ kind.Text ∷ []) tail.Nothing fields
auth_fields (Some way.Md5) fields =
    judge_fields (kind.Way ∷ kind.Text ∷ kind.Salt ∷ []) tail.Nothing fields
auth_fields _ fields = judge_fields (kind.Way ∷ []) tail.Nothing fields

-- why these can't be the fields of a line that stands in no answer, or begins one
abbrev pub own_fields : ScriptVerb → Row → Option LineReason
own_fields script.Auth fields = auth_fields (auth_way (word_of (slice_get fields 0))) fields
own_fields script.Pair fields = judge_fields (kind.Text ∷ kind.Text ∷ []) tail.Nothing fields
own_fields script.Key fields = judge_fields (kind.Signed ∷ kind.Signed ∷ []) tail.Nothing fields
own_fields script.Answer fields = judge_fields (kind.Status ∷ []) tail.Nothing fields

-- why these can't be the fields of a `copyin`, by its third field
abbrev pub load_fields : Option LoadWay → Row → Option LineReason
load_fields (Some load.Refuse) fields =
    judge_fields (kind.Format ∷ kind.Columns ∷ kind.Load ∷ kind.Number ∷ []) tail.Codes fields
load_fields _ fields =
    judge_fields (kind.Format ∷ kind.Columns ∷ kind.Load ∷ kind.Text ∷ []) tail.Nothing fields

-- why these can't be the fields of a `copyin`
abbrev pub copy_in_fields : Row → Option LineReason
copy_in_fields fields = load_fields (load_way (word_of (slice_get fields 2))) fields

-- why these can't be the fields of an `executed`, by its first field
abbrev pub end_fields : Option EndWay → Row → Option LineReason
end_fields (Some end.Complete) fields = judge_fields (kind.End ∷ kind.Text ∷ []) tail.Nothing fields
end_fields _ fields = judge_fields (kind.End ∷ []) tail.Nothing fields

-- why these can't be the fields of an `executed`
abbrev pub executed_fields : Row → Option LineReason
executed_fields fields = end_fields (end_way (word_of (slice_get fields 0))) fields

-- why these can't be the fields of a line that stands in an answer
abbrev pub answer_fields : AnswerVerb → Row → Option LineReason
answer_fields answer.Notice fields = judge_fields [] tail.Codes fields
answer_fields answer.Set fields = judge_fields (kind.Text ∷ kind.Text ∷ []) tail.Nothing fields
answer_fields answer.Notify fields =
    judge_fields (kind.Signed ∷ kind.Text ∷ kind.Text ∷ []) tail.Nothing fields
answer_fields answer.Rows fields = judge_fields (kind.Text ∷ []) (tail.All kind.Text) fields
answer_fields answer.Row fields = None
answer_fields answer.Command fields = judge_fields (kind.Text ∷ []) tail.Nothing fields
answer_fields answer.Empty fields = judge_fields [] tail.Nothing fields
answer_fields answer.CopyOut fields =
    judge_fields (kind.Text ∷ kind.Format ∷ kind.Columns ∷ []) tail.Nothing fields
answer_fields answer.Chunk fields = judge_fields (kind.Text ∷ []) tail.Nothing fields
answer_fields answer.CopyIn fields = copy_in_fields fields
answer_fields answer.Parsed fields = judge_fields [] tail.Nothing fields
answer_fields answer.Bound fields = judge_fields [] tail.Nothing fields
answer_fields answer.ParamTypes fields = judge_fields [] (tail.All kind.Number) fields
answer_fields answer.Described fields = judge_fields [] (tail.All kind.Text) fields
answer_fields answer.Executed fields = executed_fields fields
answer_fields answer.Shut fields = judge_fields [] tail.Nothing fields
answer_fields answer.Error fields = judge_fields [] tail.Codes fields

-- ---- the place of a line

-- why a line that stands in no answer, or begins one, may not stand after what was seen
abbrev pub own_place : ScriptSeen → ScriptVerb → Option LineReason
own_place s script.Auth = if s.auth then Some reason.Second else None
own_place s script.Pair = None
own_place s script.Key = if s.key then Some reason.Second else None
own_place s script.Answer = if s.types then Some reason.NoDescribed else None

-- why a line that stands in an answer may not stand after what was seen; a `paramtypes` that may is
-- rejected where no `described` comes after it
abbrev pub answer_place : ScriptSeen → AnswerVerb → Option LineReason
answer_place s answer.Row = if s.rows then None else Some reason.NoRows
answer_place s answer.Chunk = if s.copy then None else Some reason.NoCopyOut
answer_place s answer.Error = if s.error then Some reason.Second else None
answer_place s answer.ParamTypes = Some reason.LastTypes
answer_place s verb = None

-- ---- a line

-- whether it begins an answer
abbrev pub is_answer : ScriptVerb → Bool
is_answer script.Answer = true
is_answer _ = false

-- whether it is a `described`
abbrev pub is_described : AnswerVerb → Bool
is_described answer.Described = true
is_described _ = false

-- why a line that stands in no answer, or begins one, is rejected
abbrev pub judge_own : ScriptSeen → ScriptVerb → Row → Option LineReason
judge_own s verb fields =
    if s.answered && not (is_answer verb) then Some reason.AfterAnswer
    else or_else (own_fields verb fields) (own_place s verb)

-- why a line that stands in an answer is rejected
abbrev pub judge_answer : ScriptSeen → AnswerVerb → Row → Option LineReason
judge_answer s verb fields =
    if not s.answered then Some reason.BeforeAnswer
    else if s.types && not (is_described verb) then Some reason.NoDescribed
    else or_else (answer_fields verb fields) (answer_place s verb)

-- why a word begins no line of SCRIPT
abbrev pub no_line : List ℕ → LineReason
no_line word = if is_of_calls word then reason.OfCalls else no_verb word

-- why a line is rejected, by what its verb is
abbrev pub judge_by : Option ScriptVerb → Option AnswerVerb → ScriptSeen → List ℕ → Row
    → Option LineReason
judge_by (Some verb) other s word fields = judge_own s verb fields
judge_by None (Some verb) s word fields = judge_answer s verb fields
judge_by None None s word fields = Some (no_line word)

-- why a line with this verb is rejected
abbrev pub judge_script : ScriptSeen → List ℕ → Row → Option LineReason
judge_script s word fields = judge_by (script_verb word) (answer_verb word) s word fields

-- ---- what stands before a line

-- nothing
abbrev pub before_script : ScriptSeen
before_script = record {
  answered = false;
  auth = false;
  key = false;
  error = false;
  rows = false;
  copy = false;
  types = false;
}

-- after a line that stands in no answer, or begins one
abbrev pub passed_own : ScriptSeen → ScriptVerb → ScriptSeen
passed_own s script.Auth = record s { auth = true }
passed_own s script.Pair = s
passed_own s script.Key = record s { key = true }
passed_own s script.Answer = record s {
  answered = true;
  error = false;
  rows = false;
  copy = false;
  types = false;
}

-- after a part, which may be rows or a copy to the client
abbrev pub after_part : ScriptSeen → Bool → Bool → ScriptSeen
after_part s rows copy = record s { rows = rows; copy = copy; types = false }

-- after a line that stands in an answer
abbrev pub passed_answer : ScriptSeen → AnswerVerb → ScriptSeen
passed_answer s answer.Notice = record s { types = false }
passed_answer s answer.Set = record s { types = false }
passed_answer s answer.Notify = record s { types = false }
passed_answer s answer.Row = record s { types = false }
passed_answer s answer.Chunk = record s { types = false }
passed_answer s answer.ParamTypes = record s { types = true }
passed_answer s answer.Error = record s { error = true; types = false }
passed_answer s answer.Rows = after_part s true false
passed_answer s answer.Executed = after_part s true false
passed_answer s answer.CopyOut = after_part s false true
passed_answer s verb = after_part s false false

-- after a line, by what its verb is
abbrev pub passed_by : Option ScriptVerb → Option AnswerVerb → ScriptSeen → ScriptSeen
passed_by (Some verb) other s = passed_own s verb
passed_by None (Some verb) s = passed_answer s verb
passed_by None None s = s

-- after a line with this verb
abbrev pub passed_script : ScriptSeen → List ℕ → ScriptSeen
passed_script s word = passed_by (script_verb word) (answer_verb word) s

-- ---- the search for the line in a row

-- before the first line
abbrev pub script_search : ℕ → ScriptSearch
script_search row = record { seen = before_script; row = row; reason = None }

-- after a line: the one that is looked for is judged
abbrev pub script_searched : ScriptSearch → ℕ → List ℕ → Row → Option ScriptSearch
script_searched s n word fields =
    if n == s.row then Some (record s { reason = judge_script s.seen word fields })
    else Some (record s { seen = passed_script s.seen word })
