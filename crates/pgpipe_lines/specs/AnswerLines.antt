-- What the lines of SCRIPT are read as that stand in an answer.
use Rattle.std.specs.Prelude.{ℕ, pos, negsuc, List, [], ◌∷◌, ◌++◌, map, Option, Some, None}
use Rattle.pg_copy.specs.Row.{Row}
use Rattle.pg_wire.specs.value.Column.{Column}
use Rattle.pg_wire.specs.value.Status.{Status}
use Rattle.pg_wire.specs.declared.session.Aside.{Aside}
use Rattle.pg_wire.specs.declared.session.Aside.TheVariants as aside
use Rattle.pg_wire.specs.declared.session.ExecEnd.{ExecEnd}
use Rattle.pg_wire.specs.declared.session.ExecEnd.TheVariants as end
use Rattle.pg_backend.specs.declared.script.Answer.{Answer}
use Rattle.pg_backend.specs.declared.script.Load.{Load}
use Rattle.pg_backend.specs.declared.script.Load.TheVariants as load
use Rattle.pg_backend.specs.declared.script.ScriptPart.{ScriptPart}
use Rattle.pg_backend.specs.declared.script.ScriptPart.TheVariants as part
use Rattle.pgpipe_lines.specs.declared.answer_lines.OpenAnswer.{OpenAnswer}
use Rattle.pgpipe_lines.specs.declared.answer_lines.Types.{Types}
use Rattle.pgpipe_lines.specs.declared.verb.AnswerVerb.{AnswerVerb}
use Rattle.pgpipe_lines.specs.declared.verb.AnswerVerb.TheVariants as verb
use Rattle.pgpipe_lines.specs.declared.verb.EndWay.{EndWay}
use Rattle.pgpipe_lines.specs.declared.verb.EndWay.TheVariants as ends
use Rattle.pgpipe_lines.specs.declared.verb.LoadWay.{LoadWay}
use Rattle.pgpipe_lines.specs.declared.verb.LoadWay.TheVariants as loads
use Rattle.pgpipe_lines.specs.Verb.{end_way, load_way}
use Rattle.pgpipe_lines.specs.Arguments.{◌>>=◌, text_at, read_at, copy_head_at, number, signed_number, if_all, nothing_of, text_of, pair_of, numbers_of, texts_of, error_fields_of}

-- ---- an answer of which lines are read: what it is without its last part, that part, and the
-- types of the parameters of the `described` in the next line

-- an answer with this status, of which no other line is read yet
abbrev pub new_answer : Status → OpenAnswer
new_answer status = record {
  answer = record { before = []; parts = []; error = None; status = status };
  last = None;
  types = None;
}

-- the answer with this part, if there is one, after its others
abbrev pub with_part : Option ScriptPart → Answer → Answer
with_part None answer = answer
with_part (Some p) answer = record answer { parts = answer.parts ++ p ∷ [] }

-- the open answer with this part as its last, to which `row` and `chunk` may add
abbrev pub begins_part : OpenAnswer → ScriptPart → OpenAnswer
begins_part o p = record o { answer = with_part o.last o.answer; last = Some p }

-- the open answer with one more aside, which is sent before its parts
abbrev pub says_before : OpenAnswer → Aside → OpenAnswer
says_before o a = record o { answer = record o.answer { before = o.answer.before ++ a ∷ [] } }

-- ---- what fields say

-- a column with this name of no table, of type text (OID 25), in the text format
abbrev pub text_column : List ℕ → Column
text_column name = record {
  name = name;
  table_oid = 0;
  attribute = pos 0;
  type_oid = 25;
  size = negsuc 0;
  modifier = negsuc 0;
  format = pos 0;
}

-- the columns that all these fields name
abbrev pub text_columns : Row → Option (List Column)
text_columns fields = texts_of fields >>= λ names. Some (map text_column names)

-- the columns of a `described`: without a name, none (NoData)
abbrev pub if_any : List Column → Option (List Column)
if_any [] = None
if_any (column ∷ columns) = Some (column ∷ columns)

-- how a copy from the client ends, by the fields after `accept` or `refuse`: a tag; or a number and
-- an error's fields
abbrev pub load_by : LoadWay → Row → Option Load
load_by loads.Accept fields = text_of fields >>= λ tag. Some (load.Accept tag)
load_by loads.Refuse fields =
    read_at number fields >>= λ n. error_fields_of n.1 >>= λ errors. Some (load.Refuse n.0 errors)

-- how a copy from the client ends, by the fields from `accept` or `refuse` on
abbrev pub load_of : Row → Option Load
load_of fields = read_at load_way fields >>= λ w. load_by w.0 w.1

-- how an Execute ended, by the fields after the word for it: a tag after `complete`, else none
abbrev pub end_by : EndWay → Row → Option ExecEnd
end_by ends.Complete fields = text_of fields >>= λ tag. Some (end.Complete tag)
end_by ends.Empty fields = nothing_of fields >>= λ _. Some end.Empty
end_by ends.Suspended fields = nothing_of fields >>= λ _. Some end.Suspended

-- how an Execute ended, by the fields from the word for it on
abbrev pub end_of : Row → Option ExecEnd
end_of fields = read_at end_way fields >>= λ w. end_by w.0 w.1

-- ---- lines

-- the last part with one row more, where it is a `rows` or an `executed`
abbrev pub with_values : Option ScriptPart → Row → Option ScriptPart
with_values (Some (part.Rows columns rows tag)) values = Some (part.Rows columns (rows
    ++ values ∷ []) tag)
with_values (Some (part.Executed rows end)) values = Some (part.Executed (rows ++ values ∷ []) end)
with_values _ values = None

-- the last part with one chunk more, where it is a `copyout`
abbrev pub with_chunk : Option ScriptPart → List ℕ → Option ScriptPart
with_chunk (Some (part.CopyOut head chunks tag)) bytes = Some (part.CopyOut head (chunks
    ++ bytes ∷ []) tag)
with_chunk _ bytes = None

-- the open answer with this in place of its last part, where the line has a meaning
abbrev pub grows : OpenAnswer → Option ScriptPart → Option OpenAnswer
grows o read = read >>= λ p. Some (record o { last = Some p })

-- a line that begins this part and has no field after its verb
abbrev pub begins_alone : OpenAnswer → Row → ScriptPart → Option OpenAnswer
begins_alone o fields p = nothing_of fields >>= λ _. Some (begins_part o p)

-- a line that has a meaning only where nothing of its kind stands before it
abbrev pub if_none : {A : Type 0} → Option A → Option Unit
if_none None = Some tt
if_none (Some x) = None

-- a line `described`, with the types of a statement's parameters where a `paramtypes` stands before
-- it
abbrev pub described : OpenAnswer → Option (List ℕ) → Row → Option OpenAnswer
described o parameters fields =
    text_columns fields
    >>= λ columns. Some (begins_part o (part.Described parameters (if_any columns)))

-- the open answer after a line in row n, where no `paramtypes` stands in the line before
abbrev pub part_line : OpenAnswer → ℕ → AnswerVerb → Row → Option OpenAnswer
part_line o n verb.Notice fields = error_fields_of fields
    >>= λ f. Some (says_before o (aside.Notice f))
part_line o n verb.Set fields = pair_of fields
    >>= λ p. Some (says_before o (aside.Parameter p.0 p.1))
part_line o n verb.Notify fields =
    read_at signed_number fields >>= λ i. pair_of i.1
    >>= λ p. Some (says_before o (aside.Notification i.0 p.0 p.1))
part_line o n verb.Rows fields =
    text_at fields >>= λ t. text_columns t.1
    >>= λ columns. Some (begins_part o (part.Rows columns [] t.0))
part_line o n verb.Row fields = grows o (with_values o.last fields)
part_line o n verb.Command fields =
    text_of fields >>= λ tag. Some (begins_part o (part.Command tag))
part_line o n verb.Empty fields = begins_alone o fields part.Empty
part_line o n verb.CopyOut fields =
    text_at fields >>= λ t. copy_head_at t.1 >>= λ h. if_all h.0 h.1
    >>= λ head. Some (begins_part o (part.CopyOut head [] t.0))
part_line o n verb.Chunk fields = grows o (text_of fields >>= λ bytes. with_chunk o.last bytes)
part_line o n verb.CopyIn fields =
    copy_head_at fields >>= λ h. load_of h.1 >>= λ l. Some (begins_part o (part.CopyIn h.0 l))
part_line o n verb.Parsed fields = begins_alone o fields part.Parsed
part_line o n verb.Bound fields = begins_alone o fields part.Bound
part_line o n verb.ParamTypes fields =
    numbers_of fields
    >>= λ types. Some (record o { types = Some (record { row = n; types = types }) })
part_line o n verb.Described fields = described o None fields
part_line o n verb.Executed fields =
    end_of fields >>= λ e. Some (begins_part o (part.Executed [] e))
part_line o n verb.Shut fields = begins_alone o fields part.Shut
part_line o n verb.Error fields =
    if_none o.answer.error >>= λ _. error_fields_of fields
    >>= λ f. Some (record o { answer = record o.answer { error = Some f } })

-- the open answer after a line in row n; where a `paramtypes` stands in the line before (Some),
-- only `described` has a meaning
abbrev pub line_after : Option Types → OpenAnswer → ℕ → AnswerVerb → Row → Option OpenAnswer
line_after None o n v fields = part_line o n v fields
line_after (Some types) o n verb.Described fields = described o (Some types.types) fields
line_after (Some types) o n v fields = None

-- the open answer after a line in row n with this verb, or None where the line has no meaning there
unfoldable pub answer_line : OpenAnswer → ℕ → AnswerVerb → Row → Option OpenAnswer
answer_line o n v fields = line_after o.types (record o { types = None }) n v fields

-- the answer once its lines are read; it isn't whole where the last one is a `paramtypes`
abbrev pub whole_answer : OpenAnswer → Option Types → Option Answer
whole_answer o None = Some (with_part o.last o.answer)
whole_answer o (Some types) = None
