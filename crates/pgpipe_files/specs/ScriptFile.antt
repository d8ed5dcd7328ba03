-- What SCRIPT is read as: the meaning of each of its lines in its place.
use Rattle.std.specs.Prelude.{ℕ, List, [], ◌∷◌, ◌++◌, Option, Some, None, Result, Ok, Err, unwrap_or, codes, if◌then◌else◌}
use Rattle.std.specs.Result.{result_ok}
use Rattle.std.specs.Str.{bytes_eq}
use Rattle.hex.specs.Hex.{decode_sized}
use Rattle.pg_copy.specs.Row.{Row}
use Rattle.pg_wire.specs.value.Status.{Status}
use Rattle.pg_wire.specs.value.Status.TheVariants as status
use Rattle.pg_backend.specs.declared.script.Answer.{Answer}
use Rattle.pg_backend.specs.declared.script.Auth.{Auth}
use Rattle.pg_backend.specs.declared.script.Auth.TheVariants as auth
use Rattle.pg_backend.specs.declared.script.Key.{Key}
use Rattle.pg_backend.specs.declared.script.Script.{Script}
use Rattle.pgpipe_lines.specs.declared.answer_lines.OpenAnswer.{OpenAnswer}
use Rattle.pgpipe_lines.specs.declared.answer_lines.Types.{Types}
use Rattle.pgpipe_lines.specs.declared.verb.AuthWay.{AuthWay}
use Rattle.pgpipe_lines.specs.declared.verb.AuthWay.TheVariants as way
use Rattle.pgpipe_lines.specs.declared.verb.ScriptVerb.{ScriptVerb}
use Rattle.pgpipe_lines.specs.declared.verb.ScriptVerb.TheVariants as verb
use Rattle.pgpipe_lines.specs.Verb.{answer_verb, auth_way, script_verb}
use Rattle.pgpipe_lines.specs.Arguments.{◌>>=◌, read_at, signed_number, if_all, nothing_of, text_of, pair_of}
use Rattle.pgpipe_files.specs.Lines.{with_file, in_the_end}
use Rattle.pgpipe_lines.specs.AnswerLines.{answer_line, if_none, new_answer, whole_answer, with_part}

-- what the lines of SCRIPT so far say: what stands before the answers, the answers that are whole,
-- and the open one, if there is one
pub record ScriptSoFar : Type 0 where
  pub auth : Option Auth
  pub pairs : List (List ℕ × List ℕ)
  pub key : Option Key
  pub answers : List Answer
  pub begun : Option OpenAnswer

-- ---- what fields say

-- the four bytes that 8 hexadecimal digits of either case stand for
abbrev pub salt_of : List ℕ → Option (List ℕ)
salt_of digits = result_ok (decode_sized digits 4)

-- how a client is let in, by the fields after the word for the way
abbrev pub auth_by : AuthWay → Row → Option Auth
auth_by way.Trust fields = nothing_of fields >>= λ _. Some auth.Trust
auth_by way.Cleartext fields = text_of fields >>= λ password. Some (auth.Cleartext password)
auth_by way.Md5 fields = pair_of fields >>= λ p. salt_of p.1 >>= λ salt. Some (auth.Md5 p.0 salt)

-- how a client is let in, by the fields from the word for the way on: `trust`, `cleartext` and a
-- password, or `md5`, a password and a salt
abbrev pub auth_of : Row → Option Auth
auth_of fields = read_at auth_way fields >>= λ w. auth_by w.0 w.1

-- the process and the secret of a BackendKeyData, as the only fields
abbrev pub key_of : Row → Option Key
key_of fields =
    read_at signed_number fields >>= λ p. read_at signed_number p.1
    >>= λ s. if_all (record { process = p.0; secret = s.0 }) s.1

-- the transaction status that this letter stands for
abbrev pub status_named : List ℕ → Option Status
status_named letter =
    if bytes_eq letter (codes "I") then Some status.Idle
    else if bytes_eq letter (codes "T") then Some status.InBlock
    else if bytes_eq letter (codes "E") then Some status.Failed
    else None

-- ---- lines

-- the script so far with this open answer, if there is one, as a whole one after the others
abbrev pub closed_by : Option OpenAnswer → ScriptSoFar → Option ScriptSoFar
closed_by None s = Some s
closed_by (Some o) s =
    whole_answer o o.types >>= λ a. Some (record s { answers = s.answers ++ a ∷ []; begun = None })

-- the script so far with its open answer, if there is one, as a whole one after the others
abbrev pub closed : ScriptSoFar → Option ScriptSoFar
closed s = closed_by s.begun s

-- the script so far after a line that belongs to no answer, or begins one
abbrev pub own_line : ScriptSoFar → ScriptVerb → Row → Option ScriptSoFar
own_line s verb.Auth fields =
    if_none s.begun >>= λ _. auth_of fields >>= λ a. if_none s.auth
    >>= λ _. Some (record s { auth = Some a })
own_line s verb.Pair fields =
    if_none s.begun >>= λ _. pair_of fields >>= λ p. Some (record s { pairs = s.pairs ++ p ∷ [] })
own_line s verb.Key fields =
    if_none s.begun >>= λ _. key_of fields >>= λ k. if_none s.key
    >>= λ _. Some (record s { key = Some k })
own_line s verb.Answer fields =
    text_of fields >>= λ letter. status_named letter >>= λ st. closed s
    >>= λ next. Some (record next { begun = Some (new_answer st) })

-- the script so far after a line in row n that begins with this word and belongs to the open answer
abbrev pub in_answer : ScriptSoFar → Option OpenAnswer → ℕ → List ℕ → Row → Option ScriptSoFar
in_answer s None n word fields = None
in_answer s (Some o) n word fields =
    answer_verb word >>= λ v. answer_line o n v fields
    >>= λ next. Some (record s { begun = Some next })

-- the script so far after a line in row n: one with this verb (Some), or else a line of the open
-- answer
abbrev pub script_line_by : Option ScriptVerb → ScriptSoFar → ℕ → List ℕ → Row → Option ScriptSoFar
script_line_by (Some v) s n word fields = own_line s v fields
script_line_by None s n word fields = in_answer s s.begun n word fields

-- the script so far after a line in row n that begins with this word; None where it has no meaning
-- there
unfoldable pub script_line : ScriptSoFar → ℕ → List ℕ → Row → Option ScriptSoFar
script_line s n word fields = script_line_by (script_verb word) s n word fields

-- ---- the file

-- what SCRIPT says before its first line
abbrev pub no_script : ScriptSoFar
no_script = record { auth = None; pairs = []; key = None; answers = []; begun = None }

-- the script with these answers; without a line `auth` each client is let in
abbrev pub script_with : ScriptSoFar → List Answer → Script
script_with s answers =
    record { auth = unwrap_or s.auth auth.Trust; pairs = s.pairs; key = s.key; answers = answers }

-- the script with its open answer as the last; a `paramtypes` without its `described` is rejected,
-- by the number of its row
abbrev pub answer_said : ScriptSoFar → OpenAnswer → Option Types → Result Script ℕ
answer_said s o None = Ok (script_with s (s.answers ++ with_part o.last o.answer ∷ []))
answer_said s o (Some types) = Err types.row

-- the script with this open answer, if there is one, as the last
abbrev pub said_by : Option OpenAnswer → ScriptSoFar → Result Script ℕ
said_by None s = Ok (script_with s s.answers)
said_by (Some o) s = answer_said s o o.types

-- the script once all lines are read; a `paramtypes` without its `described` is rejected, by the
-- number of its row
abbrev pub script_said : ScriptSoFar → Result Script ℕ
script_said s = said_by s.begun s

-- The script that the bytes of SCRIPT say, or the number of the first row that has no meaning in
-- its place.
unfoldable pub script_of : List ℕ → Result Script ℕ
script_of bytes = in_the_end (with_file script_line no_script bytes) script_said
