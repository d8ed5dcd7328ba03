-- What CALLS is read as: the meaning of each of its lines in its place.
use Rattle.std.specs.Prelude.{ℕ, Bool, true, false, if◌then◌else◌, List, [], ◌∷◌, ◌++◌, map, Option, Some, None, Result, Ok, Err, codes, string_bytes}
use Rattle.std.specs.Str.{bytes_eq, is_utf8}
use Rattle.pg_copy.specs.Row.{Row}
use Rattle.pg_client.specs.declared.settings.Settings.{Settings}
use Rattle.pg_wire.specs.declared.session.Request.TheVariants as request
use Rattle.pg_client.specs.declared.call.Call.TheVariants as call
use Rattle.pg_pair.specs.declared.event.Event.{Event}
use Rattle.pg_pair.specs.declared.event.Event.TheVariants as event
use Rattle.pgpipe_files.specs.declared.calls_file.CallLine.{CallLine}
use Rattle.pgpipe_files.specs.declared.calls_file.CallLine.TheVariants as line
use Rattle.pgpipe_files.specs.declared.calls_file.Calls.{Calls}
use Rattle.pgpipe_files.specs.declared.calls_file.Group.{Group}
use Rattle.pgpipe_lines.specs.declared.verb.CallVerb.{CallVerb}
use Rattle.pgpipe_lines.specs.declared.verb.CallVerb.TheVariants as verb
use Rattle.pgpipe_lines.specs.declared.verb.StepVerb.{StepVerb}
use Rattle.pgpipe_lines.specs.Verb.{call_verb, step_verb}
use Rattle.pgpipe_lines.specs.Arguments.{◌>>=◌, nothing_of, text_of, pair_of, number_of}
use Rattle.pgpipe_lines.specs.StepLines.{step_of}
use Rattle.pgpipe_files.specs.Lines.{with_file, in_the_end}

-- what a line of CALLS asks for: an event; a flow; or that the bytes of the file at this path are
-- handed over as chunks
pub data Said : Type 0 where
  Happens : Event → Said
  Flows : Said
  HandsOver : List ℕ → Said

-- what CALLS asks for: the client's settings, and what is to happen, in order
pub record CallsSaid : Type 0 where
  pub settings : Settings
  pub lines : List Said

-- what the lines of CALLS so far ask for: the settings, what is to happen, whether `start` was
-- among them, and the group that is open, if one is
pub record CallsSoFar : Type 0 where
  pub settings : Settings
  pub lines : List Said
  pub started : Bool
  pub group : Option Group

-- ---- lines in no group

-- the line has a meaning only before `start`
abbrev pub if_before_start : CallsSoFar → Option Unit
if_before_start s = if s.started then None else Some tt

-- a line that sets what `make` says, where its fields can be read, and before `start` alone
abbrev pub set : {A : Type 0} → CallsSoFar → Option A → (A → Settings) → Option CallsSoFar
set s read make = if_before_start s >>= λ _. read >>= λ x. Some (record s { settings = make x })

-- what was read so far, with one thing more that is to happen
abbrev pub with_line : CallsSoFar → Said → CallsSoFar
with_line s next = record s { lines = s.lines ++ next ∷ [] }

-- a line that asks for what `make` says, where its fields can be read
abbrev pub asks_for : {A : Type 0} → CallsSoFar → Option A → (A → Said) → Option CallsSoFar
asks_for s read make = read >>= λ x. Some (with_line s (make x))

-- a line that asks for the event that `make` says, where its fields can be read
abbrev pub asks_for_event : {A : Type 0} → CallsSoFar → Option A → (A → Event) → Option CallsSoFar
asks_for_event s read make = asks_for s read (λ x. Happens (make x))

-- the path, where it is UTF-8
abbrev pub path : List ℕ → Option (List ℕ)
path bytes = if is_utf8 bytes then Some bytes else None

-- what CALLS asks for after a line in row n that stands in no group; None where it has no meaning
-- there
abbrev pub call_line : CallsSoFar → ℕ → CallVerb → Row → Option CallsSoFar
call_line s n verb.User fields = set s (text_of fields) (λ user. record s.settings { user = user })
call_line s n verb.Database fields =
    set s (text_of fields) (λ name. record s.settings { database = Some name })
call_line s n verb.Parameter fields =
    set s (pair_of fields) (λ pair. record s.settings { pairs = s.settings.pairs ++ pair ∷ [] })
call_line s n verb.Password fields =
    set s (text_of fields) (λ password. record s.settings { password = Some password })
call_line s n verb.Start fields =
    nothing_of fields
    >>= λ _. Some (record (with_line s (Happens (event.Call call.Start))) { started = true })
call_line s n verb.Query fields =
    asks_for_event s (text_of fields) (λ text. event.Call (call.Request (request.Query text)))
call_line s n verb.Group fields =
    nothing_of fields >>= λ _. Some (record s { group = Some (record { row = n; steps = [] }) })
call_line s n verb.Chunk fields =
    asks_for_event s (text_of fields) (λ bytes. event.Call (call.Chunk bytes))
call_line s n verb.File fields = asks_for s (text_of fields >>= λ bytes. path bytes) HandsOver
call_line s n verb.Done fields = asks_for_event s (nothing_of fields) (λ _. event.Call call.Done)
call_line s n verb.Fail fields =
    asks_for_event s (text_of fields) (λ reason. event.Call (call.Fail reason))
call_line s n verb.Terminate fields =
    asks_for_event s (nothing_of fields) (λ _. event.Call call.Terminate)
call_line s n verb.ToBackend fields = asks_for_event s (number_of fields) event.ToBackend
call_line s n verb.ToClient fields = asks_for_event s (number_of fields) event.ToClient
call_line s n verb.Step fields = asks_for_event s (nothing_of fields) (λ _. event.Step)
call_line s n verb.BreakToBackend fields =
    asks_for_event s (nothing_of fields) (λ _. event.BreakToBackend)
call_line s n verb.BreakToClient fields =
    asks_for_event s (nothing_of fields) (λ _. event.BreakToClient)
call_line s n verb.Flow fields = asks_for s (nothing_of fields) (λ _. Flows)

-- ---- lines in a group

-- the line `sync`, which makes the group's steps one request
abbrev pub sync_said : CallsSoFar → Group → Row → Option CallsSoFar
sync_said s group fields =
    asks_for_event s (nothing_of fields)
    (λ _. event.Call (call.Request (request.Group group.steps)))

-- what CALLS asks for after a line in this group: a step more (Some), or the `sync` that ends the
-- group
abbrev pub step_or_sync : CallsSoFar → Group → Option StepVerb → List ℕ → Row → Option CallsSoFar
step_or_sync s group (Some v) word fields =
    step_of v fields
    >>= λ st. Some (record s { group = Some (record group { steps = group.steps ++ st ∷ [] }) })
step_or_sync s group None word fields =
    if bytes_eq word (codes "sync") then sync_said s group fields else None

-- what CALLS asks for after a line that begins with this word, in this group
abbrev pub in_group : CallsSoFar → Group → List ℕ → Row → Option CallsSoFar
in_group s group word fields = step_or_sync s group (step_verb word) word fields

-- ---- the file

-- what CALLS asks for after a line in row n that begins with this word, in no group
abbrev pub in_no_group : CallsSoFar → ℕ → List ℕ → Row → Option CallsSoFar
in_no_group s n word fields = call_verb word >>= λ v. call_line s n v fields

-- what CALLS asks for after a line in row n that begins with this word, in this group or in none
abbrev pub calls_line_by : Option Group → CallsSoFar → ℕ → List ℕ → Row → Option CallsSoFar
calls_line_by (Some group) s n word fields = in_group s group word fields
calls_line_by None s n word fields = in_no_group s n word fields

-- what CALLS asks for after a line in row n that begins with this word; None where it has no
-- meaning there
unfoldable pub calls_line : CallsSoFar → ℕ → List ℕ → Row → Option CallsSoFar
calls_line s n word fields = calls_line_by s.group (record s { group = None }) n word fields

-- what CALLS asks for before its first line: an empty user, and the greatest limit that a client
-- takes
abbrev pub no_calls : CallsSoFar
no_calls = record {
  settings = record { user = []; database = None; pairs = []; password = None; limit = 1073741823 };
  lines = [];
  started = false;
  group = None;
}

-- what CALLS asks for in all, where no group is open; else the number of the row of that `group`
abbrev pub closed_calls : CallsSoFar → Option Group → Result CallsSaid ℕ
closed_calls s None = Ok (record { settings = s.settings; lines = s.lines })
closed_calls s (Some group) = Err group.row

-- what CALLS asks for in all; a `group` without its `sync` is rejected, by the number of its row
abbrev pub calls_said : CallsSoFar → Result CallsSaid ℕ
calls_said s = closed_calls s s.group

-- What the bytes of CALLS ask for, or the number of the first row that has no meaning in its place.
unfoldable pub calls_of : List ℕ → Result CallsSaid ℕ
calls_of bytes = in_the_end (with_file calls_line no_calls bytes) calls_said

-- ---- what was read, as the program has it

-- what a line as the program stores it (`CallLine`) asks for
abbrev pub line_said : CallLine → Said
line_said (line.Event e) = Happens e
line_said line.Flow = Flows
line_said (line.File path) = HandsOver (string_bytes path)

-- what CALLS as the program stores it (`Calls`) asks for
abbrev pub what_is_said : Calls → CallsSaid
what_is_said calls = record { settings = calls.settings; lines = map line_said calls.lines }
