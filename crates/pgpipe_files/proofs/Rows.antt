-- Worked examples of SCRIPT and CALLS, computed from the definitions alone.
use Rattle.std.proofs.Common.{◌≡◌, ℕ, false, List, [], ◌∷◌, Some, None, Result, Ok, Err, codes, pos, negsuc, refl}
use Rattle.pg_copy.specs.Row.{Row}
use Rattle.pg_copy.specs.Reading.{Ended}
use Rattle.pg_wire.specs.declared.session.ExecEnd.TheVariants as end
use Rattle.pg_wire.specs.declared.session.Request.TheVariants as request
use Rattle.pg_wire.specs.declared.session.Step.TheVariants as step
use Rattle.pg_wire.specs.value.Target.TheVariants as target
use Rattle.pg_wire.specs.value.Status.TheVariants as status
use Rattle.pg_backend.specs.declared.script.Auth.TheVariants as auth
use Rattle.pg_backend.specs.declared.script.Script.{Script}
use Rattle.pg_backend.specs.declared.script.ScriptPart.TheVariants as part
use Rattle.pg_client.specs.declared.call.Call.TheVariants as call
use Rattle.pg_pair.specs.declared.event.Event.TheVariants as event
use Rattle.hex.proofs.OnLiterals.{hex_on_literals}
use Rattle.pgpipe_lines.specs.Arguments.{numbers_of, texts_of}
use Rattle.pgpipe_files.specs.Lines.{in_the_end, with_rows}
use Rattle.pgpipe_files.specs.CallsFile.{CallsSaid, Happens, calls_line, calls_said, no_calls}
use Rattle.pgpipe_lines.specs.AnswerLines.{answer_line, text_column}
use Rattle.pgpipe_files.specs.ScriptFile.{auth_of, no_script, script_line, script_said}

-- a row of texts
abbrev row : List (List ℕ) → Row
row [] = []
row (text ∷ texts) = Some text ∷ row texts

-- what rows are read as, where no fault stands after them
abbrev calls : List Row → Result CallsSaid ℕ
calls rows = in_the_end (with_rows calls_line no_calls 1 rows Ended) calls_said

abbrev script : List Row → Result Script ℕ
script rows = in_the_end (with_rows script_line no_script 1 rows Ended) script_said

-- ---- CALLS

-- user, password, an empty line, start, breakclient, breakback
pub a_session : calls (row (codes "user" ∷ codes "u" ∷ []) ∷ row (codes "password" ∷ codes "p" ∷ []) ∷ row ([] ∷ []) ∷ row (codes "start" ∷ []) ∷ row (codes "breakclient" ∷ []) ∷ row (codes "breakback" ∷ []) ∷ [])
    ≡ Ok (record {
      settings = record { user = codes "u"; database = None; pairs = []; password = Some (codes "p"); limit = 1073741823 };
      lines = Happens (event.Call call.Start) ∷ Happens event.BreakToClient ∷ Happens event.BreakToBackend ∷ [];
    })
unfolding with_rows calls_line
a_session = refl

-- a setting after start: the third row, after one that is skipped
pub late_setting : calls (row (codes "start" ∷ []) ∷ row ([] ∷ []) ∷ row (codes "user" ∷ codes "u" ∷ []) ∷ []) ≡ Err 3
unfolding with_rows calls_line
late_setting = refl

-- a group of two steps, the last with a number below zero
pub a_group : calls (row (codes "group" ∷ []) ∷ row (codes "describe" ∷ codes "P" ∷ [] ∷ []) ∷ row (codes "execute" ∷ [] ∷ codes "-7" ∷ []) ∷ row (codes "sync" ∷ []) ∷ [])
    ≡ Ok (record {
      settings = no_calls.settings;
      lines = Happens (event.Call (call.Request (request.Group (step.Describe target.Portal [] ∷ step.Execute [] (negsuc 6) ∷ [])))) ∷ [];
    })
unfolding with_rows calls_line
a_group = refl

-- a group that is left open is refused at its own row, and what is no step of it at that row
pub open_group : calls (row (codes "start" ∷ []) ∷ row (codes "group" ∷ []) ∷ row (codes "parse" ∷ [] ∷ codes "q" ∷ codes "23" ∷ []) ∷ []) ≡ Err 2
unfolding with_rows calls_line numbers_of
open_group = refl

pub start_in_a_group : calls (row (codes "group" ∷ []) ∷ row (codes "start" ∷ []) ∷ []) ≡ Err 2
unfolding with_rows calls_line
start_in_a_group = refl

-- ---- SCRIPT

-- rows with one column and one row, then a copy to the client with a chunk
pub two_answers : script (row (codes "answer" ∷ codes "I" ∷ []) ∷ row (codes "rows" ∷ codes "SELECT 1" ∷ codes "n" ∷ []) ∷ (Some (codes "row") ∷ None ∷ []) ∷ row (codes "answer" ∷ codes "T" ∷ [])
    ∷ row (codes "copyout" ∷ codes "COPY 1" ∷ codes "text" ∷ codes "1" ∷ []) ∷ row (codes "chunk" ∷ codes "x" ∷ []) ∷ [])
    ≡ Ok (record {
      auth = auth.Trust;
      pairs = [];
      key = None;
      answers = record { before = []; parts = part.Rows (text_column (codes "n") ∷ []) ((None ∷ []) ∷ []) (codes "SELECT 1") ∷ []; error = None; status = status.Idle }
          ∷ record { before = []; parts = part.CopyOut (record { binary = false; formats = pos 0 ∷ [] }) (codes "x" ∷ []) (codes "COPY 1") ∷ []; error = None; status = status.InBlock } ∷ [];
    })
unfolding with_rows script_line answer_line texts_of
two_answers = refl

-- a row after a command
pub row_of_nothing : script (row (codes "answer" ∷ codes "I" ∷ []) ∷ row (codes "command" ∷ codes "SET" ∷ []) ∷ row (codes "row" ∷ codes "1" ∷ []) ∷ []) ≡ Err 3
unfolding with_rows script_line answer_line
row_of_nothing = refl

-- paramtypes with its described, and a run that is suspended
pub a_description : script (row (codes "answer" ∷ codes "E" ∷ []) ∷ row (codes "paramtypes" ∷ codes "23" ∷ []) ∷ row (codes "described" ∷ []) ∷ row (codes "executed" ∷ codes "suspended" ∷ []) ∷ [])
    ≡ Ok (record {
      auth = auth.Trust;
      pairs = [];
      key = None;
      answers = record { before = []; parts = part.Described (Some (23 ∷ [])) None ∷ part.Executed [] end.Suspended ∷ []; error = None; status = status.Failed } ∷ [];
    })
unfolding with_rows script_line answer_line texts_of numbers_of
a_description = refl

-- paramtypes as the last line, and with another line after it
pub open_types : script (row (codes "answer" ∷ codes "I" ∷ []) ∷ row (codes "paramtypes" ∷ []) ∷ []) ≡ Err 2
unfolding with_rows script_line answer_line numbers_of
open_types = refl

pub types_of_nothing : script (row (codes "answer" ∷ codes "I" ∷ []) ∷ row (codes "paramtypes" ∷ []) ∷ row (codes "empty" ∷ []) ∷ []) ≡ Err 3
unfolding with_rows script_line answer_line numbers_of
types_of_nothing = refl

-- ---- the fields of a line `auth`

-- md5<tab>ab<tab>0102FEff, and a digit fewer
pub a_salt : auth_of (row (codes "md5" ∷ codes "ab" ∷ codes "0102FEff" ∷ [])) ≡ Some (auth.Md5 (codes "ab") (1 ∷ 2 ∷ 254 ∷ 255 ∷ []))
unfolding hex_on_literals
a_salt = refl

pub seven_digits : auth_of (row (codes "md5" ∷ codes "ab" ∷ codes "0102030" ∷ [])) ≡ None
unfolding hex_on_literals
seven_digits = refl

pub a_password : auth_of (row (codes "cleartext" ∷ codes "ab" ∷ [])) ≡ Some (auth.Cleartext (codes "ab"))
a_password = refl

pub no_password : auth_of (row (codes "cleartext" ∷ [])) ≡ None
no_password = refl
