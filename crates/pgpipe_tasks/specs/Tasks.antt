-- The task that the words of a command line ask for.
use Rattle.std.specs.Prelude.{◌≡◌, ◌<◌, ◌≤◌, ℕ, true, false, Bool, ◌&&◌, ◌||◌, not, List, [], ◌∷◌, Option, Some, None, Result, IfOk, if◌then◌else◌, codes, is_some, option_map, unwrap_or, string_bytes}
use Rattle.std.specs.Str.{bytes_eq}
use Rattle.std.specs.Str.Parse.{IsNumeral, digits_value, without_leading_plus}
use Rattle.clap.specs.Words.{FailsBy, Row, Text, fault_of, first_of, one_of, subcommand_of}
use Rattle.clap.specs.declared.builder.value_parser.ValueParser.{ValueParser}
use Rattle.clap.specs.declared.error.Error.{Error}
use Rattle.pg_copy.specs.Text as copy
use Rattle.pgpipe_convert.specs.declared.format.Format.{Format}
use Rattle.pgpipe_convert.specs.declared.format.Format.TheVariants as format
use Rattle.pgpipe_show.specs.declared.form.Form.{Form}
use Rattle.pgpipe_show.specs.declared.form.Form.TheVariants as forms
use Rattle.pgpipe_show.specs.declared.form.Line.TheVariants as line
use Rattle.pgpipe_tasks.specs.declared.showing.Showing.{Showing}
use Rattle.pgpipe_tasks.specs.declared.asked.Asked.{Asked}
use Rattle.pgpipe_tasks.specs.declared.asked.Telling.{Telling}
use Rattle.pgpipe_tasks.specs.declared.tasks.Conversion.{Conversion}
use Rattle.pgpipe_tasks.specs.declared.tasks.LoopTask.{LoopTask}
use Rattle.pgpipe_tasks.specs.declared.tasks.ServeTask.{ServeTask}
use Rattle.pgpipe_tasks.specs.declared.tasks.Task.{Task}
use Rattle.pgpipe_tasks.specs.declared.tasks.Task.TheVariants as task
use Rattle.pgpipe_tasks.specs.CommandLine.{IsFormats, command_line}

-- The numbers of the task are in range: 1 to 32,767 columns, and deliveries of 1 to 4,096 bytes.
abbrev pub IsTask : Task → Type 0
IsTask (task.Show s) = Unit {0}
IsTask (task.Convert c) = (0 < c.columns) × (c.columns ≤ 32767)
IsTask (task.Loop l) = (0 < l.cut) × (l.cut ≤ 4096)
IsTask (task.Serve s) = Unit {0}

-- whether the task is a loop that is carried over TCP; one that is broken everywhere isn't
abbrev pub is_over_tcp : Task → Bool
is_over_tcp (task.Loop l) = l.tcp && not l.breaks
is_over_tcp _ = false

-- the path of the file that is read in the place of standard input, if the task names one
abbrev pub input_file : Task → Option Text
input_file (task.Show s) = option_map string_bytes s.file
input_file (task.Convert c) = option_map string_bytes c.file
input_file _ = None

-- ---- what was found for an argument

-- the format that an argument names; clap takes no name but `text` and `binary`
abbrev pub format_named : Option Text → Format
format_named None = format.Text
format_named (Some name) = if bytes_eq name (codes "binary") then format.Binary else format.Text

-- The argument is this number in decimal digits, which a plus may stand before.
abbrev pub IsNumber : Option Text → ℕ → Type 0
IsNumber None n = ⊥
IsNumber (Some text) n = IsNumeral 10 (without_leading_plus text)
    × (digits_value 10 (without_leading_plus text) ≡ n)

-- Whether a flag was given, by what clap found for it.
pub record IsFlag (found : Option Text) (given : Bool) : Type 0 where
  pub if_true : found ≡ Some (codes "true") → given ≡ true
  pub if_false : found ≡ Some (codes "false") → given ≡ false
  pub if_none : found ≡ None → given ≡ false

-- ---- the task of a subcommand, by what was found for its arguments

-- How a stream is shown, by whether `--json`, `--decode` and `--frames` were given: of several the
-- first counts.
abbrev pub form_of : Bool → Bool → Bool → Form
form_of true decode frames = forms.Frames line.Json
form_of false true frames = forms.Frames line.Decoded
form_of false false true = forms.Frames line.Hexadecimal
form_of false false false = forms.Messages

-- whether both sides of a connection can be shown in this form: as messages are, or decoded
abbrev pub is_of_both : Form → Bool
is_of_both forms.Messages = true
is_of_both (forms.Frames line.Decoded) = true
is_of_both (forms.Frames _) = false

-- whether both sides of a connection, from a file each, or one of them are asked for
abbrev pub names_sides : Showing → Bool
names_sides s = is_some s.front_file || is_some s.back_file

-- Whether both are, and nothing that can't go with them: `--front`, `--frames` without `--decode`,
-- `--json`, `--summary`, or a file of one stream.
abbrev pub names_both : Showing → Bool
names_both s = (is_some s.front_file && is_some s.back_file) && not s.front && is_of_both s.form
    && not s.summary && not (is_some s.file)

-- A client's stream is shown, if `--front` was given, and else a backend's, in the form that was
-- asked for, or summed up, if `--summary` was given; it is in the file that was given, or without one
-- on standard input. Or both sides of a connection are shown, each in the file that was given for it.
pub record HasShowing (found : List Row) (s : Showing) : Type 0 where
  pub front : IsFlag (one_of (codes "front") found) s.front
  pub form : (json decode frames : Bool) × IsFlag (one_of (codes "json") found) json
      × IsFlag (one_of (codes "decode") found) decode
      × IsFlag (one_of (codes "frames") found) frames × (s.form ≡ form_of json decode frames)
  pub summary : IsFlag (one_of (codes "summary") found) s.summary
  pub file : option_map string_bytes s.file ≡ first_of (codes "FILE") found
  pub front_file : option_map string_bytes s.front_file ≡ first_of (codes "front-file") found
  pub back_file : option_map string_bytes s.back_file ≡ first_of (codes "back-file") found

-- The task is to show a stream as it was asked for.
abbrev pub IsShowOf : List Row → Task → Type 0
IsShowOf found (task.Show s) = HasShowing found s
IsShowOf found _ = ⊥

-- The conversion has the formats and the number of columns that were given, the delimiter and the
-- null mark, which are a tab and \N where they were left out, and the file, if it was given.
pub record HasConversion (found : List Row) (c : Conversion) : Type 0 where
  pub from : c.from ≡ format_named (first_of (codes "from") found)
  pub to : c.to ≡ format_named (first_of (codes "to") found)
  pub columns : (n : ℕ) → IsNumber (one_of (codes "columns") found) n → 0 < n → n ≤ 32767
      → c.columns ≡ n
  pub delimiter : string_bytes c.delimiter
      ≡ unwrap_or (first_of (codes "delimiter") found) (copy.delimiter ∷ [])
  pub null_mark : string_bytes c.null_mark
      ≡ unwrap_or (first_of (codes "null") found) copy.null_mark
  pub file : option_map string_bytes c.file ≡ first_of (codes "FILE") found

-- The task is a conversion as it was asked for.
abbrev pub IsConversionOf : List Row → Task → Type 0
IsConversionOf found (task.Convert c) = HasConversion found c
IsConversionOf found _ = ⊥

-- The loop is over the files that were given, carried over TCP if `--tcp` was given, broken everywhere
-- if `--break-everywhere` was given, with a trace if `--trace` was given, with comments in the files if
-- `--comments` was given, and with deliveries of as many bytes as `--cut` says, or 4,096 without it.
pub record HasLoop (found : List Row) (l : LoopTask) : Type 0 where
  pub tcp : IsFlag (one_of (codes "tcp") found) l.tcp
  pub breaks : IsFlag (one_of (codes "break-everywhere") found) l.breaks
  pub trace : IsFlag (one_of (codes "trace") found) l.trace
  pub comments : IsFlag (one_of (codes "comments") found) l.comments
  pub script : string_bytes l.script ≡ unwrap_or (first_of (codes "SCRIPT") found) []
  pub calls : string_bytes l.calls ≡ unwrap_or (first_of (codes "CALLS") found) []
  pub cut : (n : ℕ) → IsNumber (one_of (codes "cut") found) n → 0 < n → n ≤ 4096 → l.cut ≡ n
  pub no_cut : one_of (codes "cut") found ≡ None → l.cut ≡ 4096

-- The task is a loop as it was asked for.
abbrev pub IsLoopOf : List Row → Task → Type 0
IsLoopOf found (task.Loop l) = HasLoop found l
IsLoopOf found _ = ⊥

-- Clients are served from the script that was given, on the port that `--port` says, or on any free
-- one (0) without it, and as many as `--connections` says, or without end (None).
pub record HasServing (found : List Row) (s : ServeTask) : Type 0 where
  pub script : string_bytes s.script ≡ unwrap_or (first_of (codes "SCRIPT") found) []
  pub port : (n : ℕ) → IsNumber (one_of (codes "port") found) n → n ≤ 65535 → s.port ≡ n
  pub any_port : one_of (codes "port") found ≡ None → s.port ≡ 0
  pub connections : (n : ℕ) → IsNumber (one_of (codes "connections") found) n → 0 < n
      → n ≤ 4294967295 → s.connections ≡ Some n
  pub no_end : one_of (codes "connections") found ≡ None → s.connections ≡ None

-- The task is to serve clients as it was asked for.
abbrev pub IsServingOf : List Row → Task → Type 0
IsServingOf found (task.Serve s) = HasServing found s
IsServingOf found _ = ⊥

-- ---- the task of the words

-- The subcommand of this name, with these arguments, asks for this task.
pub record IsNamed (name : Text) (found : List Row) (t : Task) : Type 0 where
  pub show : name ≡ codes "show" → IsShowOf found t
  pub convert : name ≡ codes "convert" → IsConversionOf found t
  pub loop : name ≡ codes "loop" → IsLoopOf found t
  pub serve : name ≡ codes "serve" → IsServingOf found t

-- What clap found asks for this task: without a subcommand it is to show a backend's stream, which
-- comes on standard input.
abbrev pub IsAskedFor : Option (Text × List Row) → Task → Type 0
IsAskedFor None t = t
    ≡ task.Show (record {
      front = false;
      form = forms.Messages;
      summary = false;
      file = None;
      front_file = None;
      back_file = None;
    })
IsAskedFor (Some subcommand) t = IsNamed subcommand.0 subcommand.1 t

-- What is printed about a task, by what was found for the flags of its subcommand.
pub record IsTellingBy (found : List Row) (t : Telling) : Type 0 where
  pub explain : IsFlag (one_of (codes "explain") found) t.explain
  pub progress : IsFlag (one_of (codes "progress") found) t.progress

-- What is printed: what the flags of the subcommand say, and nothing without a subcommand.
abbrev pub IsTellingOf : Option (Text × List Row) → Telling → Type 0
IsTellingOf None t = (t.explain ≡ false) × (t.progress ≡ false)
IsTellingOf (Some subcommand) t = IsTellingBy subcommand.1 t

-- What the words are read as: the task that they ask for and what is printed about it, or an error
-- of the kind that clap has for them. Where the words are right, the only error is that memory ran
-- out.
pub record IsReadOf (words : List Text) (result : Result Asked Error) : Type 0 where
  pub formats : ValueParser
  pub are_formats : IsFormats formats
  pub asked_for : IfOk result (λ a. IsTask a.task
      × IsAskedFor (subcommand_of (command_line formats) words) a.task
      × IsTellingOf (subcommand_of (command_line formats) words) a.telling)
  pub taken : FailsBy (fault_of (command_line formats) words) result
