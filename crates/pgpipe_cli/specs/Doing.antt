-- What is done for a task, and how it ends.
use Rattle.std.specs.Prelude.{ℕ, ◌≡◌, Bool, true, false, List, Option, Result, Ok, Err, string_bytes}
use Rattle.std.specs.List.{FoldsTo, concat}
use Rattle.pg_copy.specs.Text.{Options}
use Rattle.pg_wire.specs.Link.{HasRisen}
use Rattle.pg_backend.specs.declared.script_fault.ScriptFault.{ScriptFault}
use Rattle.pg_backend.specs.declared.script.Script.{Script}
use Rattle.pg_backend.specs.Check.{Checks}
use Rattle.pg_pair.specs.Beginning.{IsBegun}
use Rattle.pg_pair.specs.Carrying.{Carrying}
use Rattle.pg_pair.specs.View.{PairView}
use Rattle.pgpipe_base.specs.declared.fault.ToolFault.{ToolFault}
use Rattle.pgpipe_base.specs.Receiving.{HasStopped, CountsNoFailure}
use Rattle.pgpipe_show.specs.Both.{ShowsBoth}
use Rattle.pgpipe_show.specs.declared.both.turn.BothEnds.{BothEnds}
use Rattle.pgpipe_convert.specs.declared.convert.Converted.{Converted}
use Rattle.pgpipe_convert.specs.declared.format.Format.{Format}
use Rattle.pgpipe_convert.specs.Convert as convert
use Rattle.pgpipe_files.specs.declared.calls_file.Calls.{Calls}
use Rattle.pgpipe_loop.specs.declared.run_loop.Ran.{Ran}
use Rattle.pgpipe_loop.specs.declared.run_loop.everywhere.LoopFiles.{LoopFiles}
use Rattle.pgpipe_loop.specs.declared.run_loop.places.Place.{Place}
use Rattle.pgpipe_loop.specs.Everywhere as everywhere
use Rattle.pgpipe_loop.specs.RunLoop as loop
use Rattle.pgpipe_show.specs.declared.show.Shown.{Shown}
use Rattle.pgpipe_show.specs.Show as show
use Rattle.pgpipe_show.specs.Way.{Way}
use Rattle.pgpipe_show.specs.Summary.{SumsUp}
use Rattle.pgpipe_reasons.specs.declared.failure.Failure.{Failure}
use Rattle.pgpipe_reasons.specs.declared.failure.Failure.TheVariants as failure
use Rattle.pgpipe_tasks.specs.declared.tasks.Conversion.{Conversion}
use Rattle.pgpipe_tasks.specs.declared.tasks.LoopTask.{LoopTask}
use Rattle.pgpipe_tasks.specs.declared.tasks.Task.{Task}
use Rattle.pgpipe_tasks.specs.declared.tasks.Task.TheVariants as task
use Rattle.pgpipe_reasons.specs.Failure.{BothResults, BreakResults, ShowResults, ConversionResults, LoopResults, check_failure}
use Rattle.pgpipe_cli.specs.LoopFiles.{ReadsScript, ReadsCalls, KeepsScript, KeepsCalls}
use Rattle.pgpipe_cli.specs.TextOptions.{only_byte, ReadsOptions}

-- ---- a tool's run, by what it received, sent and answered

-- `show_as` was run and returned this. It received these pieces from `source` and sent these to
-- `sink`, and what it promises holds of them.
pub record WasShown {S K : Type 0} (gives : S → List ℕ → S → Type 0) (source_failures : S → ℕ)
    (has_ended : S → Type 0) (takes : K → List ℕ → K → Type 0) (failures : K → ℕ) (way : Way)
    (source : S) (sink : K) (answer : Result Shown ToolFault) (source' : S)
    (sink' : K) : Type 0 where
  pub received : List (List ℕ)
  pub sent : List (List ℕ)
  pub was_received : FoldsTo gives source received source'
  pub was_sent : FoldsTo takes sink sent sink'
  pub answers : show.ShowAnswers
      (HasStopped (source_failures source) (source_failures source') received)
      (HasRisen (failures sink) (failures sink')) way (concat received) (concat sent) answer
  pub ended : show.EndsStream (has_ended source') answer
  pub source_counts : CountsNoFailure (source_failures source) answer (source_failures source')
  pub sink_counts : CountsNoFailure (failures sink) answer (failures sink')

-- `convert_with` was run, with these formats, columns and options, and returned this. It received
-- these pieces from `source` and sent these to `sink`, and what it promises holds of them.
pub record WasConverted {S K : Type 0} (gives : S → List ℕ → S → Type 0) (source_failures : S → ℕ)
    (has_ended : S → Type 0) (takes : K → List ℕ → K → Type 0) (failures : K → ℕ) (from to : Format)
    (columns : ℕ) (o : Options) (source : S) (sink : K) (answer : Result Converted ToolFault)
    (source' : S) (sink' : K) : Type 0 where
  pub received : List (List ℕ)
  pub sent : List (List ℕ)
  pub was_received : FoldsTo gives source received source'
  pub was_sent : FoldsTo takes sink sent sink'
  pub answers : convert.ConversionAnswers
      (HasStopped (source_failures source) (source_failures source') received)
      (HasRisen (failures sink) (failures sink')) (has_ended source')
      (convert.file_with o from columns) (convert.writing_with o to) (concat received) (concat sent)
      answer
  pub ended : convert.EndsFile (has_ended source') answer
  pub source_counts : CountsNoFailure (source_failures source) answer (source_failures source')
  pub sink_counts : CountsNoFailure (failures sink) answer (failures sink')

-- `run_loop` was run, or, for a trace (true), `trace_loop`, with a new pair of this script and these
-- settings, and returned this. It sent these pieces to `sink`, and what it promises holds of them.
pub record WasRun {C K : Type 0} (carries : Carrying C) (takes : K → List ℕ → K → Type 0)
    (failures : K → ℕ) (trace : Bool) (cut : ℕ) (script : Script) (calls : Calls) (carrier : C)
    (sink : K) (answer : Result Ran ToolFault) (sink' : K) : Type 0 where
  pub begun : PairView C
  pub sent : List (List ℕ)
  pub is_begun : IsBegun calls.settings script carrier begun
  pub was_sent : FoldsTo takes sink sent sink'
  pub answers : loop.LoopAnswers (HasRisen (failures sink) (failures sink')) carries trace
      begun (loop.planned_events cut calls.lines) (concat sent) answer
  pub sink_counts : CountsNoFailure (failures sink) answer (failures sink')

-- ---- a loop of two files: SCRIPT is read, then CALLS with the files that it names, and then the
-- script is judged; what fails first is the result, and nothing is sent
module _ {C K : Type 0} (carries : Carrying C) (takes : K → List ℕ → K → Type 0) (failures : K
    → ℕ) (carrier : C) (task : LoopTask) (sink : K) (result : Result Unit Failure)
    (sink' : K) where
  -- This failure is the result, and nothing was sent.
  abbrev pub FailsBy : Failure → Type 0
  FailsBy f = (result ≡ Err f) × (sink' ≡ sink)

  -- By what `check` answered: the loop was run if the script can be played, and else the script's
  -- fault is the failure.
  abbrev pub RunsJudged : Script → Calls → Result Unit ScriptFault → Type 0
  RunsJudged script calls (Ok x) = (answer : Result Ran ToolFault)
      × WasRun carries takes failures task.trace task.cut script calls carrier sink answer sink'
      × LoopResults answer result
  RunsJudged script calls (Err fault) = FailsBy (check_failure fault)

  -- By what came of CALLS: the script was judged where CALLS could be read, and else its failure is
  -- the result.
  abbrev pub RunsCalls : Script → Result Calls Failure → Type 0
  RunsCalls script (Ok calls) = (judged : Result Unit ScriptFault) × Checks script judged
      × RunsJudged script calls judged
  RunsCalls script (Err f) = FailsBy f

  module _ (holds : List ℕ → List ℕ → Type 0) (fails : List ℕ → Failure → Type 0) where
    -- By what came of SCRIPT: CALLS was read where SCRIPT could be, and else its failure is the
    -- result.
    abbrev pub RunsScript : Result Script Failure → Type 0
    RunsScript (Ok script) = (calls : Result Calls Failure)
        × ReadsCalls holds fails task.comments (string_bytes task.calls) calls
        × RunsCalls script calls
    RunsScript (Err f) = FailsBy f

    -- The loop was run, or failed by the first thing that was wrong: SCRIPT is read first, then
    -- CALLS with its files, and then the script is judged.
    abbrev pub RunsFiles : Type 0
    RunsFiles = (script : Result Script Failure)
        × ReadsScript holds fails task.comments (string_bytes task.script) script
        × RunsScript script

-- ---- a loop of two files that is broken everywhere: they are read, and the script is judged, in
-- the order in which they are for a run

module _ {K : Type 0} (takes : K → List ℕ → K → Type 0) (failures : K → ℕ) (task : LoopTask)
    (sink : K) (result : Result Unit Failure) (sink' : K) where
  -- `break_everywhere` was run with these files, and returned this. It sent these pieces to `sink`,
  -- and what it promises holds of them.
  pub record WasBroken (files : LoopFiles) (answer : Result (Option Place) ToolFault) : Type 0 where
    pub sent : List (List ℕ)
    pub was_sent : FoldsTo takes sink sent sink'
    pub answers : everywhere.BreaksAnswer (HasRisen (failures sink) (failures sink')) task.cut files
        (concat sent) answer
    pub sink_counts : CountsNoFailure (failures sink) answer (failures sink')

  -- This failure is the result, and nothing was sent.
  abbrev pub FailsUnbroken : Failure → Type 0
  FailsUnbroken f = (result ≡ Err f) × (sink' ≡ sink)

  -- By what `check` answered: the loop of these files was broken everywhere if the script can be
  -- played, and else the script's fault is the failure.
  abbrev pub BreaksJudged : LoopFiles → Result Unit ScriptFault → Type 0
  BreaksJudged files (Ok x) = (answer : Result (Option Place) ToolFault) × WasBroken files answer
      × BreakResults answer result
  BreaksJudged files (Err fault) = FailsUnbroken (check_failure fault)

  -- The script was judged, and the loop of these files broken everywhere if it can be played.
  abbrev pub BreaksPlayable : LoopFiles → Script → Type 0
  BreaksPlayable files script = (judged : Result Unit ScriptFault) × Checks script judged
      × BreaksJudged files judged

  -- By what came of CALLS: the script was judged where CALLS could be read, and else its failure is
  -- the result.
  abbrev pub BreaksCalls : List ℕ × Script → Result (List ℕ × List (List ℕ)) Failure → Type 0
  BreaksCalls script (Ok calls) = BreaksPlayable
      (record { script = script.0; calls = calls.0; named = calls.1 }) script.1
  BreaksCalls script (Err f) = FailsUnbroken f

  module _ (holds : List ℕ → List ℕ → Type 0) (fails : List ℕ → Failure → Type 0) where
    -- By what came of SCRIPT: CALLS was read where SCRIPT could be, and else its failure is the
    -- result.
    abbrev pub BreaksScript : Result (List ℕ × Script) Failure → Type 0
    BreaksScript (Ok script) = (calls : Result (List ℕ × List (List ℕ)) Failure)
        × KeepsCalls holds fails task.comments (string_bytes task.calls) calls
        × BreaksCalls script calls
    BreaksScript (Err f) = FailsUnbroken f

    -- The loop was broken everywhere, or failed by the first thing that was wrong.
    abbrev pub BreaksFiles : Type 0
    BreaksFiles = (script : Result (List ℕ × Script) Failure)
        × KeepsScript holds fails task.comments (string_bytes task.script) script
        × BreaksScript script

-- ---- a loop

module _ {C K : Type 0} (carries : Carrying C) (takes : K → List ℕ → K → Type 0) (failures : K → ℕ)
    (holds : List ℕ → List ℕ → Type 0) (fails : List ℕ → Failure → Type 0) (carrier : C)
    (task : LoopTask) (sink : K) (result : Result Unit Failure) (sink' : K) where
  -- By whether the loop is to be broken everywhere, whether over TCP, and whether with a trace: it
  -- was run; or it was broken everywhere, which isn't done over TCP, nor with a trace.
  abbrev pub DoesLoopIf : Bool → Bool → Bool → Type 0
  DoesLoopIf false tcp trace =
      RunsFiles carries takes failures carrier task sink result sink' holds fails
  DoesLoopIf true true trace = (result ≡ Err failure.BreaksOverTcp) × (sink' ≡ sink)
  DoesLoopIf true false true = (result ≡ Err failure.BreaksTraced) × (sink' ≡ sink)
  DoesLoopIf true false false = BreaksFiles takes failures task sink result sink' holds fails

  -- The loop was run or broken everywhere, as its task says.
  abbrev pub DoesLoop : Type 0
  DoesLoop = DoesLoopIf task.breaks task.tcp task.trace

-- ---- both sides of a connection

-- `show_both` was run, and its result says how the program ends.
abbrev pub DoesBoth : {F B K : Type 0} → (F → List ℕ → F → Type 0) → (F → ℕ) → (F → Type 0)
    → (B → List ℕ → B → Type 0) → (B → ℕ) → (B → Type 0) → (K → List ℕ → K → Type 0) → (K → ℕ)
    → F → B → K → Result Unit Failure → F → B → K → Type 0
DoesBoth front_gives front_failures front_ended back_gives back_failures back_ended takes failures
    front back sink result front' back' sink' =
    (answer : Result BothEnds ToolFault)
    × ShowsBoth front_gives front_failures front_ended back_gives back_failures back_ended takes
    failures front back sink answer front' back' sink'
    × BothResults answer result

-- ---- a task

-- `summarize` was run, and its result says how the task ends.
abbrev pub DoesSummary : {S K : Type 0} → (S → List ℕ → S → Type 0) → (K → List ℕ → K → Type 0)
    → Bool → S → K → Result Unit Failure → S → K → Type 0
DoesSummary gives takes front source sink result source' sink' = (answer : Result Shown ToolFault)
    × SumsUp gives takes front source sink answer source' sink' × ShowResults answer result

module _ {S K : Type 0} (gives : S → List ℕ → S → Type 0) (source_failures : S → ℕ) (has_ended : S
    → Type 0) (takes : K → List ℕ → K → Type 0) (failures : K → ℕ) where
  -- `show_as` was run, and its result says how the task ends.
  abbrev pub DoesShow : Way → S → K → Result Unit Failure → S → K → Type 0
  DoesShow way source sink result source' sink' = (answer : Result Shown ToolFault)
      × WasShown gives source_failures has_ended takes failures way source sink answer source'
      sink'
      × ShowResults answer result

  -- A stream was summed up (true), or shown.
  abbrev pub DoesShowing : Bool → Way → S → K → Result Unit Failure → S → K → Type 0
  DoesShowing true way source sink result source' sink' =
      DoesSummary gives takes way.front source sink result source' sink'
  DoesShowing false way source sink result source' sink' =
      DoesShow way source sink result source' sink'

  -- By what came of the options: `convert_with` was run with them, and the task's result is what
  -- its answer means for the program; or their failure is the result, and nothing was received or
  -- sent.
  abbrev pub DoesWith : Result Options Failure → Conversion → S → K → Result Unit Failure → S → K
      → Type 0
  DoesWith (Ok o) c source sink result source' sink' = (answer : Result Converted ToolFault)
      × WasConverted gives source_failures has_ended takes failures c.from c.to c.columns o source
      sink answer source' sink' × ConversionResults answer result
  DoesWith (Err f) c source sink result source' sink' = (result ≡ Err f) × (source' ≡ source)
      × (sink' ≡ sink)

  -- The file was converted with the options of this conversion, which are judged first.
  abbrev pub DoesConvert : Conversion → S → K → Result Unit Failure → S → K → Type 0
  DoesConvert c source sink result source' sink' = (options : Result Options Failure)
      × ReadsOptions (only_byte (string_bytes c.delimiter)) (string_bytes c.null_mark) options
      × DoesWith options c source sink result source' sink'

  module _ {C : Type 0} (holds : List ℕ → List ℕ → Type 0) (fails : List ℕ → Failure → Type 0)
      (carries : Carrying C) (carrier : C) where
    -- The task was done with this result: a stream was shown, a file converted, or a loop run or
    -- broken everywhere.
    -- `holds` and `fails` say of a file store which bytes a path has, and by what failure it can't
    -- be read.
    abbrev pub DoesTask : Task → S → K → Result Unit Failure → S → K → Type 0
    DoesTask (task.Show s) source sink result source' sink' =
        DoesShowing s.summary (record { form = s.form; front = s.front }) source sink result source'
        sink'
    DoesTask (task.Convert c) source sink result source' sink' =
        DoesConvert c source sink result source' sink'
    DoesTask (task.Loop l) source sink result source' sink' = (source' ≡ source)
        × DoesLoop carries takes failures holds fails carrier l sink result sink'
    -- clients aren't served here, but by `serve_file`
    DoesTask (task.Serve s) source sink result source' sink' =
        (result ≡ Err failure.Device) × (source' ≡ source) × (sink' ≡ sink)
