-- How SCRIPT and CALLS are read, with the files that CALLS names.
use Rattle.std.specs.Prelude.{ℕ, ◌≡◌, ◌⊎◌, Bool, true, false, List, Some, None, Result, Ok, Err}
use Rattle.pg_backend.specs.declared.script.Script.{Script}
use Rattle.pgpipe_files.specs.declared.calls_file.Calls.{Calls}
use Rattle.pgpipe_lines.specs.declared.fault.LineFault.{LineFault}
use Rattle.pgpipe_lines.specs.declared.fault.LineFault.TheVariants.{Line}
use Rattle.pgpipe_files.specs.CallsFile.{calls_of, what_is_said}
use Rattle.pgpipe_files.specs.ScriptFile.{script_of}
use Rattle.pgpipe_files.specs.Filling.{next_file, filled}
use Rattle.pgpipe_loop.specs.declared.run_loop.everywhere.LoopFiles.{LoopFiles}
use Rattle.pgpipe_loop.specs.Everywhere.{FillsIn, Says}
use Rattle.pgpipe_reasons.specs.declared.failure.Failure.{Failure}
use Rattle.pgpipe_reasons.specs.declared.failure.Failure.TheVariants as failure
use Rattle.pgpipe_lines.specs.Comments.{text_of}
use Rattle.pgpipe_reasons.specs.Failure.{script_failure, calls_failure}

-- the limit of a message's length field in the client of a loop
abbrev pub calls_limit : ℕ
calls_limit = 1073741823

-- If the fault names a row, it is the one that has no meaning in its place. Where memory ran out,
-- it names none.
abbrev pub IsAt : {A : Type 0} → LineFault → Result A ℕ → Type 0
IsAt fault reading = (n : ℕ) → fault ≡ Line n → reading ≡ Err n

-- What came of the text of SCRIPT: the script that it says, or a fault.
abbrev pub SaysScript : List ℕ → Result Script Failure → Type 0
SaysScript text (Ok script) = script_of text ≡ Ok script
SaysScript text (Err f) = (fault : LineFault) × (f ≡ script_failure fault)
    × IsAt fault (script_of text)

-- What came of the text of CALLS: what it says, and the limit of its client; or a fault.
abbrev pub SaysCalls : List ℕ → Result Calls Failure → Type 0
SaysCalls text (Ok read) = (calls_of text ≡ Ok (what_is_said read))
    × (read.settings.limit ≡ calls_limit)
SaysCalls text (Err f) = (fault : LineFault) × (f ≡ calls_failure fault)
    × IsAt fault (calls_of text)

-- These files say this script, and calls in which no file is left to be filled in.
abbrev pub SaysAll : LoopFiles → Script → Type 0
SaysAll files script = (calls : Calls) × Says files script calls × (next_file calls.lines ≡ None)

module _ (holds : List ℕ → List ℕ → Type 0) (fails : List ℕ → Failure → Type 0) where
  -- This is the text of the file at this path: its bytes, or those without its comments, if it may
  -- have any (true).
  abbrev pub HasText : Bool → List ℕ → List ℕ → Type 0
  HasText comments path text = (bytes : List ℕ) × holds path bytes × (text ≡ text_of comments bytes)

  -- The text of the file at this path can't be had: it can't be read, or, where it may have
  -- comments (true), memory for it ran out.
  abbrev pub FailsText : Bool → List ℕ → Failure → Type 0
  FailsText false path f = fails path f
  FailsText true path f = fails path f ⊎ (f ≡ failure.Memory)

  -- What came of SCRIPT at this path: the script that its text says; or the text can't be had, or
  -- has a fault, or memory ran out.
  abbrev pub ReadsScript : Bool → List ℕ → Result Script Failure → Type 0
  ReadsScript comments path (Ok script) = (text : List ℕ) × HasText comments path text
      × (script_of text ≡ Ok script)
  ReadsScript comments path (Err f) = FailsText comments path f
      ⊎ ((text : List ℕ) × HasText comments path text × SaysScript text (Err f))

  -- Of the files that CALLS names, the first some were read, each from its path, and stand as
  -- chunks in their places.
  pub data Fills (read : Calls) : Calls → Type 0 where
    nothing : Fills read read
    one_more : (calls : Calls) (path bytes : List ℕ) → Fills read calls
        → next_file calls.lines ≡ Some path → holds path bytes → Fills read (filled bytes calls)

  -- All files that CALLS names were read, and stand as chunks in their places.
  abbrev pub FillsAll : Calls → Calls → Type 0
  FillsAll read calls = Fills read calls × (next_file calls.lines ≡ None)

  -- The next file that CALLS names can't be read, or memory for its chunks ran out.
  pub record StopsFilling (read : Calls) (f : Failure) : Type 0 where
    pub calls : Calls
    pub path : List ℕ
    pub fills : Fills read calls
    pub next_is : next_file calls.lines ≡ Some path
    pub stops : fails path f ⊎ (f ≡ failure.Memory)

  -- What came of the files that CALLS names: all stand in their places, or one failed so.
  abbrev pub ReadsFiles : Calls → Result Calls Failure → Type 0
  ReadsFiles read (Ok calls) = FillsAll read calls
  ReadsFiles read (Err f) = StopsFilling read f

  -- What came of CALLS at this path: what its text says, with the files that it names, which have
  -- no comments; or the text can't be had or has a fault, or one of those files failed, or memory
  -- ran out.
  abbrev pub ReadsCalls : Bool → List ℕ → Result Calls Failure → Type 0
  ReadsCalls comments path (Ok calls) = (text : List ℕ) × HasText comments path text
      × (read : Calls) × (calls_of text ≡ Ok (what_is_said read))
      × (read.settings.limit ≡ calls_limit) × FillsAll read calls
  ReadsCalls comments path (Err f) = FailsText comments path f
      ⊎ ((text : List ℕ) × HasText comments path text
      × (((fault : LineFault) × (f ≡ calls_failure fault) × IsAt fault (calls_of text))
      ⊎ ((read : Calls) × (calls_of text ≡ Ok (what_is_said read)) × StopsFilling read f)))

  -- ---- texts that are kept, so that a loop can be run of them again

  -- What came of SCRIPT at this path: its text, and the script that it says; or what reading it
  -- came to.
  abbrev pub KeepsScript : Bool → List ℕ → Result (List ℕ × Script) Failure → Type 0
  KeepsScript comments path (Ok kept) =
      HasText comments path kept.0 × (script_of kept.0 ≡ Ok kept.1)
  KeepsScript comments path (Err f) = ReadsScript comments path (Err f)

  -- What came of the files that these calls name: the bytes of each, in order, and the calls with
  -- all in their places; or one failed so.
  abbrev pub KeepsNamed : Calls → Result (List (List ℕ) × Calls) Failure → Type 0
  KeepsNamed read (Ok kept) = FillsAll read kept.1 × FillsIn read kept.0 kept.1
  KeepsNamed read (Err f) = StopsFilling read f

  -- This is the text of CALLS at this path, and these are the bytes of the files that it names.
  pub record HasKept (comments : Bool) (path text : List ℕ) (named : List (List ℕ)) : Type 0 where
    pub has_text : HasText comments path text
    pub read : Calls
    pub is_read : calls_of text ≡ Ok (what_is_said read)
    pub limit : read.settings.limit ≡ calls_limit
    pub calls : Calls
    pub named_are : KeepsNamed read (Ok (named, calls))

  -- What came of CALLS at this path: its text, and the bytes of the files that it names; or what
  -- reading it came to.
  abbrev pub KeepsCalls : Bool → List ℕ → Result (List ℕ × List (List ℕ)) Failure → Type 0
  KeepsCalls comments path (Ok kept) = HasKept comments path kept.0 kept.1
  KeepsCalls comments path (Err f) = ReadsCalls comments path (Err f)
