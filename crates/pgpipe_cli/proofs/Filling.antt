-- Files that are read into the places of calls.
use Rattle.std.proofs.Common.{◌≡◌, ℕ, Bool, List, Result, Ok, Err, refl, inl, inr}
use Rattle.pgpipe_files.specs.declared.calls_file.Calls.{Calls}
use Rattle.pgpipe_files.specs.CallsFile.{calls_of, what_is_said}
use Rattle.pgpipe_reasons.specs.declared.failure.Failure.{Failure}
use Rattle.pg_backend.specs.declared.script.Script.{Script}
use Rattle.pgpipe_cli.specs.LoopFiles.{calls_limit, HasText, ReadsScript, SaysCalls, SaysScript, Fills, nothing, one_more, ReadsFiles, ReadsCalls}

module _ (holds : List ℕ → List ℕ → Type 0) (fails : List ℕ → Failure → Type 0) where
  pub keeps_settings : (read calls : Calls) → Fills holds fails read calls → calls.settings ≡ read.settings
  keeps_settings read _ nothing = refl
  keeps_settings read _ (one_more calls path bytes before next held) = keeps_settings read calls before

  pub calls_read : (comments : Bool) (path text : List ℕ) (read : Calls) (r : Result Calls Failure) → HasText holds fails comments path text → calls_of text ≡ Ok (what_is_said read)
      → read.settings.limit ≡ calls_limit → ReadsFiles holds fails read r → ReadsCalls holds fails comments path r
  calls_read comments path text read (Ok calls) has is_read limit filled = (text, has, read, is_read, limit, filled)
  calls_read comments path text read (Err f) has is_read limit stops = inr (text, has, inr (read, is_read, stops))

  pub calls_refused : (comments : Bool) (path text : List ℕ) (f : Failure) → HasText holds fails comments path text → SaysCalls text (Err f) → ReadsCalls holds fails comments path (Err f)
  calls_refused comments path text f has says = inr (text, has, inl says)

  pub script_read : (comments : Bool) (path text : List ℕ) (r : Result Script Failure) → HasText holds fails comments path text → SaysScript text r → ReadsScript holds fails comments path r
  script_read comments path text (Ok script) has says = (text, has, says)
  script_read comments path text (Err f) has says = inr (text, has, says)
