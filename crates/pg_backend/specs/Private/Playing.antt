-- What the calls of a script that is played do.
use Rattle.std.specs.Prelude.{ℕ, ◌≡◌, List, [], ◌∷◌, ◌++◌, Result, Ok, Err}
use Rattle.pg_backend.specs.declared.fault.BackendFault.{BackendFault}
use Rattle.pg_backend.specs.declared.fault.BackendFault.TheVariants as faults
use Rattle.pg_backend.specs.declared.script.Answer.{Answer}
use Rattle.pg_backend.specs.declared.script.Logged.{Logged}
use Rattle.pg_backend.specs.declared.script.Script.{Script}
use Rattle.pg_backend.specs.declared.stage.Next.{Next}
use Rattle.pg_backend.specs.Fitting.{others}
use Rattle.pg_backend.specs.Lists.{IsPrefix}
use Rattle.pg_backend.specs.Private.Moves.{Move}
use Rattle.pg_backend.specs.Private.Telling.{AreSent}

-- the script, the answers that are left, and the log
pub record PlayingState : Type 0 where
  pub script : Script
  pub left : List Answer
  pub log : List Logged

-- A request is logged, and the next answer is the next one's; or memory ran out, and nothing has changed.
abbrev pub Notes : Logged → PlayingState → Result Unit BackendFault → PlayingState → Type 0
Notes l old (Ok x) new = new ≡ record old { left = others old.left; log = old.log ++ l ∷ [] }
Notes l old (Err f) new = (f ≡ faults.Memory) × (new ≡ old)

-- What a message does is done; or memory ran out, and but for some bytes after what was there nothing has changed.
abbrev pub Moves : Move → PlayingState → List ℕ
    → Result Next BackendFault → PlayingState → List ℕ → Type 0
Moves v old before (Ok next) new after = (next ≡ v.next)
    × (new ≡ record old { left = v.left; log = old.log ++ v.logged }) × AreSent v.sent before after
Moves v old before (Err f) new after = (f ≡ faults.Memory) × (new ≡ old) × IsPrefix before after
