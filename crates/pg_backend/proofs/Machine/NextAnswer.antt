-- The next answer of a script.
use Rattle.std.proofs.Common.{◌≡◌, ℕ, ◌+◌, ◌++◌, ◌<◌, ◌≤◌, add-one, length, get_or, drop, true, false, List, [], ◌∷◌, refl, drop-cons}
use Rattle.std.proofs.lemmas.List.{drop_all}
use Rattle.pg_wire.specs.declared.session.Request.{Request}
use Rattle.pg_backend.specs.declared.script.Answer.{Answer}
use Rattle.pg_backend.specs.declared.script.Logged.{Logged}
use Rattle.pg_backend.specs.declared.script.Script.{Script}
use Rattle.pg_backend.specs.Private.Playing.{PlayingState}
use Rattle.pg_backend.specs.Fitting.{fits, answer_for, others}
use Rattle.pg_backend.specs.OwnError.{no_answer}

pub none_left : (answers : List Answer) (next : ℕ) (r : Request) → length answers ≤ next → answer_for (drop next answers) r ≡ no_answer
none_left answers next r le = rw (drop_all next answers le) refl

pub next_fits : (answers : List Answer) (next : ℕ) (r : Request) (a : Answer) → next < length answers → a ≡ get_or answers next a → fits r a ≡ true → answer_for (drop next answers) r ≡ a
next_fits answers next r a lt is h = rw (drop-cons answers next a lt, ← is, h) refl

pub next_differs : (answers : List Answer) (next : ℕ) (r : Request) (a : Answer) → next < length answers → a ≡ get_or answers next a → fits r a ≡ false → answer_for (drop next answers) r ≡ no_answer
next_differs answers next r a lt is h = rw (drop-cons answers next a lt, ← is, h) refl

-- one more request has taken its answer
pub noted : (script : Script) (next : ℕ) (items more : List Logged) (v : PlayingState) (l : Logged) → ◌≡◌ {A = PlayingState} (record { script = script; left = drop next script.answers; log = items }) v
    → next < length script.answers → more ≡ items ++ l ∷ []
    → ◌≡◌ {A = PlayingState} (record { script = script; left = drop (next + 1) script.answers; log = more }) (record { script = v.script; left = others v.left; log = v.log ++ l ∷ [] })
noted script next items more v l is lt grown =
    rw (← is, drop-cons script.answers next no_answer lt, grown, add-one) refl

pub noted_last : (script : Script) (next : ℕ) (items more : List Logged) (v : PlayingState) (l : Logged) → ◌≡◌ {A = PlayingState} (record { script = script; left = drop next script.answers; log = items }) v
    → length script.answers ≤ next → more ≡ items ++ l ∷ []
    → ◌≡◌ {A = PlayingState} (record { script = script; left = drop next script.answers; log = more }) (record { script = v.script; left = others v.left; log = v.log ++ l ∷ [] })
noted_last script next items more v l is le grown =
    rw (← is, drop_all next script.answers le, grown) refl
