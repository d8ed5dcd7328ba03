-- Lines of SCRIPT whose first field isn't UTF-8, and a script of no bytes.
use Rattle.std.proofs.Common.{◌≡◌, ℕ, ◌<◌, [], ◌∷◌, length, Ok, IsSome, arith, List, Option, Some, None, refl, ap, ◌∙◌}
use Rattle.std.specs.Str.{IsUtf8}
use Rattle.pg_copy.specs.Row.{Row}
use Rattle.pgpipe_lines.specs.declared.answer_lines.OpenAnswer.{OpenAnswer}
use Rattle.pgpipe_lines.specs.declared.verb.AnswerVerb.{AnswerVerb}
use Rattle.pgpipe_lines.specs.declared.verb.ScriptVerb.{ScriptVerb}
use Rattle.pgpipe_lines.specs.Arguments.{◌>>=◌}
use Rattle.pgpipe_lines.specs.AnswerLines.{answer_line}
use Rattle.pgpipe_files.specs.ScriptFile.{ScriptSoFar, in_answer, script_line_by, no_script, script_line}
use Rattle.pgpipe_files.specs.Lines.{with_file, with_rows}
use Rattle.pg_copy.specs.Text.{last_after}
use Rattle.pgpipe_lines.proofs.Words.{no-answer_verb, no-script_verb}

in_none : (s : ScriptSoFar) (begun : Option OpenAnswer) (n : ℕ) (word : List ℕ) (fields : Row) → (IsUtf8 word → ⊥) → in_answer s begun n word fields ≡ None
in_none s None n word fields h = refl
in_none s (Some o) n word fields h = ap (λ (v : Option AnswerVerb). v >>= λ w. answer_line o n w fields >>= λ next. Some (record s { begun = Some next })) (no-answer_verb word h)

pub no_script_line : (s : ScriptSoFar) (n : ℕ) (word : List ℕ) (fields : Row) → (IsUtf8 word → ⊥) → script_line s n word fields ≡ None
unfolding script_line
no_script_line s n word fields h = ap (λ (v : Option ScriptVerb). script_line_by v s n word fields) (no-script_verb word h) ∙ in_none s s.begun n word fields h

-- where an answer has begun, there were bytes
pub begun_bytes : (bytes : List ℕ) (s : ScriptSoFar) → with_file script_line no_script bytes ≡ Ok s → IsSome s.begun → 0 < length bytes
unfolding with_rows last_after
begun_bytes [] s e h = let none : no_script ≡ s = cc in let some = rw (← none) at h in cc
begun_bytes (b ∷ bs) s e h = omega arith
