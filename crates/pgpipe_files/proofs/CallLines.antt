-- Lines of CALLS whose first field isn't UTF-8, and paths.
use Rattle.std.proofs.Common.{◌≡◌, ℕ, Bool, true, List, Option, Some, None, codes, if◌then◌else◌, refl, ap, ◌∙◌}
use Rattle.std.specs.Str.{IsUtf8, is_utf8}
use Rattle.std.proofs.lemmas.Str.{IsUtf8-from_is_utf8, is_utf8-from_IsUtf8}
use Rattle.pg_copy.specs.Row.{Row}
use Rattle.pgpipe_files.specs.declared.calls_file.Group.{Group}
use Rattle.pgpipe_lines.specs.declared.verb.CallVerb.{CallVerb}
use Rattle.pgpipe_lines.specs.declared.verb.StepVerb.{StepVerb}
use Rattle.pgpipe_lines.specs.Arguments.{◌>>=◌}
use Rattle.pgpipe_files.specs.CallsFile.{CallsSoFar, call_line, calls_line, calls_line_by, path, step_or_sync, sync_said}
use Rattle.pgpipe_lines.proofs.Words.{differs, is_false, no-call_verb, no-step_verb}

by_none : (group : Option Group) (s : CallsSoFar) (n : ℕ) (word : List ℕ) (fields : Row) → (IsUtf8 word → ⊥) → calls_line_by group s n word fields ≡ None
unfolding lib.Utf8.encode
by_none None s n word fields h = ap (λ (v : Option CallVerb). v >>= λ w. call_line s n w fields) (no-call_verb word h)
by_none (Some group) s n word fields h =
    ap (λ (v : Option StepVerb). step_or_sync s group v word fields) (no-step_verb word h)
    ∙ ap (λ (is : Bool). if is then sync_said s group fields else None) (differs word (codes "sync") h (codes "sync", (refl, refl)))

pub no_calls_line : (s : CallsSoFar) (n : ℕ) (word : List ℕ) (fields : Row) → (IsUtf8 word → ⊥) → calls_line s n word fields ≡ None
unfolding calls_line
no_calls_line s n word fields h = by_none s.group (record s { group = None }) n word fields h

pub path-some : (bytes : List ℕ) → IsUtf8 bytes → path bytes ≡ Some bytes
path-some bytes h = ap (λ (is : Bool). if is then Some bytes else None) (is_utf8-from_IsUtf8 bytes h)

pub path-none : (bytes : List ℕ) → (IsUtf8 bytes → ⊥) → path bytes ≡ None
path-none bytes h = ap (λ (is : Bool). if is then Some bytes else None) (is_false (is_utf8 bytes) (λ (e : is_utf8 bytes ≡ true). h (IsUtf8-from_is_utf8 bytes e)))
