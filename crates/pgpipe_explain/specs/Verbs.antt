-- Which file a verb is of.
use Rattle.std.specs.Prelude.{ℕ, ◌||◌, ◌==◌, Bool, is_some, if◌then◌else◌, List, codes}
use Rattle.std.specs.Str.{bytes_eq}
use Rattle.std.specs.List.{list_any}
use Rattle.pgpipe_lines.specs.Verb.{answer_verb, call_verb, script_verb, step_verb}
use Rattle.pgpipe_explain.specs.declared.reason.LineReason.{LineReason}
use Rattle.pgpipe_explain.specs.declared.reason.LineReason.TheVariants as reason

-- the word that ends a group
abbrev pub is_sync : List ℕ → Bool
is_sync word = bytes_eq word (codes "sync")

-- whether a word is a verb of CALLS
abbrev pub is_of_calls : List ℕ → Bool
is_of_calls word = is_some (call_verb word) || is_some (step_verb word) || is_sync word

-- whether a word is a verb of SCRIPT
abbrev pub is_of_script : List ℕ → Bool
is_of_script word = is_some (script_verb word) || is_some (answer_verb word)

-- why a word is a verb of neither file; no verb has a space
abbrev pub no_verb : List ℕ → LineReason
no_verb word = if list_any (λ b. b == 32) word then reason.Space else reason.NoVerb
