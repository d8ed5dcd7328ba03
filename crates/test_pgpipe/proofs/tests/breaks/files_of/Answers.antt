use Rattle.std.proofs.Common.{◌≡◌, List, ℕ, [], rules, subst, sym}
use Rattle.pgpipe_loop.specs.Everywhere.{FillsIn, nothing}
use Rattle.test_pgpipe.proofs.tests.breaks.files_of.Goals as goal

pub returns-in-None : goal.returns-in-None
returns-in-None c =
    let none : c.new-2.result ≡ [] = search rules in
    let calls = c.in_ok-calls.calls in
    record {
      script = c.in_ok-script.script;
      calls = calls;
      says = record { script_is = search rules; read = calls; calls_are = search rules; limit = search rules; fills_in = subst (λ (named : List (List ℕ)). FillsIn calls named calls) (sym none) nothing };
      checked = search rules;
      filled = search rules;
    }
