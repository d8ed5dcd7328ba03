use Rattle.std.proofs.Common.{◌≡◌, ◌<◌, ◌≤◌, ◌∙◌, ℕ, List, [], Option, Some, None, codes, ap, subst, sym, rules}
use Rattle.std.specs.Prelude.{string_bytes, unwrap_or}
use Rattle.clap.specs.Words.{first_value, found_of, one_text}
use Rattle.clap.proofs.WalkLemmas.{first_value-rows, one_text-rows}
use Rattle.pgpipe_tasks.specs.Tasks.{IsNumber}
use Rattle.pgpipe_tasks.proofs.tasks.serving_of.Goals as goal

pub returns-clause-named : goal.returns-clause-named
returns-clause-named c =
    let found = found_of c.args.matches.now in
    let script : string_bytes c.in_ok-from_str.field-0 ≡ unwrap_or (first_value found (codes "SCRIPT")) [] = search rules in
    let port : (n : ℕ) → IsNumber (one_text found (codes "port")) n → n ≤ 65535 → c.unwrap_or-port.result ≡ n = λ n is high. search (rules, is, high) in
    let any_port : one_text found (codes "port") ≡ None → c.unwrap_or-port.result ≡ 0 = λ e. search (rules, e) in
    let many : (n : ℕ) → IsNumber (one_text found (codes "connections")) n → 0 < n → n ≤ 4294967295 → c.get_one-connections.result ≡ Some n = λ n is low high. search (rules, is, low, high) in
    let no_end : one_text found (codes "connections") ≡ None → c.get_one-connections.result ≡ None = λ e. search (rules, e) in
    let port_is = one_text-rows found (codes "port") in
    let many_is = one_text-rows found (codes "connections") in
    record {
      script = script ∙ ap (λ (o : Option (List ℕ)). unwrap_or o []) (first_value-rows found (codes "SCRIPT"));
      port = λ n is high. port n (subst (λ (o : Option (List ℕ)). IsNumber o n) (sym port_is) is) high;
      any_port = λ e. any_port (port_is ∙ e);
      connections = λ n is low high. many n (subst (λ (o : Option (List ℕ)). IsNumber o n) (sym many_is) is) low high;
      no_end = λ e. no_end (many_is ∙ e);
    }
