use Rattle.std.proofs.Common.{◌≡◌, ◌<◌, ◌≤◌, ◌∙◌, ℕ, List, [], ◌∷◌, Option, codes, ap, subst, sym, rules}
use Rattle.std.specs.Prelude.{string_bytes, unwrap_or}
use Rattle.clap.specs.Words.{first_value, found_of, one_text}
use Rattle.clap.proofs.WalkLemmas.{first_value-rows, one_text-rows}
use Rattle.pg_copy.specs.Text.{delimiter, null_mark}
use Rattle.pgpipe_tasks.specs.Tasks.{IsNumber, format_named}
use Rattle.pgpipe_tasks.proofs.tasks.conversion_of.Goals as goal

pub returns-clause-named : goal.returns-clause-named
returns-clause-named c =
    let found = found_of c.args.matches.now in
    let many : (n : ℕ) → IsNumber (one_text found (codes "columns")) n → 0 < n → n ≤ 32767 → c.clamp.result ≡ n = λ n is low high. search (rules, is, low, high) in
    let mark : string_bytes c.in_ok-from_str.field-0 ≡ unwrap_or (first_value found (codes "delimiter")) (delimiter ∷ []) = search rules in
    let null : string_bytes c.in_ok-from_str-2.field-0 ≡ unwrap_or (first_value found (codes "null")) null_mark = search rules in
    record {
      from = c.format_of.ensures ∙ ap format_named (first_value-rows found (codes "from"));
      to = c.format_of-2.ensures ∙ ap format_named (first_value-rows found (codes "to"));
      columns = λ n is low high. many n (subst (λ (o : Option (List ℕ)). IsNumber o n) (sym (one_text-rows found (codes "columns"))) is) low high;
      delimiter = mark ∙ ap (λ (o : Option (List ℕ)). unwrap_or o (delimiter ∷ [])) (first_value-rows found (codes "delimiter"));
      null_mark = null ∙ ap (λ (o : Option (List ℕ)). unwrap_or o null_mark) (first_value-rows found (codes "null"));
      file = c.in_ok-file_of.ensures ∙ first_value-rows found (codes "FILE");
    }
