use Rattle.std.proofs.Common.{◌≡◌, ◌<◌, ◌≤◌, ◌∙◌, ℕ, List, [], Option, None, codes, ap, subst, sym, rules}
use Rattle.std.specs.Prelude.{string_bytes, unwrap_or}
use Rattle.clap.specs.Words.{first_value, found_of, one_text}
use Rattle.clap.proofs.WalkLemmas.{first_value-rows, one_text-rows}
use Rattle.pgpipe_tasks.specs.Tasks.{IsNumber}
use Rattle.pgpipe_tasks.proofs.tasks.loop_of.Goals as goal

pub returns-clause-named : goal.returns-clause-named
returns-clause-named c =
    let found = found_of c.args.matches.now in
    let script : string_bytes c.in_ok-from_str.field-0 ≡ unwrap_or (first_value found (codes "SCRIPT")) [] = search rules in
    let calls : string_bytes c.in_ok-from_str-2.field-0 ≡ unwrap_or (first_value found (codes "CALLS")) [] = search rules in
    let named : (n : ℕ) → IsNumber (one_text found (codes "cut")) n → 0 < n → n ≤ 4096 → c.clamp.result ≡ n = λ n is low high. search (rules, is, low, high) in
    let default : one_text found (codes "cut") ≡ None → c.clamp.result ≡ 4096 = λ e. search (rules, e) in
    let same = one_text-rows found (codes "cut") in
    let tcp = one_text-rows found (codes "tcp") in
    let breaks = one_text-rows found (codes "break-everywhere") in
    let trace = one_text-rows found (codes "trace") in
    let comments = one_text-rows found (codes "comments") in
    let text = λ (o : Option (List ℕ)). unwrap_or o [] in
    record {
      tcp = record {
        if_true = λ e. c.get_flag.ensures.value (tcp ∙ e);
        if_false = λ e. c.get_flag.ensures.other (tcp ∙ e);
        if_none = λ e. c.get_flag.ensures.none (tcp ∙ e);
      };
      breaks = record {
        if_true = λ e. c.get_flag-2.ensures.value (breaks ∙ e);
        if_false = λ e. c.get_flag-2.ensures.other (breaks ∙ e);
        if_none = λ e. c.get_flag-2.ensures.none (breaks ∙ e);
      };
      trace = record {
        if_true = λ e. c.get_flag-3.ensures.value (trace ∙ e);
        if_false = λ e. c.get_flag-3.ensures.other (trace ∙ e);
        if_none = λ e. c.get_flag-3.ensures.none (trace ∙ e);
      };
      comments = record {
        if_true = λ e. c.get_flag-4.ensures.value (comments ∙ e);
        if_false = λ e. c.get_flag-4.ensures.other (comments ∙ e);
        if_none = λ e. c.get_flag-4.ensures.none (comments ∙ e);
      };
      script = script ∙ ap text (first_value-rows found (codes "SCRIPT"));
      calls = calls ∙ ap text (first_value-rows found (codes "CALLS"));
      cut = λ n is low high. named n (subst (λ (o : Option (List ℕ)). IsNumber o n) (sym same) is) low high;
      no_cut = λ e. default (same ∙ e);
    }
