use Rattle.std.proofs.Common.{◌≡◌, ◌++◌, Bool, List, ℕ, length, ap, ◌∙◌, arith, rules}
use Rattle.pgpipe_texts.specs.Text.{shown_bytes}
use Rattle.pgpipe_texts.proofs.Texts.{all_put}
use Rattle.pgpipe_texts.proofs.text.put_parts.Goals as goal

pub loop-rest-preserved : goal.loop-rest-preserved
loop-rest-preserved c = ap (λ (r : List ℕ). c.put_some.new.line.items ++ shown_bytes c.is_utf8-utf8.result c.args.mark r) c.split_at.ensures.back ∙ c.in_ok-count.ensures.put ∙ c.loop-rest.invariant

pub loop-rest-smaller : goal.loop-rest-smaller
loop-rest-smaller c = omega (arith, c.in_ok-count.ensures.some, c.split_at.ensures.back_len)

pub returns : goal.returns
returns c =
    let l = c.loop-rest in
    let none : length l.rest.now ≡ 0 = search rules in
    all_put c.is_utf8-utf8.result c.args.mark l.rest.now l.line.items _ none l.invariant ∙ ap (λ (u : Bool). c.args.line.now.items ++ shown_bytes u c.args.mark c.args.bytes.now) c.is_utf8-utf8.ensures

pub split_at-requires : goal.split_at-requires
split_at-requires c = c.in_ok-count.ensures.within
