use Rattle.std.proofs.Common.{◌≡◌, ◌≤◌, ◌+◌, ◌-◌, ◌++◌, ℕ, List, None, length, take, drop, ap, sym, refl, subst, ◌∙◌, arith}
use Rattle.std.proofs.lemmas.List.{length-take-le, length-drop}
use Rattle.pg_copy_rows.specs.Private.RowBuffer.{RowBytes}
use Rattle.pg_copy_rows.specs.Private.Cuts.{AreTexts}
use Rattle.pg_copy_text.specs.Private.TextRow.{line_values}
use Rattle.pg_copy_text.proofs.OptionFacts.{no-backslash}
use Rattle.pg_copy_text.proofs.TextPuts.{first-plain, put-back}
use Rattle.pg_copy_text.proofs.text_reader.steps.put_first.Goals as goal

pub returns-then-not-may_differ-clause-puts : goal.returns-then-not-may_differ-clause-puts
returns-then-not-may_differ-clause-puts c =
    let o = c.args.options.now in
    let kept = c.args.buffer.now.kept in
    first-plain c.args.len o kept c.take.new.self c.args.cuts.now (no-backslash o c.requires.options) c.requires.in_range c.take.ensures c.requires.cuts (rw c.kept.ensures at c.if-not-may_differ.ensures.plain refl) (c.if-not-may_differ.ensures.no_null refl)

pub returns-clause-puts : goal.returns-clause-puts
returns-clause-puts c =
    let o = c.args.options.now in
    let kept = c.args.buffer.now.kept in
    let n = c.args.len in
    let block = c.into_parts-block.result.0.items in
    let start = c.into_parts-block.result.1 in
    let slice = c.as_mut_slice.result.now in
    let line = c.put_texts.new.line in
    let same : slice ≡ block = c.as_mut_slice.ensures.value in
    let there : kept ≡ drop start slice = sym (ap (λ (b : RowBytes). b.kept) c.replace.ensures.value) ∙ c.into_parts-block.ensures.bytes ∙ ap (drop start) (sym same) in
    let within : start + n ≤ length slice = omega (arith, c.requires.in_range, ap length there, length-drop start slice, c.into_parts-block.ensures.in_range, ap length same, c.as_mut_slice.ensures.len) in
    let k : start + n - start ≡ n = omega arith in
    let first : take (start + n - start) (drop start slice) ≡ take n kept = ap (λ (m : ℕ). take m (drop start slice)) k ∙ ap (take n) (sym there) in
    let size : length line ≡ n = c.put_texts.ensures.len ∙ ap length first ∙ length-take-le n kept c.requires.in_range in
    record {
      line = line;
      is = c.of_parts.ensures ∙ ap (λ (bytes : List ℕ). record { front = None; kept = bytes }) (put-back start n _ slice line _ within size (sym c.as_mut_slice.ensures.len) ∙ ap (λ (bytes : List ℕ). line ++ drop n bytes) (sym there));
      len = size;
      texts = subst (λ (bytes : List ℕ). AreTexts (line_values o bytes) c.put_texts.new.cuts line) first c.put_texts.ensures.texts;
    }
