use Rattle.std.proofs.Common.{arith, ◌≡◌, Some, None, length, refl, sym, ap, ◌∙◌, inl, inr}
use Rattle.pg_copy_text.specs.declared.line_end.LineEnd.TheVariants.{Return}
use Rattle.pg_copy_text.specs.TextReader.{TextState}
use Rattle.pg_copy_text.proofs.TextParts.{counted-few}
use Rattle.pg_copy_text.proofs.TextBreaks.{last-one, last-return-at, last-lone, after-at, stands-last, counted-return, return-place}
use Rattle.pg_copy_text.proofs.text_reader.TextReader.open_line.Goals as goal

pub returns-then-scan-len : goal.returns-then-scan-len
returns-then-scan-len c =
    let s = c.args.self.now in
    let kept : length c.kept-len.result.now ≡ length s.kept = ap length c.kept-len.ensures ∙ ap (λ (t : TextState). length t.kept) c.self.view_is in
    let all : c.args.scan.at ≡ length s.kept = c.if-scan-len.true ∙ kept in
    record {
      counted = c.requires.scanned.counted;
      in_order = omega (arith, c.if-scan-len.true);
      in_range = omega (arith, kept);
      line = inr (all, kept, record { some = c.requires.some; one = last-one s.options.delimiter s.line_end s.kept c.args.scan all c.requires.scanned });
    }

pub after-whole-requires-clause-few : goal.after-whole-requires-clause-few
after-whole-requires-clause-few c = counted-few c.args.self.now.options.delimiter c.args.self.now.kept c.args.scan c.requires.scanned.counted

pub returns-in-None : goal.returns-in-None
returns-in-None c =
    let s = c.args.self.now in
    let kept : length c.kept-len.result.now ≡ length s.kept = ap length c.kept-len.ensures ∙ ap (λ (t : TextState). length t.kept) c.self.view_is in
    let w = stands-last s.line_end s.kept c.args.scan (λ e. c.if-scan-len.false (e ∙ sym kept)) c.requires.stands in
    let none : s.line_end ≡ None = ap (λ (t : TextState). t.line_end) (sym c.self.view_is) ∙ c.in-None.is in
    let place = return-place s.kept c.args.scan.at w.1 in
    record {
      counted = c.requires.scanned.counted;
      in_order = omega (arith, kept, place);
      in_range = omega (arith, kept);
      line = rw kept (inl (Return, refl, record { some = c.requires.some; sizes = sym place; is_last = last-return-at s.options.delimiter s.line_end s.kept c.args.scan none w.0 w.1 c.requires.scanned }));
    }

pub returns-in-Some : goal.returns-in-Some
returns-in-Some c =
    let s = c.args.self.now in
    let kept : length c.kept-len.result.now ≡ length s.kept = ap length c.kept-len.ensures ∙ ap (λ (t : TextState). length t.kept) c.self.view_is in
    let w = stands-last s.line_end s.kept c.args.scan (λ e. c.if-scan-len.false (e ∙ sym kept)) c.requires.stands in
    let some : s.line_end ≡ Some c.in-Some.end = ap (λ (t : TextState). t.line_end) (sym c.self.view_is) ∙ c.in-Some.is in
    let at : c.after-whole.result.at ≡ length s.kept = rw c.after-whole.ensures (after-at c.delimiter.result c.args.scan 13 ∙ return-place s.kept c.args.scan.at w.1) in
    let d : c.delimiter.result ≡ s.options.delimiter = c.delimiter.ensures.value ∙ ap (λ (t : TextState). t.options.delimiter) c.self.view_is in
    record {
      counted = rw (c.after-whole.ensures, d) (counted-return s.options.delimiter s.line_end s.kept c.args.scan w.1 c.requires.scanned);
      in_order = omega (arith, at, kept);
      in_range = omega (arith, kept);
      line = inr (at, kept, record { some = c.requires.some; one = last-lone s.options.delimiter s.line_end s.kept c.args.scan c.in-Some.end some w.0 w.1 w.2 c.requires.scanned });
    }
