use Rattle.std.proofs.Common.{rules, arith, ◌≡◌, ◌+◌, length, refl, sym, ap, ◌∙◌, inl}
use Rattle.std.proofs.lemmas.List.{nil_from_length}
use Rattle.pg_copy_text.specs.Text.{end_len}
use Rattle.pg_copy_text.specs.TextReader.{TextState}
use Rattle.pg_copy_text.proofs.TextBreaks.{first-is-last}
use Rattle.pg_copy_text.proofs.TextPlaces.{end-some}
use Rattle.pg_copy_text.proofs.text_reader.TextReader.line_left.Goals as goal

pub returns-in-Some-clause-left : goal.returns-in-Some-clause-left
returns-in-Some-clause-left c =
    let old = c.args.self.now in
    let s = c.walk-found.result.0 in
    let e = c.in-Some.end in
    let found = c.walk-found.ensures.found e c.in-Some.is in
    let some = end-some e in
    rw c.len.ensures (record {
      counted = c.walk-found.ensures.scanned.counted;
      in_order = omega arith;
      in_range = found.in_range;
      line = inl (
        e,
        refl,
        record {
          some = omega (arith, some);
          sizes = refl;
          is_last = first-is-last old.line_end old.kept e s.at (s.at + end_len e) found;
        },
      );
    })

pub returns-then-is_empty-clause-left : goal.returns-then-is_empty-clause-left
returns-then-is_empty-clause-left c =
    let old = c.args.self.now in
    let kept : length c.kept.result.now ≡ length old.kept = ap length c.kept.ensures ∙ ap (λ (s : TextState). length s.kept) (c.self.view_is ∙ c.walk-found.ensures.state) in
    let empty : length c.kept.result.now ≡ 0 = search rules in
    nil_from_length old.kept (sym kept ∙ empty)
