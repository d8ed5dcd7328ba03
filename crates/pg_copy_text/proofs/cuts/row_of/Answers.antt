use Rattle.std.proofs.Common.{refl, ◌∙◌}
use Rattle.std.proofs.lemmas.List.{with_items_is}
use Rattle.pg_copy_rows.specs.Private.Cuts.{AreTexts}
use Rattle.pg_copy_text.specs.Private.TextRow.{line_values}
use Rattle.pg_copy_text.proofs.OptionFacts.{no-backslash}
use Rattle.pg_copy_text.proofs.TextPuts.{plain-texts}
use Rattle.pg_copy_text.proofs.cuts.row_of.Goals as goal
use Rattle.pg_copy_text.proofs.cuts.row_of.Goals.{Joined-may_differ, then-may_differ, else-may_differ}

texts : (c : Joined-may_differ) → AreTexts (line_values c.args.options.now c.args.line.now) c.if-may_differ.cuts.items c.if-may_differ.bytes.items
texts c =
    let o = c.args.options.now in
    elim c.if-may_differ.branch [
      | then-may_differ w ↦
          let line = w.as_mut_slice.ensures.value ∙ c.in_ok-bytes.ensures.items in
          let bytes = with_items_is c.in_ok-bytes.bytes w.put_texts.new.line (w.put_texts.ensures.len ∙ w.as_mut_slice.ensures.len) in
          let cuts = with_items_is c.in_ok-cuts.cuts w.put_texts.new.cuts (w.put_texts.ensures.count ∙ w.as_mut_slice-then-may_differ.ensures.len) in
          rw (w.bytes-is, w.cuts-is, bytes, cuts) (rw line at w.put_texts.ensures.texts)
      | else-may_differ w ↦
          rw (w.bytes-is, w.cuts-is, c.in_ok-bytes.ensures.items, c.in_ok-cuts.ensures.items, c.requires.cuts)
          (plain-texts o c.args.line.now (no-backslash o c.requires.options) (w.if-may_differ.ensures.plain refl) (w.if-may_differ.ensures.no_null refl))
    ]

pub row_by-requires : goal.row_by-requires
row_by-requires c = (texts (goal.at.row_by-requires c).Joined-may_differ).cut

pub returns : goal.returns
returns c = c.row_by.ensures ∙ (texts (goal.at.returns c).Joined-may_differ).values
