use Rattle.std.proofs.Common.{◌≡◌, ℕ, ◌+◌, ◌-◌, drop, refl, sym, subst, ◌∙◌, arith, inr}
use Rattle.std.proofs.lemmas.List.{take_rest}
use Rattle.pg_copy_text.specs.declared.line_end.LineEnd.{LineEnd}
use Rattle.pg_copy_text.specs.Private.Breaks.{IsBreak, IsFirstLine}
use Rattle.pg_copy_text.specs.Text.{end_len}
use Rattle.pg_copy_text.specs.Private.Units.{IsScanned}
use Rattle.pg_copy_text.specs.Private.Cuts.{AreNoted}
use Rattle.pg_copy_text.proofs.TextCuts.{noted-at}
use Rattle.pg_copy_text.proofs.TextParts.{counted-few}
use Rattle.pg_copy_text.proofs.TextBreaks.{scanned-escaped, scanned-plain, scanned-run, scanned-stays, scanned-other, break-here, line-found, same-end}
use Rattle.pg_copy_text.proofs.scan.Scan.find_end.Goals as goal
use Rattle.pg_copy_text.proofs.scan.Scan.find_end.Goals.{then-byte-delimiter, else-byte-delimiter}

pub after-scan-requires-clause-few : goal.after-scan-requires-clause-few
after-scan-requires-clause-few c = counted-few c.args.delimiter c.args.bytes.now c.loop-scan.scan c.loop-scan.invariant.0.counted

pub loop-scan-preserved-then-scan : goal.loop-scan-preserved-then-scan
loop-scan-preserved-then-scan c = (rw c.after-scan.ensures (scanned-escaped c.args.delimiter c.args.before c.args.bytes.now c.loop-scan.scan _ c.loop-scan-test.true refl c.if-scan.true c.loop-scan.invariant.0), c.loop-scan.invariant.1)

pub loop-scan-preserved-then-is_plain : goal.loop-scan-preserved-then-is_plain
loop-scan-preserved-then-is_plain c =
    let bytes = c.args.bytes.now in
    let s = c.loop-scan.scan in
    let p = c.plain_end.ensures in
    let n = c.plain_end.result - (s.at + 1) in
    let all : (s.at + 1) + n ≡ c.plain_end.result = omega (arith, p.in_order) in
    let first = scanned-plain c.args.delimiter c.args.before bytes s s.at c.loop-scan-test.true (c.is_plain.ensures c.if-is_plain.true) c.if-scan.false c.loop-scan.invariant.0 in
    (subst (λ (i : ℕ). IsScanned c.args.delimiter c.args.before bytes (record s { at = i })) all (scanned-run c.args.delimiter c.args.before bytes s (s.at + 1) n (omega (arith, all, p.in_range)) (λ i a b. p.plain i a (omega (arith, all, b))) c.if-scan.false first), c.loop-scan.invariant.1)

pub returns-in-Ends-clause-found : goal.returns-in-Ends-clause-found
returns-in-Ends-clause-found c = λ e same.
    let bytes = c.args.bytes.now in
    let s = c.loop-scan.scan in
    let found = sym (rw take_rest at c.break_at.ensures) ∙ c.in-Ends.is in
    let ends = subst (IsBreak c.args.before (drop s.at bytes)) found (break-here c.args.before bytes s.at _ c.loop-scan-test.true refl (sym c.is_break.ensures ∙ c.if-is_break.true)) in
    subst (λ (f : LineEnd). IsFirstLine c.args.before bytes f s.at (s.at + end_len f)) (same-end c.in-Ends.end e same) (line-found c.args.delimiter c.args.before bytes s c.in-Ends.end c.if-scan.false ends c.loop-scan.invariant.0)

pub returns-in-Waits-clause-none : goal.returns-in-Waits-clause-none
returns-in-Waits-clause-none c = λ none.
    let bytes = c.args.bytes.now in
    let s = c.loop-scan.scan in
    let found = sym (rw take_rest at c.break_at.ensures) ∙ c.in-Waits.is in
    let waits = subst (IsBreak c.args.before (drop s.at bytes)) found (break-here c.args.before bytes s.at _ c.loop-scan-test.true refl (sym c.is_break.ensures ∙ c.if-is_break.true)) in
    inr (c.if-scan.false, waits.0, waits.1)

pub after-scan-requires-in-Stays-clause-few : goal.after-scan-requires-in-Stays-clause-few
after-scan-requires-in-Stays-clause-few c = counted-few c.args.delimiter c.args.bytes.now c.loop-scan.scan c.loop-scan.invariant.0.counted

pub loop-scan-preserved-in-Stays : goal.loop-scan-preserved-in-Stays
loop-scan-preserved-in-Stays c =
    let bytes = c.args.bytes.now in
    let s = c.loop-scan.scan in
    let found = sym (rw take_rest at c.break_at.ensures) ∙ c.in-Stays.is in
    let stays = subst (IsBreak c.args.before (drop s.at bytes)) found (break-here c.args.before bytes s.at _ c.loop-scan-test.true refl (sym c.is_break.ensures ∙ c.if-is_break.true)) in
    (rw c.after-scan-in-Stays.ensures (scanned-stays c.args.delimiter c.args.before bytes s _ c.loop-scan-test.true refl c.if-scan.false stays c.loop-scan.invariant.0), c.loop-scan.invariant.1)

pub after-scan-requires-else-is_break-clause-few : goal.after-scan-requires-else-is_break-clause-few
after-scan-requires-else-is_break-clause-few c = counted-few c.args.delimiter c.args.bytes.now c.loop-scan.scan c.loop-scan.invariant.0.counted

pub loop-scan-preserved : goal.loop-scan-preserved
loop-scan-preserved c =
    let d = c.args.delimiter in
    let bytes = c.args.bytes.now in
    let s = c.loop-scan.scan in
    let noted : AreNoted d bytes c.if-byte-delimiter.cuts.items = elim c.if-byte-delimiter.branch [
      | then-byte-delimiter w ↦ rw w.cuts-is (noted-at d bytes c.loop-scan.cuts.items w.note_cut.new.cuts.items s c.loop-scan-test.true w.if-byte-delimiter.true c.if-scan.false c.loop-scan.invariant.0.counted c.loop-scan.invariant.1 w.note_cut.ensures)
      | else-byte-delimiter w ↦ rw w.cuts-is c.loop-scan.invariant.1
    ] in
    (rw c.after-scan-else-is_break.ensures (scanned-other d c.args.before bytes s _ c.loop-scan-test.true refl c.if-scan.false (sym c.is_break.ensures ∙ c.if-is_break.false) c.loop-scan.invariant.0), noted)

pub returns-in-Ends-clause-noted : goal.returns-in-Ends-clause-noted
returns-in-Ends-clause-noted c = c.loop-scan.invariant.1

pub returns-in-Waits-clause-noted : goal.returns-in-Waits-clause-noted
returns-in-Waits-clause-noted c = c.loop-scan.invariant.1

pub returns-clause-noted : goal.returns-clause-noted
returns-clause-noted c = c.loop-scan.invariant.1
