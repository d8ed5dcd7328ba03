use Rattle.std.proofs.Common.{◌≡◌, ℕ, List, Some, ◌++◌, take, drop, ap, subst, ◌∙◌, inl, inr}
use Rattle.std.specs.Vec as Vec
use Rattle.std.proofs.lemmas.List.{take-append-drop, with_items_is}
use Rattle.pg_copy_rows.specs.Private.RowBuffer.{RowBytes}
use Rattle.pg_copy_text.specs.TextReader.{TextState}
use Rattle.pg_copy_text.specs.Private.Cuts.{AreNoted}
use Rattle.pg_copy_text.specs.Private.TextRow.{line_values, held_row}
use Rattle.pg_copy_text.specs.Private.TextLine.{lending}
use Rattle.pg_copy_text.proofs.TextHolds.{lent-state}
use Rattle.pg_copy_text.proofs.TextBreaks.{scanned-start}
use Rattle.pg_copy_text.proofs.TextCuts.{noted-none, noted-more}
use Rattle.pg_copy_text.proofs.TextPuts.{first-held, first-taken}
use Rattle.pg_copy_text.proofs.text_reader.TextReader.hold.Goals as goal
use Rattle.pg_copy_text.proofs.text_reader.TextReader.hold.Goals.{After-put_first}

pub finish_cuts-requires-clause-noted : goal.finish_cuts-requires-clause-noted
finish_cuts-requires-clause-noted c =
    let s = c.self.inside in
    let n = c.args.scan.at in
    (drop n s.buffer.kept, rw (c.kept.ensures, c.take.ensures, take-append-drop n s.buffer.kept) c.self.invariant.noted)

pub invariant_of-self : goal.invariant_of-self
invariant_of-self c =
    let d = c.self.inside.options.delimiter in
    let n = c.args.scan.at in
    let kept = c.take.new.self.kept in
    let cuts = c.finish_cuts.new.cuts.items in
    record {
      scanned = rw c.take.ensures c.self.invariant.scanned;
      noted = subst (λ (bytes : List ℕ). AreNoted d bytes cuts) (take-append-drop n kept) (noted-more d (take n kept) (drop n kept) cuts (rw c.kept.ensures at c.in_err-finish_cuts.ensures.err));
      not_memory = c.self.invariant.not_memory;
      lends = inr (ap (λ (b : RowBytes). b.front) c.take.ensures);
      held = rw c.take.ensures tt;
    }

-- the cuts of the row that is lent
held : (c : After-put_first) → (Vec.with_items c.swap.new.y c.put_first.new.cuts).items ≡ c.put_first.new.cuts
held c = with_items_is c.swap.new.y c.put_first.new.cuts (c.put_first.ensures.count ∙ c.as_mut_slice-cuts.ensures.len)

pub invariant_of-self-2 : goal.invariant_of-self-2
invariant_of-self-2 c =
    let s = c.self.inside in
    let first = c.put_first.ensures.puts in
    let all = (first-held c.args.scan.at s.options c.take.new.self.kept c.put_first.new.cuts first.line first.texts).0 in
    record {
      scanned = rw c.start-self-inside.ensures (scanned-start s.options.delimiter c.args.line_end c.hold.new.self.kept);
      noted = rw c.clear.ensures.items (noted-none s.options.delimiter c.hold.new.self.kept);
      not_memory = c.self.invariant.not_memory;
      lends = inl (ap (λ (t : TextState). t.stage) c.self.view_is ∙ c.requires.lines);
      held = rw (held (goal.at.invariant_of-self-2 c).After-put_first, c.hold.ensures, first.is) all;
    }

pub returns-clause-ok : goal.returns-clause-ok
returns-clause-ok c =
    let s = c.self.inside in
    let v : TextState = record { options = s.options; columns = s.columns; line_end = s.line_end; kept = s.buffer.kept; stage = s.stage; ended = s.ended; given = s.given; offset = s.offset; held = held_row s.held_cuts.items s.buffer.front } in
    let first = c.put_first.ensures.puts in
    let n = c.args.scan.at in
    let taken = c.args.taken in
    let kept = c.take.new.self.kept in
    let cuts = c.put_first.new.cuts in
    let bytes = c.put_first.new.buffer.kept in
    let same : kept ≡ s.buffer.kept = ap (λ (b : RowBytes). b.kept) c.take.ensures in
    let line : bytes ≡ first.line ++ drop n kept = ap (λ (b : RowBytes). b.kept) first.is in
    let left : c.hold.new.self.kept ≡ drop taken s.buffer.kept =
    ap (λ (b : RowBytes). b.kept) c.hold.ensures ∙ ap (drop taken) line ∙ first-taken n taken kept first.line c.requires.in_order first.len ∙ ap (drop taken) same in
    let row : held_row (Vec.with_items c.swap.new.y cuts).items c.hold.new.self.front ≡ Some (line_values s.options (take n s.buffer.kept)) =
    ap (λ (cs : List ℕ). held_row cs c.hold.new.self.front) (held (goal.at.returns-clause-ok c).After-put_first) ∙ ap (held_row cuts) (ap (λ (b : RowBytes). b.front) c.hold.ensures ∙ ap (λ (x : List ℕ). Some x) line)
    ∙ (first-held n s.options kept cuts first.line first.texts).1 ∙ ap (λ (x : List ℕ). Some (line_values s.options (take n x))) same in
    lent-state v n taken c.args.line_end c.hold.new.self.kept c.one_more-self-inside.result c.later-self-inside.result _ left c.one_more-self-inside.ensures c.later-self-inside.ensures row ∙ ap (lending n taken c.args.line_end) c.self.view_is
