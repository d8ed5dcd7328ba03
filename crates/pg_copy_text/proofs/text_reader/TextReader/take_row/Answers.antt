use Rattle.std.proofs.Common.{List, ℕ, take, drop, ap, subst, inr}
use Rattle.std.proofs.lemmas.List.{take-append-drop}
use Rattle.pg_copy_rows.specs.Private.RowBuffer.{RowBytes}
use Rattle.pg_copy_text.specs.Private.Cuts.{AreNoted}
use Rattle.pg_copy_text.proofs.TextBreaks.{scanned-start}
use Rattle.pg_copy_text.proofs.TextCuts.{noted-none, noted-more}
use Rattle.pg_copy_text.proofs.text_reader.TextReader.take_row.Goals as goal

pub finish_cuts-requires-clause-noted : goal.finish_cuts-requires-clause-noted
finish_cuts-requires-clause-noted c =
    let s = c.self.inside in
    let n = c.args.scan.at in
    (drop n s.buffer.kept, rw (c.kept.ensures, take-append-drop n s.buffer.kept) c.self.invariant.noted)

pub invariant_of-self : goal.invariant_of-self
invariant_of-self c =
    let s = c.self.inside in
    let n = c.args.scan.at in
    let cuts = c.finish_cuts.new.cuts.items in
    record {
      scanned = c.self.invariant.scanned;
      noted = subst (λ (bytes : List ℕ). AreNoted s.options.delimiter bytes cuts) (take-append-drop n s.buffer.kept) (noted-more s.options.delimiter (take n s.buffer.kept) (drop n s.buffer.kept) cuts (rw c.kept.ensures at c.in_err-finish_cuts.ensures.err));
      not_memory = c.self.invariant.not_memory;
      lends = c.self.invariant.lends;
      held = c.self.invariant.held;
    }

pub invariant_of-self-in_err-row : goal.invariant_of-self-in_err-row
invariant_of-self-in_err-row c =
    let s = c.self.inside in
    record {
      scanned = c.self.invariant.scanned;
      noted = rw c.clear.ensures.items (noted-none s.options.delimiter s.buffer.kept);
      not_memory = c.self.invariant.not_memory;
      lends = c.self.invariant.lends;
      held = c.self.invariant.held;
    }

pub invariant_of-self-2 : goal.invariant_of-self-2
invariant_of-self-2 c =
    let s = c.self.inside in
    record {
      scanned = rw (c.take.ensures, c.start-self-inside.ensures) (scanned-start s.options.delimiter c.args.line_end (drop c.args.taken s.buffer.kept));
      noted = rw c.clear.ensures.items (noted-none s.options.delimiter c.take.new.self.kept);
      not_memory = c.self.invariant.not_memory;
      lends = inr (ap (λ (b : RowBytes). b.front) c.take.ensures);
      held = rw c.take.ensures tt;
    }
