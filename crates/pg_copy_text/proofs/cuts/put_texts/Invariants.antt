use Rattle.std.proofs.Common.{◌≡◌}
use Rattle.pg_copy_text.proofs.TextPuts.{PutsTexts}
use Rattle.pg_copy_text.proofs.cuts.put_texts.Given as goal

abbrev pub invariant-loop-i : goal.invariant-loop-i
invariant-loop-i l = PutsTexts l.options l.fn.line l.fn.cuts l.line l.cuts l.start l.put l.i × (l.mark ≡ l.options.null_mark)
