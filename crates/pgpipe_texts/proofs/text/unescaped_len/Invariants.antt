use Rattle.std.proofs.Common.{◌≡◌, true, take}
use Rattle.std.specs.List.{list_all}
use Rattle.pgpipe_texts.specs.Private.Parts.{is_unescaped}
use Rattle.pgpipe_texts.proofs.text.unescaped_len.Given as goal

abbrev pub invariant-loop-i : goal.invariant-loop-i
invariant-loop-i l = list_all (is_unescaped l.utf8 l.mark) (take l.i l.bytes) ≡ true
