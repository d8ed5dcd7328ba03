use Rattle.std.proofs.Common.{◌≡◌, codes, arith}
use Rattle.std.proofs.lemmas.Slice.Eq.{text_from_reads}
use Rattle.pgpipe_lines.proofs.verb.format_of.Goals as goal

pub returns-in-binary : goal.returns-in-binary
returns-in-binary c =
    let word_is : c.args.word.now ≡ codes "binary" = text_from_reads c.args.word.now (codes "binary") (omega arith) (omega arith, (omega arith, (omega arith, (omega arith, (omega arith, (omega arith, tt)))))) in
    rw word_is
