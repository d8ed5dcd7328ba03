use Rattle.std.proofs.Common.{◌≡◌, codes, arith}
use Rattle.std.proofs.lemmas.Slice.Eq.{text_from_reads}
use Rattle.pgpipe_lines.proofs.verb.LoadWay.named.Goals as goal

pub returns-in-accept : goal.returns-in-accept
returns-in-accept c =
    let word_is : c.args.word.now ≡ codes "accept" = text_from_reads c.args.word.now (codes "accept") (omega arith) (omega arith, (omega arith, (omega arith, (omega arith, (omega arith, (omega arith, tt)))))) in
    rw word_is

pub returns-in-refuse : goal.returns-in-refuse
returns-in-refuse c =
    let word_is : c.args.word.now ≡ codes "refuse" = text_from_reads c.args.word.now (codes "refuse") (omega arith) (omega arith, (omega arith, (omega arith, (omega arith, (omega arith, (omega arith, tt)))))) in
    rw word_is
