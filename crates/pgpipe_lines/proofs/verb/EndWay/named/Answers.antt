use Rattle.std.proofs.Common.{◌≡◌, codes, arith}
use Rattle.std.proofs.lemmas.Slice.Eq.{text_from_reads}
use Rattle.pgpipe_lines.proofs.verb.EndWay.named.Goals as goal

pub returns-in-complete : goal.returns-in-complete
returns-in-complete c =
    let word_is : c.args.word.now ≡ codes "complete" = text_from_reads c.args.word.now (codes "complete") (omega arith) (omega arith, (omega arith, (omega arith, (omega arith, (omega arith, (omega arith, (omega arith, (omega arith, tt)))))))) in
    rw word_is

pub returns-in-empty : goal.returns-in-empty
returns-in-empty c =
    let word_is : c.args.word.now ≡ codes "empty" = text_from_reads c.args.word.now (codes "empty") (omega arith) (omega arith, (omega arith, (omega arith, (omega arith, (omega arith, tt))))) in
    rw word_is

pub returns-in-suspended : goal.returns-in-suspended
returns-in-suspended c =
    let word_is : c.args.word.now ≡ codes "suspended" = text_from_reads c.args.word.now (codes "suspended") (omega arith) (omega arith, (omega arith, (omega arith, (omega arith, (omega arith, (omega arith, (omega arith, (omega arith, (omega arith, tt))))))))) in
    rw word_is
