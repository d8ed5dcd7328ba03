use Rattle.std.proofs.Common.{◌≡◌, codes, arith}
use Rattle.std.proofs.lemmas.Slice.Eq.{text_from_reads}
use Rattle.pgpipe_lines.proofs.verb.AuthWay.named.Goals as goal

-- src/verb.rt:40:5
pub returns-in-trust : goal.returns-in-trust
returns-in-trust c =
    let word_is : c.args.word.now ≡ codes "trust" = text_from_reads c.args.word.now (codes "trust") (omega arith) (omega arith, (omega arith, (omega arith, (omega arith, (omega arith, tt))))) in
    rw word_is

-- src/verb.rt:40:5
pub returns-in-cleartext : goal.returns-in-cleartext
returns-in-cleartext c =
    let word_is : c.args.word.now ≡ codes "cleartext" = text_from_reads c.args.word.now (codes "cleartext") (omega arith) (omega arith, (omega arith, (omega arith, (omega arith, (omega arith, (omega arith, (omega arith, (omega arith, (omega arith, tt))))))))) in
    rw word_is

-- src/verb.rt:40:5
pub returns-in-md5 : goal.returns-in-md5
returns-in-md5 c =
    let word_is : c.args.word.now ≡ codes "md5" = text_from_reads c.args.word.now (codes "md5") (omega arith) (omega arith, (omega arith, (omega arith, tt))) in
    rw word_is
