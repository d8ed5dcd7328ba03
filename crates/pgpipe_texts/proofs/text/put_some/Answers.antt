use Rattle.std.proofs.Common.{◌<◌, ◌++◌, List, ℕ, ap, ◌∙◌, arith}
use Rattle.pgpipe_texts.proofs.Texts.{run_put}
use Rattle.pgpipe_texts.proofs.text.put_some.Goals as goal

pub returns-then-len-gt0 : goal.returns-then-len-gt0
returns-then-len-gt0 c =
    let len = c.unescaped_len-len.result in
    let some : 0 < len = omega arith in
    run_put c.args.utf8 c.args.mark c.args.bytes.now _ _ len some c.unescaped_len-len.ensures.within c.unescaped_len-len.ensures.all (c.in_ok-extend_from_slice.ensures.items ∙ ap (λ (l : List ℕ). c.args.line.now.items ++ l) c.split_at.ensures.front)

pub returns-in-Some : goal.returns-in-Some
returns-in-Some c = rw c.in-Some.ensures.cases.0 c.put_unit.ensures
