use Rattle.std.proofs.Common.{ℕ, List, sym, ap, arith, length}
use Rattle.pg_copy_text.proofs.Writing.{longer-unlike}
use Rattle.pg_copy_text.proofs.text_writer.is_like_null.Goals as goal

pub returns-in-Some : goal.returns-in-Some
returns-in-Some c =
    let longer = c.if-text-null_mark.true in
    rw c.in-Some.is (sym (longer-unlike c.args.options.now.delimiter c.in-Some.text.now c.args.options.now.null_mark (omega (arith, longer, ap (λ (l : List ℕ). length l) c.null_mark.ensures))))
