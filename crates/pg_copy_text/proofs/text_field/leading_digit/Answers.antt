use Rattle.std.proofs.Common.{◌≤◌, length, arith}
use Rattle.pg_copy_text.proofs.TextValues.{leading}
use Rattle.pg_copy_text.proofs.text_field.leading_digit.Goals as goal

pub returns-in-len1-up : goal.returns-in-len1-up
returns-in-len1-up c =
    let v = c.to_digit.ensures.value in
    let a : 1 ≤ length c.args.bytes.now = c.in-len1-up.len_at_least in
    leading c.args.base c.args.bytes.now c.to_digit.result (omega arith) (rw c.from.ensures at v)
