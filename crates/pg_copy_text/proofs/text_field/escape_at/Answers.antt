use Rattle.std.proofs.Common.{drop, arith}
use Rattle.std.proofs.lemmas.List.{take_rest, length-drop}
use Rattle.pg_copy_text.proofs.TextValues.{digits_len, hex_escape-len}
use Rattle.pg_copy_text.proofs.text_field.escape_at.Goals as goal

pub returns-in-Some-clause-len : goal.returns-in-Some-clause-len
returns-in-Some-clause-len c = rw c.in-Some.ensures.1 (digits_len 8 3 c.args.bytes.now)

pub returns-in-120-clause-len : goal.returns-in-120-clause-len
returns-in-120-clause-len c =
    let len = hex_escape-len (drop 1 c.args.bytes.now) c.hex_escape.result.0 c.hex_escape.result.1 (rw take_rest at c.hex_escape.ensures) in
    omega (arith, c.in-120.len_at_least, len, length-drop 1 c.args.bytes.now)
