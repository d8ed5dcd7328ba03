use Rattle.std.proofs.lemmas.List.{take_rest}
use Rattle.pg_copy_text.proofs.TextValues.{octal-one, octal-two, octal-three}
use Rattle.pg_copy_text.proofs.text_field.octal_escape.Goals as goal

pub returns-in_default-leading_digit : goal.returns-in_default-leading_digit
returns-in_default-leading_digit c =
    octal-one c.args.bytes.now c.in-Some.first c.in-Some.ensures (rw take_rest at c.in_default-leading_digit.ensures)

pub returns-in_default-leading_digit-2 : goal.returns-in_default-leading_digit-2
returns-in_default-leading_digit-2 c =
    octal-two c.args.bytes.now c.in-Some.first c.in-Some-leading_digit.second c.in-Some.ensures (rw take_rest at c.in-Some-leading_digit.ensures) (rw take_rest at c.in_default-leading_digit-2.ensures)

pub returns : goal.returns
returns c =
    octal-three c.args.bytes.now c.in-Some.first c.in-Some-leading_digit.second c.in-Some-leading_digit-2.third c.in-Some.ensures (rw take_rest at c.in-Some-leading_digit.ensures) (rw take_rest at c.in-Some-leading_digit-2.ensures)
