use Rattle.std.proofs.Common.{◌+◌, ◌-◌, ℕ, [], sym, subst, ◌∙◌, arith}
use Rattle.pg_message.specs.Backend.{backend}
use Rattle.pg_message.specs.declared.message.BackMessage.TheVariants.{DataRow}
use Rattle.pg_wire.specs.Stream.{IsWhole}
use Rattle.pg_wire.proofs.Rests.{same_tag}
use Rattle.pg_wire.proofs.Lendings.{row_found}
use Rattle.pg_wire.proofs.find.find_row.Goals as goal

pub judge_length-requires-clause-known : goal.judge_length-requires-clause-known
judge_length-requires-clause-known c = (DataRow [], sym c.if-tag-ne-ROW.false)

pub returns-in-Whole : goal.returns-in-Whole
returns-in-Whole c =
    let same = same_tag c.args.rest.now c.in-Whole.field-0 c.in_ok-tag.tag _ _ c.in-Whole.ensures.head c.in_ok-tag.ensures in
    let whole : IsWhole backend c.args.limit c.args.rest.now 68 c.in-Whole.len = subst (λ (t : ℕ). IsWhole backend c.args.limit c.args.rest.now t c.in-Whole.len) (same ∙ c.if-tag-ne-ROW.false) c.in-Whole.ensures in
    row_found c.args.limit c.args.rest.now c.in-Whole.len (c.in-Whole.len + 1 - 5) c.requires.1 (λ i. omega (arith, c.type_inv.rest i)) whole (omega arith) (sym c.if-is_row.ensures)
