use Rattle.std.proofs.Common.{◌≡◌, ℕ, ◌+◌, ◌-◌, true, sym, subst, ◌∙◌, arith}
use Rattle.pg_message.specs.Private.LentReader.{has_lent}
use Rattle.pg_wire.proofs.Rests.{same_tag}
use Rattle.pg_wire.proofs.Lendings.{lent_tag, lent_found, bad_lent}
use Rattle.pg_wire.proofs.find.find_lent.Goals as goal

pub judge_length-requires-clause-known : goal.judge_length-requires-clause-known
judge_length-requires-clause-known c = lent_tag c.in-Some.tag (sym c.if-not-has_tag.ensures)

pub returns-in-Some-of_body : goal.returns-in-Some-of_body
returns-in-Some-of_body c =
    let same = same_tag c.args.rest.now c.in-Whole.tag c.in-Some.tag _ _ c.in-Whole.ensures.head c.in-Some.ensures in
    let known = subst (λ (t : ℕ). has_lent t ≡ true) (sym same) (sym c.if-not-has_tag.ensures) in
    lent_found c.args.limit c.args.rest.now c.in-Whole.tag c.in-Whole.len (c.in-Whole.len + 1 - 5) c.in-Some-of_body.field-0 c.requires.1 (λ i. omega (arith, c.type_inv.rest i)) c.in-Whole.ensures (omega arith) known (sym c.of_body.ensures ∙ c.in-Some-of_body.is)

pub returns-in-None : goal.returns-in-None
returns-in-None c =
    let same = same_tag c.args.rest.now c.in-Whole.tag c.in-Some.tag _ _ c.in-Whole.ensures.head c.in-Some.ensures in
    let known = subst (λ (t : ℕ). has_lent t ≡ true) (sym same) (sym c.if-not-has_tag.ensures) in
    bad_lent c.args.limit c.args.rest.now c.in-Whole.tag c.in-Whole.len (c.in-Whole.len + 1 - 5) (λ i. omega (arith, c.type_inv.rest i)) c.in-Whole.ensures (omega arith) known (sym c.of_body.ensures ∙ c.in-None.is)
