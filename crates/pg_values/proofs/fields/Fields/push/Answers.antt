use Rattle.std.proofs.Common.{◌≡◌, ◌≤◌, ◌+◌, [], ◌∷◌, ◌++◌, length, List, refl, ap, ◌∙◌, arith}
use Rattle.pg_codec.specs.declared.value.ErrorField.{ErrorField}
use Rattle.pg_values.specs.Private.Block.{longest_block}
use Rattle.pg_values.proofs.Kept.{one_field_more}
use Rattle.pg_values.proofs.fields.Fields.push.Goals as goal

pub invariant_of-self-2 : goal.invariant_of-self-2
invariant_of-self-2 c =
    let field : ErrorField = record { code = c.args.code; value = c.args.text.now } in
    let short : length c.self.inside.block.items + (2 + length c.args.text.now) ≤ longest_block = omega (arith, c.len.ensures, c.if-room-lt2.false, c.if-room-text.false) in
    let lengths : c.push.new.self.items ≡ c.self.inside.lengths.items ++ length c.args.text.now ∷ [] = c.in_ok-push.ensures.items ∙ rw c.in_ok-reserve.ensures.items refl in
    rw (lengths, c.in_ok-put.ensures.ok) (one_field_more c.self.inside.lengths.items c.self.inside.block.items c.self.invariant field short).1

pub returns-clause-ok : goal.returns-clause-ok
returns-clause-ok c =
    let field : ErrorField = record { code = c.args.code; value = c.args.text.now } in
    let short : length c.self.inside.block.items + (2 + length c.args.text.now) ≤ longest_block = omega (arith, c.len.ensures, c.if-room-lt2.false, c.if-room-text.false) in
    let lengths : c.push.new.self.items ≡ c.self.inside.lengths.items ++ length c.args.text.now ∷ [] = c.in_ok-push.ensures.items ∙ rw c.in_ok-reserve.ensures.items refl in
    rw (lengths, c.in_ok-put.ensures.ok) ((one_field_more c.self.inside.lengths.items c.self.inside.block.items c.self.invariant field short).0 ∙ ap (λ (fs : List ErrorField). fs ++ field ∷ []) c.self.view_is)
