use Rattle.std.proofs.Common.{arith, ℕ, length, get_or, List, [], ◌∷◌, ◌++◌, Err, sym, ap, ◌∙◌}
use Rattle.std.specs.Borrow.{Bor}
use Rattle.std.proofs.lemmas.Result.{err_from_is_err_and}
use Rattle.pg_codec.specs.declared.fault.EncodeFault.{EncodeFault}
use Rattle.pg_codec.specs.declared.fault.EncodeFault.TheVariants.{TooLong}
use Rattle.pg_codec.specs.declared.value.ErrorField.{ErrorField}
use Rattle.pg_codec.specs.Private.Lent.{lent_field}
use Rattle.pg_values.specs.Fields.{fields_spelled}
use Rattle.pg_values.proofs.Lists.{same_fault}
use Rattle.pg_values.proofs.Kept.{one_of_lent}
use Rattle.pg_values.proofs.fields.Fields.from_slice.Goals as goal

pub returns-in_err-push-clause-too_long : goal.returns-in_err-push-clause-too_long
returns-in_err-push-clause-too_long c e =
    let p = err_from_is_err_and c.from_residual.result c.from_residual.ensures.1 in
    let said = c.in_err-push.ensures.too_long.0 (ap (λ (f : EncodeFault). Err f) (sym p.2 ∙ same_fault c.from_residual.result p.0 TooLong p.1 e)) in
    let none : ℕ × Bor (List ℕ) = (0, record { ref_ptr = (0, 0); now = [] }) in
    let part = one_of_lent c.args.list.now c.loop-field.field-index none c.loop-field-test.true in
    omega (arith, said, part, ap (λ (fs : List ErrorField). length (fields_spelled (fs ++ lent_field (get_or c.args.list.now c.loop-field.field-index none) ∷ []))) c.loop-field.invariant)
