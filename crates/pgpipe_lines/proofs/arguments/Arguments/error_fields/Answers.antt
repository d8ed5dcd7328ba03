use Rattle.std.proofs.Common.{rules, ◌≡◌, [], ◌∷◌, ◌++◌, List, Some, None, ap, ◌∙◌, append-nil, arith}
use Rattle.std.proofs.lemmas.Result.{err_from_is_err_and}
use Rattle.pg_copy.specs.Row.{Row}
use Rattle.pg_wire.specs.value.ErrorField.{ErrorField}
use Rattle.pgpipe_lines.specs.Arguments.{byte_of, error_fields_of, text_at}
use Rattle.pgpipe_lines.proofs.Refusals.{fails-by}
use Rattle.pgpipe_lines.proofs.FieldLists.{onto, code-none, fields-more, fields-none, value-none}
use Rattle.pgpipe_lines.proofs.arguments.Arguments.error_fields.Goals as goal

pub returns-in_err-text : goal.returns-in_err-text
returns-in_err-text c =
    let p = err_from_is_err_and c.from_residual.result c.from_residual.ensures.1 in
    let some : c.loop-self.self ≡ [] → ⊥ = λ e. absurd (grind arith) in
    rw (p.1, p.2) (fails-by c.in_err-text.field-0.0 (text_at c.loop-self.self) (error_fields_of c.args.self)
    (λ (h : text_at c.loop-self.self ≡ None). c.loop-self.invariant ∙ fields-none c.loop-self.fields c.loop-self.self h some) c.in_err-text.ensures.text)

pub returns-in_err-code : goal.returns-in_err-code
returns-in_err-code c =
    let p = err_from_is_err_and c.from_residual-in_err-code.result c.from_residual-in_err-code.ensures.1 in
    let seen = rw c.as_slice.ensures at c.in_err-code.ensures in
    rw (p.1, p.2) (fails-by c.in_err-code.field-0.0 (byte_of c.in_ok-text.text) (error_fields_of c.args.self)
    (λ (h : byte_of c.in_ok-text.text ≡ None). c.loop-self.invariant ∙ code-none c.loop-self.fields c.loop-self.self c.text.new.self c.in_ok-text.text c.in_ok-text.ensures.text h) seen)

pub returns-in_err-value : goal.returns-in_err-value
returns-in_err-value c =
    let p = err_from_is_err_and c.from_residual-in_err-value.result c.from_residual-in_err-value.ensures.1 in
    rw (p.1, p.2) (fails-by c.in_err-value.field-0.0 (text_at c.text.new.self) (error_fields_of c.args.self)
    (λ (h : text_at c.text.new.self ≡ None). c.loop-self.invariant ∙ value-none c.loop-self.fields c.loop-self.self c.text.new.self c.in_ok-text.text c.in_ok-text.ensures.text h) c.in_err-value.ensures.text)

pub loop-self-preserved : goal.loop-self-preserved
loop-self-preserved c =
    let seen = rw c.as_slice.ensures at c.in_ok-code.ensures in
    let pushed : c.push.new.self ≡ c.loop-self.fields ++ record { code = c.in_ok-code.code; value = c.in_ok-value.value } ∷ [] = search rules in
    rw pushed (c.loop-self.invariant
    ∙ fields-more c.loop-self.fields c.loop-self.self c.text.new.self c.text-in-loop-self-2.new.self c.in_ok-text.text c.in_ok-value.value c.in_ok-code.code c.in_ok-text.ensures.text seen c.in_ok-value.ensures.text)

pub returns : goal.returns
unfolding error_fields_of
returns c =
    let none : c.loop-self.self ≡ [] = grind arith in
    c.loop-self.invariant ∙ ap (λ (fields : Row). onto c.loop-self.fields (error_fields_of fields)) none ∙ ap (λ (xs : List ErrorField). Some xs) (append-nil c.loop-self.fields)
