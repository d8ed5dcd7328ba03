use Rattle.std.proofs.Common.{◌≡◌, [], ℕ, List, Some, None, ap, ◌∙◌, append-nil, arith}
use Rattle.std.proofs.lemmas.Result.{err_from_is_err_and}
use Rattle.pg_copy.specs.Row.{Row}
use Rattle.pgpipe_lines.specs.Arguments.{numbers_of, read_at, number}
use Rattle.pgpipe_lines.proofs.Refusals.{fails-by}
use Rattle.pgpipe_lines.proofs.FieldLists.{onto, numbers-more, numbers-none}
use Rattle.pgpipe_lines.proofs.arguments.Arguments.numbers.Goals as goal

pub returns-in_err-number : goal.returns-in_err-number
returns-in_err-number c =
    let p = err_from_is_err_and c.from_residual.result c.from_residual.ensures.1 in
    let some : c.loop-numbers.self ≡ [] → ⊥ = λ e. absurd (grind arith) in
    rw (p.1, p.2) (fails-by c.in_err-number.field-0.0 (read_at number c.loop-numbers.self) (numbers_of c.args.self) (λ (h : read_at number c.loop-numbers.self ≡ None). c.loop-numbers.invariant ∙ numbers-none c.loop-numbers.numbers c.loop-numbers.self h some) c.in_err-number.ensures)

pub loop-numbers-preserved : goal.loop-numbers-preserved
loop-numbers-preserved c =
    rw c.in_ok-push.ensures.ok (c.loop-numbers.invariant ∙ numbers-more c.loop-numbers.numbers c.loop-numbers.self c.number.new.self c.in_ok-number.field-0 c.in_ok-number.ensures)

pub returns : goal.returns
unfolding numbers_of
returns c =
    let none : c.loop-numbers.self ≡ [] = grind arith in
    c.loop-numbers.invariant ∙ ap (λ (fields : Row). onto c.loop-numbers.numbers (numbers_of fields)) none ∙ ap (λ (xs : List ℕ). Some xs) (append-nil c.loop-numbers.numbers)
