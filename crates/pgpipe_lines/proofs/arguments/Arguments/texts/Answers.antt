use Rattle.std.proofs.Common.{◌≡◌, [], ℕ, List, Some, None, ap, ◌∙◌, append-nil, arith}
use Rattle.std.proofs.lemmas.Result.{err_from_is_err_and}
use Rattle.pg_copy.specs.Row.{Row}
use Rattle.pgpipe_lines.specs.Arguments.{texts_of, text_at}
use Rattle.pgpipe_lines.proofs.Refusals.{fails-by}
use Rattle.pgpipe_lines.proofs.FieldLists.{onto, texts-more, texts-none}
use Rattle.pgpipe_lines.proofs.arguments.Arguments.texts.Goals as goal

pub returns-in_err-text : goal.returns-in_err-text
returns-in_err-text c =
    let p = err_from_is_err_and c.from_residual.result c.from_residual.ensures.1 in
    let some : c.loop-texts.self ≡ [] → ⊥ = λ e. absurd (grind arith) in
    rw (p.1, p.2) (fails-by c.in_err-text.field-0.0 (text_at c.loop-texts.self) (texts_of c.args.self) (λ (h : text_at c.loop-texts.self ≡ None). c.loop-texts.invariant ∙ texts-none c.loop-texts.texts c.loop-texts.self h some) c.in_err-text.ensures.text)

pub loop-texts-preserved : goal.loop-texts-preserved
loop-texts-preserved c =
    rw c.in_ok-push.ensures.ok (c.loop-texts.invariant ∙ texts-more c.loop-texts.texts c.loop-texts.self c.text.new.self c.in_ok-text.field-0 c.in_ok-text.ensures.text)

pub returns : goal.returns
unfolding texts_of
returns c =
    let none : c.loop-texts.self ≡ [] = grind arith in
    c.loop-texts.invariant ∙ ap (λ (fields : Row). onto c.loop-texts.texts (texts_of fields)) none ∙ ap (λ (xs : List (List ℕ)). Some xs) (append-nil c.loop-texts.texts)
