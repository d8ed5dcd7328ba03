use Rattle.std.proofs.Common.{◌≡◌, ℕ, List, Option, Some, map, sym, ap, ◌∙◌}
use Rattle.pg_wire.specs.value.Column.{Column}
use Rattle.pgpipe_lines.specs.AnswerLines.{text_column}
use Rattle.pgpipe_lines.specs.Arguments.{◌>>=◌}
use Rattle.pgpipe_lines.proofs.Lists.{all-given}
use Rattle.pgpipe_lines.proofs.answer_lines.text_columns.Goals as goal

pub returns : goal.returns
returns c =
    let it = c.into_iter-name-iterator in
    let names : c.in_ok-name-items.name-items ≡ c.loop-name.yielded =
    sym it.ensures.into_iter_gives.0 ∙ all-given it.result c.loop-name.name-iterator c.loop-name.yielded c.loop-name.yielded_by c.loop-name.name-iterator.rest.ok.0 c.in-None.ensures.steps.0 in
    ap (λ (o : Option (List (List ℕ))). o >>= λ ns. Some (map text_column ns)) c.in_ok-name-items.ensures
    ∙ ap (λ (ns : List (List ℕ)). Some (map text_column ns)) names
    ∙ ap (λ (columns : List Column). Some columns) (sym c.loop-name.invariant)
