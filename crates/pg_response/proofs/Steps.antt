-- The steps of a group that are left to be answered.
use Rattle.std.proofs.Common.{◌≡◌, ℕ, List, drop, Some, None, slice_get, ap, ◌∙◌, arith}
use Rattle.std.proofs.lemmas.List.{drop_all, drop_more}
use Rattle.std.proofs.lemmas.Option.{get_or_from_slice_get, slice_get_within, slice_get_cases}
use Rattle.pg_wire.specs.declared.session.Step.{Step}
use Rattle.pg_wire.specs.Segment.{Steps}
use Rattle.pg_response.specs.declared.mark.Mark.{Mark}
use Rattle.pg_response.specs.Place.{begins, begins_answer}

-- the next step, if there is one
pub begins_step : (steps : List Step) (n : ℕ) (s : Step) (m : Mark) → slice_get steps n ≡ Some s → begins (Steps (drop n steps)) m ≡ begins_answer s m
begins_step steps n s m e = ap (λ (ss : List Step). begins (Steps ss) m) (drop_more steps n s (slice_get_within steps n s e)) ∙ ap (λ (x : Step). begins_answer x m) (get_or_from_slice_get steps n s s e)

pub begins_none : (steps : List Step) (n : ℕ) (m : Mark) → slice_get steps n ≡ None → begins (Steps (drop n steps)) m ≡ None
begins_none steps n m e = grind (arith, slice_get_cases, drop_all)
