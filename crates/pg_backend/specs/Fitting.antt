-- Which answer of a script a request gets.
use Rattle.std.specs.Prelude.{Bool, true, false, ◌&&◌, List, [], ◌∷◌, is_some, if◌then◌else◌}
use Rattle.std.specs.List.{list_all, list_any}
use Rattle.pg_wire.specs.declared.session.Request.{Request}
use Rattle.pg_wire.specs.declared.session.Request.TheVariants as request
use Rattle.pg_wire.specs.declared.session.Step.{Step}
use Rattle.pg_wire.specs.Segment.{is_result, is_answer}
use Rattle.pg_backend.specs.declared.script.Answer.{Answer}
use Rattle.pg_backend.specs.declared.script.ScriptPart.{ScriptPart}
use Rattle.pg_backend.specs.Outcome.{complete}
use Rattle.pg_backend.specs.OwnError.{no_answer}

-- whether the part may answer a Query: it is a result, or a copy from the client that is rejected
abbrev pub answers_query : ScriptPart → Bool
answers_query p = list_all is_result (complete p)

-- whether the part may answer the step
abbrev pub answers_step : Step → ScriptPart → Bool
answers_step s p = list_any (is_answer s) (complete p)

-- whether part i answers step i, for all parts; there are as many parts as steps, or fewer where
-- the answer has an error (`error`)
abbrev pub answers_steps : Bool → List Step → List ScriptPart → Bool
answers_steps error [] [] = true
answers_steps error [] (p ∷ ps) = false
answers_steps error (s ∷ ss) [] = error
answers_steps error (s ∷ ss) (p ∷ ps) = answers_step s p && answers_steps error ss ps

-- whether the answer fits the request: for a query its parts are results, for a group they answer
-- its steps
abbrev pub fits : Request → Answer → Bool
fits (request.Query text) a = list_all answers_query a.parts
fits (request.Group steps) a = answers_steps (is_some a.error) steps a.parts

-- the answer that a request gets: the first that is left if it fits, else an internal error of the
-- backend's own
abbrev pub answer_for : List Answer → Request → Answer
answer_for [] r = no_answer
answer_for (a ∷ more) r = if fits r a then a else no_answer

-- the answers that are left after one more request, which has used up the first, whether it fitted
-- or not
abbrev pub others : List Answer → List Answer
others [] = []
others (a ∷ more) = more
