-- What the lines of CALLS are read as that stand in a group: the step that each asks for.
use Rattle.std.specs.Prelude.{List, [], ℕ, Option, Some}
use Rattle.pg_copy.specs.Row.{Row}
use Rattle.pg_wire.specs.value.Target.{Target}
use Rattle.pg_wire.specs.declared.session.Step.{Step}
use Rattle.pg_wire.specs.declared.session.Step.TheVariants as step
use Rattle.pgpipe_lines.specs.declared.verb.StepVerb.{StepVerb}
use Rattle.pgpipe_lines.specs.declared.verb.StepVerb.TheVariants as step_line
use Rattle.pgpipe_lines.specs.Arguments.{◌>>=◌, text_at, read_at, pair_at, signed_number, if_all, text_of, numbers_of}
use Rattle.pgpipe_lines.specs.Verb.{target_of}

-- the fields of a `describe` or `close`: S or P, and the name of the statement or the portal
abbrev pub named_of : Row → Option (Target × List ℕ)
named_of fields = read_at target_of fields >>= λ t. text_of t.1 >>= λ name. Some (t.0, name)

-- the step that a line in a group asks for. The values of a `bind` are in the text format, and so
-- are the columns of its result.
abbrev pub step_of : StepVerb → Row → Option Step
step_of step_line.Parse fields =
    pair_at fields >>= λ p. numbers_of p.1 >>= λ types. Some (step.Parse p.0.0 p.0.1 types)
step_of step_line.Bind fields = pair_at fields >>= λ p. Some (step.Bind p.0.0 p.0.1 [] p.1 [])
step_of step_line.Describe fields = named_of fields
    >>= λ named. Some (step.Describe named.0 named.1)
step_of step_line.Execute fields =
    text_at fields >>= λ t. read_at signed_number t.1 >>= λ n. if_all (step.Execute t.0 n.0) n.1
step_of step_line.Close fields = named_of fields >>= λ named. Some (step.Close named.0 named.1)
