use Rattle.std.proofs.Common.{◌≡◌, ◌-◌, drop, length}
use Rattle.pgpipe_explain.specs.Fields.{judge_all}
use Rattle.pgpipe_explain.proofs.fields.judge_all.Given as goal

-- what is left has the reason that all has
abbrev pub invariant-left : goal.invariant-left
invariant-left l = judge_all l.fn.kind l.place (drop l.place l.fn.fields) ≡ judge_all l.fn.kind l.fn.from (drop l.fn.from l.fn.fields)

abbrev pub decreases-left : goal.decreases-left
decreases-left l = length l.fn.fields - l.place
