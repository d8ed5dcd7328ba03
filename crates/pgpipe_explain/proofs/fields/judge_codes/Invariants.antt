use Rattle.std.proofs.Common.{◌≡◌, ◌-◌, true, drop, length}
use Rattle.pgpipe_explain.specs.Fields.{judge_codes}
use Rattle.pgpipe_explain.proofs.fields.judge_codes.Given as goal

-- what is left has the reason that all has
abbrev pub invariant-left : goal.invariant-left
invariant-left l = judge_codes l.is_code l.place (drop l.place l.fn.fields) ≡ judge_codes true l.fn.from (drop l.fn.from l.fn.fields)

abbrev pub decreases-left : goal.decreases-left
decreases-left l = length l.fn.fields - l.place
