use Rattle.std.proofs.Common.{◌≡◌, drop}
use Rattle.pgpipe_explain.specs.Fields.{judge_from}
use Rattle.pgpipe_explain.proofs.fields.judge_kinds.Given as goal

-- what is left has the reason that all has
abbrev pub invariant-loop-kind : goal.invariant-loop-kind
invariant-loop-kind l = record {
  at : l.place ≡ l.kind-index;
  left : judge_from l.place l.wanted (drop l.place l.kinds) l.tail (drop l.place l.fields) ≡ judge_from 0 l.wanted l.kinds l.tail l.fields;
}
