use Rattle.std.proofs.Common.{◌<◌, ◌≤◌, ◌∙◌, length, drop, Some, None, sym, arith}
use Rattle.pgpipe_explain.proofs.FieldLists.{from_by, from_done}
use Rattle.pgpipe_explain.proofs.fields.judge_kinds.Goals as goal

pub returns-in-Some : goal.returns-in-Some
returns-in-Some c =
    let kinds = c.args.kinds.now in
    let place = c.loop-kind.place in
    let lt : place < length kinds = omega arith in
    sym (from_by c.args.wanted kinds c.args.tail place c.loop-kind.kind-index _ c.args.fields.now (Some c.in-Some.reason) lt c.loop-kind.invariant.at c.in-Some.ensures) ∙ c.loop-kind.invariant.left

pub loop-kind-preserved : goal.loop-kind-preserved
loop-kind-preserved c =
    let kinds = c.args.kinds.now in
    let place = c.loop-kind.place in
    let lt : place < length kinds = omega arith in
    record {
      at = omega arith;
      left = sym (from_by c.args.wanted kinds c.args.tail place c.loop-kind.kind-index _ c.args.fields.now None lt c.loop-kind.invariant.at c.in-None.ensures) ∙ c.loop-kind.invariant.left;
    }

pub returns : goal.returns
returns c =
    let kinds = c.args.kinds.now in
    let place = c.loop-kind.place in
    let le : length kinds ≤ place = omega arith in
    c.judge_tail.ensures ∙ sym (from_done c.args.wanted kinds c.args.tail place (drop place c.args.fields.now) le) ∙ c.loop-kind.invariant.left
