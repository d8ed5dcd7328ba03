use Rattle.std.proofs.Common.{◌<◌, ◌≤◌, ◌∙◌, length, Some, None, sym, arith}
use Rattle.pgpipe_explain.proofs.FieldLists.{all_by, all_ended}
use Rattle.pgpipe_explain.proofs.fields.judge_all.Goals as goal

pub returns-in-Some : goal.returns-in-Some
returns-in-Some c =
    let lt : c.left.place < length c.args.fields.now = omega arith in
    sym (all_by c.args.kind c.left.place c.args.fields.now (Some c.in-Some.reason) lt c.in-Some.ensures) ∙ c.left.invariant

pub left-preserved : goal.left-preserved
left-preserved c =
    let lt : c.left.place < length c.args.fields.now = omega arith in
    sym (all_by c.args.kind c.left.place c.args.fields.now None lt c.in-None.ensures) ∙ c.left.invariant

pub returns : goal.returns
returns c =
    let le : length c.args.fields.now ≤ c.left.place = omega arith in
    sym (all_ended c.args.kind c.left.place c.args.fields.now le) ∙ c.left.invariant
