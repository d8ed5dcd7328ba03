use Rattle.std.proofs.Common.{◌<◌, ◌≤◌, ◌∙◌, Bool, length, Some, None, ap, sym, arith, if◌then◌else◌}
use Rattle.pgpipe_explain.specs.declared.reason.LineReason.TheVariants as reason
use Rattle.pgpipe_explain.proofs.FieldLists.{codes_by, codes_ended}
use Rattle.pgpipe_explain.proofs.fields.judge_codes.Goals as goal

pub returns-in-Some : goal.returns-in-Some
returns-in-Some c =
    let lt : c.left.place < length c.args.fields.now = omega arith in
    let found = rw c.code_or_value.ensures at c.in-Some.ensures in
    sym (codes_by c.left.is_code c.left.place c.args.fields.now (Some c.in-Some.reason) lt found) ∙ c.left.invariant

pub left-preserved : goal.left-preserved
left-preserved c =
    let lt : c.left.place < length c.args.fields.now = omega arith in
    let none = rw c.code_or_value.ensures at c.in-None.ensures in
    sym (codes_by c.left.is_code c.left.place c.args.fields.now None lt none) ∙ c.left.invariant

pub returns-then-is_code : goal.returns-then-is_code
returns-then-is_code c =
    let le : length c.args.fields.now ≤ c.left.place = omega arith in
    sym (codes_ended c.left.is_code c.left.place c.args.fields.now le ∙ ap (λ (b : Bool). if b then None else Some (reason.NoValue c.left.place)) c.if-is_code.true) ∙ c.left.invariant

pub returns : goal.returns
returns c =
    let le : length c.args.fields.now ≤ c.left.place = omega arith in
    sym (codes_ended c.left.is_code c.left.place c.args.fields.now le ∙ ap (λ (b : Bool). if b then None else Some (reason.NoValue c.left.place)) c.if-is_code.false) ∙ c.left.invariant
