use Rattle.std.proofs.Common.{◌+◌, ◌++◌, ◌∷◌, [], List, ℕ, false, drop, ap, sym, ◌∙◌, append_assoc, append-nil, arith}
use Rattle.std.proofs.lemmas.List.{length-drop, take_rest}
use Rattle.pg_copy_text.specs.Private.Cuts.{cuts_from}
use Rattle.pg_copy_text.proofs.BlockBits.{unless, when}
use Rattle.pg_copy_text.proofs.TextCuts.{cuts-first, cuts-none}
use Rattle.pg_copy_text.proofs.cuts.note_all.Goals as goal

pub loop-end-preserved : goal.loop-end-preserved
loop-end-preserved c =
    let d = c.args.delimiter in
    let line = c.args.line.now in
    let l = c.loop-end in
    let at = l.invariant.2.more (unless l.end.last c.loop-end-test.true) in
    let next = l.start + (l.end.len + 1) in
    let more = l.invariant.0 ∙ ap (λ (xs : List ℕ). l.cuts.items ++ xs) (cuts-first d line l.start l.end.len c.requires at) ∙ sym (append_assoc l.cuts.items (next ∷ []) (cuts_from next false d (drop next line))) in
    (rw c.in_ok-push.ensures.items more, omega (arith, l.invariant.1, at.in_range, length-drop l.start line), rw take_rest at c.field_end-end-in-loop-end.ensures)

pub returns-clause-ok : goal.returns-clause-ok
returns-clause-ok c =
    let d = c.args.delimiter in
    let line = c.args.line.now in
    let l = c.loop-end in
    let whole = l.invariant.2.whole (when l.end.last c.loop-end-test.false) in
    sym (l.invariant.0 ∙ ap (λ (xs : List ℕ). l.cuts.items ++ xs) (cuts-none l.start false d (drop l.start line) whole.1) ∙ append-nil l.cuts.items)
