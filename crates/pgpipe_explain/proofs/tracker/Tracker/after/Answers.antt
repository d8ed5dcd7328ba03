use Rattle.std.proofs.Common.{◌∙◌, ◌+◌, ℕ, List, ap, sym, drop, arith}
use Rattle.std.proofs.lemmas.List.{at_drop_all, at_drop_more}
use Rattle.pgpipe_explain.specs.declared.tracker.Tracker.{Tracker}
use Rattle.pgpipe_explain.specs.Tracker.{after}
use Rattle.pgpipe_explain.proofs.tracker.Tracker.after.Goals as goal

pub loop-byte-preserved : goal.loop-byte-preserved
unfolding after
loop-byte-preserved c =
    let bytes = c.args.bytes.now in
    let i = c.loop-byte.byte-index in
    let tracker = c.loop-byte.tracker in
    let more = at_drop_more (λ (rest : List ℕ). after tracker rest) bytes i 0 (omega arith) in
    ap (λ (t : Tracker). after t (drop (i + 1) bytes)) c.after_byte-tracker.ensures ∙ sym more ∙ c.loop-byte.invariant

pub returns : goal.returns
unfolding after
returns c =
    sym (at_drop_all (λ (rest : List ℕ). after c.loop-byte.tracker rest) c.args.bytes.now c.loop-byte.byte-index (omega arith)) ∙ c.loop-byte.invariant
