use Rattle.std.proofs.Common.{◌∙◌, ◌+◌, ℕ, List, ap, sym, drop, arith, rules}
use Rattle.std.proofs.lemmas.List.{at_drop_all, at_drop_more}
use Rattle.pgpipe_explain.specs.declared.tracker.Tracker.{Tracker}
use Rattle.pgpipe_explain.specs.Tracker.{place_in}
use Rattle.pgpipe_explain.proofs.Places.{found_at, not_yet, not_at_end}
use Rattle.pgpipe_explain.proofs.tracker.place_in.Goals as goal

pub returns-then-tracker-number : goal.returns-then-tracker-number
returns-then-tracker-number c =
    sym (found_at c.loop-byte.tracker (drop c.loop-byte.byte-index c.args.bytes.now) c.args.number (search rules)) ∙ c.loop-byte.invariant

pub loop-byte-preserved : goal.loop-byte-preserved
loop-byte-preserved c =
    let bytes = c.args.bytes.now in
    let i = c.loop-byte.byte-index in
    let tracker = c.loop-byte.tracker in
    let number = c.args.number in
    let more = at_drop_more (λ (rest : List ℕ). place_in tracker rest number) bytes i 0 (omega arith) in
    let on = not_yet tracker _ (drop (i + 1) bytes) number (search rules) in
    ap (λ (t : Tracker). place_in t (drop (i + 1) bytes) number) c.after_byte-tracker.ensures ∙ sym on ∙ sym more ∙ c.loop-byte.invariant

pub returns-then-tracker-number-2 : goal.returns-then-tracker-number-2
returns-then-tracker-number-2 c =
    sym (found_at c.loop-byte.tracker (drop c.loop-byte.byte-index c.args.bytes.now) c.args.number (search rules)) ∙ c.loop-byte.invariant

pub returns : goal.returns
returns c =
    let ended = at_drop_all (λ (rest : List ℕ). place_in c.loop-byte.tracker rest c.args.number) c.args.bytes.now c.loop-byte.byte-index (omega arith) in
    sym (not_at_end c.loop-byte.tracker c.args.number (search rules)) ∙ sym ended ∙ c.loop-byte.invariant
