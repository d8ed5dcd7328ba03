use Rattle.std.proofs.Common.{◌≡◌, ℕ, ◌+◌, ◌-◌, refl, sym, subst, ◌∙◌, arith}
use Rattle.pg_copy_text.proofs.Writing.{IsRunning, IsRunning-none, IsRunning-plain, IsRunning-letter, IsRunning-run}
use Rattle.pg_copy_text.proofs.text_writer.put_text.Goals as goal
use Rattle.pg_copy_text.proofs.text_writer.put_text.Goals.{in-Some+in_ok-extend_from_slice+in_ok-extend_from_slice-2, in_default}

pub loop-at-init : goal.loop-at-init
loop-at-init c =
    let old = c.args.buf.now.items in
    let text = c.args.text.now in
    let p = c.plain_end-at.ensures in
    let n = c.plain_end-at.result in
    let all : 0 + n ≡ n = omega arith in
    (subst (λ (i : ℕ). IsRunning c.args.delimiter old text 0 i old) all (IsRunning-run c.args.delimiter old text 0 0 n old (omega (arith, p.in_range)) (λ i a b. p.plain i a (omega (arith, b))) (IsRunning-none c.args.delimiter old text)), p.in_range)

pub loop-at-preserved-then-is_plain : goal.loop-at-preserved-then-is_plain
loop-at-preserved-then-is_plain c =
    let old = c.args.buf.now.items in
    let text = c.args.text.now in
    let l = c.loop-at in
    let p = c.plain_end-at-then-is_plain.ensures in
    let end = c.plain_end-at-then-is_plain.result in
    let n = end - (l.at + 1) in
    let all : (l.at + 1) + n ≡ end = omega (arith, p.in_order) in
    let one = IsRunning-plain c.args.delimiter old text l.start l.at l.buf.items _ c.loop-at-test.true refl (c.is_plain.ensures c.if-is_plain.true).no_letter l.invariant.0 in
    (subst (λ (i : ℕ). IsRunning c.args.delimiter old text l.start i l.buf.items) all (IsRunning-run c.args.delimiter old text l.start (l.at + 1) n l.buf.items (omega (arith, all, p.in_range)) (λ i a b. p.plain i a (omega (arith, all, b))) one), p.in_range)

pub loop-at-preserved : goal.loop-at-preserved
loop-at-preserved c =
    let old = c.args.buf.now.items in
    let text = c.args.text.now in
    let l = c.loop-at in
    let m = c.match-letter_for in
    let one : IsRunning c.args.delimiter old text m.start (l.at + 1) m.buf.items = elim m.branch [
      | in-Some+in_ok-extend_from_slice+in_ok-extend_from_slice-2 w ↦
          rw (w.buf-is, w.start-is, w.in_ok-extend_from_slice-2.ensures.items, w.in_ok-extend_from_slice.ensures.items)
          (IsRunning-letter c.args.delimiter old text l.start l.at l.buf.items _ w.in-Some.letter c.loop-at-test.true refl (sym c.letter_for.ensures ∙ w.in-Some.is) l.invariant.0)
      | in_default w ↦
          rw (w.buf-is, w.start-is)
          (IsRunning-plain c.args.delimiter old text l.start l.at l.buf.items _ c.loop-at-test.true refl (sym c.letter_for.ensures ∙ w.in_default.is) l.invariant.0)
    ] in
    (one, omega (arith, c.loop-at-test.true))
