use Rattle.std.proofs.Common.{◌≡◌, ◌≢◌, ◌<◌, Bool, true, false, ltb, ℕ, arith, length, get_or, refl}
use Rattle.std.proofs.lemmas.Bool.{ltb-true, ltb-false}
use Rattle.pg_copy_text.proofs.BlockBits.{none_by_place}
use Rattle.pg_copy_text.proofs.plain.may_have_backslash.Goals as goal

pub returns : goal.returns
returns c none = none_by_place c.args.bytes.now (λ i l. go i l (ltb i c.loop-at.at) refl)
  where
    go : (i : ℕ) → i < length c.args.bytes.now → (t : Bool) → ltb i c.loop-at.at ≡ t → get_or c.args.bytes.now i 0 ≢ 92
    go i l true e = c.loop-at.invariant.1 i (ltb-true _ _ e)
    go i l false e = c.is_backslash_in_block-2.ensures none i (omega (arith, ltb-false _ _ e, c.loop-at-test.false)) (omega (arith, l, c.if-bytes-lt-BLOCK.false))
