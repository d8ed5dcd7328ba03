use Rattle.std.proofs.Common.{◌≡◌, ◌<◌, ◌≤◌, ◌-◌, [], length, take, Ok, refl, inl, inr, ap, drop, length-drop, arith}
use Rattle.std.proofs.lemmas.List.{length-take-le}
use borrow.Rule.Slice.PartMut.{same_len_mid}
use Rattle.pgpipe_loop.proofs.Crossing.{filled_more, receives_none, receives_more, receives_all, receives_fewer}
use Rattle.pgpipe_loop.proofs.across.receive_all.Goals as goal

pub loop-filled-init : goal.loop-filled-init
loop-filled-init g c = (receives_none g.S.Source.gives g.S.Source.failures g.S.Source.has_ended c.args.source.now, omega arith)

pub loop-filled-preserved : goal.loop-filled-preserved
loop-filled-preserved g c =
    let l = c.loop-filled in
    let within : l.filled ≤ length l.into = omega (arith, c.loop-filled-test.true) in
    let more = filled_more l.into l.filled (length l.into - l.filled) c.receive.new.into c.in-Ok.count within c.in-Ok.ensures.bound in (
      receives_more g.S.Source.gives g.S.Source.failures g.S.Source.has_ended _ _ _ _ _ _ l.invariant.0 c.in-Ok.ensures.bytes c.in-Ok.ensures.counted more,
      omega (
        arith,
        within,
        c.in-Ok.ensures.bound,
        c.receive.auto.into,
        same_len_mid l.filled (length l.into - l.filled) l.into c.receive.new.into (omega (arith, c.receive.auto.into, length-take-le (length l.into - l.filled) (drop l.filled l.into) (omega (arith, length-drop l.filled l.into)), length-drop l.filled l.into)),
      ),
    )

pub returns-in_default-clause-receives : goal.returns-in_default-clause-receives
returns-in_default-clause-receives g c =
    let l = c.loop-filled in
    let none : c.in-Ok.count ≡ 0 = omega (arith, c.if-count-gt0.false) in
    let few : length (take l.filled l.into) < length c.args.into.now = omega (arith, l.auto.into, length-take-le l.filled l.into l.invariant.1, c.loop-filled-test.true) in
    let room : 0 < length c.receive.new.into = omega (arith, c.receive.auto.into, c.loop-filled-test.true) in
    receives_fewer g.S.Source.gives g.S.Source.failures g.S.Source.has_ended c.args.source.now (take l.filled l.into) l.source (take c.in-Ok.count c.receive.new.into) c.receive.new.self (length c.args.into.now)
    record {} l.invariant.0 c.in-Ok.ensures.bytes (ap (λ n. take n c.receive.new.into) none) few (inr (c.in-Ok.ensures.end (ap Ok none) room))

pub returns-in_default-2-clause-receives : goal.returns-in_default-2-clause-receives
returns-in_default-2-clause-receives g c =
    let l = c.loop-filled in
    let few : length (take l.filled l.into) < length c.args.into.now = omega (arith, l.auto.into, length-take-le l.filled l.into l.invariant.1, c.loop-filled-test.true) in
    receives_fewer g.S.Source.gives g.S.Source.failures g.S.Source.has_ended c.args.source.now (take l.filled l.into) l.source [] c.receive.new.self (length c.args.into.now)
    record {} l.invariant.0 c.in_default.ensures.bytes refl few (inl c.in_default.ensures.counted)

pub returns-clause-receives : goal.returns-clause-receives
returns-clause-receives g c =
    let l = c.loop-filled in
    let whole : length (take l.filled l.into) ≡ length c.args.into.now = omega (arith, l.auto.into, length-take-le l.filled l.into l.invariant.1, l.invariant.1, c.loop-filled-test.false) in
    receives_all g.S.Source.gives g.S.Source.failures g.S.Source.has_ended c.args.source.now (take l.filled l.into) l.source (length c.args.into.now) l.invariant.0 whole
