use Rattle.std.proofs.Common.{ℕ, List, [], take, refl, arith}
use Rattle.std.proofs.lemmas.List.{length-take}
use Rattle.pg_drive.proofs.LentTurning.{sends_nothing}
use Rattle.pg_drive.proofs.lent.receive_pushed.Goals as goal

pub returns-in-Ok-push : goal.returns-in-Ok-push
returns-in-Ok-push g c =
    let into : List ℕ = c.receive.new.into in
    let count : ℕ = c.in-Ok.count in (
      take count into,
      record {
        between = c.receive.new.self;
        put = [];
        received = c.in-Ok.ensures.bytes;
        none_failed = c.in-Ok.ensures.counted;
        has_some = omega (arith, length-take count into, c.if-count-eq0.false, c.in-Ok.ensures.bound);
        within = omega (arith, length-take count into, c.in-Ok.ensures.bound, c.receive.auto.into, c.requires);
        fed = (c.in-Ok-push.ensures.pushes, refl);
        sent = sends_nothing g.L.Sink.takes g.L.Sink.failures c.receive.new.self;
        none_left = refl;
      },
    )

pub returns-in-Err : goal.returns-in-Err
returns-in-Err g c =
    let into : List ℕ = c.receive.new.into in
    let count : ℕ = c.in-Ok.count in (
      c.push.new.self,
      record {
        piece = take count into;
        received = c.in-Ok.ensures.bytes;
        none_failed = c.in-Ok.ensures.counted;
        has_some = omega (arith, length-take count into, c.if-count-eq0.false, c.in-Ok.ensures.bound);
        within = omega (arith, length-take count into, c.in-Ok.ensures.bound, c.receive.auto.into, c.requires);
        fed = (c.in-Err.ensures.pushes, refl);
      },
      c.lose-loss.ensures,
    )
