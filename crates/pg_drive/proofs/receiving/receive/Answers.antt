use Rattle.std.proofs.Common.{ℕ, List, take, inr, arith}
use Rattle.std.proofs.lemmas.List.{length-take}
use Rattle.pg_drive.proofs.receiving.receive.Goals as goal

pub returns-in_default-send_out : goal.returns-in_default-send_out
returns-in_default-send_out g c =
    let into : List ℕ = c.receive.new.into in
    let count : ℕ = c.in-Ok.count in
    inr (record {
      piece = take count into;
      between = c.receive.new.self;
      put = c.feed.new.out.items;
      client = c.feed.new.self;
      received = c.in-Ok.ensures.bytes;
      none_failed = c.in-Ok.ensures.counted;
      has_some = omega (arith, length-take count into, c.if-count-eq0.false, c.in-Ok.ensures.bound);
      within = omega (arith, length-take count into, c.in-Ok.ensures.bound, c.receive.auto.into, c.requires);
      fed = c.in_ok-feed.ensures;
      sent = c.in_default-send_out.ensures.sends;
      lost = c.lost-in_default-send_out.ensures;
    })

pub returns : goal.returns
returns g c =
    let into : List ℕ = c.receive.new.into in
    let count : ℕ = c.in-Ok.count in (
      take count into,
      record {
        between = c.receive.new.self;
        put = c.feed.new.out.items;
        received = c.in-Ok.ensures.bytes;
        none_failed = c.in-Ok.ensures.counted;
        has_some = omega (arith, length-take count into, c.if-count-eq0.false, c.in-Ok.ensures.bound);
        within = omega (arith, length-take count into, c.in-Ok.ensures.bound, c.receive.auto.into, c.requires);
        fed = c.in_ok-feed.ensures;
        sent = c.in-Ok-send_out.ensures.sends.0;
        none_left = c.in-Ok-send_out.ensures.sends.1;
      },
    )
