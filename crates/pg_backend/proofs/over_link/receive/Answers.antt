use Rattle.std.proofs.Common.{ℕ, List, take, arith}
use Rattle.std.proofs.lemmas.List.{length-take}
use Rattle.pg_backend.specs.OverLink.{Came}
use Rattle.pg_backend.proofs.over_link.receive.Goals as goal

pub returns : goal.returns
returns g c =
    let into : List ℕ = c.receive.new.into in
    let count : ℕ = c.in-Ok.count in (
      Came (take count into),
      record {
        waited = c.requires;
        received = c.in-Ok.ensures.bytes;
        has_some = omega (arith, length-take count into, c.if-count-eq0.false, c.in-Ok.ensures.bound);
        within = omega (arith, length-take count into, c.in-Ok.ensures.bound, c.receive.auto.into);
        pushed = record { push = c.in_default-push.ensures.call; history = c.in_default-push.ensures.history };
      },
    )
