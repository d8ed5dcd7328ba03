use Rattle.std.proofs.Common.{ap, arith}
use Rattle.pg_backend.specs.Backend.{was_lost}
use Rattle.pg_backend.specs.Check.{IsChecked}
use Rattle.pg_pair.proofs.Begun.{begun_tied}
use Rattle.pg_pair.proofs.pair.Pair.new.Goals as goal

pub invariant_of-result : goal.invariant_of-result
invariant_of-result g c =
    let checked : IsChecked c.new-2.result.script = rw c.new-2.ensures.value c.requires.checked in
    rw (c.new-3.ensures.0, c.new-3.ensures.1, c.new-3.ensures.2, c.new-4.ensures.0, c.new-4.ensures.1, c.new-4.ensures.2, c.new-5.ensures.items, c.new-6.ensures.items, c.new-7.ensures.items)
    (∣ begun_tied c.new.result c.new-2.result c.args.carrier c.new.ensures.history checked (ap (λ b. b.limit) c.new-2.ensures.value) (ap (λ b. was_lost b.stage) c.new-2.ensures.value) c.new-2.ensures.history ∣₁, omega arith)
