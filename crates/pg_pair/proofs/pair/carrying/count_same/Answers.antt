use Rattle.std.proofs.Common.{◌≡◌, ◌+◌, length, drop, arith, ◌∙◌}
use Rattle.pg_pair.specs.Carrying.{same_front}
use Rattle.pg_pair.proofs.Delivering.{same_front_end}
use Rattle.pg_pair.proofs.pair.carrying.count_same.Goals as goal

pub returns : goal.returns
returns c =
    let index : c.loop-index.index ≡ c.min-most.result = omega arith in
    let here : length (same_front c.args.piece.now c.args.came.now) ≡ c.loop-index.index + length (same_front (drop c.loop-index.index c.args.piece.now) (drop c.loop-index.index c.args.came.now)) = c.loop-index.invariant in
    let none = same_front_end c.loop-index.index c.args.piece.now c.args.came.now (index ∙ c.min-most.ensures) in
    omega arith
