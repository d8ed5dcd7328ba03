use Rattle.std.proofs.Common.{length, take, drop, List, ℕ, ◌≡◌, ◌+◌, ◌++◌, subst}
use Rattle.std.specs.Int.{w32, to_be_bytes}
use Rattle.pg_values.proofs.Blocks.{written_twice}
use Rattle.pg_values.proofs.block.put.Goals as goal

pub returns-in-Some-clause-front : goal.returns-in-Some-clause-front
returns-in-Some-clause-front c = rw c.in-Some.is (written_twice c.args.place (to_be_bytes w32 (length c.in-Some.bytes.now)) c.in-Some.bytes.now c.args.block.now c.write-in-Some.new.block c.write-in-Some-2.new.block (subst (λ (xs : List ℕ). take (c.args.place + length xs) c.write-in-Some.new.block ≡ take c.args.place c.args.block.now ++ xs) c.to_be_bytes.ensures c.write-in-Some.ensures.front) (subst (λ (xs : List ℕ). drop (c.args.place + length xs) c.write-in-Some.new.block ≡ drop (c.args.place + length xs) c.args.block.now) c.to_be_bytes.ensures c.write-in-Some.ensures.back) c.write-in-Some-2.ensures.front c.write-in-Some-2.ensures.back).0

pub returns-in-Some-clause-back : goal.returns-in-Some-clause-back
returns-in-Some-clause-back c = rw c.in-Some.is (written_twice c.args.place (to_be_bytes w32 (length c.in-Some.bytes.now)) c.in-Some.bytes.now c.args.block.now c.write-in-Some.new.block c.write-in-Some-2.new.block (subst (λ (xs : List ℕ). take (c.args.place + length xs) c.write-in-Some.new.block ≡ take c.args.place c.args.block.now ++ xs) c.to_be_bytes.ensures c.write-in-Some.ensures.front) (subst (λ (xs : List ℕ). drop (c.args.place + length xs) c.write-in-Some.new.block ≡ drop (c.args.place + length xs) c.args.block.now) c.to_be_bytes.ensures c.write-in-Some.ensures.back) c.write-in-Some-2.ensures.front c.write-in-Some-2.ensures.back).1
