use Rattle.std.proofs.Common.{◌≡◌, [], take, refl, arith}
use Rattle.pgpipe_base.proofs.Pieces.{read_back}
use Rattle.pgpipe_show.specs.Private.Counting.{end_stop}
use Rattle.pgpipe_show.proofs.Counting.{came_none, ended}
use Rattle.pgpipe_show.proofs.summary.stream.Counting.step.Goals as goal

pub returns-in-Ok-eq0-clause-steps : goal.returns-in-Ok-eq0-clause-steps
returns-in-Ok-eq0-clause-steps g c =
    let s = c.args.self.now in
    let piece = take c.in-Ok-eq0.field-0 c.receive.new.into in
    let none : take c.in-Ok-eq0.field-0 c.receive.new.into ≡ [] = rw c.in-Ok-eq0.field-0-test refl in
    (piece, c.in-Ok-eq0.ensures.bytes, λ bytes a. rw c.end_stop.ensures (came_none s.front bytes (end_stop c.left.result) s.summary piece none (ended s.front bytes s.summary s.frames s.over c.left.result c.left.ensures a)))

pub returns-in-Ok-clause-steps : goal.returns-in-Ok-clause-steps
returns-in-Ok-clause-steps g c =
    let same = read_back c.args.self.now.into.len c.receive.new.into c.args.self.now.into.items _ refl (omega arith) in
    (take c.in-Ok.count c.receive.new.into, c.in-Ok.ensures.bytes, λ bytes a. rw same at c.count_piece.ensures.goes_on bytes a)

pub returns-in-Err-clause-steps : goal.returns-in-Err-clause-steps
returns-in-Err-clause-steps g c = ([], c.in-Err.ensures.bytes, λ bytes a. tt)
