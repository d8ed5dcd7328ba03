use Rattle.pg_backend.proofs.Machine.NextAnswer.{noted, noted_last}
use Rattle.pg_backend.proofs.playing.Playing.note.Goals as goal

pub returns-then-self-len : goal.returns-then-self-len
returns-then-self-len c =
    let lt = rw c.len.ensures at c.if-self-len.true in
    noted c.self.inside.script c.self.inside.next c.self.inside.log.items c.push.new.self.items c.args.self.now c.args.logged c.self.view_is lt c.in_ok-push.ensures.items

pub returns-else-self-len : goal.returns-else-self-len
returns-else-self-len c =
    let le = rw c.len.ensures at c.if-self-len.false in
    noted_last c.self.inside.script c.self.inside.next c.self.inside.log.items c.push.new.self.items c.args.self.now c.args.logged c.self.view_is le c.in_ok-push.ensures.items
