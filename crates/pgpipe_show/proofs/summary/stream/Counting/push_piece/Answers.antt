use Rattle.std.proofs.Common.{◌≡◌, ◌++◌, take, rules}
use Rattle.pgpipe_show.proofs.Counting.{pushed}
use Rattle.pgpipe_show.proofs.summary.stream.Counting.push_piece.Goals as goal

pub returns-in-Ok-clause-counts : goal.returns-in-Ok-clause-counts
returns-in-Ok-clause-counts c = λ bytes h.
    let piece = take c.args.count c.args.self.now.into.items in
    let same : c.deref.result.now ≡ c.args.self.now.into.items = search rules in
    c.count_frames.ensures (bytes ++ piece) (pushed c.args.self.now.front bytes piece c.args.self.now.summary c.args.self.now.frames c.push.new.self (rw same at c.in-Ok.ensures.ok) h)

pub returns-in-Err-clause-counts : goal.returns-in-Err-clause-counts
returns-in-Err-clause-counts c = λ bytes h. tt
