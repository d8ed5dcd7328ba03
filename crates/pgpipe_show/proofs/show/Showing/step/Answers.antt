use Rattle.std.proofs.Common.{[], ◌≡◌, take, arith, rules}
use Rattle.pgpipe_show.specs.declared.decoding.Decoding.{Decoding}
use Rattle.pgpipe_base.proofs.Pieces.{read_back, piece_within}
use Rattle.pgpipe_show.proofs.Decodings.{end_of_source, ended_at, failed_at}
use Rattle.pgpipe_show.proofs.show.Showing.step.Goals as goal

pub returns-in-Ok-eq0-clause-steps : goal.returns-in-Ok-eq0-clause-steps
returns-in-Ok-eq0-clause-steps g c = (
  take c.in-Ok-eq0.field-0 c.receive.new.into,
  piece_within c.in-Ok-eq0.field-0 c.receive.new.into (omega arith),
  c.in-Ok-eq0.ensures.bytes,
  λ start bytes st. rw c.end_stop.ensures (ended_at g.K.Sink.takes g.K.Sink.failures start bytes c.args.self.now.outbox c.args.sink.now c.in-Ok-eq0.field-0 c.receive.new.into c.args.decoding c.kept.result (omega (arith, c.in-Ok-eq0.field-0-test)) c.kept.ensures st),
)

pub returns-in-Ok-eq0-clause-source : goal.returns-in-Ok-eq0-clause-source
returns-in-Ok-eq0-clause-source g c =
    let is_ended : g.S.Source.has_ended c.receive.new.self = search rules in
    let same : g.S.Source.failures c.receive.new.self ≡ g.S.Source.failures c.args.source.now = c.in-Ok-eq0.ensures.counted in
    rw c.end_stop.ensures (end_of_source Decoding (g.S.Source.has_ended c.receive.new.self) (g.S.Source.failures c.args.source.now) (g.S.Source.failures c.receive.new.self) c.kept.result is_ended same)

pub returns-in-Err-clause-steps : goal.returns-in-Err-clause-steps
returns-in-Err-clause-steps g c = ([], omega arith, c.in-Err.ensures.bytes, λ start bytes st. failed_at g.K.Sink.takes g.K.Sink.failures start bytes c.args.self.now.outbox c.args.sink.now c.args.decoding st)

pub returns-clause-steps : goal.returns-clause-steps
returns-clause-steps g c =
    let same : c.deref.result.now ≡ c.receive.new.into = read_back c.args.self.now.into.len c.receive.new.into c.args.self.now.into.items c.deref.result.now c.deref.ensures.value (omega arith) in
    (take c.in-Ok.count c.receive.new.into, piece_within c.in-Ok.count c.receive.new.into (omega arith), c.in-Ok.ensures.bytes, rw same at c.send.ensures.steps)
