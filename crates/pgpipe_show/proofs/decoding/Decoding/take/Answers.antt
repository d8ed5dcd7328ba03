use Rattle.std.proofs.lemmas.Result.{err_from_is_err_and}
use Rattle.pgpipe_show.proofs.Decodings.{take_back_ok, take_back_err, take_first, take_front_ok, take_front_err, take_over, take_framed, take_framed_over}
use Rattle.pgpipe_show.proofs.decoding.Decoding.take.Goals as goal

pub returns-in_ok-spellings-in-Back-clause-steps : goal.returns-in_ok-spellings-in-Back-clause-steps
returns-in_ok-spellings-in-Back-clause-steps g c = λ start bytes st. take_back_ok g.K.Sink.takes g.K.Sink.failures start bytes c.args.piece.now c.args.outbox.now c.args.sink.now c.args.self st c.in-Back.spellings c.in_ok-spellings-in-Back.spellings c.take_messages.new.outbox c.take_messages.new.sink c.in-Back.is c.in_ok-spellings-in-Back.ensures.puts

pub returns-in_err-spellings-in-Back-clause-steps : goal.returns-in_err-spellings-in-Back-clause-steps
returns-in_err-spellings-in-Back-clause-steps g c =
    let p = err_from_is_err_and c.from_residual.result c.from_residual.ensures.1 in
    λ start bytes st. rw (p.1, p.2) (take_back_err g.K.Sink.takes g.K.Sink.failures start bytes c.args.piece.now c.args.outbox.now c.args.sink.now c.args.self st c.in-Back.spellings c.in_err-spellings-in-Back.field-0.0 c.take_messages.new.outbox c.take_messages.new.sink c.in-Back.is c.in_err-spellings-in-Back.ensures.puts)

pub returns-in-First-clause-steps : goal.returns-in-First-clause-steps
returns-in-First-clause-steps g c = λ start bytes st. take_first g.K.Sink.takes g.K.Sink.failures start bytes c.args.piece.now c.args.outbox.now c.args.sink.now c.args.self st c.in-First.decoder c.take_packets.result c.take_packets.new.outbox c.take_packets.new.sink c.in-First.is (c.take_packets.ensures.steps start bytes)

pub returns-in_ok-spellings-in-Front-clause-steps : goal.returns-in_ok-spellings-in-Front-clause-steps
returns-in_ok-spellings-in-Front-clause-steps g c = λ start bytes st. take_front_ok g.K.Sink.takes g.K.Sink.failures start bytes c.args.piece.now c.args.outbox.now c.args.sink.now c.args.self st c.in-Front.spellings c.in_ok-spellings-in-Front.spellings c.take_messages-in-Front.new.outbox c.take_messages-in-Front.new.sink c.in-Front.is c.in_ok-spellings-in-Front.ensures.puts

pub returns-in_err-spellings-in-Front-clause-steps : goal.returns-in_err-spellings-in-Front-clause-steps
returns-in_err-spellings-in-Front-clause-steps g c =
    let p = err_from_is_err_and c.from_residual-in_err-spellings-in-Front.result c.from_residual-in_err-spellings-in-Front.ensures.1 in
    λ start bytes st. rw (p.1, p.2) (take_front_err g.K.Sink.takes g.K.Sink.failures start bytes c.args.piece.now c.args.outbox.now c.args.sink.now c.args.self st c.in-Front.spellings c.in_err-spellings-in-Front.field-0.0 c.take_messages-in-Front.new.outbox c.take_messages-in-Front.new.sink c.in-Front.is c.in_err-spellings-in-Front.ensures.puts)

pub returns-in-Over-clause-steps : goal.returns-in-Over-clause-steps
returns-in-Over-clause-steps g c = λ start bytes st. take_over g.K.Sink.takes g.K.Sink.failures start bytes c.args.piece.now c.args.outbox.now c.args.sink.now c.args.self st c.in-Over.count c.in-Over.is

pub returns-in-Framed-clause-steps : goal.returns-in-Framed-clause-steps
returns-in-Framed-clause-steps g c = λ start bytes st. take_framed g.K.Sink.takes g.K.Sink.failures start bytes c.args.piece.now c.args.outbox.now c.args.sink.now c.args.self st c.in-Framed.framing c.take_frames.result c.take_frames.new.outbox c.take_frames.new.sink c.in-Framed.is (c.take_frames.ensures.steps start bytes)

pub returns-in-FramedOver-clause-steps : goal.returns-in-FramedOver-clause-steps
returns-in-FramedOver-clause-steps g c = λ start bytes st. take_framed_over g.K.Sink.takes g.K.Sink.failures start bytes c.args.piece.now c.args.outbox.now c.args.sink.now c.args.self st c.in-FramedOver.line c.in-FramedOver.front c.in-FramedOver.count c.in-FramedOver.is
