use Rattle.std.proofs.Common.{◌++◌, refl, ap}
use Rattle.std.proofs.lemmas.Result.{err_from_is_err_and}
use Rattle.pg_wire.specs.Decoder.{DecoderState}
use Rattle.pgpipe_show.proofs.Decodings.{first_refused, first_pushed, still_first, now_messages, now_over, front_ok, front_err, packets_err}
use Rattle.pgpipe_show.proofs.decoding.take_packets.Goals as goal

pub returns-then-is_err-clause-steps : goal.returns-then-is_err-clause-steps
returns-then-is_err-clause-steps g c = λ start bytes st. first_refused g.K.Sink.takes g.K.Sink.failures start bytes c.args.piece.now c.args.outbox.now c.args.sink.now c.args.decoder st

pub returns-in-Packet-clause-steps : goal.returns-in-Packet-clause-steps
returns-in-Packet-clause-steps g c = λ start bytes st.
    let on = still_first g.K.Sink.takes g.K.Sink.failures start (bytes ++ c.args.piece.now) c.push.new.self.kept st.put.pieces c.args.outbox.now c.args.sink.now (first_pushed g.K.Sink.takes g.K.Sink.failures start bytes c.args.piece.now c.args.outbox.now c.args.sink.now c.args.decoder c.push.result c.push.new.self c.if-is_err.ensures.value c.push.ensures.call st) c.in_ok-put_packets.field-0 c.put_packets.new.first c.put_packets.new.outbox c.put_packets.new.sink c.in-Packet.is c.in_ok-put_packets.ensures.puts in
    (refl, on.0, on.1)

pub returns-in_ok-spellings-in-Message-clause-steps : goal.returns-in_ok-spellings-in-Message-clause-steps
returns-in_ok-spellings-in-Message-clause-steps g c = λ start bytes st.
    let put = now_messages g.K.Sink.takes g.K.Sink.failures start (bytes ++ c.args.piece.now) c.push.new.self.kept st.put.pieces c.args.outbox.now c.args.sink.now (first_pushed g.K.Sink.takes g.K.Sink.failures start bytes c.args.piece.now c.args.outbox.now c.args.sink.now c.args.decoder c.push.result c.push.new.self c.if-is_err.ensures.value c.push.ensures.call st) c.in_ok-put_packets.field-0 c.put_packets.new.first c.into_spellings.result.stream.kept c.put_packets.new.outbox c.put_packets.new.sink c.in-Message.is (ap (λ (d : DecoderState). d.kept) c.into_spellings.ensures.stream) c.in_ok-put_packets.ensures.puts in
    let on = front_ok g.K.Sink.takes g.K.Sink.failures start (bytes ++ c.args.piece.now) c.into_spellings.result.stream.kept st.put.pieces c.put_packets.new.outbox c.put_packets.new.sink put c.in_ok-spellings-in-Message.spellings c.put_messages.new.outbox c.put_messages.new.sink c.in_ok-spellings-in-Message.ensures.puts in
    (refl, on.0, on.1)

pub returns-in_err-spellings-in-Message-clause-steps : goal.returns-in_err-spellings-in-Message-clause-steps
returns-in_err-spellings-in-Message-clause-steps g c = λ start bytes st.
    let p = err_from_is_err_and c.from_residual-in_err-spellings-in-Message.result c.from_residual-in_err-spellings-in-Message.ensures.1 in
    let put = now_messages g.K.Sink.takes g.K.Sink.failures start (bytes ++ c.args.piece.now) c.push.new.self.kept st.put.pieces c.args.outbox.now c.args.sink.now (first_pushed g.K.Sink.takes g.K.Sink.failures start bytes c.args.piece.now c.args.outbox.now c.args.sink.now c.args.decoder c.push.result c.push.new.self c.if-is_err.ensures.value c.push.ensures.call st) c.in_ok-put_packets.field-0 c.put_packets.new.first c.into_spellings.result.stream.kept c.put_packets.new.outbox c.put_packets.new.sink c.in-Message.is (ap (λ (d : DecoderState). d.kept) c.into_spellings.ensures.stream) c.in_ok-put_packets.ensures.puts in
    rw (p.1, p.2) (front_err g.K.Sink.takes g.K.Sink.failures start (bytes ++ c.args.piece.now) c.into_spellings.result.stream.kept st.put.pieces c.put_packets.new.outbox c.put_packets.new.sink put c.in_err-spellings-in-Message.field-0.0 c.put_messages.new.outbox c.put_messages.new.sink c.in_err-spellings-in-Message.ensures.puts)

pub returns-in-Nothing-clause-steps : goal.returns-in-Nothing-clause-steps
returns-in-Nothing-clause-steps g c = λ start bytes st.
    let on = now_over g.K.Sink.takes g.K.Sink.failures start (bytes ++ c.args.piece.now) c.push.new.self.kept st.put.pieces c.args.outbox.now c.args.sink.now (first_pushed g.K.Sink.takes g.K.Sink.failures start bytes c.args.piece.now c.args.outbox.now c.args.sink.now c.args.decoder c.push.result c.push.new.self c.if-is_err.ensures.value c.push.ensures.call st) c.in_ok-put_packets.field-0 c.kept.result c.put_packets.new.first c.put_packets.new.outbox c.put_packets.new.sink c.in-Nothing.is c.kept.ensures c.in_ok-put_packets.ensures.puts in
    (refl, on.0, on.1)

pub returns-in_err-put_packets-clause-steps : goal.returns-in_err-put_packets-clause-steps
returns-in_err-put_packets-clause-steps g c = λ start bytes st.
    let p = err_from_is_err_and c.from_residual.result c.from_residual.ensures.1 in
    rw (p.1, p.2) (packets_err g.K.Sink.takes g.K.Sink.failures start (bytes ++ c.args.piece.now) c.push.new.self.kept st.put.pieces c.args.outbox.now c.args.sink.now (first_pushed g.K.Sink.takes g.K.Sink.failures start bytes c.args.piece.now c.args.outbox.now c.args.sink.now c.args.decoder c.push.result c.push.new.self c.if-is_err.ensures.value c.push.ensures.call st) c.in_err-put_packets.field-0.0 c.put_packets.new.first c.put_packets.new.outbox c.put_packets.new.sink c.in_err-put_packets.ensures.puts)
