use Rattle.std.proofs.Common.{[], ◌≡◌, take, arith, Ok, Err, subst, List, ℕ, rules}
use Rattle.std.proofs.lemmas.Result.{err_from_is_err_and}
use Rattle.pgpipe_convert.specs.Private.Converting.{TakesPiece}
use Rattle.pgpipe_convert.specs.Private.Values.{writing_by}
use Rattle.pgpipe_base.proofs.Pieces.{read_back, piece_within}
use Rattle.pgpipe_convert.proofs.Converting.{source_failed, refused_steps, piece_steps, end_steps}
use Rattle.pgpipe_convert.proofs.convert.Converting.step.Goals as goal

pub returns-in-Ok-eq0-clause-steps : goal.returns-in-Ok-eq0-clause-steps
returns-in-Ok-eq0-clause-steps g c =
    let is_ended : g.S.Source.has_ended c.receive.new.self = search rules in
    let none : take c.in-Ok-eq0.field-0 c.receive.new.into ≡ [] = search rules in
    ([], omega arith, rw none at c.in-Ok-eq0.ensures.bytes, λ file start bytes st. end_steps g.K.Sink.takes g.K.Sink.failures file (writing_by c.args.self.now.to) start bytes c.args.self.now.reader c.args.self.now.out.items c.args.sink.now st (g.S.Source.has_ended c.receive.new.self) is_ended c.end.result c.end.new.self.reader c.end.new.self.out.items c.end.new.sink c.end.ensures.ends)

pub returns-in-Err-clause-steps : goal.returns-in-Err-clause-steps
returns-in-Err-clause-steps g c = ([], omega arith, c.in-Err.ensures.bytes, λ file start bytes st. source_failed g.K.Sink.takes g.K.Sink.failures file (writing_by c.args.self.now.to) start bytes c.args.self.now.reader c.args.self.now.out.items c.args.sink.now st ⊥)

pub returns-in_err-push-clause-steps : goal.returns-in_err-push-clause-steps
returns-in_err-push-clause-steps g c =
    let same : c.deref.result.now ≡ c.receive.new.into = read_back c.args.self.now.into.len c.receive.new.into c.args.self.now.into.items c.deref.result.now c.deref.ensures.value (omega arith) in
    let refused : TakesPiece c.args.self.now.reader (take c.in-Ok.count c.deref.result.now) (Err c.in_err-push.field-0.0) c.push.new.self = c.in_err-push.ensures in
    let p = err_from_is_err_and c.from_residual.result c.from_residual.ensures.1 in
    (take c.in-Ok.count c.receive.new.into, piece_within c.in-Ok.count c.receive.new.into (omega arith), c.in-Ok.ensures.bytes, λ file start bytes st. rw (p.1, p.2) (refused_steps g.K.Sink.takes g.K.Sink.failures file (writing_by c.args.self.now.to) start bytes c.args.self.now.reader c.args.self.now.out.items c.args.sink.now st (take c.in-Ok.count c.receive.new.into) (g.S.Source.has_ended c.receive.new.self) c.in_err-push.field-0.0 c.push.new.self c.push.new.self (subst (λ (l : List ℕ). TakesPiece c.args.self.now.reader (take c.in-Ok.count l) (Err c.in_err-push.field-0.0) c.push.new.self) same refused)))

pub returns-clause-steps : goal.returns-clause-steps
returns-clause-steps g c =
    let same : c.deref.result.now ≡ c.receive.new.into = read_back c.args.self.now.into.len c.receive.new.into c.args.self.now.into.items c.deref.result.now c.deref.ensures.value (omega arith) in
    let taken : TakesPiece c.args.self.now.reader (take c.in-Ok.count c.deref.result.now) (Ok c.in_ok-push.field-0) c.push.new.self = c.in_ok-push.ensures in
    let took : TakesPiece c.args.self.now.reader (take c.in-Ok.count c.receive.new.into) (Ok c.in_ok-push.field-0) c.push.new.self = subst (λ (l : List ℕ). TakesPiece c.args.self.now.reader (take c.in-Ok.count l) (Ok c.in_ok-push.field-0) c.push.new.self) same taken in
    (take c.in-Ok.count c.receive.new.into, piece_within c.in-Ok.count c.receive.new.into (omega arith), c.in-Ok.ensures.bytes, λ file start bytes st. piece_steps g.K.Sink.takes g.K.Sink.failures file (writing_by c.args.self.now.to) start bytes c.args.self.now.reader c.args.self.now.out.items c.args.sink.now st (take c.in-Ok.count c.receive.new.into) c.push.new.self took.0 took.1 took.2 (g.S.Source.has_ended c.receive.new.self) c.send_rows.result c.send_rows.new.reader c.send_rows.new.out.items c.send_rows.new.sink c.send_rows.ensures.puts)
