use Rattle.std.proofs.Common.{sym, subst}
use Rattle.pg_wire.specs.Decoder.{DecoderState, HasTaken}
use Rattle.pg_wire.proofs.Takings.{taken_next}
use Rattle.pg_wire.proofs.decoder.Decoder.next.Goals as goal

pub returns-clause-taken : goal.returns-clause-taken
returns-clause-taken g c = λ pushed given h.
    taken_next g.M.Message.direction c.self.inside.stream.rest c.next.result c.next.new.self.rest c.next.ensures.call pushed given (subst (λ (s : DecoderState). HasTaken g.M.Message.direction s pushed given) (sym c.self.view_is) h)
