use Rattle.std.proofs.Common.{sym, subst}
use Rattle.pg_message.specs.Backend.{backend}
use Rattle.pg_message.specs.Private.LentReader.{lent_bytes}
use Rattle.pg_wire.specs.Decoder.{HasTaken}
use Rattle.pg_wire.specs.BackDecoder.{BackState, as_next}
use Rattle.pg_wire.proofs.Takings.{taken_next}
use Rattle.pg_wire.proofs.back.BackDecoder.next_lent.Goals as goal

pub returns-clause-taken : goal.returns-clause-taken
returns-clause-taken c = λ pushed given h.
    taken_next backend c.self.inside.stream.rest (as_next c.next_lent.result (lent_bytes c.next_lent.new.self.front)) c.next_lent.new.self.rest c.next_lent.ensures.call.takes pushed given (subst (λ (s : BackState). HasTaken backend s.stream pushed given) (sym c.self.view_is) h)
