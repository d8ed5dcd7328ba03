use Rattle.std.proofs.Common.{sym, subst}
use Rattle.pg_message.specs.Backend.{backend}
use Rattle.pg_wire.specs.Decoder.{HasTaken}
use Rattle.pg_wire.specs.BackDecoder.{BackState}
use Rattle.pg_wire.proofs.Takings.{taken_next}
use Rattle.pg_wire.proofs.back.BackDecoder.next.Goals as goal

pub returns-clause-taken : goal.returns-clause-taken
returns-clause-taken c = λ pushed given h.
    taken_next backend c.self.inside.stream.rest c.next_owned.result c.next_owned.new.self.rest c.next_owned.ensures.call pushed given (subst (λ (s : BackState). HasTaken backend s.stream pushed given) (sym c.self.view_is) h)
