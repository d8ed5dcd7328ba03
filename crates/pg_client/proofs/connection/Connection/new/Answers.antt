use Rattle.std.proofs.Common.{rules, refl, ap}
use Rattle.pg_wire.specs.Decoder.{DecoderState}
use Rattle.pg_client.proofs.Histories.Lifetime.{blank_begins}
use Rattle.pg_client.proofs.connection.Connection.new.Goals as goal

pub returns-clause-history : goal.returns-clause-history
returns-clause-history g c =
    blank_begins g.K.Keeper.way c.silent.ensures.agrees_as _ (ap (λ (d : DecoderState). d.kept) c.new.ensures.value) refl c.new-2.ensures

pub returns-clause-phase : goal.returns-clause-phase
returns-clause-phase g c = search rules
