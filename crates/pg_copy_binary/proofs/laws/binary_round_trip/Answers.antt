use Rattle.pg_copy_binary.proofs.BinaryRound.{rows-trip, file-trip}
use Rattle.pg_copy_binary.proofs.laws.binary_round_trip.Goals as goal

pub returns : goal.returns
returns c = record {
  before = λ columns limit h rows rest b. rows-trip columns limit h rows rest b.few b.short;
  whole = λ columns limit h rows b. file-trip columns limit h rows b.few b.short;
}
