use Rattle.pg_copy_text.proofs.TextRound.{rows-trip, file-trip, default-none}
use Rattle.pg_copy_text.proofs.laws.text_round_trip.Goals as goal

pub returns : goal.returns
returns c = record { before = rows-trip; whole = file-trip; by_default = default-none }
