use Rattle.pg_pair.proofs.Deliveries.{delivery_moves, whole_moves}
use Rattle.pg_pair.proofs.laws.delivery_moves.Goals as goal

pub returns-clause-moves : goal.returns-clause-moves
returns-clause-moves g c = delivery_moves g.C.Carry.carries

pub returns-clause-whole : goal.returns-clause-whole
returns-clause-whole g c = whole_moves g.C.Carry.carries
