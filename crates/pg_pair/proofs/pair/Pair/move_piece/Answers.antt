use Rattle.pg_pair.proofs.Moving.{given_within, moves}
use Rattle.pg_pair.proofs.pair.Pair.move_piece.Goals as goal

pub hand_over-answer-requires-clause-within : goal.hand_over-answer-requires-clause-within
hand_over-answer-requires-clause-within g c = given_within g.C.Carry.carries c.args.way c.args.self.now c.args.count c.carry-carried.result c.carry-carried.new.self c.carry-carried.ensures

pub returns : goal.returns
returns g c =
    moves g.C.Carry.carries c.args.way c.args.self.now c.args.count c.carry-carried.result c.carry-carried.new.self c.hand_over-answer.result c.hand_over-answer.new.self c.break_off_if.new.self
    c.carry-carried.ensures c.hand_over-answer.ensures.takes c.hand_over-answer.ensures.going c.break_off_if.ensures
