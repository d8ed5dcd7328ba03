use Rattle.example_pair.proofs.Delivered.{has_moved}
use Rattle.example_pair.proofs.deliver.Goals as goal

pub overflow_sub-result : goal.overflow_sub-result
overflow_sub-result g c =
    (has_moved g.C.Carry.carries c.args.way c.delivery_of.result c.args.most c.args.pair.now c.apply.result c.apply.new.self c.reached-before.result c.reached.result
    c.delivery_moves.ensures.moves c.delivery_of.ensures c.apply.ensures.applies c.reached-before.ensures.value c.reached.ensures.value).grows

pub returns-clause-asked : goal.returns-clause-asked
returns-clause-asked g c =
    (has_moved g.C.Carry.carries c.args.way c.delivery_of.result c.args.most c.args.pair.now c.apply.result c.apply.new.self c.reached-before.result c.reached.result
    c.delivery_moves.ensures.moves c.delivery_of.ensures c.apply.ensures.applies c.reached-before.ensures.value c.reached.ensures.value).asked

pub returns-clause-waited : goal.returns-clause-waited
returns-clause-waited g c =
    (has_moved g.C.Carry.carries c.args.way c.delivery_of.result c.args.most c.args.pair.now c.apply.result c.apply.new.self c.reached-before.result c.reached.result
    c.delivery_moves.ensures.moves c.delivery_of.ensures c.apply.ensures.applies c.reached-before.ensures.value c.reached.ensures.value).waited

pub returns-clause-reached : goal.returns-clause-reached
returns-clause-reached g c =
    (has_moved g.C.Carry.carries c.args.way c.delivery_of.result c.args.most c.args.pair.now c.apply.result c.apply.new.self c.reached-before.result c.reached.result
    c.delivery_moves.ensures.moves c.delivery_of.ensures c.apply.ensures.applies c.reached-before.ensures.value c.reached.ensures.value).reached

pub returns-clause-other : goal.returns-clause-other
returns-clause-other g c =
    (has_moved g.C.Carry.carries c.args.way c.delivery_of.result c.args.most c.args.pair.now c.apply.result c.apply.new.self c.reached-before.result c.reached.result
    c.delivery_moves.ensures.moves c.delivery_of.ensures c.apply.ensures.applies c.reached-before.ensures.value c.reached.ensures.value).other
