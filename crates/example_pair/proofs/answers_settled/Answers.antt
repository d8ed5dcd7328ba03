use Rattle.std.proofs.Common.{length, map, ap, arith}
use Rattle.std.proofs.lemmas.List.{length-map, length-take}
use Rattle.pg_pair.specs.Headline.{answered_as, settled_as}
use Rattle.example_pair.proofs.answers_settled.Goals as goal

pub returns-clause-within : goal.returns-clause-within
returns-clause-within g c =
    let all = ap length c.settled.ensures.headline.beginning in
    let value = ap length c.settled.ensures.value in
    omega (arith, all, value, length-map c.args.pair.now.settled settled_as, length-map c.args.pair.now.backend.log answered_as, length-take (length c.args.pair.now.settled) (map answered_as c.args.pair.now.backend.log))

pub returns-clause-beginning : goal.returns-clause-beginning
returns-clause-beginning g c = rw c.settled.ensures.value c.settled.ensures.headline.beginning
