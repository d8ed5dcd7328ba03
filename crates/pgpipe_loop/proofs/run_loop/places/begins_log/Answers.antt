use Rattle.std.proofs.Common.{◌≡◌, ◌∙◌, get_or, rules, sym}
use Rattle.pg_pair.specs.Headline.{answered_as, settled_as}
use Rattle.pgpipe_loop.proofs.Everywhere.{same_at}
use Rattle.pgpipe_loop.proofs.run_loop.places.begins_log.Goals as goal

pub returns-then-not-is_answered : goal.returns-then-not-is_answered
returns-then-not-is_answered c = λ begins.
    let there : c.in-Some.logged.now ≡ get_or c.args.log.now c.loop-i.i c.in-Some.logged.now = search (rules, c.in-Some.ensures.lookup) in
    sym c.if-not-is_answered.true ∙ c.is_answered.ensures (same_at settled_as answered_as c.args.settled.now c.args.log.now c.loop-i.i c.index-settled-i.result c.index-settled-i.result c.in-Some.logged.now begins c.loop-i-test.true c.index-settled-i.is there)
