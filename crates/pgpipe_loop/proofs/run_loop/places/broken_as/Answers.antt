use Rattle.std.proofs.Common.{◌≡◌, true, length, map, take, rules}
use Rattle.pg_pair.specs.Headline.{answered_as, settled_as}
use Rattle.pgpipe_loop.proofs.run_loop.places.broken_as.Goals as goal

pub returns : goal.returns
returns g c =
    let settled : c.settled-settled.result.now ≡ c.args.pair.now.settled = c.settled-settled.ensures.value in
    let log : c.log-log.result.now ≡ c.args.pair.now.backend.log = search rules in
    let first : map settled_as c.settled-settled.result.now ≡ take (length c.settled-settled.result.now) (map answered_as c.log-log.result.now) = rw (settled, log) c.settled-settled.ensures.headline.beginning in
    let begins : c.begins_log.result ≡ true = c.begins_log.ensures first in
    search (rules, settled, log, begins)
