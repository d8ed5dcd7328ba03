use Rattle.std.proofs.Common.{rules}
use Rattle.pg_client.proofs.Hearing.Feeding.{fed_all, fed_nothing, none_by_test, push_refused, pushed}
use Rattle.pg_client.proofs.connection.Connection.feed.Goals as goal

pub returns-then-is_err-clause-feeds : goal.returns-then-is_err-clause-feeds
returns-then-is_err-clause-feeds g c =
    fed_nothing g.K.Keeper.way c.silent.ensures.agrees_as _ c.args.self.now c.self.view_is (none_by_test c.self.inside.closed (search rules)) c.args.piece.now (search rules) c.args.out.now.items c.push.new.self.stream.kept c.push.new.self.held
    (push_refused c.self.inside.decoder.stream c.args.piece.now c.push.result c.push.new.self.stream (search rules) c.push.ensures.call)

pub returns-clause-feeds : goal.returns-clause-feeds
returns-clause-feeds g c =
    fed_all g.K.Keeper.way c.silent.ensures.agrees_as _ c.args.self.now c.self.view_is (none_by_test c.self.inside.closed (search rules)) c.args.piece.now (search rules) c.hear_all.result c.hear_all.new.self c.args.out.now.items c.hear_all.new.out.items c.push.new.self.stream.kept c.push.new.self.held
    (pushed c.self.inside.decoder.stream c.args.piece.now c.push.result c.push.new.self.stream (search rules) c.push.ensures.call) (search rules) c.hear_all.ensures.all

pub returns-then-is_empty-clause-feeds : goal.returns-then-is_empty-clause-feeds
returns-then-is_empty-clause-feeds g c = search rules
