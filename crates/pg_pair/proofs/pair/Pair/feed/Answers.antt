use Rattle.std.proofs.Common.{arith, subst, sym, take, ◌∙◌}
use Rattle.std.proofs.Math.Logic.{∥∥₁_map}
use Rattle.pg_pair.specs.declared.carry.Way.TheVariants.{ToClient}
use Rattle.pg_pair.specs.Delivering.{ArrivesAt, client_answer}
use Rattle.pg_pair.specs.View.{PairView, waiting_at}
use Rattle.pg_pair.proofs.Delivering.{fed_at, fed_going, fed_in, fed_settles, fed_tied, is_fed}
use Rattle.pg_pair.specs.Private.Inside.{view_of}
use Rattle.pg_pair.proofs.pair.Pair.feed.Goals as goal

pub take_group-requires-clause-one : goal.take_group-requires-clause-one
take_group-requires-clause-one g c =
    let fed = is_fed (view_of c.self.inside) c.args.self.now c.self.view_is c.args.count _ c.feed-result.result c.feed-result.new.self c.feed-result.new.out.items
    c.requires.going c.requires.some c.requires.within c.waiting.ensures c.feed-result.ensures.feeds in
    (fed_settles c.known.ensures (view_of c.self.inside) c.args.count c.feed-result.result c.feed-result.new.self c.feed-result.new.out.items fed c.self.invariant.0).one

pub take_group-requires-clause-room : goal.take_group-requires-clause-room
take_group-requires-clause-room g c =
    let fed = is_fed (view_of c.self.inside) c.args.self.now c.self.view_is c.args.count _ c.feed-result.result c.feed-result.new.self c.feed-result.new.out.items
    c.requires.going c.requires.some c.requires.within c.waiting.ensures c.feed-result.ensures.feeds in
    let room = (fed_settles c.known.ensures (view_of c.self.inside) c.args.count c.feed-result.result c.feed-result.new.self c.feed-result.new.out.items fed c.self.invariant.0).room in
    let all = c.self.invariant.1 in
    omega arith

pub invariant_of-self : goal.invariant_of-self
invariant_of-self g c =
    let fed = is_fed (view_of c.self.inside) c.args.self.now c.self.view_is c.args.count _ c.feed-result.result c.feed-result.new.self c.feed-result.new.out.items
    c.requires.going c.requires.some c.requires.within c.waiting.ensures c.feed-result.ensures.feeds in
    rw (c.take_group.ensures.client, c.take_group.ensures.settled, c.take_group.ensures.capacity)
    (∥∥₁_map c.self.invariant.0 (fed_tied (view_of c.self.inside) c.args.count c.feed-result.result c.feed-result.new.self c.feed-result.new.out.items fed), c.self.invariant.1)

pub returns-clause-takes : goal.returns-clause-takes
returns-clause-takes g c =
    let fed = is_fed (view_of c.self.inside) c.args.self.now c.self.view_is c.args.count _ c.feed-result.result c.feed-result.new.self c.feed-result.new.out.items
    c.requires.going c.requires.some c.requires.within c.waiting.ensures c.feed-result.ensures.feeds in
    rw (c.take_group.ensures.client, c.take_group.ensures.settled, c.client_answer.ensures)
    (subst (λ (p : PairView g.row.C.Denot). ArrivesAt ToClient p (take c.args.count (waiting_at ToClient p)) (client_answer c.feed-result.result) (fed_at (view_of c.self.inside) c.args.count c.feed-result.new.self c.feed-result.new.out.items)) c.self.view_is
    (fed_in (view_of c.self.inside) c.args.count c.feed-result.result c.feed-result.new.self c.feed-result.new.out.items fed))

pub returns-clause-going : goal.returns-clause-going
returns-clause-going g c =
    let fed = is_fed (view_of c.self.inside) c.args.self.now c.self.view_is c.args.count _ c.feed-result.result c.feed-result.new.self c.feed-result.new.out.items
    c.requires.going c.requires.some c.requires.within c.waiting.ensures c.feed-result.ensures.feeds in
    λ answer. rw c.take_group.ensures.client (fed_going (view_of c.self.inside) c.args.count c.feed-result.result c.feed-result.new.self c.feed-result.new.out.items fed c.self.invariant.0 (sym c.client_answer.ensures ∙ answer))
