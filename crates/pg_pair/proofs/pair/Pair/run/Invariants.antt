use Rattle.std.proofs.Common.{◌≡◌, length, Result}
use Rattle.std.specs.Vec.Iter.{into_iter_items, into_iter_len}
use Rattle.pg_pair.specs.declared.event.PairFault.{PairFault}
use Rattle.pg_pair.specs.Event.{Ran}
use Rattle.pg_pair.specs.Headline.{Headline}
use Rattle.pg_pair.specs.View.{PairView}
use Rattle.pg_pair.proofs.pair.Pair.run.Given as goal

-- What becomes of the events that are left becomes of all.
abbrev pub invariant-loop-event : goal.invariant-loop-event
invariant-loop-event g l = record {
  ran : (result : Result Unit PairFault) (q : PairView g.row.C.Denot) → Ran g.C.Carry.carries (into_iter_items l.event-iterator) l.self result q → Ran g.C.Carry.carries (into_iter_items l.initial.event-iterator) l.initial.self result q;
  counted : into_iter_len l.event-iterator ≡ length (into_iter_items l.event-iterator);
  headline : Headline l.self;
}
