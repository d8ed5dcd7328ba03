use Rattle.std.proofs.Common.{refl, inl}
use Rattle.pg_drive.proofs.GroupGives.{awaits_copy, drives_on}
use Rattle.pg_drive.proofs.groups.next_group.Goals as goal

pub returns-in-Some : goal.returns-in-Some
returns-in-Some g c =
    inl (record { group = c.in-Some.group; is_group = refl; oldest = c.in-Some.ensures.some.0; others = c.in-Some.ensures.some.1; history = c.in-Some.ensures.history }, refl, refl)

pub returns-in-CopyingIn : goal.returns-in-CopyingIn
returns-in-CopyingIn g c =
    awaits_copy g.L.Source.gives g.L.Sink.takes g.L.Source.has_ended g.L.Source.failures g.L.Sink.failures c.args.pieces c.args.link.now c.args.client.now c.take_settled.new.self c.args.out.now.items c.phase.result _ _ c.in_default.ensures.none.0 c.in_default.ensures.none.1 c.phase.ensures c.in-CopyingIn.is c.await_copy.ensures

pub returns-in_default-phase : goal.returns-in_default-phase
returns-in_default-phase g c =
    drives_on g.L.Source.gives g.L.Sink.takes g.L.Source.has_ended g.L.Source.failures g.L.Sink.failures c.args.pieces c.args.link.now c.args.client.now c.take_settled.new.self c.args.out.now.items c.phase.result _ _ c.in_default.ensures.none.0 c.in_default.ensures.none.1 c.phase.ensures c.in_default-phase.not-CopyingIn c.drive_on.ensures
