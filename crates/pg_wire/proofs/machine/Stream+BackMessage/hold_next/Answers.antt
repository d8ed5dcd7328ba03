use Rattle.std.proofs.Common.{rules, ◌≡◌, ◌<◌, ◌+◌, None, length, drop, refl, ap, inr, arith}
use Rattle.pg_message.specs.Backend.{backend}
use Rattle.pg_wire.specs.Stream.{IsOpen}
use Rattle.pg_wire.specs.Private.Found.{Awaits}
use Rattle.pg_wire.specs.Private.Held.{StreamState}
use Rattle.pg_wire.proofs.Rests.{awaits_now}
use Rattle.pg_wire.proofs.machine.Stream+BackMessage.hold_next.Goals as goal

pub returns-then-rest-self : goal.returns-then-rest-self
returns-then-rest-self c =
    let s = c.self.inside in
    let bytes = drop s.held s.buffer.items in
    let limit : s.limit ≡ c.args.self.now.rest.limit = ap (λ (t : StreamState). t.rest.limit) c.self.view_is in
    let kept : bytes ≡ c.args.self.now.rest.kept = ap (λ (t : StreamState). t.rest.kept) c.self.view_is in
    let unfailed : c.args.self.now.rest.fault ≡ None = search rules in
    let waits : Awaits backend s.limit bytes s.awaited = c.self.invariant.4 in
    let now : IsOpen backend s.limit bytes × (length bytes < s.limit + 1) = awaits_now backend s.limit bytes s.awaited waits (omega (arith, c.if-rest-self.true, ap length c.rest-rest.ensures, ap length kept)) in
    let still = rw (limit, kept) at now in
    (refl, (unfailed, refl, still.0, still.1), rw (limit, kept) at waits)

pub returns-in-Ok-Other : goal.returns-in-Ok-Other
returns-in-Ok-Other c = inr (refl, λ unfailed. search rules)
