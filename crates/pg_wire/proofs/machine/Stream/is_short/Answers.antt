use Rattle.std.proofs.Common.{◌≡◌, ◌<◌, ◌+◌, drop, ap, length, arith}
use Rattle.std.proofs.lemmas.Bool.{leb-true}
use Rattle.pg_wire.specs.Stream.{IsOpen}
use Rattle.pg_wire.specs.Private.Held.{StreamState}
use Rattle.pg_wire.proofs.Rests.{awaits_now}
use Rattle.pg_wire.proofs.machine.Stream.is_short.Goals as goal

pub returns : goal.returns
returns g c = λ short.
    let s = c.self.inside in
    let d = g.M.Message.direction in
    let limit : s.limit ≡ c.args.self.now.rest.limit = ap (λ (t : StreamState). t.rest.limit) c.self.view_is in
    let kept : drop s.held s.buffer.items ≡ c.args.self.now.rest.kept = ap (λ (t : StreamState). t.rest.kept) c.self.view_is in
    let now : IsOpen d s.limit (drop s.held s.buffer.items) × (length (drop s.held s.buffer.items) < s.limit + 1) = awaits_now d s.limit (drop s.held s.buffer.items) s.awaited c.self.invariant.4 (omega (arith, leb-true _ _ short, c.kept.ensures, ap length kept)) in
    rw (limit, kept) at now
