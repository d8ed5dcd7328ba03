use Rattle.std.proofs.Common.{◌≡◌, drop, ap, ◌∙◌}
use Rattle.pg_wire.specs.Private.Found.{Awaits}
use Rattle.pg_wire.specs.Private.Held.{StreamState}
use Rattle.pg_wire.specs.Decoder.{DecoderState}
use Rattle.pg_wire.proofs.machine.Stream.wait_for.Goals as goal

pub invariant_of-self : goal.invariant_of-self
invariant_of-self g c =
    let s = c.self.inside in
    let i = c.self.invariant in
    let rest = ap (λ (t : StreamState). t.rest) c.self.view_is ∙ c.let_go.ensures.rest in
    let limit : s.limit ≡ c.args.self.now.rest.limit = ap (λ (r : DecoderState). r.limit) rest in
    let kept : drop s.held s.buffer.items ≡ c.args.self.now.rest.kept = ap (λ (r : DecoderState). r.kept) rest in
    let waits : Awaits g.M.Message.direction s.limit (drop s.held s.buffer.items) c.args.size = rw (limit, kept) c.requires in
    (i.0, i.1, i.2, i.3, waits)
