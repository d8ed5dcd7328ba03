use Rattle.std.proofs.Common.{◌+◌, sym, ap, ◌∙◌}
use Rattle.pg_wire.specs.Private.Held.{StreamState}
use Rattle.pg_wire.proofs.Spelled.{spelling_held}
use Rattle.pg_wire.proofs.machine.Stream.next_spelling.Goals as goal

pub returns-in-Whole : goal.returns-in-Whole
returns-in-Whole g c =
    let unfailed = sym (ap (λ (s : StreamState). s.rest.fault) c.self.view_is) ∙ c.in_default.is in
    spelling_held g.M.Message.direction c.args.self.now c.hold.new.self c.self.inside.limit c.rest.result.now (c.in-Whole.len + 1) (ap (λ (s : StreamState). s.rest.limit) c.self.view_is) c.rest.ensures unfailed c.hold.ensures.front c.hold.ensures.rest c.in-Whole.ensures
