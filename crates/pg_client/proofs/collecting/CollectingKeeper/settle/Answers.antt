use Rattle.std.proofs.Common.{refl, ◌∙◌}
use Rattle.pg_client.proofs.Keeping.Groups.{keeps_end}
use Rattle.pg_client.proofs.collecting.CollectingKeeper.settle.Goals as goal

pub returns-clause-ok : goal.returns-clause-ok
returns-clause-ok c =
    keeps_end c.args.request c.args.status _ c.args.self.now c.self.view_is (record { collected = c.replace-collected.new.dest; settled = c.push_back_reserved.new.self.items })
    (rw (c.push_back_reserved.ensures.items, c.reserve.ensures.items, c.into_outcome-outcome.ensures, c.replace-collected.ensures.value) refl)
    (c.replace-collected.ensures.after ∙ c.new.ensures)
