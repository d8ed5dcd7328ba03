use Rattle.pg_values.proofs.Kept.{empty_kept}
use Rattle.pg_values.proofs.fields.Fields.new.Goals as goal

pub invariant_of-result : goal.invariant_of-result
invariant_of-result c = (empty_kept c.new.result.items c.new-2.result.items c.new.ensures.items c.new-2.ensures.items).1

pub returns : goal.returns
returns c = (empty_kept c.new.result.items c.new-2.result.items c.new.ensures.items c.new-2.ensures.items).0
