use Rattle.std.proofs.Common.{sym, ◌∙◌}
use Rattle.pg_values.proofs.Blocks.{row_of_spelled}
use Rattle.pg_values.proofs.values.Values.iter.Goals as goal

pub new-requires : goal.new-requires
new-requires c = (row_of_spelled c.args.self.now c.len.result c.spelling.result.now (sym c.len.ensures) (sym c.spelling.ensures.bytes) c.spelling.ensures.short).0

pub returns : goal.returns
returns c = c.new.ensures ∙ (row_of_spelled c.args.self.now c.len.result c.spelling.result.now (sym c.len.ensures) (sym c.spelling.ensures.bytes) c.spelling.ensures.short).1
