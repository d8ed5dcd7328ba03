use Rattle.std.proofs.Common.{arith, option_copied}
use Rattle.pg_values.proofs.Blocks.{one_more}
use Rattle.pg_values.proofs.block.put_last.Goals as goal

pub returns-clause-block : goal.returns-clause-block
returns-clause-block c = (one_more c.args.count c.args.size c.args.block.now c.requires.block (option_copied c.args.value) c.put.new.block c.note.new.block c.requires.short (omega (arith, c.requires.room)) c.put.ensures.len c.put.ensures.front c.put.ensures.back c.note.ensures.len c.note.ensures.values c.note.ensures.before c.note.ensures.noted).0

pub returns-clause-values : goal.returns-clause-values
returns-clause-values c = (one_more c.args.count c.args.size c.args.block.now c.requires.block (option_copied c.args.value) c.put.new.block c.note.new.block c.requires.short (omega (arith, c.requires.room)) c.put.ensures.len c.put.ensures.front c.put.ensures.back c.note.ensures.len c.note.ensures.values c.note.ensures.before c.note.ensures.noted).1
