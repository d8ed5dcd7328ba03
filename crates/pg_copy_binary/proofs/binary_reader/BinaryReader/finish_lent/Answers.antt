use Rattle.pg_copy_binary.proofs.BinaryLast.{read-last, gives-last, same-last, lends-last, row-last, given-last, fewer-last, trailer-last, memory-last}
use Rattle.pg_copy_binary.proofs.binary_reader.BinaryReader.finish_lent.Goals as goal

pub returns-in-Head-clause-read : goal.returns-in-Head-clause-read
returns-in-Head-clause-read c = read-last c.lend_last-lent.result c.args.self.now c.lend_last-lent.new.self c.end.new.self c.lend_last-lent.ensures c.end.ensures

pub returns-in-Head-clause-gives : goal.returns-in-Head-clause-gives
returns-in-Head-clause-gives c = gives-last c.lend_last-lent.result c.args.self.now c.lend_last-lent.new.self c.end.new.self c.lend_last-lent.ensures c.end.ensures

pub returns-in-Head-clause-same : goal.returns-in-Head-clause-same
returns-in-Head-clause-same c = same-last c.lend_last-lent.result c.args.self.now c.lend_last-lent.new.self c.end.new.self c.lend_last-lent.ensures c.end.ensures

pub returns-in-Head-clause-lends : goal.returns-in-Head-clause-lends
returns-in-Head-clause-lends c = lends-last c.lend_last-lent.result c.args.self.now c.lend_last-lent.new.self c.end.new.self c.lend_last-lent.ensures c.end.ensures

pub returns-in-Head-clause-row : goal.returns-in-Head-clause-row
returns-in-Head-clause-row c = row-last c.lend_last-lent.result c.args.self.now c.lend_last-lent.new.self c.end.new.self c.lend_last-lent.ensures c.end.ensures

pub returns-in-Head-clause-given : goal.returns-in-Head-clause-given
returns-in-Head-clause-given c = given-last c.lend_last-lent.result c.args.self.now c.lend_last-lent.new.self c.end.new.self c.lend_last-lent.ensures c.end.ensures

pub returns-in-Head-clause-fewer : goal.returns-in-Head-clause-fewer
returns-in-Head-clause-fewer c = fewer-last c.lend_last-lent.result c.args.self.now c.lend_last-lent.new.self c.end.new.self c.lend_last-lent.ensures c.end.ensures

pub returns-in-Head-clause-trailer : goal.returns-in-Head-clause-trailer
returns-in-Head-clause-trailer c = trailer-last c.lend_last-lent.result c.args.self.now c.lend_last-lent.new.self c.end.new.self c.lend_last-lent.ensures c.end.ensures

pub returns-in-Head-clause-memory : goal.returns-in-Head-clause-memory
returns-in-Head-clause-memory c = memory-last c.lend_last-lent.result c.args.self.now c.lend_last-lent.new.self c.lend_last-lent.ensures
