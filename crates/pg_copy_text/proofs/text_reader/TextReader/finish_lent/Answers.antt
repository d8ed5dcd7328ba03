use Rattle.pg_copy_text.proofs.TextEnds.{stage-now}
use Rattle.pg_copy_text.proofs.TextHolds.{LendsEnd, lends-end, rests-failed, rests-marked, read-end, gives-end, given-end, keeps-end, ended-end, row-end, fewer-end, waits-end}
use Rattle.pg_copy_text.proofs.text_reader.TextReader.finish_lent.Goals.{After-end}
use Rattle.pg_copy_text.proofs.text_reader.TextReader.finish_lent.Goals as goal

lent : (c : After-end) → LendsEnd c.args.self.now c.end.new.self c.lend_last-lent.result
lent c = lends-end c.args.self.now c.lend_last-lent.new.self c.end.new.self c.lend_last-lent.result c.lend_last-lent.ensures c.end.ensures

pub returns-in-Failed-clause-lends : goal.returns-in-Failed-clause-lends
returns-in-Failed-clause-lends c =
    let s = c.self.inside in
    rests-failed s.held_cuts.items s.stage s.buffer.front c.in-Failed.fault c.self.invariant.lends c.in-Failed.is

pub returns-in-Marked-clause-lends : goal.returns-in-Marked-clause-lends
returns-in-Marked-clause-lends c =
    let s = c.self.inside in
    rests-marked s.held_cuts.items s.stage s.buffer.front c.self.invariant.lends c.in-Marked.is

pub returns-in-Lines-clause-read : goal.returns-in-Lines-clause-read
returns-in-Lines-clause-read c = read-end c.args.self.now c.end.new.self c.lend_last-lent.result (stage-now _ _ _ c.self.view_is c.in-Lines.is) (lent (goal.at.returns-in-Lines-clause-read c).After-end)

pub returns-in-Lines-clause-gives : goal.returns-in-Lines-clause-gives
returns-in-Lines-clause-gives c = gives-end c.args.self.now c.end.new.self c.lend_last-lent.result (lent (goal.at.returns-in-Lines-clause-gives c).After-end)

pub returns-in-Lines-clause-options : goal.returns-in-Lines-clause-options
returns-in-Lines-clause-options c = (keeps-end c.args.self.now c.end.new.self c.lend_last-lent.result (lent (goal.at.returns-in-Lines-clause-options c).After-end)).options

pub returns-in-Lines-clause-columns : goal.returns-in-Lines-clause-columns
returns-in-Lines-clause-columns c = (keeps-end c.args.self.now c.end.new.self c.lend_last-lent.result (lent (goal.at.returns-in-Lines-clause-columns c).After-end)).columns

pub returns-in-Lines-clause-ended : goal.returns-in-Lines-clause-ended
returns-in-Lines-clause-ended c = ended-end c.args.self.now c.end.new.self c.lend_last-lent.result (lent (goal.at.returns-in-Lines-clause-ended c).After-end)

pub returns-in-Lines-clause-lends : goal.returns-in-Lines-clause-lends
returns-in-Lines-clause-lends c = (lent (goal.at.returns-in-Lines-clause-lends c).After-end).lends

pub returns-in-Lines-clause-row : goal.returns-in-Lines-clause-row
returns-in-Lines-clause-row c = row-end c.args.self.now c.end.new.self c.lend_last-lent.result (stage-now _ _ _ c.self.view_is c.in-Lines.is) (lent (goal.at.returns-in-Lines-clause-row c).After-end)

pub returns-in-Lines-clause-given : goal.returns-in-Lines-clause-given
returns-in-Lines-clause-given c = given-end c.args.self.now c.end.new.self c.lend_last-lent.result (lent (goal.at.returns-in-Lines-clause-given c).After-end)

pub returns-in-Lines-clause-fewer : goal.returns-in-Lines-clause-fewer
returns-in-Lines-clause-fewer c = fewer-end c.args.self.now c.end.new.self c.lend_last-lent.result (lent (goal.at.returns-in-Lines-clause-fewer c).After-end)

pub returns-in-Lines-clause-memory : goal.returns-in-Lines-clause-memory
returns-in-Lines-clause-memory c = waits-end c.args.self.now c.end.new.self c.lend_last-lent.result (lent (goal.at.returns-in-Lines-clause-memory c).After-end)
