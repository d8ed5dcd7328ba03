use Rattle.std.proofs.Common.{sym, ap, ◌∙◌}
use Rattle.pg_copy_text.specs.TextReader.{TextState}
use Rattle.pg_copy_text.proofs.TextEnds.{stage-now, AnswersNext-failed-next, AnswersNext-marked-next}
use Rattle.pg_copy_text.proofs.TextHolds.{LendsFirst, rests-failed, rests-marked, read-lent, gives-lent, given-lent, keeps-lent, row-lent, fewer-lent, waits-lent, read-none, gives-none}
use Rattle.pg_copy_text.proofs.text_reader.TextReader.next_lent.Goals.{After-lend_line}
use Rattle.pg_copy_text.proofs.text_reader.TextReader.next_lent.Goals as goal

lent : (c : After-lend_line) → LendsFirst c.args.self.now c.lend_line.new.self c.lend_line.result
lent c =
    let t = rw (c.walk-found.ensures.state, c.len.ensures) at c.lend_line.ensures in
    record {
      taken = record {
        end = c.in-Some.end;
        len = c.walk-found.result.0.at;
        lines = stage-now _ _ _ c.self.view_is c.in-Lines.is;
        first = c.walk-found.ensures.found c.in-Some.end c.in-Some.is;
        takes = t.0;
      };
      lends = t.1;
    }

pub returns-in-Failed-clause-gives : goal.returns-in-Failed-clause-gives
returns-in-Failed-clause-gives c = λ pushed given h. AnswersNext-failed-next c.args.self.now pushed given c.in-Failed.fault c.requires (stage-now _ _ _ c.self.view_is c.in-Failed.is) h

pub returns-in-Failed-clause-lends : goal.returns-in-Failed-clause-lends
returns-in-Failed-clause-lends c =
    let s = c.self.inside in
    ap (λ (t : TextState). t.held) (sym c.self.view_is) ∙ rests-failed s.held_cuts.items s.stage s.buffer.front c.in-Failed.fault c.self.invariant.lends c.in-Failed.is

pub returns-in-Marked-clause-gives : goal.returns-in-Marked-clause-gives
returns-in-Marked-clause-gives c = λ pushed given h. AnswersNext-marked-next c.args.self.now pushed given c.requires (stage-now _ _ _ c.self.view_is c.in-Marked.is) h

pub returns-in-Marked-clause-lends : goal.returns-in-Marked-clause-lends
returns-in-Marked-clause-lends c =
    let s = c.self.inside in
    ap (λ (t : TextState). t.held) (sym c.self.view_is) ∙ rests-marked s.held_cuts.items s.stage s.buffer.front c.self.invariant.lends c.in-Marked.is

pub returns-in-Some-clause-read : goal.returns-in-Some-clause-read
returns-in-Some-clause-read c = read-lent c.args.self.now c.lend_line.new.self c.lend_line.result (lent (goal.at.returns-in-Some-clause-read c).After-lend_line)

pub returns-in-Some-clause-gives : goal.returns-in-Some-clause-gives
returns-in-Some-clause-gives c = gives-lent c.args.self.now c.lend_line.new.self c.lend_line.result (lent (goal.at.returns-in-Some-clause-gives c).After-lend_line) c.requires

pub returns-in-Some-clause-options : goal.returns-in-Some-clause-options
returns-in-Some-clause-options c = (keeps-lent c.args.self.now c.lend_line.new.self c.lend_line.result (lent (goal.at.returns-in-Some-clause-options c).After-lend_line)).options

pub returns-in-Some-clause-columns : goal.returns-in-Some-clause-columns
returns-in-Some-clause-columns c = (keeps-lent c.args.self.now c.lend_line.new.self c.lend_line.result (lent (goal.at.returns-in-Some-clause-columns c).After-lend_line)).columns

pub returns-in-Some-clause-ended : goal.returns-in-Some-clause-ended
returns-in-Some-clause-ended c = (keeps-lent c.args.self.now c.lend_line.new.self c.lend_line.result (lent (goal.at.returns-in-Some-clause-ended c).After-lend_line)).ended ∙ c.requires

pub returns-in-Some-clause-lends : goal.returns-in-Some-clause-lends
returns-in-Some-clause-lends c = (lent (goal.at.returns-in-Some-clause-lends c).After-lend_line).lends

pub returns-in-Some-clause-row : goal.returns-in-Some-clause-row
returns-in-Some-clause-row c = row-lent c.args.self.now c.lend_line.new.self c.lend_line.result (lent (goal.at.returns-in-Some-clause-row c).After-lend_line)

pub returns-in-Some-clause-given : goal.returns-in-Some-clause-given
returns-in-Some-clause-given c = given-lent c.args.self.now c.lend_line.new.self c.lend_line.result (lent (goal.at.returns-in-Some-clause-given c).After-lend_line)

pub returns-in-Some-clause-fewer : goal.returns-in-Some-clause-fewer
returns-in-Some-clause-fewer c = fewer-lent c.args.self.now c.lend_line.new.self c.lend_line.result (lent (goal.at.returns-in-Some-clause-fewer c).After-lend_line)

pub returns-in-Some-clause-memory : goal.returns-in-Some-clause-memory
returns-in-Some-clause-memory c = waits-lent c.args.self.now c.lend_line.new.self c.lend_line.result (lent (goal.at.returns-in-Some-clause-memory c).After-lend_line)

pub returns-in-None-clause-read : goal.returns-in-None-clause-read
returns-in-None-clause-read c = read-none c.args.self.now c.walk-found.new.self c.let_go.new.self c.walk-found.ensures.state c.let_go.ensures

pub returns-in-None-clause-gives : goal.returns-in-None-clause-gives
returns-in-None-clause-gives c = gives-none c.args.self.now c.walk-found.new.self c.let_go.new.self c.walk-found.result.0 c.walk-found.ensures.state c.let_go.ensures (stage-now _ _ _ c.self.view_is c.in-Lines.is) c.requires c.walk-found.ensures.scanned (c.walk-found.ensures.none c.in-None.is)
