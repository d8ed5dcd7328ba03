use Rattle.std.proofs.Common.{inr, sym, ap, ◌∙◌}
use Rattle.pg_copy_text.specs.TextReader.{TextState}
use Rattle.pg_copy_text.proofs.TextEnds.{stage-now, AnswersNext-failed-next, AnswersNext-marked-next}
use Rattle.pg_copy_text.proofs.TextHolds.{TakesFirst, rests-failed, rests-marked, read-first, gives-first, given-first, fewer-first, waits-first, held-first, read-none, gives-none}
use Rattle.pg_copy_text.proofs.text_reader.TextReader.next.Goals.{After-take_line}
use Rattle.pg_copy_text.proofs.text_reader.TextReader.next.Goals as goal

taken : (c : After-take_line) → TakesFirst c.args.self.now c.take_line.new.self c.take_line.result
taken c = record {
  end = c.in-Some.end;
  len = c.walk-found.result.0.at;
  lines = stage-now _ _ _ c.self.view_is c.in-Lines.is;
  first = c.walk-found.ensures.found c.in-Some.end c.in-Some.is;
  takes = rw (c.walk-found.ensures.state, c.len.ensures) at c.take_line.ensures;
}

pub returns-in-Failed-clause-gives : goal.returns-in-Failed-clause-gives
returns-in-Failed-clause-gives c = λ pushed given h. AnswersNext-failed-next c.args.self.now pushed given c.in-Failed.fault c.requires (stage-now _ _ _ c.self.view_is c.in-Failed.is) h

pub returns-in-Failed-clause-held : goal.returns-in-Failed-clause-held
returns-in-Failed-clause-held c =
    let s = c.self.inside in
    inr (ap (λ (t : TextState). t.held) (sym c.self.view_is) ∙ rests-failed s.held_cuts.items s.stage s.buffer.front c.in-Failed.fault c.self.invariant.lends c.in-Failed.is)

pub returns-in-Marked-clause-gives : goal.returns-in-Marked-clause-gives
returns-in-Marked-clause-gives c = λ pushed given h. AnswersNext-marked-next c.args.self.now pushed given c.requires (stage-now _ _ _ c.self.view_is c.in-Marked.is) h

pub returns-in-Marked-clause-held : goal.returns-in-Marked-clause-held
returns-in-Marked-clause-held c =
    let s = c.self.inside in
    inr (ap (λ (t : TextState). t.held) (sym c.self.view_is) ∙ rests-marked s.held_cuts.items s.stage s.buffer.front c.self.invariant.lends c.in-Marked.is)

pub returns-in-Some-clause-read : goal.returns-in-Some-clause-read
returns-in-Some-clause-read c = read-first c.args.self.now c.take_line.new.self c.take_line.result (taken (goal.at.returns-in-Some-clause-read c).After-take_line)

pub returns-in-Some-clause-gives : goal.returns-in-Some-clause-gives
returns-in-Some-clause-gives c = gives-first c.args.self.now c.take_line.new.self c.take_line.result (taken (goal.at.returns-in-Some-clause-gives c).After-take_line) c.requires

pub returns-in-Some-clause-memory : goal.returns-in-Some-clause-memory
returns-in-Some-clause-memory c = waits-first c.args.self.now c.take_line.new.self c.take_line.result (taken (goal.at.returns-in-Some-clause-memory c).After-take_line)

pub returns-in-Some-clause-given : goal.returns-in-Some-clause-given
returns-in-Some-clause-given c = given-first c.args.self.now c.take_line.new.self c.take_line.result (taken (goal.at.returns-in-Some-clause-given c).After-take_line)

pub returns-in-Some-clause-fewer : goal.returns-in-Some-clause-fewer
returns-in-Some-clause-fewer c = fewer-first c.args.self.now c.take_line.new.self c.take_line.result (taken (goal.at.returns-in-Some-clause-fewer c).After-take_line)

pub returns-in-Some-clause-held : goal.returns-in-Some-clause-held
returns-in-Some-clause-held c = held-first c.args.self.now c.take_line.new.self c.take_line.result (taken (goal.at.returns-in-Some-clause-held c).After-take_line)

pub returns-in-None-clause-read : goal.returns-in-None-clause-read
returns-in-None-clause-read c = read-none c.args.self.now c.walk-found.new.self c.let_go.new.self c.walk-found.ensures.state c.let_go.ensures

pub returns-in-None-clause-gives : goal.returns-in-None-clause-gives
returns-in-None-clause-gives c = gives-none c.args.self.now c.walk-found.new.self c.let_go.new.self c.walk-found.result.0 c.walk-found.ensures.state c.let_go.ensures (stage-now _ _ _ c.self.view_is c.in-Lines.is) c.requires c.walk-found.ensures.scanned (c.walk-found.ensures.none c.in-None.is)
