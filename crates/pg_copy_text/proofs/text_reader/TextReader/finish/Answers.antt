use Rattle.std.proofs.Common.{◌≡◌, inr, sym, ap, ◌∙◌}
use Rattle.pg_copy_text.specs.TextReader.{TextState}
use Rattle.pg_copy_text.specs.declared.text_stage.TextStage.TheVariants.{Lines}
use Rattle.pg_copy_text.proofs.TextHolds.{rests-failed, rests-marked, held-finish}
use Rattle.pg_copy_text.proofs.TextEnds.{HasReadText-finish, fewer-finish, given-finish}
use Rattle.pg_copy_text.proofs.text_reader.TextReader.finish.Goals as goal

pub returns-in-Lines-clause-read : goal.returns-in-Lines-clause-read
returns-in-Lines-clause-read c = λ pushed given h.
    let lines : c.args.self.now.stage ≡ Lines = ap (λ (s : TextState). s.stage) (sym c.self.view_is) ∙ c.in-Lines.is in
    HasReadText-finish c.args.self.now c.last_line-answer.new.self c.end.new.self c.last_line-answer.result pushed given lines c.last_line-answer.ensures c.end.ensures h

pub returns-in-Lines-clause-given : goal.returns-in-Lines-clause-given
returns-in-Lines-clause-given c = given-finish c.args.self.now c.last_line-answer.new.self c.end.new.self c.last_line-answer.result c.last_line-answer.ensures c.end.ensures

pub returns-in-Lines-clause-fewer : goal.returns-in-Lines-clause-fewer
returns-in-Lines-clause-fewer c = λ row e. fewer-finish c.args.self.now c.last_line-answer.new.self c.end.new.self c.last_line-answer.result c.last_line-answer.ensures c.end.ensures row e

pub returns-in-Failed-clause-held : goal.returns-in-Failed-clause-held
returns-in-Failed-clause-held c =
    let s = c.self.inside in
    inr (rests-failed s.held_cuts.items s.stage s.buffer.front c.in-Failed.fault c.self.invariant.lends c.in-Failed.is)

pub returns-in-Marked-clause-held : goal.returns-in-Marked-clause-held
returns-in-Marked-clause-held c =
    let s = c.self.inside in
    inr (rests-marked s.held_cuts.items s.stage s.buffer.front c.self.invariant.lends c.in-Marked.is)

pub returns-in-Lines-clause-held : goal.returns-in-Lines-clause-held
returns-in-Lines-clause-held c = held-finish c.args.self.now c.last_line-answer.new.self c.end.new.self c.last_line-answer.result c.last_line-answer.ensures c.end.ensures
