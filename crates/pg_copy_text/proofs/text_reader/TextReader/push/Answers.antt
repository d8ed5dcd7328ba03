use Rattle.std.proofs.Common.{◌≡◌, sym, ap, ◌∙◌}
use Rattle.pg_copy_text.specs.declared.text_stage.TextStage.TheVariants.{Marked}
use Rattle.pg_copy_text.specs.TextReader.{TextState}
use Rattle.pg_copy_rows.specs.Private.RowBuffer.{RowBytes}
use Rattle.pg_copy_text.specs.Private.TextRow.{held_row}
use Rattle.pg_copy_text.proofs.TextReads.{push-read, pushed-reader, HasReadText-drop}
use Rattle.pg_copy_text.proofs.text_reader.TextReader.push.Goals as goal
use Rattle.pg_copy_text.proofs.text_reader.TextReader.push.Goals.{in-Ok, in-Err}

pub returns-in-Marked-clause-read : goal.returns-in-Marked-clause-read
returns-in-Marked-clause-read c = λ pushed given h.
    let marked : c.args.self.now.stage ≡ Marked = ap (λ (s : TextState). s.stage) (sym c.self.view_is) ∙ c.in-Marked.is in
    HasReadText-drop c.args.self.now pushed c.args.piece.now given c.requires marked h

pub returns-after-push-clause-read : goal.returns-after-push-clause-read
returns-after-push-clause-read c =
    let s = c.self.inside in
    let v : TextState = record { options = s.options; columns = s.columns; line_end = s.line_end; kept = s.buffer.kept; stage = s.stage; ended = s.ended; given = s.given; offset = s.offset; held = held_row s.held_cuts.items s.buffer.front } in
    elim c.match-push.branch [
      | in-Ok w ↦ rw w.result-is (push-read v c.args.self.now _ c.args.piece.now c.self.view_is c.requires c.in-Lines.is (ap (λ (b : RowBytes). record v { kept = b.kept; held = held_row s.held_cuts.items b.front }) w.in-Ok.ensures.ok))
      | in-Err w ↦ rw w.result-is tt
    ]

pub invariant_of-self : goal.invariant_of-self
invariant_of-self c =
    let s = c.self.inside in
    elim c.match-push.branch [
      | in-Ok w ↦ pushed-reader s.options s.line_end s.buffer c.push.new.self s.scan s.cuts.items s.stage s.held_cuts.items c.args.piece.now w.in-Ok.ensures.ok c.self.invariant
      | in-Err w ↦ rw w.in-Err.ensures.err c.self.invariant
    ]
