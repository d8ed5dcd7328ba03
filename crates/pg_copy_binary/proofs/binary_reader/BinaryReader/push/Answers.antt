use Rattle.std.proofs.Common.{rules, ◌≡◌, inr, [], ap, sym, ◌∙◌}
use Rattle.pg_copy_binary.specs.declared.binary_reader.BinaryStage.TheVariants.{Extension, Failed}
use Rattle.pg_copy_rows.specs.declared.fault.BinaryFault.TheVariants.{AfterTrailer}
use Rattle.pg_copy_binary.specs.Private.BinaryRow.{held_row}
use Rattle.pg_copy_binary.specs.BinaryReader.{BinaryState, pushed_after}
use Rattle.pg_copy_binary.proofs.BinaryPushes.{HasReadBinary-skip, push-read, keeps, open-stage}
use Rattle.pg_copy_binary.proofs.BinaryWalk.{reader-append}
use Rattle.pg_copy_binary.proofs.binary_reader.BinaryReader.push.Goals as goal
use Rattle.pg_copy_binary.proofs.binary_reader.BinaryReader.push.Goals.{in-Ok, in-Err}

pub invariant_of-self-in-Head : goal.invariant_of-self-in-Head
invariant_of-self-in-Head c =
    let s = c.self.inside in
    elim c.match-push.branch [
      | in-Ok w ↦ rw w.in-Ok.ensures.ok (reader-append s.columns s.limit s.buffer c.args.piece.now s.look s.stage c.self.invariant c.in-Head.is)
      | in-Err w ↦ rw w.in-Err.ensures.err c.self.invariant
    ]

pub returns-in-Extension-clause-read : goal.returns-in-Extension-clause-read
returns-in-Extension-clause-read c =
    let old = c.args.self.now in
    let stage : old.stage ≡ Extension c.in-Extension.missing = ap (λ (t : BinaryState). t.stage) (sym c.self.view_is) ∙ c.in-Extension.is in
    let empty : old.kept ≡ [] = ap (λ (t : BinaryState). t.kept) (sym c.self.view_is) ∙ (c.self.invariant.skips c.in-Extension.missing c.in-Extension.is).1 in
    HasReadBinary-skip old c.skip.new.self c.args.piece.now c.skip.result c.in-Extension.missing c.requires stage empty c.skip.ensures

pub returns-after-push-clause-read : goal.returns-after-push-clause-read
returns-after-push-clause-read c =
    let s = c.self.inside in
    let v : BinaryState = record { columns = s.columns; limit = s.limit; kept = s.buffer.kept; stage = s.stage; ended = s.ended; given = s.given; held = held_row s.columns s.limit s.buffer.front; offset = s.offset } in
    let at = open-stage s.stage c.in-Head.is in
    elim c.match-push.branch [
      | in-Ok w ↦ rw w.result-is (push-read v c.args.self.now _ c.args.piece.now c.self.view_is c.requires at.0 (λ e. absurd (at.1 e)) (keeps v c.args.piece.now c.push.new.self c.in-Head.is w.in-Ok.ensures.ok))
      | in-Err w ↦ rw w.result-is tt
    ]

pub returns-then-not-is_empty-clause-read : goal.returns-then-not-is_empty-clause-read
returns-then-not-is_empty-clause-read c =
    let s = c.self.inside in
    let v : BinaryState = record { columns = s.columns; limit = s.limit; kept = s.buffer.kept; stage = s.stage; ended = s.ended; given = s.given; held = held_row s.columns s.limit s.buffer.front; offset = s.offset } in
    let is : record v { stage = Failed AfterTrailer } ≡ pushed_after v c.args.piece.now = search rules in
    push-read v c.args.self.now (record v { stage = Failed AfterTrailer }) c.args.piece.now c.self.view_is c.requires (inr (inr c.in-Closed.is)) c.self.invariant.closed is
