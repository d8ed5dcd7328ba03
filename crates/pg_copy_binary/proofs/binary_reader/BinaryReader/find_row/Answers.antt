use Rattle.std.proofs.Common.{◌≡◌, ℕ, ◌+◌, [], None, ap, sym, subst, ◌∙◌}
use Rattle.pg_copy_rows.specs.declared.fault.BinaryFault.TheVariants.{Memory}
use Rattle.pg_copy_binary.specs.declared.binary_part.Place.{Place}
use Rattle.pg_copy_binary.specs.declared.binary_reader.BinaryStage.{BinaryStage}
use Rattle.pg_copy_binary.specs.declared.binary_reader.BinaryStage.TheVariants.{Closed, Failed}
use Rattle.pg_copy_binary.specs.BinaryReader.{BinaryState}
use Rattle.pg_copy_binary.specs.Private.BinaryPart.{IsRowAt, part_at, row_offset, stage_of}
use Rattle.pg_copy_binary.specs.Private.BinaryRow.{held_row}
use Rattle.pg_copy_binary.proofs.BinaryReads.{part-fault}
use Rattle.pg_copy_binary.proofs.BinaryWalk.{part-row, not-stopped}
use Rattle.pg_copy_binary.proofs.BinaryHolds.{begins-at, fault-at, head-goes}
use Rattle.pg_copy_binary.proofs.binary_reader.BinaryReader.find_row.Goals as goal

pub stop-requires : goal.stop-requires
stop-requires c =
    let s = c.self.inside in
    let w = c.in-Err-Faulty in
    let found = rw (w.field-0-is, c.kept-bytes.ensures) at w.ensures.found in
    part-fault (stage_of c.args.in_head) s.columns s.limit s.buffer.kept w.fault (not-stopped c.args.in_head Memory) found.0

pub returns-in-Err-Faulty : goal.returns-in-Err-Faulty
returns-in-Err-Faulty c =
    let s = c.self.inside in
    let w = c.in-Err-Faulty in
    let found = rw (w.field-0-is, c.kept-bytes.ensures) at w.ensures.found in
    let stage : s.stage ≡ stage_of c.args.in_head = ap (λ (t : BinaryState). t.stage) c.self.view_is ∙ c.requires in
    let before : part_at c.args.self.now.stage c.args.self.now.columns c.args.self.now.limit c.args.self.now.kept ≡ part_at (stage_of c.args.in_head) s.columns s.limit s.buffer.kept
    = ap (λ (v : BinaryState). part_at v.stage v.columns v.limit v.kept) (sym c.self.view_is) ∙ ap (λ (t : BinaryStage). part_at t s.columns s.limit s.buffer.kept) stage in (
      part-fault (stage_of c.args.in_head) s.columns s.limit s.buffer.kept w.fault (not-stopped c.args.in_head Memory) found.0,
      before ∙ found.0,
      c.stop.ensures
          ∙ ap (λ (n : ℕ). record { columns = s.columns; limit = s.limit; kept = []; stage = Failed w.fault; ended = s.ended; given = s.given; held = None; offset = n }) (c.start_offset-self-inside-in-Err-Faulty.ensures ∙ sym (ap (λ (t : BinaryStage). row_offset t s.buffer.kept s.offset) stage ∙ fault-at c.args.in_head s.columns s.limit s.buffer.kept c.find_part.new.look s.offset w.fault (rw c.kept-bytes.ensures at w.ensures.looked) found.1))
          ∙ ap (λ (v : BinaryState). record v { kept = []; stage = Failed w.fault; held = None; offset = row_offset v.stage v.kept v.offset }) c.self.view_is,
    )

pub returns-in-Ok-Row : goal.returns-in-Ok-Row
returns-in-Ok-Row c =
    let s = c.self.inside in
    let l = c.find_part.new.look in
    let stage : s.stage ≡ stage_of c.args.in_head = ap (λ (t : BinaryState). t.stage) c.self.view_is ∙ c.requires in
    let w = rw c.in-Ok-Row.field-0-is at c.in-Ok-Row.ensures in
    let looked = rw c.kept-bytes.ensures at w.looked in
    let found = rw c.kept-bytes.ensures at w.found in
    let row = part-row c.args.in_head s.columns s.limit s.buffer.kept l c.self.invariant.columns_few looked found.2 found.0 found.1 in
    let place : Place = record { start = l.start; end = l.start + l.walk.at } in
    let v : BinaryState = record { columns = s.columns; limit = s.limit; kept = s.buffer.kept; stage = s.stage; ended = s.ended; given = s.given; held = held_row s.columns s.limit s.buffer.front; offset = s.offset } in
    let at : IsRowAt v place row.0 = record {
      in_order = row.3;
      in_range = row.4;
      values = row.1;
      begins = ap (λ (t : BinaryStage). row_offset t s.buffer.kept s.offset) stage ∙ begins-at c.args.in_head s.buffer.kept s.offset l.start looked.in_range looked.none found.2;
      part = ap (λ (t : BinaryStage). part_at t s.columns s.limit s.buffer.kept) stage ∙ row.2;
    } in
    ((row.0, subst (λ (b : BinaryState). IsRowAt b place row.0) c.self.view_is at), c.self.view_is)

pub returns-in-Ok-Trailer : goal.returns-in-Ok-Trailer
returns-in-Ok-Trailer c =
    let s = c.self.inside in
    let l = c.find_part.new.look in
    let stage : s.stage ≡ stage_of c.args.in_head = ap (λ (t : BinaryState). t.stage) c.self.view_is ∙ c.requires in
    let w = rw c.in-Ok-Trailer.field-0-is at c.in-Ok-Trailer.ensures in
    let looked = rw c.kept-bytes.ensures at w.looked in
    let found = rw c.kept-bytes.ensures at w.found in
    let before : part_at c.args.self.now.stage c.args.self.now.columns c.args.self.now.limit c.args.self.now.kept ≡ part_at (stage_of c.args.in_head) s.columns s.limit s.buffer.kept
    = ap (λ (v : BinaryState). part_at v.stage v.columns v.limit v.kept) (sym c.self.view_is) ∙ ap (λ (t : BinaryStage). part_at t s.columns s.limit s.buffer.kept) stage in (
      before ∙ found.0,
      c.close.ensures
          ∙ ap (λ (n : ℕ). record { columns = s.columns; limit = s.limit; kept = []; stage = Closed; ended = s.ended; given = s.given; held = None; offset = n }) (c.start_offset-self-inside.ensures ∙ sym (ap (λ (t : BinaryStage). row_offset t s.buffer.kept s.offset) stage ∙ begins-at c.args.in_head s.buffer.kept s.offset l.start looked.in_range looked.none found.1))
          ∙ ap (λ (v : BinaryState). record v { kept = []; stage = Closed; held = None; offset = row_offset v.stage v.kept v.offset }) c.self.view_is,
    )

pub returns-then-self-gt0 : goal.returns-then-self-gt0
returns-then-self-gt0 c =
    let s = c.self.inside in
    let l = c.find_part.new.look in
    let stage : s.stage ≡ stage_of c.args.in_head = ap (λ (t : BinaryState). t.stage) c.self.view_is ∙ c.requires in
    let w = rw c.in-Err-Incomplete.field-0-is at c.in-Err-Incomplete.ensures in
    let looked = rw c.kept-bytes.ensures at w.looked in
    let found = rw c.kept-bytes.ensures at w.found in
    let before : part_at c.args.self.now.stage c.args.self.now.columns c.args.self.now.limit c.args.self.now.kept ≡ part_at (stage_of c.args.in_head) s.columns s.limit s.buffer.kept
    = ap (λ (v : BinaryState). part_at v.stage v.columns v.limit v.kept) (sym c.self.view_is) ∙ ap (λ (t : BinaryStage). part_at t s.columns s.limit s.buffer.kept) stage in
    let v : BinaryState = record { columns = s.columns; limit = s.limit; kept = s.buffer.kept; stage = s.stage; ended = s.ended; given = s.given; held = held_row s.columns s.limit s.buffer.front; offset = s.offset } in
    (before ∙ found.0, head-goes v c.args.self.now s.columns s.limit l c.take.new.self c.args.in_head c.self.view_is stage looked c.if-self-gt0.true c.take.ensures)
