use Rattle.std.proofs.Common.{ℕ, ◌+◌, ◌-◌, ap, ◌∙◌}
use Rattle.pg_copy_binary.specs.BinaryReader.{BinaryState}
use Rattle.pg_copy_rows.specs.Reading.{told}
use Rattle.pg_copy_binary.specs.Private.BinaryRow.{held_row}
use Rattle.pg_copy_binary.proofs.BinaryHolds.{lends-row}
use Rattle.pg_copy_binary.proofs.binary_reader.BinaryReader.hold.Goals as goal

pub returns : goal.returns
returns c = λ row at.
    let s = c.self.inside in
    let v : BinaryState = record { columns = s.columns; limit = s.limit; kept = s.buffer.kept; stage = s.stage; ended = s.ended; given = s.given; held = held_row s.columns s.limit s.buffer.front; offset = s.offset } in
    lends-row v c.args.self.now c.hold.new.self c.one_more-self-inside.result c.later-self-inside.result c.args.place row c.self.view_is c.hold.ensures c.one_more-self-inside.ensures (c.later-self-inside.ensures ∙ ap (λ (n : ℕ). told (n + (c.args.place.end - c.args.place.start))) c.start_offset-start.ensures) at
