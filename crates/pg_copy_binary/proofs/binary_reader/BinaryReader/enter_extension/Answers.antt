use Rattle.std.proofs.Common.{◌≡◌, ℕ, ◌+◌, List, Err, length, ap, ◌∙◌}
use Rattle.pg_copy_binary.specs.BinaryPart.{Incomplete, fixed_at, head_at}
use Rattle.pg_copy_binary.specs.BinaryReader.{BinaryState}
use Rattle.pg_copy_binary.specs.Private.BinaryPart.{extension_left}
use Rattle.pg_copy_binary.specs.Private.BinaryRow.{held_row}
use Rattle.pg_copy_binary.proofs.BinaryHolds.{enters-at}
use Rattle.pg_copy_binary.proofs.binary_reader.BinaryReader.enter_extension.Goals as goal

pub returns-in-Some : goal.returns-in-Some
returns-in-Some c =
    let s = c.self.inside in
    let v : BinaryState = record { columns = s.columns; limit = s.limit; kept = s.buffer.kept; stage = s.stage; ended = s.ended; given = s.given; held = held_row s.columns s.limit s.buffer.front; offset = s.offset } in
    let short : head_at s.buffer.kept ≡ Err Incomplete = ap (λ (t : BinaryState). head_at t.kept) c.self.view_is ∙ c.requires.open in
    enters-at v c.args.self.now c.in-Some.missing _ c.clear.new.self c.self.view_is (c.in-Some.ensures.left ∙ ap (λ (x : List ℕ). extension_left (fixed_at x)) c.kept-kept.ensures) short c.clear.ensures (ap (λ (x : List ℕ). length x + c.from.result) c.kept-kept.ensures ∙ ap (λ (n : ℕ). length s.buffer.kept + n) c.from.ensures)
