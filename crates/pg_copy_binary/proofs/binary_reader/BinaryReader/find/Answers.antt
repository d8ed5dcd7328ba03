use Rattle.std.proofs.Common.{◌≡◌, [], None, ap, sym, ◌∙◌}
use Rattle.pg_copy_binary.specs.declared.binary_reader.BinaryStage.TheVariants.{Extension}
use Rattle.pg_copy_binary.specs.BinaryReader.{BinaryState}
use Rattle.pg_copy_binary.specs.Private.BinaryRow.{held_row}
use Rattle.pg_copy_binary.proofs.BinaryHistory.{stays-within}
use Rattle.pg_copy_binary.proofs.BinaryWalk.{no-front}
use Rattle.pg_copy_binary.proofs.binary_reader.BinaryReader.find.Goals as goal

pub returns-in-Extension : goal.returns-in-Extension
returns-in-Extension c =
    let s = c.self.inside in
    let old = c.args.self.now in
    let n = c.in-Extension.field-0 in
    let skips = c.self.invariant.skips n c.in-Extension.is in
    let stage : old.stage ≡ Extension n = ap (λ (t : BinaryState). t.stage) (sym c.self.view_is) ∙ c.in-Extension.is in
    let empty : old.kept ≡ [] = ap (λ (t : BinaryState). t.kept) (sym c.self.view_is) ∙ skips.1 in
    let none : old.held ≡ None = ap (λ (t : BinaryState). t.held) (sym c.self.view_is) ∙ ap (held_row s.columns s.limit) (no-front s.stage n s.buffer.front c.in-Extension.is c.self.invariant.lends) in
    stays-within old n stage (skips.0, empty) none
