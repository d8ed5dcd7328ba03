use Rattle.std.proofs.Common.{◌&&◌, Bool, List, sym, ap, ◌∙◌}
use Rattle.std.specs.Prelude.{nat_eq}
use Rattle.std.specs.Cmp.Lexicographic.{pointwise}
use Rattle.pg_codec.specs.declared.value.ErrorField.{ErrorField}
use Rattle.pg_values.specs.Private.Kept.{fields_kept}
use Rattle.pg_values.proofs.Kept.{compared_fields, equal_fields}
use Rattle.pg_values.proofs.fields.FieldsPartialEq.eq.Goals as goal

pub returns-then-eq : goal.returns-then-eq
returns-then-eq c =
    let mine = c.self.inside in
    let theirs = c.other.inside in
    let blocks : Bool = pointwise nat_eq mine.block.items theirs.block.items in
    let all = ap (λ (b : Bool). b && blocks) (sym c.if-eq.true ∙ c.eq.ensures) in
    c.eq-then-eq.ensures ∙ all ∙ compared_fields mine.lengths.items mine.block.items theirs.lengths.items theirs.block.items c.self.invariant c.other.invariant ∙ ap (λ (fs : List ErrorField). equal_fields fs (fields_kept theirs.lengths.items theirs.block.items)) c.self.view_is ∙ ap (equal_fields c.args.self.now) c.other.view_is

pub returns-else-eq : goal.returns-else-eq
returns-else-eq c =
    let mine = c.self.inside in
    let theirs = c.other.inside in
    let blocks : Bool = pointwise nat_eq mine.block.items theirs.block.items in
    let all = ap (λ (b : Bool). b && blocks) (sym c.if-eq.false ∙ c.eq.ensures) in
    c.if-eq.false ∙ all ∙ compared_fields mine.lengths.items mine.block.items theirs.lengths.items theirs.block.items c.self.invariant c.other.invariant ∙ ap (λ (fs : List ErrorField). equal_fields fs (fields_kept theirs.lengths.items theirs.block.items)) c.self.view_is ∙ ap (equal_fields c.args.self.now) c.other.view_is
