use Rattle.std.proofs.Common.{◌≡◌, ◌<◌, length, List, ℕ, Option, Some, refl, sym, ap, ◌∙◌, drop, arith}
use Rattle.std.specs.Prelude.{option_copied}
use Rattle.std.specs.List.{slice_get}
use Rattle.pg_codec.proofs.Layouts.{some_is}
use Rattle.pg_codec.specs.Private.Reader.{value_at}
use Rattle.pg_values.specs.Private.Block.{noted_in}
use Rattle.pg_values.proofs.Blocks.{value_there}
use Rattle.pg_values.proofs.values.Values.get.Goals as goal

pub split_at-requires : goal.split_at-requires
split_at-requires c =
    let within : c.args.index < c.self.inside.count = omega (arith, c.if-index-len.false, c.len.ensures, ap length c.self.view_is, c.self.invariant.row.count_is) in
    let t = value_there c.self.inside.count c.self.inside.size c.self.inside.block.items c.self.invariant c.args.index c.noted_in-place.result within (c.noted_in-place.ensures ∙ ap (λ (block : List ℕ). noted_in block c.args.index) c.as_slice.ensures.value) in
    omega (arith, t.2, ap length c.as_slice-2.ensures.value)

pub first_value-requires : goal.first_value-requires
first_value-requires c =
    let within : c.args.index < c.self.inside.count = omega (arith, c.if-index-len.false, c.len.ensures, ap length c.self.view_is, c.self.invariant.row.count_is) in
    let t = value_there c.self.inside.count c.self.inside.size c.self.inside.block.items c.self.invariant c.args.index c.noted_in-place.result within (c.noted_in-place.ensures ∙ ap (λ (block : List ℕ). noted_in block c.args.index) c.as_slice.ensures.value) in
    rw (c.split_at.ensures.back, c.as_slice-2.ensures.value, t.3) refl

pub returns : goal.returns
returns c =
    let within : c.args.index < c.self.inside.count = omega (arith, c.if-index-len.false, c.len.ensures, ap length c.self.view_is, c.self.invariant.row.count_is) in
    let t = value_there c.self.inside.count c.self.inside.size c.self.inside.block.items c.self.invariant c.args.index c.noted_in-place.result within (c.noted_in-place.ensures ∙ ap (λ (block : List ℕ). noted_in block c.args.index) c.as_slice.ensures.value) in
    let read : value_at c.split_at.result.1.now ≡ Some (t.0, t.1) = ap value_at (c.split_at.ensures.back ∙ ap (drop c.noted_in-place.result) c.as_slice-2.ensures.value) ∙ t.3 in
    let made : Option (List ℕ) × List ℕ = (option_copied c.first_value.result.0, c.first_value.result.1.now) in
    let same : option_copied c.first_value.result.0 ≡ t.0 = ap (λ (x : Option (List ℕ) × List ℕ). x.0) (some_is made (t.0, t.1) (sym c.first_value.ensures ∙ read)) in
    ap (λ (v : Option (List ℕ)). Some v) same ∙ sym t.4 ∙ ap (λ (vs : List (Option (List ℕ))). slice_get vs c.args.index) c.self.view_is
