use Rattle.std.proofs.Common.{◌≡◌, ◌+◌, ◌*◌, ◌<◌, ◌++◌, ℕ, List, length, take, drop, replicate, rules, ◌-◌, sym, ap, subst, ◌∙◌, arith, length-append}
use Rattle.std.proofs.lemmas.List.{take_at}
use Rattle.std.specs.Prelude.{vec_len}
use Rattle.pg_values.specs.Private.Block.{IsBlock, noted_in, start_of}
use Rattle.pg_values.specs.Private.View.{values_left}
use Rattle.pg_values.proofs.Blocks.{few_values, made, before_zeros}
use Rattle.pg_values.proofs.values.of_bytes.Goals as goal

pub overflow_mul-count : goal.overflow_mul-count
overflow_mul-count c = omega (arith, few_values c.args.count c.args.block.items c.requires.row, c.requires.short)

pub overflow_add-size : goal.overflow_add-size
overflow_add-size c = omega (arith, few_values c.args.count c.args.block.items c.requires.row, c.requires.short, c.len-size.ensures, c.args.block.ok)

pub overflow_cast-result-2 : goal.overflow_cast-result-2
overflow_cast-result-2 c = omega (arith, few_values c.args.count c.args.block.items c.requires.row, c.requires.short)

pub invariant_of-result : goal.invariant_of-result
invariant_of-result c =
    let size = c.len-size.result in
    let count = c.args.count in
    let bytes = c.args.block.items in
    let first = c.split_at_mut-bytes.result.0.now in
    let places = c.note_all.new.places in
    let sized : size ≡ length bytes = search rules in
    let front : first ≡ bytes = c.split_at_mut-bytes.ensures.front ∙ ap (take size) (c.as_mut_slice.ensures.value ∙ c.in_ok-resize.ensures.items) ∙ before_zeros bytes (replicate (size + 4 * count - vec_len c.args.block) 0) size (size + 4 * count) sized (omega arith) in
    let len : length places ≡ 4 * count = search rules in
    let all : length (first ++ places) ≡ c.resize.new.self.len = omega (arith, length-append first places, ap length front, sized, len, c.in_ok-resize.ensures.len) in
    let whole : take c.resize.new.self.len ((first ++ places) ++ drop (length (first ++ places)) c.resize.new.self.items) ≡ bytes ++ places = take_at (first ++ places) (drop (length (first ++ places)) c.resize.new.self.items) c.resize.new.self.len all ∙ ap (λ (xs : List ℕ). xs ++ places) front in
    let noted : (i : ℕ) → i < count → noted_in places i ≡ start_of (values_left count bytes) i = subst (λ (xs : List ℕ). (i : ℕ) → i < count → noted_in places i ≡ start_of (values_left count xs) i) front c.note_all.ensures.noted in
    subst (λ (n : ℕ). IsBlock count n (take c.resize.new.self.len ((first ++ places) ++ drop (length (first ++ places)) c.resize.new.self.items))) (sym sized) (made count bytes places _ c.requires.row c.requires.short len whole noted).0

pub returns : goal.returns
returns c =
    let size = c.len-size.result in
    let count = c.args.count in
    let bytes = c.args.block.items in
    let first = c.split_at_mut-bytes.result.0.now in
    let places = c.note_all.new.places in
    let sized : size ≡ length bytes = search rules in
    let front : first ≡ bytes = c.split_at_mut-bytes.ensures.front ∙ ap (take size) (c.as_mut_slice.ensures.value ∙ c.in_ok-resize.ensures.items) ∙ before_zeros bytes (replicate (size + 4 * count - vec_len c.args.block) 0) size (size + 4 * count) sized (omega arith) in
    let len : length places ≡ 4 * count = search rules in
    let all : length (first ++ places) ≡ c.resize.new.self.len = omega (arith, length-append first places, ap length front, sized, len, c.in_ok-resize.ensures.len) in
    let whole : take c.resize.new.self.len ((first ++ places) ++ drop (length (first ++ places)) c.resize.new.self.items) ≡ bytes ++ places = take_at (first ++ places) (drop (length (first ++ places)) c.resize.new.self.items) c.resize.new.self.len all ∙ ap (λ (xs : List ℕ). xs ++ places) front in
    ap (values_left count) (ap (take size) whole ∙ take_at bytes places size (sym sized))
