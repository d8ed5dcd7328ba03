use Rattle.std.proofs.Common.{◌≡◌, ◌≤◌, ◌<◌, ◌==◌, false, arith, length, List, [], ◌∷◌, Option, ℕ, sym, ap, ◌∙◌, inl, inr}
use Rattle.std.specs.Prelude.{map, option_copied}
use Rattle.std.specs.Borrow.{Bor}
use Rattle.std.proofs.lemmas.Bool.{cases_lt}
use Rattle.std.proofs.lemmas.List.{take_all}
use Rattle.pg_values.specs.Private.Block.{spelled, longest_block}
use Rattle.pg_values.proofs.Blocks.{four_each, row_of_spelled}
use Rattle.pg_values.proofs.Lists.{lent_count, each_fits}
use Rattle.pg_values.proofs.values.Values.from_slice.Goals as goal

-- a list of a value or more has a spelling of four bytes or more
some_bytes : (vs : List (Option (Bor (List ℕ)))) → (length vs == 0) ≡ false → 4 ≤ length (spelled (map option_copied vs))
some_bytes [] e = absurd cc
some_bytes (v ∷ vs) e = omega (arith, four_each (map option_copied (v ∷ vs)), lent_count (v ∷ vs))

-- a list that has a size fits into a block
fits : (len size : ℕ) → (size ≡ 0 → ⊥) → (longest_block < len → size ≡ 0) → len ≤ longest_block
fits len size some none = elim (cases_lt longest_block len) [
  | inl lt ↦ absurd (some (none lt))
  | inr le ↦ le
]

pub returns-then-size-eq0-clause-too_long : goal.returns-then-size-eq0-clause-too_long
returns-then-size-eq0-clause-too_long c e = elim (cases_lt longest_block (length (spelled (map option_copied c.args.list.now)))) [
  | inl lt ↦ lt
  | inr le ↦ absurd (omega (arith, some_bytes c.args.list.now (sym c.is_empty.ensures ∙ c.if-is_empty.false), c.size_of-size.ensures.fits le, c.if-size-eq0.true))
]

pub append-requires : goal.append-requires
append-requires c = each_fits c.args.list.now longest_block (fits (length (spelled (map option_copied c.args.list.now))) c.size_of-size.result c.if-size-eq0.false c.size_of-size.ensures.too_long) c.loop-value.value-index c.loop-value-test.true

pub of_bytes-requires-clause-row : goal.of_bytes-requires-clause-row
of_bytes-requires-clause-row c =
    let list = c.args.list.now in
    let short = fits (length (spelled (map option_copied list))) c.size_of-size.result c.if-size-eq0.false c.size_of-size.ensures.too_long in
    let all : c.loop-value.block.items ≡ spelled (map option_copied list) = c.loop-value.invariant ∙ ap (λ (vs : List (Option (Bor (List ℕ)))). spelled (map option_copied vs)) (take_all c.loop-value.value-index list c.loop-value-test.false) in
    (row_of_spelled (map option_copied list) (length list) c.loop-value.block.items (lent_count list) (sym all) (omega (arith, ap length all, short))).0

pub returns-clause-ok : goal.returns-clause-ok
returns-clause-ok c =
    let list = c.args.list.now in
    let short = fits (length (spelled (map option_copied list))) c.size_of-size.result c.if-size-eq0.false c.size_of-size.ensures.too_long in
    let all : c.loop-value.block.items ≡ spelled (map option_copied list) = c.loop-value.invariant ∙ ap (λ (vs : List (Option (Bor (List ℕ)))). spelled (map option_copied vs)) (take_all c.loop-value.value-index list c.loop-value-test.false) in
    c.in_ok-of_bytes.ensures ∙ (row_of_spelled (map option_copied list) (length list) c.loop-value.block.items (lent_count list) (sym all) (omega (arith, ap length all, short))).1
