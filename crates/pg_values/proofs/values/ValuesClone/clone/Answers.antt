use Rattle.std.proofs.Common.{◌≡◌, ◌-◌, ◌*◌, ℕ, length, take, drop, sym, ap, ◌∙◌, arith}
use Rattle.pg_values.specs.Private.View.{values_left}
use Rattle.pg_values.proofs.Blocks.{moved}
use Rattle.pg_values.proofs.values.ValuesClone.clone.Goals as goal

pub invariant_of-result : goal.invariant_of-result
invariant_of-result c =
    let size = c.self.inside.size in
    let count = c.self.inside.count in
    let block = c.self.inside.block.items in
    let new = c.in_ok-with_len.field-0.items in
    let lent = c.as_slice.result.now in
    let same : lent ≡ block = c.as_slice.ensures.value in
    let counted : c.len-count.result ≡ count = c.len-count.ensures ∙ sym (ap length c.self.view_is) ∙ c.self.invariant.row.count_is in
    let made = c.in_ok-with_len.ensures in
    let values : take size new ≡ take size block = made.same.values ∙ ap (take size) same in
    let k = c.len-count.result in
    let at : length new - 4 * count ≡ length new - 4 * k = omega (arith, counted) in
    let at' : length lent - 4 * k ≡ length block - 4 * count = omega (arith, counted, ap length same) in
    let end : drop (length new - 4 * count) new ≡ drop (length block - 4 * count) block = ap (λ (n : ℕ). drop n new) at ∙ made.same.noted ∙ ap (λ (n : ℕ). drop n lent) at' ∙ ap (drop (length block - 4 * count)) same in
    (moved count size block c.self.invariant new (omega (arith, made.len, counted)) values end).0

pub returns : goal.returns
returns c =
    let same : c.as_slice.result.now ≡ c.self.inside.block.items = c.as_slice.ensures.value in
    record { cases = ap (values_left c.self.inside.count) (c.in_ok-with_len.ensures.same.values ∙ ap (take c.self.inside.size) same) ∙ c.self.view_is }
