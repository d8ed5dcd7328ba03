use Rattle.std.proofs.Common.{◌≡◌, length, take, ℕ, sym, ap, subst, ◌∙◌, arith}
use Rattle.std.proofs.lemmas.List.{length-take-le}
use Rattle.pg_values.specs.Private.Block.{IsBlock}
use Rattle.pg_values.proofs.Blocks.{moved, few_values}
use Rattle.pg_values.proofs.values.Values.push.Goals as goal

pub make_room-requires-clause-few : goal.make_room-requires-clause-few
make_room-requires-clause-few c =
    let values = take c.self.inside.size c.self.inside.block.items in
    let counted : c.len-count.result ≡ c.self.inside.count = c.len-count.ensures ∙ sym (ap length c.self.view_is) ∙ c.self.invariant.row.count_is in
    omega (arith, counted, few_values c.self.inside.count values c.self.invariant.row, length-take-le c.self.inside.size c.self.inside.block.items (omega (arith, c.self.invariant.fits)))

pub put_last-requires-clause-block : goal.put_last-requires-clause-block
put_last-requires-clause-block c =
    let size = c.self.inside.size in
    let new = c.make_room.new.block.items in
    let counted : c.len-count.result ≡ c.self.inside.count = c.len-count.ensures ∙ sym (ap length c.self.view_is) ∙ c.self.invariant.row.count_is in
    let block : IsBlock c.len-count.result size c.self.inside.block.items = subst (λ (n : ℕ). IsBlock n size c.self.inside.block.items) (sym counted) c.self.invariant in
    let same = c.in_ok-make_room.ensures.same in
    subst (IsBlock c.len-count.result size) (sym c.as_mut_slice.ensures.value) (moved c.len-count.result size c.self.inside.block.items block new (omega (arith, c.in_ok-make_room.ensures.room)) same.values same.noted).0

pub overflow_add-self-2 : goal.overflow_add-self-2
overflow_add-self-2 c =
    let values = take c.self.inside.size c.self.inside.block.items in
    omega (arith, few_values c.self.inside.count values c.self.invariant.row, length-take-le c.self.inside.size c.self.inside.block.items (omega (arith, c.self.invariant.fits)), c.self.invariant.short)
