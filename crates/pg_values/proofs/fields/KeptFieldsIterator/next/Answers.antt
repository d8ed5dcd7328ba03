use Rattle.std.proofs.Common.{rules, drop, length, sym, ap, ◌∙◌, arith}
use Rattle.pg_values.proofs.Kept.{no_block, text_fits, left_kept, field_comes}
use Rattle.pg_values.proofs.fields.KeptFieldsIterator.next.Goals as goal

pub returns-in_default-block-clause-steps : goal.returns-in_default-block-clause-steps
returns-in_default-block-clause-steps c =
    let none = sym c.self.view_is ∙ no_block c.self.inside.lengths.now c.self.inside.block.now c.in_default-block.len_below in
    (none, none)

pub split_at-requires : goal.split_at-requires
split_at-requires c = omega (arith, text_fits c.self.inside.lengths.now c.self.inside.block.now c.self.invariant c.in-len1-up.len_at_least c.in-len1-up-block.len_at_least)

pub split_at-requires-2 : goal.split_at-requires-2
split_at-requires-2 c = omega (arith, text_fits c.self.inside.lengths.now c.self.inside.block.now c.self.invariant c.in-len1-up.len_at_least c.in-len1-up-block.len_at_least, c.split_at.ensures.back_len)

pub invariant_of-self : goal.invariant_of-self
invariant_of-self c = left_kept c.self.inside.lengths.now c.self.inside.block.now c.self.invariant c.in-len1-up.len_at_least c.in-len1-up-block.len_at_least c.split_at-2.result.1.now (c.split_at-2.ensures.back ∙ ap (drop 1) c.split_at.ensures.back)

pub returns-clause-steps : goal.returns-clause-steps
returns-clause-steps c = sym c.self.view_is ∙ field_comes c.self.inside.lengths.now c.self.inside.block.now c.self.invariant c.in-len1-up.len_at_least c.in-len1-up-block.len_at_least c.split_at.result.0.now c.split_at-2.result.1.now c.split_at.ensures.front (c.split_at-2.ensures.back ∙ ap (drop 1) c.split_at.ensures.back)

pub returns-clause-goes : goal.returns-clause-goes
returns-clause-goes c =
    let step = sym c.self.view_is ∙ field_comes c.self.inside.lengths.now c.self.inside.block.now c.self.invariant c.in-len1-up.len_at_least c.in-len1-up-block.len_at_least c.split_at.result.0.now c.split_at-2.result.1.now c.split_at.ensures.front (c.split_at-2.ensures.back ∙ ap (drop 1) c.split_at.ensures.back) in
    let shorter = ap length step in
    search rules
