use Rattle.std.proofs.Common.{◌≡◌, ℕ, List, Option, Some, sym, ap, subst, ◌∙◌, arith}
use Rattle.pg_codec.specs.Private.Reader.{◌>>=◌, times_at, value_at, counted_at}
use Rattle.pg_values.specs.Private.Block.{IsRow}
use Rattle.pg_values.specs.Private.View.{values_left}
use Rattle.pg_values.proofs.Blocks.{row_before, after_count}
use Rattle.pg_values.proofs.values.values_at.Goals as goal

pub overflow_sub-bytes : goal.overflow_sub-bytes
overflow_sub-bytes c =
    let are = after_count c.args.bytes.now c.in_ok-count.count c.in_ok-count.bytes.now (λ i. omega (arith, c.type_inv.bytes i)) c.in_ok-count.ensures.read in
    (row_before c.in_ok-count.count c.in_ok-count.bytes.now c.in-Some.rest.now are c.if-bytes.false c.in-Some.ensures).2

pub copy_row-requires-clause-row : goal.copy_row-requires-clause-row
copy_row-requires-clause-row c =
    let are = after_count c.args.bytes.now c.in_ok-count.count c.in_ok-count.bytes.now (λ i. omega (arith, c.type_inv.bytes i)) c.in_ok-count.ensures.read in
    subst (IsRow c.in_ok-count.count) (sym c.split_at.ensures.front) (row_before c.in_ok-count.count c.in_ok-count.bytes.now c.in-Some.rest.now are c.if-bytes.false c.in-Some.ensures).0

pub returns : goal.returns
unfolding counted_at
returns c =
    let are = after_count c.args.bytes.now c.in_ok-count.count c.in_ok-count.bytes.now (λ i. omega (arith, c.type_inv.bytes i)) c.in_ok-count.ensures.read in
    let row = row_before c.in_ok-count.count c.in_ok-count.bytes.now c.in-Some.rest.now are c.if-bytes.false c.in-Some.ensures in
    let values : c.in_ok-copy_row.field-0 ≡ values_left c.in_ok-count.count c.split_at.result.0.now = c.in_ok-copy_row.ensures in
    ap (λ (o : Option (ℕ × List ℕ)). o >>= λ n. times_at value_at n.0 n.1) c.in_ok-count.ensures.read ∙ row.1 ∙ ap (λ (vs : List (Option (List ℕ))). Some (vs, c.in-Some.rest.now)) (ap (values_left c.in_ok-count.count) (sym c.split_at.ensures.front) ∙ sym values)
