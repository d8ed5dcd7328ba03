use Rattle.std.proofs.Common.{arith}
use Rattle.std.specs.Int.{w16}
use Rattle.pg_codec.specs.Private.Reader.{number_at}
use Rattle.pg_values.specs.Private.View.{values_left}
use Rattle.pg_values.specs.Private.Block.{IsRow}
use Rattle.pg_values.proofs.Views.{read_bad, row_is, no_row, no_whole}
use Rattle.pg_values.proofs.Blocks.{is_row}
use Rattle.pg_values.proofs.view.RowView.of_body.Goals as goal

pub returns-in-Ok : goal.returns-in-Ok
returns-in-Ok c = row_is c.args.body.now c.in-Ok.count c.in-Ok.values.now c.in-Ok.ensures.read c.requires

pub returns-in-Err : goal.returns-in-Err
returns-in-Err c =
    let none = read_bad c.in-Err.field-0 (number_at w16 c.args.body.now) c.in-Err.ensures.no_memory c.in-Err.ensures.read in
    no_row c.args.body.now (values_left 0 c.args.body.now) none c.requires

pub invariant_of-t-5 : goal.invariant_of-t-5
invariant_of-t-5 c = is_row c.args.body.now c.in-Ok.count c.in-Ok.values.now (λ i. omega (arith, c.type_inv.body i)) c.in-Ok.ensures.read c.requires

pub invariant_of-result : goal.invariant_of-result
invariant_of-result c =
    let none = read_bad c.in-Err.field-0 (number_at w16 c.args.body.now) c.in-Err.ensures.no_memory c.in-Err.ensures.read in
    no_whole c.args.body.now (IsRow 0 c.args.body.now) none c.requires
