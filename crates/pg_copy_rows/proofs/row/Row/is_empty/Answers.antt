use Rattle.std.proofs.Common.{rules, length, ap}
use Rattle.std.proofs.lemmas.List.{nil_from_length}
use Rattle.pg_copy_rows.proofs.Cuts.{values-count}
use Rattle.pg_copy_rows.proofs.row.Row.is_empty.Goals as goal

pub returns : goal.returns
returns c =
    let count = values-count 0 c.self.inside.cuts.items c.self.inside.bytes.items in
    let same = ap length c.self.view_is in
    search (rules, nil_from_length)
