-- What was read, after some rows.
use Rattle.std.proofs.Common.{◌≡◌, List, [], ◌++◌, sym, ap, append_assoc}
use Rattle.std.proofs.lemmas.List.{append-nil}
use Rattle.pg_copy_rows.specs.Row.{Row}
use Rattle.pg_copy_rows.specs.Reading.{RowsRead, RowsEnding, after_rows}

pub after-after : {F : Type 0} (xs ys : List Row) (r : RowsRead F) → after_rows xs (after_rows ys r) ≡ after_rows (xs ++ ys) r
after-after {F} xs ys r = ap (λ (rows : List Row). record { rows = rows; ending = r.ending }) (sym (append_assoc xs ys r.rows))

pub after-none : {F : Type 0} (xs : List Row) (ending : RowsEnding F) → after_rows xs (record { rows = []; ending = ending }) ≡ record { rows = xs; ending = ending }
after-none {F} xs ending = ap (λ (rows : List Row). record { rows = rows; ending = ending }) (append-nil xs)
