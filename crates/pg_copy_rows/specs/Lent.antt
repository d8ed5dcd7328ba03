-- A row that a reader lends, in place of giving it.
use Rattle.std.specs.Prelude.{◌≡◌, Bool, true, false, Option, None, IsSome, Result, Ok, Err}
use Rattle.pg_copy_rows.specs.Row.{Row}

-- what `next` would have returned, where `next_lent` returned this and the reader lends this row
abbrev pub as_next : {F : Type 0} → Result Bool F → Option Row → Result (Option Row) F
as_next (Ok true) held = Ok held
as_next (Ok false) held = Ok None
as_next (Err f) held = Err f

-- A row is lent exactly where `next_lent` returned true.
abbrev pub Lends : {F : Type 0} → Result Bool F → Option Row → Type 0
Lends (Ok true) held = IsSome held
Lends (Ok false) held = held ≡ None
Lends (Err f) held = held ≡ None
