-- Where parts begin.
use Rattle.std.specs.Prelude.{ℕ, ◌+◌, ◌-◌, ◌^◌, min}
use Rattle.pgpipe_explain.specs.declared.place.Place.{Place}

-- a count with one more, which doesn't pass 2^64 - 1
abbrev pub counted_up : ℕ → ℕ
counted_up n = min (n + 1) (2 ^ 64 - 1)

-- where the part after this one begins, on this line and after so many bytes
abbrev pub next_place : Place → ℕ → ℕ → Place
next_place place line offset = record {
  number = counted_up place.number;
  line = line;
  offset = offset;
}
