-- The text of a vector's bytes.
use Rattle.std.specs.Prelude.{ℕ, Bool, ◌==◌, not}

-- any character but a space
abbrev pub is_no_space : ℕ → Bool
is_no_space c = not (c == 32)
