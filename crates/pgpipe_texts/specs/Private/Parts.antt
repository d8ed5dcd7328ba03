-- The parts in which a text is shown: bytes that are shown as they are, a control character of two
-- bytes, or another byte.
use Rattle.std.specs.Prelude.{ℕ, ◌≡◌, ◌<◌, ◌≤◌, ◌==◌, ◌||◌, Bool, false, if◌then◌else◌, List, [], ◌∷◌, ◌++◌, length, drop, Option, None, Some}
use Rattle.pgpipe_texts.specs.Text.{is_high_control, is_plain, shown_bytes}

-- a byte that is shown as it is, whatever stands around it: a control character of two bytes begins
-- with 194
abbrev pub is_unescaped : Bool → ℕ → ℕ → Bool
is_unescaped utf8 mark b = if b == 194 then false else if b == 92 || b == mark then false
    else is_plain utf8 b

-- the byte with which this byte is a control character, if that stands first in these
abbrev pub control_end : ℕ → List ℕ → Option ℕ
control_end a [] = None
control_end a (b ∷ bytes) = if is_high_control a b then Some b else None

-- So many bytes in front were put, and at least one: with those that are left, the line is that of
-- all.
pub record PutsSome (utf8 : Bool) (mark : ℕ) (bytes old new : List ℕ) (n : ℕ) : Type 0 where
  pub some : 0 < n
  pub within : n ≤ length bytes
  pub put : new ++ shown_bytes utf8 mark (drop n bytes) ≡ old ++ shown_bytes utf8 mark bytes
