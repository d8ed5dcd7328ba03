-- The lines of a text file, and the fields of a line, by the kinds of their units (PostgreSQL
-- documentation, page COPY, "Text Format").
use Rattle.std.specs.Prelude.{◌≡◌, ℕ, List, [], ◌∷◌, ◌++◌}
use Rattle.pg_copy_text.specs.TextField.{IsField}
use Rattle.pg_copy_rows.specs.Row.{Row}
use Rattle.pg_copy_text.specs.Text.{Options, backslash, newline, carriage_return}
use Rattle.pg_copy_text.specs.declared.line_end.LineEnd.{LineEnd}
use Rattle.pg_copy_text.specs.declared.line_end.LineEnd.TheVariants.{Newline, Return, Both}

-- No byte `mark` among these stands unescaped: they are bytes other than the mark and the
-- backslash, and backslashes each with the byte after it.
pub data AreUnits (mark : ℕ) : List ℕ → Type 0 where
  nothing : AreUnits mark []
  byte : (b : ℕ) (bs : List ℕ) → (b ≡ backslash → ⊥) → (b ≡ mark → ⊥) → AreUnits mark bs
      → AreUnits mark (b ∷ bs)
  escape : (b : ℕ) (bs : List ℕ) → AreUnits mark bs → AreUnits mark (backslash ∷ b ∷ bs)

-- The bytes are these parts with an unescaped byte `mark` between any two: lines and what stands
-- after the last newline, or the fields of a line. The last part may end in a lone backslash.
pub data AreParts (mark : ℕ) : List ℕ → List (List ℕ) → Type 0 where
  one : (p : List ℕ) → AreUnits mark p → AreParts mark p (p ∷ [])
  lone : (p : List ℕ) → AreUnits mark p
      → AreParts mark (p ++ backslash ∷ []) ((p ++ backslash ∷ []) ∷ [])
  more : (p bytes : List ℕ) (ps : List (List ℕ)) → AreUnits mark p → AreParts mark bytes ps
      → AreParts mark (p ++ mark ∷ bytes) (p ∷ ps)

-- No newline stands first.
abbrev pub NoNewlineFirst : List ℕ → Type 0
NoNewlineFirst [] = Unit {0}
NoNewlineFirst (b ∷ bs) = b ≡ newline → ⊥

-- No return among these that stands unescaped has a newline directly after it: they are bytes other
-- than the return and the backslash, such returns, and backslashes each with the byte after it.
pub data AreUnpaired : List ℕ → Type 0 where
  nothing : AreUnpaired []
  byte : (b : ℕ) (bs : List ℕ) → (b ≡ backslash → ⊥) → (b ≡ carriage_return → ⊥) → AreUnpaired bs
      → AreUnpaired (b ∷ bs)
  return : (bs : List ℕ) → NoNewlineFirst bs → AreUnpaired bs → AreUnpaired (carriage_return ∷ bs)
  escape : (b : ℕ) (bs : List ℕ) → AreUnpaired bs → AreUnpaired (backslash ∷ b ∷ bs)

-- The bytes are these parts with an unescaped return and a newline between any two. The last part
-- may end in a lone backslash.
pub data ArePairs : List ℕ → List (List ℕ) → Type 0 where
  one : (p : List ℕ) → AreUnpaired p → ArePairs p (p ∷ [])
  lone : (p : List ℕ) → AreUnpaired p
      → ArePairs (p ++ backslash ∷ []) ((p ++ backslash ∷ []) ∷ [])
  more : (p bytes : List ℕ) (ps : List (List ℕ)) → AreUnpaired p → ArePairs bytes ps
      → ArePairs (p ++ carriage_return ∷ newline ∷ bytes) (p ∷ ps)

-- The bytes are these lines, and what stands after the last line end, where lines end so.
abbrev pub AreLines : LineEnd → List ℕ → List (List ℕ) → Type 0
AreLines Newline bytes ps = AreParts newline bytes ps
AreLines Return bytes ps = AreParts carriage_return bytes ps
AreLines Both bytes ps = ArePairs bytes ps

-- Field k of a line spells value k of the row, and there are as many of both.
abbrev pub AreFields : Options → List (List ℕ) → Row → Type 0
AreFields o [] [] = Unit {0}
AreFields o [] (v ∷ vs) = ⊥
AreFields o (p ∷ ps) [] = ⊥
AreFields o (p ∷ ps) (v ∷ vs) = IsField o p v × AreFields o ps vs
