-- Newlines and returns that may end a line.
use Rattle.std.specs.Prelude.{◌≡◌, ℕ, ◌≤◌, ◌==◌, ◌||◌, Bool, false, if◌then◌else◌, List, [], ◌∷◌, ◌++◌, length, take, drop, Option, Some, None}
use Rattle.std.specs.List.{onto_first}
use Rattle.pg_copy_text.specs.declared.line_end.LineEnd.{LineEnd}
use Rattle.pg_copy_text.specs.declared.line_end.LineEnd.TheVariants.{Newline, Return, Both}
use Rattle.pg_copy_text.specs.declared.line_end.LineBreak.{LineBreak}
use Rattle.pg_copy_text.specs.declared.line_end.LineBreak.TheVariants.{Ends, Stays, Waits}
use Rattle.pg_copy_text.specs.Text.{backslash, newline, carriage_return, line_end_from, lines_from, lines, end_len, decided_by, decided_at_end}

-- whether a byte is a newline or a return
abbrev pub is_break : ℕ → Bool
is_break b = b == newline || b == carriage_return

-- what a newline is, where lines before it ended so
abbrev pub at_newline : Option LineEnd → LineBreak
at_newline None = Ends Newline
at_newline (Some Newline) = Ends Newline
at_newline (Some Return) = Stays
at_newline (Some Both) = Stays

-- what a return is, where lines before it ended so
abbrev pub at_return : Option LineEnd → List ℕ → LineBreak
at_return (Some Newline) bs = Stays
at_return (Some Return) bs = Ends Return
at_return None [] = Waits
at_return None (b ∷ bs) = if b == newline then Ends Both else Ends Return
at_return (Some Both) [] = Waits
at_return (Some Both) (b ∷ bs) = if b == newline then Ends Both else Stays

-- what the newline or return is that stands first
abbrev pub break_at : Option LineEnd → List ℕ → LineBreak
break_at before [] = Stays
break_at before (b ∷ bs) = if b == newline then at_newline before else at_return before bs

-- how lines end, by bytes that come after a backslash that begins an escape if escaped
abbrev pub decided_from : Option LineEnd → Bool → List ℕ → Option LineEnd
decided_from None escaped bytes = line_end_from escaped bytes
decided_from (Some e) escaped bytes = Some e

-- lines may end so
abbrev pub MayEnd : Option LineEnd → LineEnd → Type 0
MayEnd None e = Unit {0}
MayEnd (Some f) e = f ≡ e

-- these bytes in front of the first part
abbrev pub put_before : List ℕ → List (List ℕ) → List (List ℕ)
put_before [] ps = ps
put_before (b ∷ bs) ps = onto_first b (put_before bs ps)

-- the byte ends no line, whatever comes after these
pub record Steps (before : Option LineEnd) (escaped : Bool) (b : ℕ) (bs : List ℕ)
    (escaped' : Bool) : Type 0 where
  pub decided : (more : List ℕ) → decided_from before escaped (b ∷ (bs ++ more))
      ≡ decided_from before escaped' (bs ++ more)
  pub cut : (e : LineEnd) → MayEnd before e → (more : List ℕ)
      → lines_from e escaped (b ∷ (bs ++ more))
      ≡ onto_first b (lines_from e escaped' (bs ++ more))

-- a line ends here, whatever comes after these bytes
pub record EndsHere (before : Option LineEnd) (e : LineEnd) (rest : List ℕ) : Type 0 where
  pub in_range : end_len e ≤ length rest
  pub may : MayEnd before e
  pub decided : (more : List ℕ) → decided_from before false (rest ++ more) ≡ Some e
  pub cut : (more : List ℕ) → lines_from e false (rest ++ more)
      ≡ [] ∷ lines e (drop (end_len e) rest ++ more)

-- the first of these bytes ends no line
abbrev pub FirstStays : Option LineEnd → List ℕ → Type 0
FirstStays before [] = Unit {0}
FirstStays before (b ∷ bs) = Steps before false b bs (b == backslash)

-- What a newline or a return is that stands first.
abbrev pub IsBreak : Option LineEnd → List ℕ → LineBreak → Type 0
IsBreak before rest (Ends e) = EndsHere before e rest
IsBreak before rest Stays = FirstStays before rest
IsBreak before rest Waits = (rest ≡ carriage_return ∷ []) × MayEnd before Both

-- The first line of the bytes is so long, ends so, and takes so many bytes with its end, whatever
-- comes after these.
pub record IsFirstLine (before : Option LineEnd) (bytes : List ℕ) (e : LineEnd)
    (len taken : ℕ) : Type 0 where
  pub in_range : taken ≤ length bytes
  pub decided : (more : List ℕ) → decided_by before (bytes ++ more) ≡ Some e
  pub cut : (more : List ℕ) → lines e (bytes ++ more)
      ≡ take len bytes ∷ lines e (drop taken bytes ++ more)

-- The first line of the bytes is so long, ends so, and takes so many bytes with its end, where
-- nothing comes after these bytes.
pub record IsLastLine (before : Option LineEnd) (bytes : List ℕ) (e : LineEnd)
    (len taken : ℕ) : Type 0 where
  pub decided : decided_at_end before bytes ≡ e
  pub cut : lines e bytes ≡ take len bytes ∷ lines e (drop taken bytes)
