-- Where the fields of a line end.
use Rattle.std.specs.Prelude.{◌≡◌, ◌+◌, ◌==◌, ◌⊎◌, ℕ, suc, Bool, true, false, if◌then◌else◌, List, [], ◌∷◌, ◌++◌, length}
use Rattle.pg_copy_text.specs.Text.{backslash}

-- the places behind the marks that aren't escaped, where the bytes begin at place n; `escaped` says
-- that they come after a backslash that begins an escape
abbrev pub cuts_from : ℕ → Bool → ℕ → List ℕ → List ℕ
cuts_from n escaped mark [] = []
cuts_from n true mark (b ∷ bs) = cuts_from (suc n) false mark bs
cuts_from n false mark (b ∷ bs) =
    (if b == mark then suc n ∷ [] else []) ++ cuts_from (suc n) (b == backslash) mark bs

-- the places behind the delimiters that end a field of the bytes
abbrev pub cuts_of : ℕ → List ℕ → List ℕ
cuts_of delimiter bytes = cuts_from 0 false delimiter bytes

-- the cuts of a line: those of its delimiters, and as if one stood at its end
abbrev pub line_cuts : ℕ → List ℕ → List ℕ
line_cuts delimiter line = cuts_of delimiter line ++ (length line + 1) ∷ []

-- These are the first cuts of the bytes.
abbrev pub AreNoted : ℕ → List ℕ → List ℕ → Type 0
AreNoted delimiter bytes noted = (more : List ℕ) × (cuts_of delimiter bytes ≡ noted ++ more)

-- The cut after so many delimiters is noted, if all before it are; or nothing is.
abbrev pub NotesCut : ℕ → ℕ → List ℕ → List ℕ → Type 0
NotesCut cut delimiters old new = (new ≡ old)
    ⊎ ((length old ≡ delimiters) × (new ≡ old ++ cut ∷ []))
