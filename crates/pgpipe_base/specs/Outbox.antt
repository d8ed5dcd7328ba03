-- Lines as text, and text that is collected and then sent.
use Rattle.std.specs.Prelude.{ℕ, ◌≡◌, ◌≤◌, List, [], ◌∷◌, ◌++◌, length, Result, Ok, Err}
use Rattle.std.specs.Fmt.{decimal}
use Rattle.std.specs.List.{FoldsTo, concat}
use Rattle.pg_wire.specs.declared.link.LinkFault.{LinkFault}
use Rattle.pg_wire.specs.Link.{Counts}
use Rattle.hex.specs.Hex.{encode_lower}
use mathlib.Core.List.{IsPrefix}

-- ---- a line: a name, a length in decimal and bytes in hexadecimal, parted by spaces

-- bytes in hexadecimal, or `-` where there are none
abbrev pub body_text : List ℕ → List ℕ
body_text [] = 45 ∷ []
body_text (b ∷ bytes) = encode_lower (b ∷ bytes)

-- the line of a name, a length and bytes: with a space between them and a newline after
abbrev pub line_of : List ℕ → ℕ → List ℕ → List ℕ
line_of name n bytes = name ++ (32 ∷ []) ++ decimal n ++ (32 ∷ []) ++ body_text bytes ++ (10 ∷ [])

-- ---- text that is collected and sent

-- the most bytes that are collected before they are sent
abbrev pub most_collected : ℕ
most_collected = 65536

-- Of all the text, what was sent and what is still collected are the first and the last part; where
-- the sink failed, what was sent is a prefix.
abbrev pub IsSentBut : {A : Type 0} → Result A LinkFault → List ℕ → List ℕ → List ℕ → Type 0
IsSentBut (Ok x) all sent collected = all ≡ sent ++ collected
IsSentBut (Err fault) all sent collected = IsPrefix sent all

-- Text was put after what was collected, and what had no room was sent to the sink in pieces.
-- `collected'` and `sink'` are what is collected and the sink afterwards.
pub record Puts {K A : Type 0} (takes : K → List ℕ → K → Type 0) (failures : K → ℕ)
    (collected : List ℕ) (sink : K) (text : List ℕ) (result : Result A LinkFault)
    (collected' : List ℕ) (sink' : K) : Type 0 where
  pub pieces : List (List ℕ)
  pub calls : FoldsTo takes sink pieces sink'
  pub sent : IsSentBut result (collected ++ text) (concat pieces) collected'
  pub counted : Counts (failures sink) result (failures sink')

-- If no more was collected before than there is room for, so it is afterwards.
abbrev pub StaysWithin : List ℕ → List ℕ → Type 0
StaysWithin collected collected' = length collected ≤ most_collected
    → length collected' ≤ most_collected
