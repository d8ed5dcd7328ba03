-- Which escape is written before a byte of a line.
use Rattle.std.specs.Prelude.{ℕ, ◌+◌, ◌==◌, ◌&&◌, ◌||◌, not, Bool, nat_lt, get_or, if◌then◌else◌, List, [], ◌∷◌, ◌++◌, codes}
use Rattle.pgpipe_show.specs.declared.color.part.LinePart.{LinePart}
use Rattle.pgpipe_show.specs.declared.color.part.LinePart.TheVariants.{Start, ErrorName, Name, Rest, ErrorRest}

-- ECMA-48, "Select graphic rendition": bold and cyan
abbrev pub cyan : List ℕ
cyan = 27 ∷ codes "[1;36m"

-- ECMA-48, "Select graphic rendition": red
abbrev pub red : List ℕ
red = 27 ∷ codes "[31m"

-- ECMA-48, "Select graphic rendition": neither bold nor coloured
abbrev pub reset : List ℕ
reset = 27 ∷ codes "[0m"

-- a space, a comma and the line's end
abbrev pub ends_word : ℕ → Bool
ends_word b = (b == 32) || (b == 44) || (b == 10)

-- the first word with one more byte, where it was the first n bytes of `ErrorResponse`
abbrev pub name_with_byte : ℕ → ℕ → LinePart
name_with_byte n b =
    if nat_lt n 13 && (get_or (codes "ErrorResponse") n 0 == b) then ErrorName (n + 1)
    else Name

-- The escape before a byte: cyan where a first word begins; where it ends, its reset, and red where an
-- `ErrorResponse` goes on; and a reset where the line of that ends.
abbrev pub escape : LinePart → ℕ → List ℕ
escape Start b = if ends_word b then [] else cyan
escape (ErrorName n) b =
    if not (ends_word b) then []
    else if (n == 13) && not (b == 10) then reset ++ red
    else reset
escape Name b = if ends_word b then reset else []
escape Rest b = []
escape ErrorRest b = if b == 10 then reset else []

-- the part after a byte that isn't the line's end
abbrev pub within : LinePart → ℕ → LinePart
within Start b = if ends_word b then Rest else name_with_byte 0 b
within (ErrorName n) b =
    if not (ends_word b) then name_with_byte n b else if n == 13 then ErrorRest else Rest
within Name b = if ends_word b then Rest else Name
within Rest b = Rest
within ErrorRest b = ErrorRest

-- the part after a byte: a new line begins after a line's end
abbrev pub next : LinePart → ℕ → LinePart
next part b = if b == 10 then Start else within part b

-- the coloured form of these bytes, from this part on
unfoldable pub colored : LinePart → List ℕ → List ℕ
colored part [] = []
colored part (b ∷ bytes) = escape part b ++ b ∷ colored (next part b) bytes

-- the part after these bytes
unfoldable pub part_after : LinePart → List ℕ → LinePart
part_after part [] = part
part_after part (b ∷ bytes) = part_after (next part b) bytes
