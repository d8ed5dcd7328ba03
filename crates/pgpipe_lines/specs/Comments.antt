-- Comments in SCRIPT and CALLS: lines that begin with `#`, which are made empty.
use Rattle.std.specs.Prelude.{ℕ, ◌==◌, ◌||◌, Bool, true, false, if◌then◌else◌, List, [], ◌∷◌, ◌++◌}
use Rattle.pgpipe_lines.specs.declared.comments.BytePlace.{BytePlace}
use Rattle.pgpipe_lines.specs.declared.comments.BytePlace.TheVariants as place

-- a newline or a return, which ends a line unless a backslash stands before it
abbrev pub ends_line : ℕ → Bool
ends_line b = b == 10 || b == 13

-- where the byte after this one stands, in a line that is no comment
abbrev pub after_in_line : ℕ → BytePlace
after_in_line b = if ends_line b then place.Start else if b == 92 then place.Escaped else place.Line

-- where the byte after this one stands; in a comment a backslash escapes nothing
abbrev pub after : BytePlace → ℕ → BytePlace
after place.Start b = if b == 35 then place.Comment else after_in_line b
after place.Line b = after_in_line b
after place.Escaped b = place.Line
after place.Comment b = if ends_line b then place.Start else place.Comment

-- what is left of a byte that stands there: of a comment only what ends its line
abbrev pub left_of : BytePlace → ℕ → List ℕ
left_of place.Start b = if b == 35 then [] else b ∷ []
left_of place.Line b = b ∷ []
left_of place.Escaped b = b ∷ []
left_of place.Comment b = if ends_line b then b ∷ [] else []

-- what is left of these bytes, the first of which stands there
unfoldable pub uncommented_from : BytePlace → List ℕ → List ℕ
uncommented_from p [] = []
uncommented_from p (b ∷ bytes) = left_of p b ++ uncommented_from (after p b) bytes

-- the bytes of a file, with each comment made an empty line
abbrev pub uncommented : List ℕ → List ℕ
uncommented bytes = uncommented_from place.Start bytes

-- the text that is read of a file with these bytes: without its comments, if it may have any (true)
abbrev pub text_of : Bool → List ℕ → List ℕ
text_of false bytes = bytes
text_of true bytes = uncommented bytes
