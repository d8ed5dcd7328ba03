-- What whole lines and whole texts come to.
use Rattle.std.specs.Prelude.{ℕ, ◌≡◌, ◌≢◌, ◌==◌, Bool, true, false, not, if◌then◌else◌, List, [], ◌∷◌, ◌++◌, codes}
use Rattle.std.specs.List.{AllByRecursion}
use Rattle.pgpipe_show.specs.ColoredPart.{cyan, ends_word, red, reset}

-- None of these bytes ends a first word.
abbrev pub IsWord : List ℕ → Type 0
IsWord word = AllByRecursion (λ b. ends_word b ≡ false) word

-- what can follow the first word in its line: nothing, or a space or a comma and more
abbrev pub FollowsWord : List ℕ → Type 0
FollowsWord [] = Unit {0}
FollowsWord (b ∷ rest) = (ends_word b ≡ true) × AllByRecursion (λ c. c ≢ 10) (b ∷ rest)

-- a line, without its end, whose first word is another than `ErrorResponse`: the word is cyan
abbrev pub named_line : List ℕ → List ℕ → List ℕ
named_line word rest = cyan ++ word ++ reset ++ rest

-- the line of an ErrorResponse, without its end: the word is cyan, and what follows it is red
abbrev pub error_line : List ℕ → List ℕ
error_line [] = cyan ++ codes "ErrorResponse" ++ reset
error_line (b ∷ rest) = cyan ++ codes "ErrorResponse" ++ reset ++ red ++ b ∷ rest ++ reset

-- a text without its escapes, each from the byte 27 to the next `m`; the text begins within one or not
abbrev pub without_escapes : Bool → List ℕ → List ℕ
without_escapes within [] = []
without_escapes false (b ∷ text) =
    if b == 27 then without_escapes true text else b ∷ without_escapes false text
without_escapes true (b ∷ text) = without_escapes (not (b == 109)) text
