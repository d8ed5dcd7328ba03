-- What the first bytes of a stream look like.
use Rattle.std.specs.Prelude.{ℕ, Bool, ◌||◌, nat_eq, if◌then◌else◌, List, [], ◌∷◌, Option, Some, None, option_map, codes}
use Rattle.std.specs.List.{starts_with}
use Rattle.pgpipe_explain.specs.declared.guess.Guess.{Guess}
use Rattle.pgpipe_explain.specs.declared.guess.Guess.TheVariants as guess

-- whether these bytes begin with that mark
abbrev pub begins_with : List ℕ → List ℕ → Bool
begins_with bytes mark = starts_with nat_eq bytes mark

-- the marks of a file of captured packets: pcap in either order of bytes, with micro- or nanoseconds, and
-- pcapng
abbrev pub is_capture : List ℕ → Bool
is_capture first =
    begins_with first (212 ∷ 195 ∷ 178 ∷ 161 ∷ []) || begins_with first (161 ∷ 178 ∷ 195 ∷ 212 ∷ [])
    || begins_with first (77 ∷ 60 ∷ 178 ∷ 161 ∷ []) || begins_with first (161 ∷ 178 ∷ 60 ∷ 77 ∷ [])
    || begins_with first (10 ∷ 13 ∷ 13 ∷ 10 ∷ [])

-- a refusal of encryption, and after it another one, or the tag of an Authentication or an error
abbrev pub is_refusal : List ℕ → Bool
is_refusal first =
    begins_with first (codes "NR") || begins_with first (codes "NE")
    || begins_with first (codes "NN")

-- a grant of encryption, with a refusal of the other kind before it or without, and TLS after it
abbrev pub is_granted : List ℕ → Bool
is_granted first =
    begins_with first (83 ∷ 22 ∷ 3 ∷ []) || begins_with first (78 ∷ 83 ∷ 22 ∷ 3 ∷ [])

-- of what is read as a server's stream: a client's begins with the length of its first packet
abbrev pub back_guess : List ℕ → Option Guess
back_guess first =
    if is_refusal first then Some guess.Refusal
    else if begins_with first (0 ∷ 0 ∷ []) then Some guess.Client
    else None

-- of what is read as a client's stream: a server's begins with an Authentication, an error, or a refusal
-- of encryption
abbrev pub front_guess : List ℕ → Option Guess
front_guess first =
    if begins_with first (82 ∷ 0 ∷ 0 ∷ []) || begins_with first (69 ∷ 0 ∷ 0 ∷ [])
    || is_refusal first
    then Some guess.Server else None

-- what a stream that begins so looks like, if it can't be what is read
abbrev pub guess_of : Bool → List ℕ → Option Guess
guess_of front first =
    if is_capture first then Some guess.Capture
    else if begins_with first (22 ∷ 3 ∷ []) then Some guess.Tls
    else if is_granted first then Some guess.Granted
    else if front then front_guess first
    else back_guess first

-- the same guess, where there is a file of each side
abbrev pub exchanged : Guess → Guess
exchanged guess.Client = guess.Exchanged
exchanged guess.Server = guess.Exchanged
exchanged g = g

-- what a stream that begins so looks like, if it can't be that side's, where there is a file of each
abbrev pub side_guess : Bool → List ℕ → Option Guess
side_guess front first = option_map exchanged (guess_of front first)
