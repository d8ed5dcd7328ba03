-- What the calls of a carrier do, and what is delivered of a piece that it has carried.
use Rattle.std.specs.Prelude.{ℕ, ◌≡◌, ◌≤◌, nat_eq, nat_lt, cond, Bool, true, List, [], ◌∷◌, length, take, Result, Ok, Err}
use Rattle.pg_wire.specs.Link.{HasRisen}
pub use Rattle.pg_wire.specs.Link.{longest_piece}
use Rattle.pg_pair.specs.declared.carry.CarryFault.{CarryFault}
use Rattle.pg_pair.specs.declared.carry.Way.{Way}

-- what one call of a carrier may do: the carrier before it, the way, the piece that it is lent, the
-- bytes that arrive or a fault, and the carrier after it
abbrev pub Carrying : Type 0 → Type 1
Carrying C = C → Way → List ℕ → Result (List ℕ) CarryFault → C → Type 0

-- what arrived, by a call's result: the first n bytes of the buffer that the carrier filled, or its
-- fault
abbrev pub arrival : Result ℕ CarryFault → List ℕ → Result (List ℕ) CarryFault
arrival (Ok n) buffer = Ok (take n buffer)
arrival (Err fault) buffer = Err fault

-- No more bytes arrive than the piece has.
abbrev pub IsWithinPiece : Result ℕ CarryFault → List ℕ → Type 0
IsWithinPiece (Ok n) piece = n ≤ length piece
IsWithinPiece (Err fault) piece = Unit {0}

-- The carrier's count of failures, before and after a call: it rises with a fault (or stays at its
-- greatest value, 2^64 - 1), and with nothing else.
abbrev pub CountsFaults : Result ℕ CarryFault → ℕ → ℕ → Type 0
CountsFaults (Ok n) old new = new ≡ old
CountsFaults (Err fault) old new = HasRisen old new

-- ---- what is delivered

-- the longest list that both lists begin with
abbrev pub same_front : List ℕ → List ℕ → List ℕ
same_front [] ys = []
same_front (x ∷ xs) [] = []
same_front (x ∷ xs) (y ∷ ys) = cond (nat_eq x y) (x ∷ same_front xs ys) []

-- the bytes of a piece that are given to the receiving end: those before the first that arrived
-- changed; none where the carrier failed
abbrev pub delivered : List ℕ → Result (List ℕ) CarryFault → List ℕ
delivered piece (Ok bytes) = same_front piece bytes
delivered piece (Err f) = []

-- whether a piece breaks its way: the carrier failed, or a byte arrived that isn't the one sent.
-- Fewer bytes alone break nothing.
abbrev pub is_bad : List ℕ → Result (List ℕ) CarryFault → Bool
is_bad piece (Ok bytes) = nat_lt (length (same_front piece bytes)) (length bytes)
is_bad piece (Err f) = true
