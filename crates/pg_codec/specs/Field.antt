-- What the body of a message is put together of (Frontend/Backend Protocol, "Message Data Types"): how each part is spelled, and
-- what keeps it from having a spelling.
use Rattle.std.specs.Prelude.{ℕ, ℤ, ◌≡◌, ◌<◌, ◌^◌, ◌==◌, Bool, true, false, ◌||◌, nat_lt, List, [], ◌∷◌, ◌++◌, length, Option, Some, None}
use Rattle.std.specs.List.{flat_map, list_any, AllByRecursion}
use Rattle.std.specs.Int.{w16, w32, to_be_bytes, cast_unsigned}
use Rattle.std.specs.Int.RustNames.{FitsSigned}

-- A body, or a part of one: its bytes; whether its numbers are of their types (as all numbers of a program are); whether a String
-- has a zero byte, or a byte is zero that may not be; whether a list has more elements than its count can say; and whether what is
-- read of it holds a text or another list, for which memory is asked.
pub record Body : Type 1 where
  pub bytes : List ℕ
  pub IsOfType : Type 0
  pub has_zero : Bool
  pub has_too_many : Bool
  pub holds_list : Bool

infixl 6 ◌⨾◌
-- one part and then the other
abbrev pub ◌⨾◌ : Body → Body → Body
a ⨾ b = record {
  bytes = a.bytes ++ b.bytes;
  IsOfType = a.IsOfType × b.IsOfType;
  has_zero = a.has_zero || b.has_zero;
  has_too_many = a.has_too_many || b.has_too_many;
  holds_list = a.holds_list || b.holds_list;
}

-- ---- parts that nothing keeps from having a spelling, but a number that isn't of its type

-- these bytes
abbrev pub plain : List ℕ → Type 0 → Body
plain bytes IsOfType = record {
  bytes = bytes;
  IsOfType = IsOfType;
  has_zero = false;
  has_too_many = false;
  holds_list = false;
}

-- Int16: two bytes, the highest first
abbrev pub int16 : ℤ → Body
int16 n = plain (to_be_bytes w16 (cast_unsigned w16 n)) (FitsSigned w16 n)

-- Int32: four bytes, the highest first
abbrev pub int32 : ℤ → Body
int32 n = plain (to_be_bytes w32 (cast_unsigned w32 n)) (FitsSigned w32 n)

-- an object id: an Int32 that is read as unsigned
abbrev pub oid : ℕ → Body
oid n = plain (to_be_bytes w32 n) (n < 2 ^ 32)

-- Byte1: one byte
abbrev pub byte1 : ℕ → Body
byte1 b = plain (b ∷ []) (Unit {0})

-- Byte4: four bytes
abbrev pub byte4 : List ℕ → Body
byte4 bytes = plain bytes (length bytes ≡ 4)

-- Byten: bytes as they are, up to the end of the body
abbrev pub byten : List ℕ → Body
byten bytes = record (plain bytes (Unit {0})) { holds_list = true }

-- no bytes
abbrev pub nothing : Body
nothing = plain [] (Unit {0})

-- the length of a value and its bytes; the length -1 is null
abbrev pub value_bytes : Option (List ℕ) → List ℕ
value_bytes None = 255 ∷ 255 ∷ 255 ∷ 255 ∷ []
value_bytes (Some bytes) = to_be_bytes w32 (length bytes) ++ bytes

-- a value of a row or a parameter
abbrev pub value : Option (List ℕ) → Body
value v = byten (value_bytes v)

-- ---- parts that may have no spelling

-- the text has a zero byte, so it is no String
abbrev pub contains_zero : List ℕ → Bool
contains_zero text = list_any (λ b. b == 0) text

-- String: its bytes and a zero byte
abbrev pub string : List ℕ → Body
string text = record (byten (text ++ 0 ∷ [])) { has_zero = contains_zero text }

-- a byte that isn't zero
abbrev pub nonzero : ℕ → Body
nonzero b = record (byte1 b) { has_zero = b == 0 }

-- the elements of a list, one after the other; no element has a count of its own
abbrev pub listed : {A : Type 0} → (A → Body) → List A → Body
listed element xs = record {
  bytes = flat_map (λ x. (element x).bytes) xs;
  IsOfType = AllByRecursion (λ x. (element x).IsOfType) xs;
  has_zero = list_any (λ x. (element x).has_zero) xs;
  has_too_many = false;
  holds_list = true;
}

-- more elements than a 16-bit count can say
abbrev pub exceeds_count : {A : Type 0} → List A → Bool
exceeds_count xs = nat_lt 65535 (length xs)

-- a list after its number of elements, which is an Int16 that is read as unsigned
abbrev pub counted : {A : Type 0} → (A → Body) → List A → Body
counted element xs = record (listed element xs) {
  bytes = to_be_bytes w16 (length xs) ++ (listed element xs).bytes;
  has_too_many = exceeds_count xs;
}

-- a list and a zero byte after it
abbrev pub terminated : {A : Type 0} → (A → Body) → List A → Body
terminated element xs = record (listed element xs) {
  bytes = (listed element xs).bytes ++ 0 ∷ [];
}
