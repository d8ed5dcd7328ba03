-- A direction of the protocol: a tagged message as bytes, and which messages have no spelling
-- (Frontend/Backend Protocol, "Message Formats").
use Rattle.std.specs.Prelude.{ℕ, ◌≡◌, ◌≤◌, ◌+◌, Bool, false, List, length, Option, None}
use Rattle.pg_codec.specs.declared.fault.EncodeFault.{EncodeFault}
pub use Rattle.pg_codec.specs.Field.{Body}
pub use Rattle.pg_message.specs.Appending.{longest, tagged, fault_of}

-- What the messages of a direction are made of: the first byte, what stands after the length field, whether the numbers
-- are of their types (as all numbers of a program are), the tests that a message with a spelling doesn't meet, and whether it holds
-- a text or another list, for which memory is asked.
pub record Direction (M : Type 0) : Type 1 where
  pub tag : M → ℕ
  pub body : M → List ℕ
  pub IsOfType : M → Type 0
  pub has_zero : M → Bool
  pub has_too_many : M → Bool
  pub has_reserved_code : M → Bool
  pub holds_list : M → Bool

-- the length field: it counts itself and the body
abbrev pub length_field : {M : Type 0} → Direction M → M → ℕ
length_field d m = 4 + length (d.body m)

-- What a decoder's limit may be.
abbrev pub IsLimit : ℕ → Type 0
IsLimit n = (64 ≤ n) × (n ≤ longest)

-- a message as bytes
abbrev pub spelling : {M : Type 0} → Direction M → M → List ℕ
spelling d m = tagged (d.tag m) (d.body m)

-- why a message has no spelling, if it has none
abbrev pub encode_fault : {M : Type 0} → Direction M → M → Option EncodeFault
encode_fault d m = fault_of (d.has_zero m) (d.has_too_many m) (d.has_reserved_code m)
    (length (d.body m))

-- What has a spelling.
pub record HasSpelling {M : Type 0} (d : Direction M) (m : M) : Type 0 where
  pub of_type : d.IsOfType m
  pub no_fault : encode_fault d m ≡ None

-- ---- tables

-- A row of a table of messages: the tag, the body, and whether the message has a code that other
-- messages have.
pub record TableRow : Type 1 where
  pub tag : ℕ
  pub body : Body
  pub has_reserved_code : Bool

-- the row of a message that has no such code
abbrev pub row : ℕ → Body → TableRow
row tag body = record { tag = tag; body = body; has_reserved_code = false }

-- the direction whose messages are those of a table
abbrev pub listed_in : {M : Type 0} → (M → TableRow) → Direction M
listed_in table = record {
  tag = λ m. (table m).tag;
  body = λ m. (table m).body.bytes;
  IsOfType = λ m. (table m).body.IsOfType;
  has_zero = λ m. (table m).body.has_zero;
  has_too_many = λ m. (table m).body.has_too_many;
  has_reserved_code = λ m. (table m).has_reserved_code;
  holds_list = λ m. (table m).body.holds_list;
}
