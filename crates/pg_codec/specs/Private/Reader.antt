-- Reading at the beginning of the bytes: a value and the bytes after it, or None. The readers of the code follow these
-- one for one. What is read is spelled so, and what is spelled so is read: the laws are in proofs/Layouts.antt.
use Rattle.std.specs.Prelude.{ℕ, zero, suc, ℤ, ◌≡◌, ◌+◌, ◌==◌, if◌then◌else◌, Bool, true, false, nat_lt, List, [], ◌∷◌, length, take, drop, position, Option, Some, None, Result, Ok, Err}
use Rattle.std.specs.Int.{Width, w16, w32, byte_len, from_be_bytes, cast_signed}
use Rattle.pg_codec.specs.declared.fault.BodyFault.{BodyFault}
use Rattle.pg_codec.specs.declared.fault.BodyFault.TheVariants as faults
use Rattle.pg_codec.specs.declared.value.Status.{Status}
use Rattle.pg_codec.specs.declared.value.Status.TheVariants.{Idle, InBlock, Failed}
use Rattle.pg_codec.specs.declared.value.Column.{Column}
use Rattle.pg_codec.specs.declared.value.ErrorField.{ErrorField}
use Rattle.pg_codec.specs.declared.value.CopyHead.{CopyHead}

infixl 10 ◌>>=◌
-- what a value leads to, where there is one
abbrev pub ◌>>=◌ : {A B : Type 0} → Option A → (A → Option B) → Option B
(Some x) >>= f = f x
None >>= f = None

-- Reading gives nothing, where that is the fault; nothing is claimed where memory ran out.
abbrev pub Fails : {Y : Type 0} → BodyFault → Option Y → Type 0
Fails faults.Memory read = Unit {0}
Fails faults.Bad read = read ≡ None

-- What a function returned, seen by view, is what reading gives, unless memory ran out.
abbrev pub Gives : {X Y : Type 0} → (X → Y) → Result X BodyFault → Option Y → Type 0
Gives view (Ok x) read = read ≡ Some (view x)
Gives view (Err e) read = Fails e read

-- ---- ways to put readers together

-- one value and then another
abbrev pub pair_at : {A B : Type 0} → (List ℕ → Option (A × List ℕ))
    → (List ℕ → Option (B × List ℕ)) → List ℕ → Option ((A × B) × List ℕ)
pair_at first second bytes = first bytes >>= λ a. second a.1 >>= λ b. Some ((a.0, b.0), b.1)

-- what is made of the value that is read
abbrev pub mapped_at : {A B : Type 0} → (A → B) → (List ℕ → Option (A × List ℕ)) → List ℕ
    → Option (B × List ℕ)
mapped_at f read bytes = read bytes >>= λ a. Some (f a.0, a.1)

-- this many values, one after the other
unfoldable pub times_at : {A : Type 0} → (List ℕ → Option (A × List ℕ)) → ℕ → List ℕ
    → Option (List A × List ℕ)
times_at read zero bytes = Some ([], bytes)
times_at read (suc n) bytes = read bytes >>= λ first. times_at read n first.1
    >>= λ others. Some (first.0 ∷ others.0, others.1)

-- what stands after a zero byte
abbrev pub after_zero : List ℕ → Option (List ℕ)
after_zero [] = None
after_zero (zero ∷ rest) = Some rest
after_zero (suc b ∷ rest) = None

-- the first of two that there is
abbrev pub or_else : {A : Type 0} → Option A → Option A → Option A
or_else (Some x) other = Some x
or_else None other = other

-- a list up to a zero byte, of at most so many elements
unfoldable pub up_to_zero_at : {A : Type 0} → (List ℕ → Option (A × List ℕ)) → ℕ → List ℕ
    → Option (List A × List ℕ)
up_to_zero_at read zero bytes = None
up_to_zero_at read (suc n) bytes = or_else
    (after_zero bytes >>= λ rest. Some ([], rest))
    (read bytes >>= λ first. up_to_zero_at read n first.1
    >>= λ others. Some (first.0 ∷ others.0, others.1))

-- a list up to a zero byte; each element has a byte at least
unfoldable pub terminated_at : {A : Type 0} → (List ℕ → Option (A × List ℕ)) → List ℕ
    → Option (List A × List ℕ)
terminated_at read bytes = up_to_zero_at read (length bytes) bytes

-- all the bytes, of which something is made
abbrev pub whole : {A B : Type 0} → (A → B) → Option (A × List ℕ) → Option B
whole make read = read >>= λ x. if length x.1 == 0 then Some (make x.0) else None

-- ---- fields

-- no bytes
abbrev pub nothing_at : List ℕ → Option (Unit {0} × List ℕ)
nothing_at bytes = Some (tt, bytes)

-- all the bytes that are left
abbrev pub byten_at : List ℕ → Option (List ℕ × List ℕ)
byten_at bytes = Some (bytes, [])

-- a number of this width, the highest byte first
abbrev pub number_at : Width → List ℕ → Option (ℕ × List ℕ)
number_at w bytes = if nat_lt (length bytes) (byte_len w) then None
    else Some (from_be_bytes w (take (byte_len w) bytes), drop (byte_len w) bytes)

-- a number of this width that may be negative
abbrev pub signed_at : Width → List ℕ → Option (ℤ × List ℕ)
signed_at w bytes = mapped_at (cast_signed w) (number_at w) bytes

-- one byte
abbrev pub byte_at : List ℕ → Option (ℕ × List ℕ)
byte_at [] = None
byte_at (b ∷ rest) = Some (b, rest)

-- a byte that isn't zero
abbrev pub nonzero_at : List ℕ → Option (ℕ × List ℕ)
nonzero_at [] = None
nonzero_at (zero ∷ rest) = None
nonzero_at (suc b ∷ rest) = Some (suc b, rest)

-- the bytes before the first zero byte
abbrev pub string_at : List ℕ → Option (List ℕ × List ℕ)
string_at bytes = position (λ b. b == 0) bytes >>= λ i. Some (take i bytes, drop (i + 1) bytes)

-- the length of a value that says null, read as unsigned
abbrev pub null_length : ℕ
null_length = 4294967295

-- the bytes of a value, whose length was read
abbrev pub value_of_length : ℕ → List ℕ → Option (Option (List ℕ) × List ℕ)
value_of_length n bytes = if n == null_length then Some (None, bytes) else if nat_lt 2147483647 n
    then None else if nat_lt (length bytes) n then None
    else Some (Some (take n bytes), drop n bytes)

-- a value: its length and its bytes, or null
unfoldable pub value_at : List ℕ → Option (Option (List ℕ) × List ℕ)
value_at bytes = number_at w32 bytes >>= λ n. value_of_length n.0 n.1

-- a list after its number of elements
unfoldable pub counted_at : {A : Type 0} → (List ℕ → Option (A × List ℕ)) → List ℕ
    → Option (List A × List ℕ)
counted_at read bytes = number_at w16 bytes >>= λ n. times_at read n.0 n.1

-- the fields of a column, in the order in which they are spelled
abbrev pub ColumnParts : Type 0
ColumnParts = (((((List ℕ × ℕ) × ℤ) × ℕ) × ℤ) × ℤ) × ℤ

-- the column that has these fields
abbrev pub column_of_parts : ColumnParts → Column
column_of_parts ((((((name, table_oid), attribute), type_oid), size), modifier), format) =
    record {
      name = name;
      table_oid = table_oid;
      attribute = attribute;
      type_oid = type_oid;
      size = size;
      modifier = modifier;
      format = format;
    }

-- a column of RowDescription
unfoldable pub column_at : List ℕ → Option (Column × List ℕ)
column_at bytes = mapped_at column_of_parts
    (pair_at (pair_at (pair_at (pair_at (pair_at (pair_at string_at
    (number_at w32)) (signed_at w16)) (number_at w32)) (signed_at w16)) (signed_at w32))
    (signed_at w16)) bytes

-- a field of an error or a notice
unfoldable pub error_field_at : List ℕ → Option (ErrorField × List ℕ)
error_field_at bytes = mapped_at (λ (f : ℕ × List ℕ). record { code = f.0; value = f.1 })
    (pair_at nonzero_at string_at) bytes

-- a byte that stands for one of a few values
abbrev pub choice_at : {A : Type 0} → (ℕ → Option A) → List ℕ → Option (A × List ℕ)
choice_at choose bytes = byte_at bytes >>= λ b. choose b.0 >>= λ a. Some (a, b.1)

-- the status that a byte stands for
abbrev pub status_of_byte : ℕ → Option Status
status_of_byte b = if b == 73 then Some Idle else if b == 84 then Some InBlock else if b == 69
    then Some Failed else None

-- the overall format of a copy that a byte stands for
abbrev pub binary_of_byte : ℕ → Option Bool
binary_of_byte b = if b == 0 then Some false else if b == 1 then Some true else None

-- what begins a copy
unfoldable pub copy_head_at : List ℕ → Option (CopyHead × List ℕ)
copy_head_at bytes = mapped_at (λ (h : Bool × List ℤ). record { binary = h.0; formats = h.1 })
    (pair_at (choice_at binary_of_byte) (counted_at (signed_at w16))) bytes

-- a String that isn't empty
abbrev pub name_at : List ℕ → Option (List ℕ × List ℕ)
name_at bytes = string_at bytes >>= λ n. if length n.0 == 0 then None else Some n

-- a parameter of a startup packet
unfoldable pub parameter_at : List ℕ → Option ((List ℕ × List ℕ) × List ℕ)
parameter_at bytes = pair_at name_at string_at bytes
