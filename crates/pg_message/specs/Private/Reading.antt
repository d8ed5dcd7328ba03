-- How the body of a message is read: the tag says what stands in it, and what was read makes the
-- message.
use Rattle.std.specs.Prelude.{ℕ, ◌≡◌, ◌==◌, if◌then◌else◌, Bool, true, false, List, [], ◌∷◌, length, Option, Some, None, is_some, IfSome, IsSomeAnd, Result, Ok, Err}
use Rattle.pg_codec.specs.declared.fault.BodyFault.{BodyFault}
use Rattle.pg_codec.specs.declared.fault.BodyFault.TheVariants as faults
use Rattle.pg_codec.specs.Field.{Body}
use Rattle.pg_codec.specs.Private.Reader.{◌>>=◌, nothing_at}
use Rattle.pg_codec.specs.Private.Lent.{left_after}
use Rattle.pg_message.specs.Direction.{TableRow}

-- What stands after one tag: the parts of a body, how they are spelled, how they are read, and the
-- message that they make, if they make one; and so the message of a whole body; and what judging a
-- body leaves of it, which is nothing where the body is a message's.
pub record Reading (M : Type 0) : Type 1 where
  pub tag : ℕ
  pub Parts : Type 0
  pub spelled : Parts → Body
  pub read : List ℕ → Option (Parts × List ℕ)
  pub make : Parts → Option M
  pub message : List ℕ → Option M
  pub left : List ℕ → Option (List ℕ)

-- the message of these parts, where nothing is left after them
abbrev pub made_of_whole : {M A : Type 0} → (A → Option M) → Option (A × List ℕ) → Option M
made_of_whole make read = read >>= λ x. if length x.1 == 0 then make x.0 else None

-- the reading of a tag, by how the parts are spelled and read, and what they make
abbrev pub reading_by : {M A : Type 0} → ℕ → (A → Body) → (List ℕ → Option (A × List ℕ))
    → (A → Option M) → (List ℕ → Option (List ℕ)) → Reading M
reading_by {M} {A} tag spelled read make left = record {
  tag = tag;
  Parts = A;
  spelled = spelled;
  read = read;
  make = make;
  message = λ bytes. made_of_whole make (read bytes);
  left = left;
}

-- the reading of a tag whose messages are all made of their parts, and are spelled as the table
-- says
abbrev pub reading : {M A : Type 0} → (M → TableRow) → ℕ → (List ℕ → Option (A × List ℕ))
    → (A → M) → Reading M
reading table tag read make = reading_by tag (λ a. (table (make a)).body) read
    (λ a. Some (make a)) (λ bytes. left_after (read bytes))

-- the reading of a tag with one message, which has no body
abbrev pub bare : {M : Type 0} → (M → TableRow) → ℕ → M → Reading M
bare table tag m = reading table tag nothing_at (λ _. m)

-- the first of these kinds that has this tag
abbrev pub with_tag : {M K : Type 0} → (K → Reading M) → ℕ → List K → Option K
with_tag of t [] = None
with_tag of t (k ∷ ks) = if t == (of k).tag then Some k else with_tag of t ks

-- nothing is left, where something was read
abbrev pub ends : Option (List ℕ) → Bool
ends None = false
ends (Some rest) = length rest == 0

-- Where memory ran out, the message that there is, if there is one, holds a list.
abbrev pub AsksFor : {M : Type 0} → (M → Bool) → Result M BodyFault → Option M → Type 0
AsksFor holds_list (Ok m) message = Unit {0}
AsksFor holds_list (Err faults.Bad) message = Unit {0}
AsksFor holds_list (Err faults.Memory) message = IfSome message (λ m. holds_list m ≡ true)

-- What reading a body returned, by the message that there is: Memory only where there is one that
-- holds a list.
abbrev pub ReadsWhole : {M : Type 0} → (M → Bool) → Result M BodyFault → Option M → Type 0
ReadsWhole holds_list (Ok m) message = message ≡ Some m
ReadsWhole holds_list (Err faults.Bad) message = is_some message ≡ false
ReadsWhole holds_list (Err faults.Memory) message = IsSomeAnd message (λ m. holds_list m ≡ true)
