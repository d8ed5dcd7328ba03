-- What is made of a tag and a body.
use Rattle.std.specs.Prelude.{ℕ, ◌≡◌, false, Bool, true, List, Result, Ok, Err}
use Rattle.pg_codec.specs.declared.fault.BodyFault.{BodyFault}
use Rattle.pg_codec.specs.declared.fault.BodyFault.TheVariants as faults
use Rattle.pg_message.specs.Direction.{Direction, HasSpelling}

-- Some message has this tag.
abbrev pub IsTag : {M : Type 0} → Direction M → ℕ → Type 0
IsTag {M} d t = (m : M) × (d.tag m ≡ t)

-- No message has this tag and this body.
abbrev pub NoMessage : {M : Type 0} → Direction M → ℕ → List ℕ → Type 0
NoMessage {M} d t bytes = (m : M) → HasSpelling d m → d.tag m ≡ t → d.body m ≡ bytes → ⊥

-- No two messages have the same tag and the same body.
abbrev pub OneToOne : {M : Type 0} → Direction M → Type 0
OneToOne {M} d = (m n : M) → HasSpelling d m → HasSpelling d n → d.tag m ≡ d.tag n
    → d.body m ≡ d.body n → m ≡ n

-- The message has this tag and this body, and a spelling unless the body is too long for one.
pub record IsMessage {M : Type 0} (d : Direction M) (t : ℕ) (bytes : List ℕ) (m : M) : Type 0 where
  pub tag_is : d.tag m ≡ t
  pub body_is : d.body m ≡ bytes
  pub of_type : d.IsOfType m
  pub no_zero : d.has_zero m ≡ false
  pub countable : d.has_too_many m ≡ false
  pub not_reserved : d.has_reserved_code m ≡ false

-- Whether a message has this tag.
abbrev pub TellsTag : {M : Type 0} → Direction M → ℕ → Bool → Type 0
TellsTag d t true = IsTag d t
TellsTag d t false = IsTag d t → ⊥

-- Whether this is the body of a message with this tag.
abbrev pub JudgesBody : {M : Type 0} → Direction M → ℕ → List ℕ → Bool → Type 0
JudgesBody {M} d t bytes true = (m : M) × IsMessage d t bytes m
JudgesBody d t bytes false = NoMessage d t bytes

-- Reading makes the message of this tag and this body, or says that there is none. Memory is wanted
-- only for what is a message, and one that holds a text or another list.
abbrev pub ReadsBody : {M : Type 0} → Direction M → ℕ → List ℕ → Result M BodyFault → Type 0
ReadsBody d t bytes (Ok m) = IsMessage d t bytes m
ReadsBody d t bytes (Err faults.Bad) = NoMessage d t bytes
ReadsBody {M} d t bytes (Err faults.Memory) = (m : M) × IsMessage d t bytes m
    × (d.holds_list m ≡ true)
