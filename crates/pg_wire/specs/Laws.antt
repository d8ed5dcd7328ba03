-- Laws of spellings and streams, for every message and every list of bytes.
use Rattle.std.specs.Prelude.{ℕ, ◌≡◌, ◌≤◌, Bool, true, false, List, [], ◌∷◌, ◌++◌, ◌⊎◌, Some, None, Err}
use Rattle.std.specs.List.{flat_map, AllByRecursion}
use Rattle.pg_wire.specs.declared.fault.WireFault.{WireFault}
use Rattle.pg_wire.specs.declared.fault.WireFault.TheVariants as wire
use Rattle.pg_message.specs.declared.message.First.{First}
use Rattle.pg_message.specs.declared.message.BackMessage.{BackMessage}
use Rattle.pg_message.specs.declared.message.BackMessage.TheVariants.{Ready}
use Rattle.pg_message.specs.declared.message.FrontMessage.TheVariants.{Password}
use Rattle.pg_codec.specs.declared.value.Status.{Status}
use Rattle.pg_wire.specs.declared.session.Outcome.{Outcome}
use Rattle.pg_wire.specs.declared.session.Request.{Request}
use Rattle.pg_wire.specs.Segment.{Fits, Segments, segments, status_of}
use Rattle.pg_wire.specs.First.{packet, IsPacket, EndsIn, IsBeginning, IsFaultyPacket, BeginsNoPacket}
use Rattle.pg_message.specs.Direction.{Direction, spelling, HasSpelling}
use Rattle.pg_message.specs.Frontend.{frontend}
use Rattle.pg_wire.specs.Password.{md5_text}
pub use Rattle.pg_message.specs.Message.{OneToOne}
use Rattle.pg_wire.specs.Decoder.{DecoderState, Takes, WantsMemory}
use Rattle.pg_wire.specs.Stream.{IsWithin, IsStream, IsFaulty, BeginsNoMessage}

-- Two messages with the same bytes are one, and no message's bytes begin another's.
abbrev pub OneSpelling : {M : Type 0} → Direction M → Type 0
OneSpelling {M} d = (m n : M) (x y : List ℕ) → HasSpelling d m → HasSpelling d n
    → spelling d m ++ x ≡ spelling d n ++ y → (m ≡ n) × (x ≡ y)

-- A stream has one reading. Take two, the second with a rest that no message begins: the messages
-- of the first begin those of the second, and what the first leaves is the second's further
-- messages and its rest.
abbrev pub OneReading : {M : Type 0} → Direction M → Type 0
OneReading {M} d = (limit : ℕ) (bytes : List ℕ) (ms ns : List M) (x y : List ℕ)
    → IsStream d limit bytes ms x → IsStream d limit bytes ns y → BeginsNoMessage d limit y
    → (later : List M) × (ns ≡ ms ++ later) × (x ≡ flat_map (spelling d) later ++ y)

-- A faulty rest begins no message.
abbrev pub FaultyBeginsNone : {M : Type 0} → Direction M → Type 0
FaultyBeginsNone d = (limit : ℕ) (rest : List ℕ) (f : WireFault) → IsFaulty d limit rest f
    → BeginsNoMessage d limit rest

-- A rest is faulty for one reason at most.
abbrev pub OneFault : {M : Type 0} → Direction M → Type 0
OneFault d = (limit : ℕ) (rest : List ℕ) (f g : WireFault) → 64 ≤ limit → IsFaulty d limit rest f
    → IsFaulty d limit rest g → f ≡ g

-- A fault that `next` returns is Memory, and nothing has changed; or it was found before; or
-- the rest has it, and each later call returns it.
abbrev pub FaultOfNext : {M : Type 0} → Direction M → Type 0
FaultOfNext {M} d = (old : DecoderState) (f : WireFault) (new : DecoderState)
    → Takes {M = M} d old (Err f) new
    → ((f ≡ wire.Memory) × (old.fault ≡ None) × (new ≡ old) × WantsMemory d old.limit old.kept)
    ⊎ ((old.fault ≡ Some f) × (new ≡ old))
    ⊎ ((old.fault ≡ None) × (new ≡ record old { fault = Some f })
    × IsFaulty d old.limit old.kept f)

-- What encoders wrote is read as what was meant: however much of joined spellings is read, it is
-- the first of those messages, and the rest is the spellings of the others.
abbrev pub RoundTrip : {M : Type 0} → Direction M → Type 0
RoundTrip {M} d = (limit : ℕ) (ms given : List M) (rest : List ℕ)
    → AllByRecursion (IsWithin d limit) ms → IsStream d limit (flat_map (spelling d) ms) given rest
    → (later : List M) × (ms ≡ given ++ later) × (rest ≡ flat_map (spelling d) later)

-- ---- first packets

-- Two packets with the same bytes are one, and no packet's bytes begin another's.
abbrev pub OnePacket : Type 0
OnePacket = (p q : First) (x y : List ℕ) → IsPacket p → IsPacket q → packet p ++ x ≡ packet q ++ y
    → (p ≡ q) × (x ≡ y)

-- A reading of first packets can't go further: a Startup or a Cancel was read (true), or no packet
-- begins the rest.
abbrev pub ReadsNoFurther : Bool → List ℕ → Type 0
ReadsNoFurther true rest = Unit {0}
ReadsNoFurther false rest = BeginsNoPacket rest

-- A connection's beginning has one reading. Take two, where the second can't go further: the packets
-- of the first begin those of the second, and what the first leaves is the second's further packets
-- and its rest.
abbrev pub OneBeginning : Type 0
OneBeginning = (bytes : List ℕ) (ps qs : List First) (e f : Bool) (x y : List ℕ)
    → IsBeginning bytes ps e x → IsBeginning bytes qs f y → ReadsNoFurther f y
    → (later : List First) × (qs ≡ ps ++ later) × (x ≡ flat_map packet later ++ y)

-- A rest that is faulty for a first packet begins no packet.
abbrev pub FaultyBeginsNoPacket : Type 0
FaultyBeginsNoPacket = (rest : List ℕ) (f : WireFault) → IsFaultyPacket rest f → BeginsNoPacket rest

-- A rest where a first packet may come is faulty for one reason at most.
abbrev pub OnePacketFault : Type 0
OnePacketFault = (rest : List ℕ) (f g : WireFault) → IsFaultyPacket rest f → IsFaultyPacket rest g
    → f ≡ g

-- What encoders wrote is read as what was meant: however much of the joined packets is read, it is
-- the first of them, and the rest is the others' bytes.
abbrev pub PacketsAgain : Type 0
PacketsAgain = (ps given : List First) (e f : Bool) (rest : List ℕ) → AllByRecursion IsPacket ps
    → EndsIn ps f → IsBeginning (flat_map packet ps) given e rest
    → (later : List First) × (ps ≡ given ++ later) × (rest ≡ flat_map packet later)

-- ---- segments

-- A segment fits a request with at most one outcome.
abbrev pub OneOutcome : Type 0
OneOutcome = (request : Request) (segment : List BackMessage) (one other : Outcome)
    → Fits request segment one → Fits request segment other → one ≡ other

-- None of the messages is a ReadyForQuery.
abbrev pub NoReady : List BackMessage → Type 0
NoReady ms = AllByRecursion (λ m. status_of m ≡ None) ms

-- The last message is a ReadyForQuery, and no other one is.
abbrev pub EndsAtReady : List BackMessage → Type 0
EndsAtReady segment = (body : List BackMessage) × (status : Status)
    × (segment ≡ body ++ Ready status ∷ []) × NoReady body

-- The segments and the rest are these messages in order, cut after each ReadyForQuery and nowhere
-- else.
pub record AreSegments (ms : List BackMessage) (s : Segments) : Type 0 where
  pub joined : ms ≡ flat_map (λ segment. segment) s.whole ++ s.rest
  pub closed : AllByRecursion EndsAtReady s.whole
  pub open_rest : NoReady s.rest

-- `segments` cuts the messages after each ReadyForQuery, and there is one such cut.
abbrev pub OneCut : Type 0
OneCut = ((ms : List BackMessage) → AreSegments ms (segments ms))
    × ((ms : List BackMessage) (s t : Segments) → AreSegments ms s → AreSegments ms t → s ≡ t)

-- ---- passwords

-- The PasswordMessage that answers an AuthMd5 has a spelling, for each user, password and salt.
abbrev pub AnswerIsSpelled : Type 0
AnswerIsSpelled = (user password salt : List ℕ)
    → HasSpelling frontend (Password (md5_text user password salt))
