-- What was collected of a segment, and what one more message adds to it.
use Rattle.std.specs.Prelude.{◌≡◌, ℕ, ℤ, Bool, true, false, List, [], ◌∷◌, ◌++◌, map, Option, Some, None}
use Rattle.std.specs.List.{flat_map}
use Rattle.pg_wire.specs.message.BackMessage.{BackMessage}
use Rattle.pg_wire.specs.message.BackMessage.TheVariants as back
use Rattle.pg_wire.specs.value.Column.{Column}
use Rattle.pg_wire.specs.value.CopyHead.{CopyHead}
use Rattle.pg_wire.specs.value.Status.{Status}
use Rattle.pg_wire.specs.value.Target.TheVariants.{Statement}
use Rattle.pg_wire.specs.declared.session.Aside.{Aside}
use Rattle.pg_wire.specs.declared.session.ExecEnd.TheVariants as ends
use Rattle.pg_wire.specs.declared.session.Outcome.{Outcome}
use Rattle.pg_wire.specs.declared.session.Part.{Part}
use Rattle.pg_wire.specs.declared.session.Part.TheVariants as part
use Rattle.pg_wire.specs.declared.session.Step.{Step}
use Rattle.pg_wire.specs.declared.session.Step.TheVariants as step
use Rattle.pg_wire.specs.Segment.{Answers, Asked, Fields, messages_of, Reads, Results, Steps}
use Rattle.pg_response.specs.declared.collected.Unfinished.{Unfinished}
use Rattle.pg_response.specs.declared.place.Open.{Open}
use Rattle.pg_response.specs.declared.place.Open.TheVariants as opened
use Rattle.pg_response.specs.declared.place.Place.{Place}
use Rattle.pg_response.specs.Place.{still_asked}

-- the values of a row; None is null
abbrev pub RowValues : Type 0
RowValues = List (Option (List ℕ))

-- what a clause sees of what was collected
pub record CollectedView : Type 0 where
  -- the whole results or answers
  pub parts : List Part
  -- what has come of the one that isn't whole
  pub unfinished : Unfinished
  -- the first error
  pub error : Option Fields
  pub asides : List Aside

-- nothing has come
abbrev pub nothing_yet : Unfinished
nothing_yet =
    record {
      columns = [];
      types = [];
      head = record { binary = false; formats = [] };
      rows = [];
      chunks = [];
    }

-- nothing
abbrev pub nothing_collected : CollectedView
nothing_collected =
    record { parts = []; unfinished = nothing_yet; error = None; asides = [] }

-- ---- what one more message adds

-- with an aside more
abbrev pub collected_with : CollectedView → Aside → CollectedView
collected_with c a = record c { asides = c.asides ++ a ∷ [] }

-- with an error, which cuts off what is unfinished, if none came before
abbrev pub failed_with : CollectedView → Option Fields → Fields → CollectedView
failed_with c None fields = record c { unfinished = nothing_yet; error = Some fields }
failed_with c (Some first) fields = c

-- whether this is a query
abbrev pub is_query : Asked → Bool
is_query Results = true
is_query (Steps steps) = false

-- whether columns begin the rows of a result
abbrev pub begins_rows : Asked → Open → Bool
begins_rows a opened.Nothing = is_query a
begins_rows a o = false

-- the part that the tag of a complete command ends
abbrev pub completed_by : Asked → Open → Unfinished → List ℕ → Part
completed_by a opened.Rows u tag = part.Rows u.columns u.rows tag
completed_by a opened.CopyOutEnded u tag = part.CopyOut u.head u.chunks tag
completed_by a opened.CopyIn u tag = part.CopyIn u.head tag
completed_by Results opened.Nothing u tag = part.Command tag
completed_by a o u tag = part.Executed u.rows (ends.Complete tag)

-- the part that an empty query ends
abbrev pub emptied_by : Asked → Open → Unfinished → Part
emptied_by a opened.Executed u = part.Executed u.rows ends.Empty
emptied_by Results opened.Nothing u = part.Empty
emptied_by a o u = part.Executed u.rows ends.Empty

-- what a Describe asked for
abbrev pub described_by : Open → Unfinished → Option (List Column) → Part
described_by opened.Described u columns = part.Described (Some u.types) columns
described_by o u columns = part.Described None columns

-- the part that its last message ends
abbrev pub whole_part : Asked → Open → Unfinished → BackMessage → Option Part
whole_part a o u (back.CommandComplete tag) = Some (completed_by a o u tag)
whole_part a o u back.EmptyQuery = Some (emptied_by a o u)
whole_part a o u back.PortalSuspended = Some (part.Executed u.rows ends.Suspended)
whole_part a o u (back.RowDescription columns) = Some (described_by o u (Some columns))
whole_part a o u back.NoData = Some (described_by o u None)
whole_part a o u back.ParseComplete = Some part.Parsed
whole_part a o u back.BindComplete = Some part.Bound
whole_part a o u back.CloseComplete = Some part.Shut
whole_part a o u _ = None

-- with a part more, if there is one, and nothing unfinished
abbrev pub closed_with : CollectedView → Option Part → CollectedView
closed_with c None = record c { unfinished = nothing_yet }
closed_with c (Some p) = record c { parts = c.parts ++ p ∷ []; unfinished = nothing_yet }

-- with the part that ends with this message
abbrev pub closed_by : Asked → Open → CollectedView → BackMessage → CollectedView
closed_by a o c m = closed_with c (whole_part a o c.unfinished m)

-- with a row more
abbrev pub row_added : CollectedView → RowValues → CollectedView
row_added c row =
    record c { unfinished = record c.unfinished { rows = c.unfinished.rows ++ row ∷ [] } }

-- with the head of a copy
abbrev pub with_head : CollectedView → CopyHead → CollectedView
with_head c head = record c { unfinished = record c.unfinished { head = head } }

-- with columns, by whether they begin the rows of a result
abbrev pub with_columns : Bool → Open → CollectedView → List Column → CollectedView
with_columns true o c columns =
    record c { unfinished = record c.unfinished { columns = columns } }
with_columns false o c columns = closed_with c (Some (described_by o c.unfinished (Some columns)))

-- with what a message adds, where this is unfinished and the message may come
abbrev pub collect : Asked → Open → CollectedView → BackMessage → CollectedView
collect a o c (back.DataRow row) = row_added c row
collect a o c (back.CopyData chunk) =
    record c { unfinished = record c.unfinished { chunks = c.unfinished.chunks ++ chunk ∷ [] } }
collect a o c back.CopyDone = c
collect a o c (back.CopyOut head) = with_head c head
collect a o c (back.CopyIn head) = with_head c head
collect a o c (back.ParameterDescription types) =
    record c { unfinished = record c.unfinished { types = types } }
collect a o c (back.RowDescription columns) = with_columns (begins_rows a o) o c columns
collect a o c (back.ErrorResponse fields) = failed_with c c.error fields
collect a o c m = closed_by a o c m

-- the outcome that a ReadyForQuery with this status gives
abbrev pub outcome_of : CollectedView → Status → Outcome
outcome_of c status =
    record { parts = c.parts; error = c.error; status = status; asides = c.asides }

-- ---- what was collected of which messages

-- the first messages of a part, of which this has come
abbrev pub come_of : Open → Unfinished → List BackMessage
come_of opened.Nothing u = []
come_of opened.Rows u = back.RowDescription u.columns ∷ map back.DataRow u.rows
come_of opened.CopyOut u = back.CopyOut u.head ∷ map back.CopyData u.chunks
come_of opened.CopyOutEnded u =
    back.CopyOut u.head ∷ map back.CopyData u.chunks ++ back.CopyDone ∷ []
come_of opened.CopyIn u = back.CopyIn u.head ∷ []
come_of opened.Described u = back.ParameterDescription u.types ∷ []
come_of opened.Executed u = map back.DataRow u.rows

-- What is asked may be answered by a part that begins so. Where no part has begun, nothing has
-- come.
abbrev pub Opens : Asked → Open → Unfinished → Type 0
Opens a opened.Nothing u = u ≡ nothing_yet
Opens a opened.Described u = (name : List ℕ) × (ss : List Step)
    × (a ≡ Steps (step.Describe Statement name ∷ ss))
Opens a opened.Executed u = (portal : List ℕ) × (max_rows : ℤ) × (ss : List Step)
    × (a ≡ Steps (step.Execute portal max_rows ∷ ss))
Opens a o u = a ≡ Results

-- No error came: the messages are whole parts, and the beginning of one more, of which this was
-- collected.
pub record HoldsParts (a : Asked) (ms : List BackMessage) (p : Place)
    (c : CollectedView) : Type 0 where
  -- what is left to be answered
  pub rest : Asked
  pub answered : Answers a c.parts rest
  pub still : still_asked a p.answers ≡ rest
  pub opens : Opens rest p.opened c.unfinished
  pub no_error : c.error ≡ None
  pub messages : ms ≡ flat_map messages_of c.parts ++ come_of p.opened c.unfinished

-- An error came: the messages are whole parts, perhaps a beginning of one more, and errors, of which
-- the first was collected. Nothing is unfinished any more.
pub record HoldsError (a : Asked) (ms : List BackMessage) (p : Place)
    (c : CollectedView) : Type 0 where
  pub none_open : p.opened ≡ opened.Nothing
  pub fields : Fields
  pub error : c.error ≡ Some fields
  pub reads : Reads a ms c.parts (Some fields)

-- This was collected of these messages, which are no asides and lead to a place with or without an
-- error.
abbrev pub HoldsBy : Bool → Asked → List BackMessage → Place → CollectedView → Type 0
HoldsBy true a ms p c = HoldsError a ms p c
HoldsBy false a ms p c = HoldsParts a ms p c

-- This was collected of these messages, which are no asides and lead to this place.
abbrev pub Holds : Asked → List BackMessage → Place → CollectedView → Type 0
Holds a ms p c = HoldsBy p.failed a ms p c
