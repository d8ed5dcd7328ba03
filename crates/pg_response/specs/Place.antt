-- Where one is in the segment of a request. A place goes on from message to message, by the mark of
-- each, and alone decides what may come.
use Rattle.std.specs.Prelude.{ℕ, ◌+◌, List, [], ◌∷◌, length, drop, nat_lt, nat_le, cond, Bool, true, false, Option, Some, None}
use Rattle.std.specs.Option.{option_map}
use Rattle.pg_wire.specs.message.BackMessage.{BackMessage}
use Rattle.pg_wire.specs.message.BackMessage.TheVariants as back
use Rattle.pg_wire.specs.value.Target.TheVariants.{Statement, Portal}
use Rattle.pg_wire.specs.declared.session.Step.{Step}
use Rattle.pg_wire.specs.declared.session.Step.TheVariants as step
use Rattle.pg_wire.specs.Segment.{Asked, Results, Steps}
use Rattle.pg_response.specs.declared.mark.Mark.{Mark}
use Rattle.pg_response.specs.declared.mark.Mark.TheVariants as mark
use Rattle.pg_response.specs.declared.place.Open.{Open}
use Rattle.pg_response.specs.declared.place.Open.TheVariants as opened
use Rattle.pg_response.specs.declared.place.Place.{Place}

-- the mark of a message: what it is, without what it carries
abbrev pub mark_of : BackMessage → Mark
mark_of (back.RowDescription columns) = mark.RowDescription
mark_of (back.DataRow values) = mark.DataRow
mark_of (back.CommandComplete tag) = mark.CommandComplete
mark_of back.EmptyQuery = mark.EmptyQuery
mark_of (back.CopyOut head) = mark.CopyOut
mark_of (back.CopyIn head) = mark.CopyIn
mark_of (back.CopyData bytes) = mark.CopyData
mark_of back.CopyDone = mark.CopyDone
mark_of (back.ParameterDescription types) = mark.ParameterDescription
mark_of back.NoData = mark.NoData
mark_of back.PortalSuspended = mark.PortalSuspended
mark_of back.ParseComplete = mark.ParseComplete
mark_of back.BindComplete = mark.BindComplete
mark_of back.CloseComplete = mark.CloseComplete
mark_of (back.ErrorResponse fields) = mark.Error
mark_of _ = mark.Other

-- ---- what is unfinished after a message, if it may come

-- After one more message of what is unfinished. A row may follow rows, a chunk chunks. Nothing is
-- unfinished after the last message of a result or an answer.
abbrev pub follows : Open → Mark → Option Open
follows opened.Rows mark.DataRow = Some opened.Rows
follows opened.Rows mark.CommandComplete = Some opened.Nothing
follows opened.CopyOut mark.CopyData = Some opened.CopyOut
follows opened.CopyOut mark.CopyDone = Some opened.CopyOutEnded
follows opened.CopyOutEnded mark.CommandComplete = Some opened.Nothing
follows opened.CopyIn mark.CommandComplete = Some opened.Nothing
follows opened.Described mark.RowDescription = Some opened.Nothing
follows opened.Described mark.NoData = Some opened.Nothing
follows opened.Executed mark.DataRow = Some opened.Executed
follows opened.Executed mark.CommandComplete = Some opened.Nothing
follows opened.Executed mark.EmptyQuery = Some opened.Nothing
follows opened.Executed mark.PortalSuspended = Some opened.Nothing
follows _ _ = None

-- After the first message of a query's result ("Simple Query").
abbrev pub begins_result : Mark → Option Open
begins_result mark.RowDescription = Some opened.Rows
begins_result mark.CommandComplete = Some opened.Nothing
begins_result mark.EmptyQuery = Some opened.Nothing
begins_result mark.CopyOut = Some opened.CopyOut
begins_result mark.CopyIn = Some opened.CopyIn
begins_result _ = None

-- After the first message of the answer to a step ("Extended Query"). The columns of a portal come
-- as those of a statement, and the rows of one as further rows do.
abbrev pub begins_answer : Step → Mark → Option Open
begins_answer (step.Parse name text types) mark.ParseComplete = Some opened.Nothing
begins_answer (step.Bind portal statement formats values result_formats) mark.BindComplete =
    Some opened.Nothing
begins_answer (step.Close target name) mark.CloseComplete = Some opened.Nothing
begins_answer (step.Describe Statement name) mark.ParameterDescription = Some opened.Described
begins_answer (step.Describe Portal name) m = follows opened.Described m
begins_answer (step.Execute portal max_rows) m = follows opened.Executed m
begins_answer _ _ = None

-- After the first message of the next result, or of the answer to the next step.
abbrev pub begins : Asked → Mark → Option Open
begins Results m = begins_result m
begins (Steps []) m = None
begins (Steps (s ∷ ss)) m = begins_answer s m

-- what is left to be answered after so many answers; of a query any number of results
abbrev pub still_asked : Asked → ℕ → Asked
still_asked Results n = Results
still_asked (Steps steps) n = Steps (drop n steps)

-- After one more message, by what was asked, how many answers are whole, and what is unfinished.
abbrev pub next_open : Asked → ℕ → Open → Mark → Option Open
next_open a n opened.Nothing m = begins (still_asked a n) m
next_open a n o m = follows o m

-- ---- places

-- the place before the first message
abbrev pub start : Place
start = record { answers = 0; opened = opened.Nothing; failed = false }

-- how many steps are answered once one more is; the results of a query aren't counted
abbrev pub one_more : Asked → ℕ → ℕ
one_more Results n = n
one_more (Steps steps) n = cond (nat_lt n (length steps)) (n + 1) n

-- the place where this is unfinished now: where nothing is, one more is answered
abbrev pub led_to : Asked → Place → Open → Place
led_to a p opened.Nothing = record p { answers = one_more a p.answers; opened = opened.Nothing }
led_to a p o = record p { opened = o }

-- Where a message with this mark leads, if it may come, which is neither an aside nor ReadyForQuery.
-- After an error only further errors may come.
abbrev pub goes : Asked → Place → Mark → Option Place
goes a p mark.Error = Some (record p { opened = opened.Nothing; failed = true })
goes a p m = cond p.failed None (option_map (led_to a p) (next_open a p.answers p.opened m))

-- where any number of such messages lead
abbrev pub goes_by : Asked → Option Place → List BackMessage → Option Place
goes_by a p [] = p
goes_by a None (m ∷ ms) = None
goes_by a (Some p) (m ∷ ms) = goes_by a (goes a p (mark_of m)) ms

-- The place of a segment that consists of these messages, its asides left out. None: no answer to
-- what was asked begins so.
abbrev pub goes_all : Asked → List BackMessage → Option Place
goes_all a ms = goes_by a (Some start) ms

-- whether all that was asked is answered
abbrev pub all_answered : Asked → ℕ → Bool
all_answered Results n = true
all_answered (Steps steps) n = nat_le (length steps) n

-- whether all is answered, where nothing is unfinished
abbrev pub ends_with : Asked → Open → ℕ → Bool
ends_with a opened.Nothing n = all_answered a n
ends_with a _ n = false

-- whether ReadyForQuery may come at the place: so, or after an error
abbrev pub may_end : Asked → Place → Bool
may_end a p = cond p.failed true (ends_with a p.opened p.answers)
