-- Laws of verdicts, replies, sessions, transcripts and logs.
use Rattle.std.specs.Prelude.{◌≡◌, ◌≤◌, ◌⊎◌, ℕ, true, false, List, [], ◌∷◌, ◌++◌, length, map, Some, None}
use Rattle.std.specs.List.{flat_map, list_all, AllByRecursion}
use Rattle.pg_wire.specs.message.BackMessage.{BackMessage}
use Rattle.pg_wire.specs.message.FrontMessage.{FrontMessage}
use Rattle.pg_wire.specs.message.FrontMessage.TheVariants as front
use Rattle.pg_wire.specs.declared.session.Request.{Request}
use Rattle.pg_wire.specs.Segment.{Fits, Segments, segments}
use Rattle.pg_wire.specs.Segment as segment
use Rattle.pg_backend.specs.declared.script.Answer.{Answer}
use Rattle.pg_backend.specs.declared.script.Logged.{Logged}
use Rattle.pg_backend.specs.declared.script.Script.{Script}
use Rattle.pg_backend.specs.Check.{has_one_copy}
use Rattle.pg_backend.specs.Fitting.{fits, answer_for}
use Rattle.pg_backend.specs.Lists.{IsPrefix}
use Rattle.pg_backend.specs.Replies.{Verdict, verdict, reply}
use Rattle.pg_backend.specs.Session.{Between, Terminated, session, replies, log_of}
use Rattle.pg_backend.specs.Opening.{welcome, question_for}
use Rattle.pg_backend.specs.Input.{Input, transcript, input_log}
use Rattle.pg_wire.specs.Turns.{Turn, turn_messages, AreCopies, AreCopied, chunks_of, copies_begun}
use Rattle.pg_backend.specs.Turns.{InTurn, turn_exchanges, turn_place, TookEach}

-- ---- one request

-- A verdict is final: no message after those that decided it changes it.
abbrev pub VerdictStands : Type 0
VerdictStands = (a : Answer) (ms more : List FrontMessage) (v : Verdict)
    → verdict a ms ≡ Some v → verdict a (ms ++ more) ≡ Some v

-- Once a request is decided, no further message changes the reply to it.
abbrev pub ReplyStands : Type 0
ReplyStands = (a : Answer) (ms more : List FrontMessage) (v : Verdict)
    → verdict a ms ≡ Some v → reply a (ms ++ more) ≡ reply a ms

-- More messages after a request only append to the reply.
abbrev pub ReplyGrows : Type 0
ReplyGrows = (a : Answer) (ms more : List FrontMessage)
    → IsPrefix (reply a ms) (reply a (ms ++ more))

-- The answer that a request gets fits it, since the internal error that stands for a missing answer
-- fits each request.
abbrev pub AnswerFits : Type 0
AnswerFits = (answers : List Answer) (r : Request) → fits r (answer_for answers r) ≡ true

-- The reply to a decided request is a whole segment, which fits the request with the verdict's
-- outcome.
abbrev pub ReplyFits : Type 0
ReplyFits = (r : Request) (a : Answer) (ms : List FrontMessage) (v : Verdict)
    → fits r a ≡ true → verdict a ms ≡ Some v → Fits r (reply a ms) v.outcome

-- What is sent for an undecided request is the beginning of a segment that fits it.
abbrev pub ReplyBegins : Type 0
ReplyBegins = (r : Request) (a : Answer) (ms : List FrontMessage)
    → fits r a ≡ true → verdict a ms ≡ None → segment.Begins r (reply a ms)

-- ---- a session

-- More messages only append to what is sent in a session.
abbrev pub RepliesGrow : Type 0
RepliesGrow = (answers : List Answer) (ms more : List FrontMessage)
    → IsPrefix (replies answers ms) (replies answers (ms ++ more))

-- More messages only append to the log of a session.
abbrev pub SessionLogGrows : Type 0
SessionLogGrows = (answers : List Answer) (ms more : List FrontMessage)
    → IsPrefix (log_of answers ms) (log_of answers (ms ++ more))

-- There are as many segments as log entries, and segment k fits the request of entry k with its
-- outcome.
abbrev pub FitEach : List Logged → List (List BackMessage) → Type 0
FitEach [] [] = Unit {0}
FitEach (l ∷ ls) (s ∷ ss) = Fits l.request s l.outcome × FitEach ls ss
FitEach _ _ = ⊥

-- The whole segments of what is sent in a session fit the entries of its log, one each.
abbrev pub SegmentsFitLog : Type 0
SegmentsFitLog = (answers : List Answer) (ms : List FrontMessage)
    → FitEach (log_of answers ms) (segments (replies answers ms)).whole

-- Each whole segment has at most one CopyInResponse, and so has the rest.
abbrev pub HaveOneCopy : Segments → Type 0
HaveOneCopy s = AllByRecursion (λ ms. copies_begun ms ≤ 1) s.whole × copies_begun s.rest ≤ 1

-- Where each answer has at most one copy from the client, so has each segment of what is sent.
abbrev pub OneCopyEach : Type 0
OneCopyEach = (answers : List Answer) (ms : List FrontMessage)
    → list_all has_one_copy answers ≡ true → HaveOneCopy (segments (replies answers ms))

-- The question to a client that is let in, if there is one, and the welcome are the first segment.
abbrev pub WelcomeIsSegment : Type 0
WelcomeIsSegment = (s : Script) (user : List ℕ) (ms : List BackMessage)
    → segments (question_for s.auth user ++ (welcome s ++ ms))
    ≡ record {
      whole = (question_for s.auth user ++ welcome s) ∷ (segments ms).whole;
      rest = (segments ms).rest;
    }

-- ---- a client that takes turns

-- In the session of a client that takes turns, each request is decided by its own copy messages.
-- Those that are left over from a copy have no effect on the next request.
abbrev pub TurnsRead : Type 0
TurnsRead = (answers : List Answer) (ts : List Turn) → InTurn answers ts
    → session answers (flat_map turn_messages ts)
    ≡ record { exchanges = turn_exchanges answers ts; place = turn_place answers ts }

-- A Terminate after the last turn ends the session, and changes no exchange.
abbrev pub TurnsEnd : Type 0
TurnsEnd = (answers : List Answer) (ts : List Turn) → InTurn answers ts
    → session answers (flat_map turn_messages ts ++ front.Terminate ∷ [])
    ≡ record { exchanges = turn_exchanges answers ts; place = Terminated }

-- These messages are a prefix of all that the turns and a Terminate after them send.
abbrev pub AreFirstOf : List FrontMessage → List Turn → Type 0
AreFirstOf handled ts = IsPrefix handled (flat_map turn_messages ts ++ front.Terminate ∷ [])

-- The log of a client that takes turns has its first requests, in order, however many of its
-- messages were handled.
abbrev pub TurnsLogged : Type 0
TurnsLogged = (answers : List Answer) (ts : List Turn) (handled : List FrontMessage)
    → InTurn answers ts → AreFirstOf handled ts
    → IsPrefix (map (λ l. l.request) (log_of answers handled)) (map (λ t. t.request) ts)

-- A client takes turns. For each request of the log, the chunks that were taken are the first that
-- it handed over for it, as Took says.
abbrev pub TurnsLoaded : Type 0
TurnsLoaded = (answers : List Answer) (ts : List Turn) (handled : List FrontMessage)
    → InTurn answers ts → AreCopied ts → AreFirstOf handled ts
    → TookEach (log_of answers handled) (map (λ t. chunks_of t.copies) ts)

-- A client that takes turns may make a next request once all that it made are in the log.
abbrev pub TurnsGoOn : Type 0
TurnsGoOn = (answers : List Answer) (ts : List Turn) (handled : List FrontMessage) (r : Request)
    → InTurn answers ts → IsPrefix handled (flat_map turn_messages ts)
    → length ts ≤ length (log_of answers handled)
    → InTurn answers (ts ++ record { request = r; copies = [] } ∷ [])

-- Once all requests of a client that takes turns are in the log, the session is between requests,
-- and the messages not handled yet (`left`) are copy messages alone.
abbrev pub TurnsLeft : Type 0
TurnsLeft = (answers : List Answer) (ts : List Turn) (handled left : List FrontMessage)
    → InTurn answers ts → flat_map turn_messages ts ≡ handled ++ left
    → length ts ≤ length (log_of answers handled)
    → AreCopies left × ((session answers handled).place ≡ Between)

-- ---- all that a backend sends and logs

-- The second input has at least what the first has: the same packets with more messages, or more
-- packets where no message has come. The first has found no faulty rest.
abbrev pub IsExtendedBy : Input → Input → Type 0
IsExtendedBy i j = (i.faulty ≡ false)
    × (((j.packets ≡ i.packets) × IsPrefix i.messages j.messages)
    ⊎ ((i.messages ≡ []) × IsPrefix i.packets j.packets))

-- A longer input only appends to what is sent.
abbrev pub TranscriptGrows : Type 0
TranscriptGrows = (s : Script) (i j : Input)
    → IsExtendedBy i j → IsPrefix (transcript s i) (transcript s j)

-- A longer input only appends to the log.
abbrev pub LogGrows : Type 0
LogGrows = (s : Script) (i j : Input)
    → IsExtendedBy i j → IsPrefix (input_log s i) (input_log s j)
