-- What one message does: where it leads, which answers are left, what is sent, what is logged.
use Rattle.std.specs.Prelude.{ℕ, Bool, true, false, ◌==◌, length, List, [], ◌∷◌, ◌++◌, Option, Some, None, if◌then◌else◌, Result, Ok, Err}
use Rattle.std.specs.Str.{bytes_eq}
use Rattle.pg_wire.specs.message.BackMessage.{BackMessage}
use Rattle.pg_wire.specs.message.BackMessage.TheVariants as back
use Rattle.pg_wire.specs.value.ErrorField.{ErrorField}
use Rattle.pg_wire.specs.message.FrontMessage.{FrontMessage}
use Rattle.pg_wire.specs.message.FrontMessage.TheVariants as front
use Rattle.pg_wire.specs.declared.session.Request.{Request}
use Rattle.pg_wire.specs.declared.session.Request.TheVariants as request
use Rattle.pg_wire.specs.declared.session.Step.{Step}
use Rattle.pg_wire.specs.Frontend.{frontend}
use Rattle.pg_backend.specs.declared.meaning.InCopy.{InCopy}
use Rattle.pg_backend.specs.declared.meaning.InCopy.TheVariants as copy
use Rattle.pg_backend.specs.declared.meaning.Meaning.{Meaning}
use Rattle.pg_backend.specs.declared.meaning.Meaning.TheVariants.{Asks, Adds, Closes, Drops, Leaves, Strays}
use Rattle.pg_backend.specs.declared.script.Answer.{Answer}
use Rattle.pg_backend.specs.declared.script.Load.{Load}
use Rattle.pg_backend.specs.declared.script.Load.TheVariants.{Accept, Refuse}
use Rattle.pg_backend.specs.declared.script.Logged.{Logged}
use Rattle.pg_backend.specs.declared.script.Script.{Script}
use Rattle.pg_backend.specs.declared.script.ScriptPart.{ScriptPart}
use Rattle.pg_backend.specs.declared.script.ScriptPart.TheVariants as part
use Rattle.pg_backend.specs.declared.stage.Awaits.{Awaits}
use Rattle.pg_backend.specs.declared.stage.Awaits.TheVariants as awaits
use Rattle.pg_backend.specs.declared.stage.Next.{Next}
use Rattle.pg_backend.specs.declared.stage.Next.TheVariants as next
use Rattle.pg_backend.specs.Fitting.{answer_for, others}
use Rattle.pg_backend.specs.Meaning.{in_copy, meaning}
use Rattle.pg_backend.specs.OwnError.{canceled, out_of_copy, fatal_unexpected, wrong_password}
use Rattle.pg_backend.specs.Replies.{Shape, Whole, Copies, shape, Verdict, verdict, outcome_at, after_end, reply}
use Rattle.pg_backend.specs.Session.{logged}
use Rattle.pg_backend.specs.Opening.{welcome}

-- what a message does: where it leads, the answers that are left, what is sent and what is logged
pub record Move : Type 0 where
  pub next : Next
  pub left : List Answer
  pub sent : List BackMessage
  pub logged : List Logged

-- nothing is sent
abbrev pub stays : List Answer → Awaits → Move
stays left awaits = record { next = next.Goes awaits; left = left; sent = []; logged = [] }

-- the session ends, and nothing is sent
abbrev pub ends : List Answer → Move
ends left = record { next = next.Ends; left = left; sent = []; logged = [] }

-- a message of this tag can't stand in its place
abbrev pub strays : List Answer → ℕ → Move
strays left tag = record {
  next = next.Strays tag;
  left = left;
  sent = back.ErrorResponse fatal_unexpected ∷ [];
  logged = [];
}

-- ---- a password

-- the password is the one that is awaited, or it isn't
abbrev pub entered : Script → List Answer → Bool → Move
entered s left true = record {
  next = next.Goes (awaits.Request []);
  left = left;
  sent = welcome s;
  logged = [];
}
entered s left false = record {
  next = next.Ends;
  left = left;
  sent = back.ErrorResponse wrong_password ∷ [];
  logged = [];
}

-- a message where this password is awaited
abbrev pub entering : Script → List Answer → List ℕ → FrontMessage → Move
entering s left expected (front.Password password) = entered s left (bytes_eq password expected)
entering s left expected front.Terminate = ends left
entering s left expected m = strays left (frontend.tag m)

-- ---- a request

-- what becomes of a copy from the client
abbrev pub load_of : Shape → Load
load_of Whole = Accept []
load_of (Copies before head load after) = load

-- a request with its answer, which is decided at once or not
abbrev pub opened : List Answer → Request → Answer → Option Verdict → Move
opened left r a None = record {
  next = next.Goes (awaits.Data
      (record { request = r; load = load_of (shape a.parts); loaded = [] }));
  left = left;
  sent = reply a [];
  logged = [];
}
opened left r a (Some v) = record {
  next = next.Goes (awaits.Request []);
  left = others left;
  sent = reply a [];
  logged = logged r (Some v);
}

-- a request, where these answers are left
abbrev pub requested : List Answer → Request → Move
requested left r = opened left r (answer_for left r) (verdict (answer_for left r) [])

-- what a message of this meaning does where a request is awaited, or the next step after these
abbrev pub between : List Answer → List Step → Meaning → Move
between left [] (Asks text) = requested left (request.Query text)
between left (s ∷ ss) (Asks text) = strays left 81
between left steps (Adds s) = stays left (awaits.Request (steps ++ s ∷ []))
between left steps Closes = requested left (request.Group steps)
between left steps Drops = stays left (awaits.Request steps)
between left steps Leaves = ends left
between left steps Strays = strays left 112

-- ---- the data of a copy

-- the parts before the first copy from the client
abbrev pub parts_before : List ScriptPart → List ScriptPart
parts_before [] = []
parts_before (part.CopyIn head load ∷ ps) = []
parts_before (p ∷ ps) = p ∷ parts_before ps

-- the parts after it
abbrev pub parts_after : List ScriptPart → List ScriptPart
parts_after [] = []
parts_after (part.CopyIn head load ∷ ps) = ps
parts_after (p ∷ ps) = parts_after ps

-- the tag or the error that the script ends the copy with
abbrev pub load_result : Load → Result (List ℕ) (List ErrorField)
load_result (Accept tag) = Ok tag
load_result (Refuse after fields) = Err fields

-- the chunk of this number is rejected
abbrev pub refuses_at : Load → ℕ → Bool
refuses_at (Accept tag) n = false
refuses_at (Refuse after fields) n = after == n

-- what a message does to a copy with these chunks: it is decided, it goes on, or the client leaves
pub data CopyEffect : Type 0 where
  Decides : (loaded : List (List ℕ)) → (result : Result (List ℕ) (List ErrorField)) → CopyEffect
  Keeps : (loaded : List (List ℕ)) → CopyEffect
  Abandons : CopyEffect

-- what a message of this meaning does to a copy with these chunks
abbrev pub effect : Load → List (List ℕ) → InCopy → CopyEffect
effect load loaded (copy.Chunk bytes) =
    let more = loaded ++ bytes ∷ [] in
    if refuses_at load (length more) then Decides more (load_result load) else Keeps more
effect load loaded copy.Done = Decides loaded (load_result load)
effect load loaded (copy.Fails reason) = Decides loaded (Err (canceled reason))
effect load loaded copy.Strays = Decides loaded (Err out_of_copy)
effect load loaded copy.Waits = Keeps loaded
effect load loaded copy.Leaves = Abandons

-- the copy has ended, with these chunks and this result
abbrev pub decided : List Answer → Request → List (List ℕ)
    → Result (List ℕ) (List ErrorField) → Move
decided left r loaded result =
    let a = answer_for left r in
    record {
      next = next.Goes (awaits.Request []);
      left = others left;
      sent = after_end a (parts_after a.parts) result;
      logged = record {
        request = r;
        outcome = outcome_at a (parts_before a.parts) result;
        loaded = loaded;
      } ∷ [];
    }

-- what a message with this effect on a request's copy does
abbrev pub has_effect : List Answer → Request → Load → CopyEffect → Move
has_effect left r load (Decides loaded result) = decided left r loaded result
has_effect left r load (Keeps loaded) =
    stays left (awaits.Data (record { request = r; load = load; loaded = loaded }))
has_effect left r load Abandons = ends left

-- ---- a message

-- what a message does where this is awaited
abbrev pub move : Script → List Answer → Awaits → FrontMessage → Move
move s left (awaits.Password expected) m = entering s left expected m
move s left (awaits.Request steps) m = between left steps (meaning m)
move s left (awaits.Data c) m =
    has_effect left c.request c.load (effect c.load c.loaded (in_copy m))
