-- What is done for one request.
use Rattle.std.specs.Prelude.{ℕ, ◌≡◌, List, [], ◌∷◌, ◌++◌, map, Some, None, Result, Ok, Err}
use Rattle.pg_wire.specs.message.BackMessage.{BackMessage}
use Rattle.pg_wire.specs.message.BackMessage.TheVariants as back
use Rattle.pg_wire.specs.value.CopyHead.{CopyHead}
use Rattle.pg_wire.specs.value.ErrorField.{ErrorField}
use Rattle.pg_wire.specs.declared.session.Request.{Request}
use Rattle.pg_backend.specs.declared.answering.Opened.{Opened}
use Rattle.pg_backend.specs.declared.answering.Opened.TheVariants as opened
use Rattle.pg_backend.specs.declared.answering.Split.{Split}
use Rattle.pg_backend.specs.declared.answering.Split.TheVariants as split
use Rattle.pg_backend.specs.declared.fault.BackendFault.{BackendFault}
use Rattle.pg_backend.specs.declared.fault.BackendFault.TheVariants as faults
use Rattle.pg_backend.specs.declared.script.Answer.{Answer}
use Rattle.pg_backend.specs.declared.script.Load.{Load}
use Rattle.pg_backend.specs.declared.script.Logged.{Logged}
use Rattle.pg_backend.specs.declared.stage.Loading.{Loading}
use Rattle.pg_backend.specs.declared.script.ScriptPart.{ScriptPart}
use Rattle.pg_backend.specs.Lists.{IsPrefix}
use Rattle.pg_backend.specs.Replies.{Whole, Copies, shape, Verdict, verdict, outcome_at, aside_message, parts_sent, after_end, reply}
use Rattle.pg_backend.specs.Private.Moves.{load_of, parts_before, parts_after}
use Rattle.pg_backend.specs.Private.Telling.{AreSent}

-- Memory ran out, and some bytes may stand after what was there.
abbrev pub Refuses : List ℕ → BackendFault → List ℕ → Type 0
Refuses old f new = (f ≡ faults.Memory) × IsPrefix old new

-- These messages were sent, and this is logged.
abbrev pub Gives : List BackMessage → Logged
    → List ℕ → Result Logged BackendFault → List ℕ → Type 0
Gives ms logged old (Ok l) new = (l ≡ logged) × AreSent ms old new
Gives ms logged old (Err f) new = Refuses old f new

-- The answer was sent up to its copy, which is awaited.
abbrev pub BeginsCopy : Request → Answer → List ScriptPart → CopyHead → Load
    → List ℕ → Result Loading BackendFault → List ℕ → Type 0
BeginsCopy r a before head load old (Ok c) new =
    (c ≡ record { request = r; load = load; loaded = [] })
    × AreSent (map aside_message a.before ++ (parts_sent before ++ back.CopyIn head ∷ [])) old new
BeginsCopy r a before head load old (Err f) new = Refuses old f new

-- The reply that a request has at once was sent, and it is decided or not.
abbrev pub Opens : Request → Answer → List ℕ → Result Opened BackendFault → List ℕ → Type 0
Opens r a old (Ok (opened.Decided l)) new = (v : Verdict) × (verdict a [] ≡ Some v)
    × (l ≡ record { request = r; outcome = v.outcome; loaded = v.loaded })
    × AreSent (reply a []) old new
Opens r a old (Ok (opened.Copies c)) new = (verdict a [] ≡ None)
    × (c ≡ record { request = r; load = load_of (shape a.parts); loaded = [] })
    × AreSent (reply a []) old new
Opens r a old (Err f) new = Refuses old f new

-- A copy has ended with this result, and what comes after it was sent.
abbrev pub Decides : Request → Answer → List (List ℕ) → Result (List ℕ) (List ErrorField)
    → List ℕ → Result Logged BackendFault → List ℕ → Type 0
Decides r a loaded end = Gives (after_end a (parts_after a.parts) end)
    (record { request = r; outcome = outcome_at a (parts_before a.parts) end; loaded = loaded })

-- How the parts are split is their shape.
abbrev pub IsSplit : List ScriptPart → Split → Type 0
IsSplit parts split.Whole = shape parts ≡ Whole
IsSplit parts (split.Copies before head load later) =
    shape parts ≡ Copies before.now head.now load.now later.now
