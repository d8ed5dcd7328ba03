-- What a request comes to at once.
use Rattle.std.proofs.Common.{◌≡◌, ℕ, zero, suc, List, [], ◌∷◌, ◌++◌, Some, None, map, refl, ap, arith}
use Rattle.pg_wire.specs.message.BackMessage.TheVariants as back
use Rattle.pg_wire.specs.value.CopyHead.{CopyHead}
use Rattle.pg_wire.specs.value.ErrorField.{ErrorField}
use Rattle.pg_wire.specs.declared.session.Request.{Request}
use Rattle.pg_backend.specs.declared.script.Answer.{Answer}
use Rattle.pg_backend.specs.declared.script.Load.{Load}
use Rattle.pg_backend.specs.declared.script.Load.TheVariants.{Accept, Refuse}
use Rattle.pg_backend.specs.declared.script.Logged.{Logged}
use Rattle.pg_backend.specs.declared.script.ScriptPart.{ScriptPart}
use Rattle.pg_backend.specs.declared.script.ScriptPart.TheVariants as part
use Rattle.pg_backend.specs.declared.stage.Loading.{Loading}
use Rattle.pg_backend.specs.Outcome.{parts_of, whole_outcome}
use Rattle.pg_backend.specs.Replies.{Shape, Whole, Copies, after_part, shape, Verdict, verdict, verdict_of, aside_message, parts_sent, end_sent, reply, reply_of}
use Rattle.pg_backend.specs.Awaited.{NotRefused}
use Rattle.pg_backend.specs.Private.Moves.{load_of, parts_before, parts_after}
use Rattle.pg_backend.specs.Private.Telling.{AreSent}

after_whole : (p : ScriptPart) (s : Shape) → after_part p s ≡ Whole → s ≡ Whole
after_whole p Whole is = refl
after_whole p (Copies before head load later) is = cc

-- there is no copy from the client
pub no_copy_parts : (ps : List ScriptPart) → shape ps ≡ Whole → (parts_before ps ≡ ps) × (parts_after ps ≡ [])
no_copy_parts [] is = (refl, refl)
no_copy_parts (part.CopyIn head load ∷ ps) is = cc
no_copy_parts (p ∷ ps) is = let more = no_copy_parts ps (after_whole p (shape ps) is) in (ap (λ l. p ∷ l) more.0, more.1)

-- what is decided at once, and what is sent for it
abbrev pub IsDecided : Request → Answer → Logged → List ℕ → List ℕ → Type 0
IsDecided r a l old new = (v : Verdict) × (verdict a [] ≡ Some v) × (l ≡ record { request = r; outcome = v.outcome; loaded = v.loaded }) × AreSent (reply a []) old new

pub whole_decided : (r : Request) (a : Answer) (l : Logged) (old new : List ℕ) → shape a.parts ≡ Whole
    → l ≡ record { request = r; outcome = whole_outcome a; loaded = [] } → AreSent (map aside_message a.before ++ (parts_sent a.parts ++ end_sent a.error a)) old new → IsDecided r a l old new
whole_decided r a l old new is logged put =
    let v : Verdict = record { outcome = whole_outcome a; loaded = []; taken = 0 } in
    (v, rw is refl, logged, (let same : reply a [] ≡ map aside_message a.before ++ (parts_sent a.parts ++ end_sent a.error a) = rw is refl in rw same put))

pub refused_decided : (r : Request) (a : Answer) (before : List ScriptPart) (head : CopyHead) (load : Load) (fields : List ErrorField) (later : List ScriptPart) (l : Logged) (old new : List ℕ)
    → shape a.parts ≡ Copies before head load later → load ≡ Refuse 0 fields
    → l ≡ record { request = r; outcome = record { parts = parts_of before; error = Some fields; status = a.status; asides = a.before }; loaded = [] }
    → AreSent (map aside_message a.before ++ (parts_sent before ++ back.CopyIn head ∷ end_sent (Some fields) a)) old new → IsDecided r a l old new
refused_decided r a before head load fields later l old new is at_once logged put =
    let v : Verdict = record { outcome = record { parts = parts_of before; error = Some fields; status = a.status; asides = a.before }; loaded = []; taken = 0 } in
    (v, rw (is, at_once) refl, logged, (let same : reply a [] ≡ map aside_message a.before ++ (parts_sent before ++ back.CopyIn head ∷ end_sent (Some fields) a) = rw (is, at_once) refl in rw same put))

undecided_of : (a : Answer) (before : List ScriptPart) (head : CopyHead) (load : Load) (later : List ScriptPart) → NotRefused load 0
    → (verdict_of a (Copies before head load later) [] ≡ None) × (reply_of a (Copies before head load later) [] ≡ parts_sent before ++ back.CopyIn head ∷ [])
undecided_of a before head (Accept tag) later h = (refl, refl)
undecided_of a before head (Refuse zero fields) later h = absurd (omega arith)
undecided_of a before head (Refuse (suc n) fields) later h = (refl, refl)

pub copy_undecided : (r : Request) (a : Answer) (before : List ScriptPart) (head : CopyHead) (load : Load) (later : List ScriptPart) (c : Loading) (old new : List ℕ)
    → shape a.parts ≡ Copies before head load later → NotRefused load 0
    → c ≡ record { request = r; load = load; loaded = [] } → AreSent (map aside_message a.before ++ (parts_sent before ++ back.CopyIn head ∷ [])) old new
    → (verdict a [] ≡ None) × (c ≡ record { request = r; load = load_of (shape a.parts); loaded = [] }) × AreSent (reply a []) old new
copy_undecided r a before head load later c old new is not_yet made put =
    let u = undecided_of a before head load later not_yet in
    (rw is u.0, rw is made, (let same : reply a [] ≡ map aside_message a.before ++ (parts_sent before ++ back.CopyIn head ∷ []) = rw is (ap (λ l. map aside_message a.before ++ l) u.1) in rw same put))
