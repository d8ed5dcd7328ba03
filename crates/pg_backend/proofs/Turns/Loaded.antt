-- The chunks that are taken for a request are those that its client handed over.
use Rattle.std.proofs.Common.{◌≡◌, ℕ, zero, suc, true, false, List, [], ◌∷◌, ◌++◌, Option, Some, None, IsSome, option_map, map, refl, ap, sym, ◌∙◌}
use Rattle.std.specs.Prelude.{Result, Ok, Err}
use Rattle.std.specs.List.{list_any}
use Rattle.std.proofs.lemmas.Option.{same_Some}
use Rattle.pg_wire.specs.value.ErrorField.{ErrorField}
use Rattle.pg_wire.specs.message.FrontMessage.{FrontMessage}
use Rattle.pg_wire.specs.message.FrontMessage.TheVariants as front
use Rattle.pg_backend.specs.declared.script.Answer.{Answer}
use Rattle.pg_backend.specs.declared.script.Load.{Load}
use Rattle.pg_backend.specs.declared.script.Load.TheVariants.{Accept, Refuse}
use Rattle.pg_backend.specs.declared.script.Logged.{Logged}
use Rattle.pg_backend.specs.declared.script.ScriptPart.{ScriptPart}
use Rattle.pg_backend.specs.declared.script.ScriptPart.TheVariants as part
use Rattle.pg_backend.specs.Lists.{IsPrefix}
use Rattle.pg_backend.specs.Fitting.{answer_for, others}
use Rattle.pg_backend.specs.Outcome.{parts_of, whole_outcome}
use Rattle.pg_backend.specs.Copies.{CopyEnd, ended, with_chunk, accepted, refused, copy_end}
use Rattle.pg_backend.specs.Meaning.{in_copy}
use Rattle.pg_backend.specs.Replies.{Shape, Whole, Copies, after_part, shape, Verdict, verdict, verdict_of, at_copy_end}
use Rattle.pg_backend.specs.Session.{log_of}
use Rattle.pg_wire.specs.Turns.{Turn, IsCopy, AreCopied, chunks_of}
use Rattle.pg_backend.specs.Turns.{InTurn, is_copied_in, TookEach}
use Rattle.pg_backend.specs.Laws.{TurnsLoaded}
use Rattle.pg_backend.proofs.Beginnings.{begins_cons, begins_nil, begins_take}
use Rattle.pg_backend.proofs.Definitions.DecidedStays.{map_some}
use Rattle.pg_backend.proofs.Turns.PartOfTurns.{turn_log, handled_log}

-- ---- a copy

-- the end of a copy has these chunks, and all of them where it is complete
record TookFor (e : CopyEnd) (handed : List (List ℕ)) : Type 0 where
  begins : IsPrefix e.loaded handed
  all : (tag : List ℕ) → e.result ≡ Ok tag → e.loaded ≡ handed

abbrev EndTakes : Option CopyEnd → List (List ℕ) → Type 0
EndTakes o handed = (e : CopyEnd) → o ≡ Some e → TookFor e handed

one_chunk : (bytes : List ℕ) (o : Option CopyEnd) (handed : List (List ℕ)) → EndTakes o handed → EndTakes (option_map (with_chunk bytes) o) (bytes ∷ handed)
one_chunk bytes None handed h = λ e is. cc
one_chunk bytes (Some x) handed h = λ e is.
    let same : with_chunk bytes x ≡ e = same_Some (with_chunk bytes x) e is in
    let before = h x refl in
    rw (← same) (record { begins = begins_cons bytes x.loaded handed before.begins; all = λ tag ok. ap (λ (l : List (List ℕ)). bytes ∷ l) (before.all tag ok) })

at_end : (result : Result (List ℕ) (List ErrorField)) (handed : List (List ℕ)) → ((tag : List ℕ) → result ≡ Ok tag → [] ≡ handed) → EndTakes (ended result) handed
at_end result handed none = λ e is.
    let same : record { loaded = []; result = result; taken = 1 } ≡ e = same_Some (record { loaded = []; result = result; taken = 1 }) e is in
    rw (← same) (record { begins = begins_nil handed; all = none })

accepted_takes : (tag : List ℕ) (ms : List FrontMessage) → IsCopy ms → EndTakes (accepted tag (map in_copy ms)) (chunks_of ms)
accepted_takes tag [] h = λ e is. cc
accepted_takes tag (front.CopyData bytes ∷ ms) h = one_chunk bytes (accepted tag (map in_copy ms)) (chunks_of ms) (accepted_takes tag ms h)
accepted_takes tag (front.CopyDone ∷ ms) h = at_end (Ok tag) (chunks_of (front.CopyDone ∷ ms)) (λ t e. ap chunks_of (sym h))
accepted_takes tag (front.CopyFail reason ∷ ms) h = at_end (Err _) (chunks_of (front.CopyFail reason ∷ ms)) (λ t e. absurd cc)
accepted_takes tag (m ∷ ms) h = absurd h

refused_takes : (fields : List ErrorField) (n : ℕ) (ms : List FrontMessage) → IsCopy ms → EndTakes (refused fields n (map in_copy ms)) (chunks_of ms)
refused_takes fields zero ms h = λ e is.
    let same : record { loaded = []; result = Err fields; taken = 0 } ≡ e = same_Some (record { loaded = []; result = Err fields; taken = 0 }) e is in
    rw (← same) (record { begins = begins_nil (chunks_of ms); all = λ tag ok. absurd cc })
refused_takes fields (suc n) [] h = λ e is. cc
refused_takes fields (suc n) (front.CopyData bytes ∷ ms) h = one_chunk bytes (refused fields n (map in_copy ms)) (chunks_of ms) (refused_takes fields n ms h)
refused_takes fields (suc n) (front.CopyDone ∷ ms) h = at_end (Err fields) (chunks_of (front.CopyDone ∷ ms)) (λ t e. absurd cc)
refused_takes fields (suc n) (front.CopyFail reason ∷ ms) h = at_end (Err _) (chunks_of (front.CopyFail reason ∷ ms)) (λ t e. absurd cc)
refused_takes fields (suc n) (m ∷ ms) h = absurd h

copy_takes : (load : Load) (ms : List FrontMessage) → IsCopy ms → EndTakes (copy_end load ms) (chunks_of ms)
copy_takes (Accept tag) ms h = accepted_takes tag ms h
copy_takes (Refuse n fields) ms h = refused_takes fields n ms h

-- ---- a verdict

-- no part before the first copy is one
abbrev NoneBefore : List ScriptPart → Shape → Type 0
NoneBefore ps Whole = list_any is_copied_in (parts_of ps) ≡ false
NoneBefore ps (Copies before head load after) = list_any is_copied_in (parts_of before) ≡ false

abbrev IsNone : ScriptPart → Type 0
IsNone p = (ps : List ScriptPart) → list_any is_copied_in (parts_of ps) ≡ false → list_any is_copied_in (parts_of (p ∷ ps)) ≡ false

none_after : (p : ScriptPart) (ps : List ScriptPart) → IsNone p → (s : Shape) → NoneBefore ps s → NoneBefore (p ∷ ps) (after_part p s)
none_after p ps is Whole h = is ps h
none_after p ps is (Copies before head load after) h = is before h

shape_none : (ps : List ScriptPart) → NoneBefore ps (shape ps)
shape_none [] = refl
shape_none (part.CopyIn head load ∷ ps) = refl
shape_none (p ∷ ps) = none_after p ps (λ l h. h) (shape ps) (shape_none ps)

record VerdictTakes (v : Verdict) (handed : List (List ℕ)) : Type 0 where
  begins : IsPrefix v.loaded handed
  all : list_any is_copied_in v.outcome.parts ≡ true → v.loaded ≡ handed

end_takes : (a : Answer) (before : List ScriptPart) (loaded : List (List ℕ)) (result : Result (List ℕ) (List ErrorField)) (taken : ℕ) (handed : List (List ℕ))
    → list_any is_copied_in (parts_of before) ≡ false → TookFor (record { loaded = loaded; result = result; taken = taken }) handed
    → VerdictTakes (at_copy_end a before (record { loaded = loaded; result = result; taken = taken })) handed
end_takes a before loaded (Ok tag) taken handed none took = record { begins = took.begins; all = λ is. took.all tag refl }
end_takes a before loaded (Err fields) taken handed none took = record { begins = took.begins; all = λ is. absurd cc }

shape_takes : (a : Answer) (s : Shape) (ms : List FrontMessage) (v : Verdict) → NoneBefore a.parts s → IsCopy ms → verdict_of a s ms ≡ Some v → VerdictTakes v (chunks_of ms)
shape_takes a Whole ms v none copy is =
    let same : record { outcome = whole_outcome a; loaded = []; taken = 0 } ≡ v = same_Some (record { outcome = whole_outcome a; loaded = []; taken = 0 }) v is in
    rw (← same) (record { begins = begins_nil (chunks_of ms); all = λ has. absurd cc })
shape_takes a (Copies before head load after) ms v none copy is =
    let end = map_some (at_copy_end a before) (copy_end load ms) v is in
    let value : at_copy_end a before end.0 ≡ v = same_Some (at_copy_end a before end.0) v (ap (option_map (at_copy_end a before)) (sym end.1) ∙ is) in
    taken end.0 v value (end_takes a before end.0.loaded end.0.result end.0.taken (chunks_of ms) none (copy_takes load ms copy end.0 end.1))
  where
    taken : (e : CopyEnd) (v : Verdict) → at_copy_end a before e ≡ v → VerdictTakes (at_copy_end a before e) (chunks_of ms) → VerdictTakes v (chunks_of ms)
    taken e v same h = rw (← same) h

verdict_takes : (a : Answer) (ms : List FrontMessage) (v : Verdict) → IsCopy ms → verdict a ms ≡ Some v → VerdictTakes v (chunks_of ms)
verdict_takes a ms v copy is = shape_takes a (shape a.parts) ms v (shape_none a.parts) copy is

-- ---- turns

abbrev handed_over : List Turn → List (List (List ℕ))
handed_over ts = map (λ t. chunks_of t.copies) ts

one_took : (answers : List Answer) (t : Turn) (ts : List Turn) (o : Option Verdict)
    → verdict (answer_for answers t.request) t.copies ≡ o → IsCopy t.copies → InTurn answers (t ∷ ts)
    → TookEach (turn_log (others answers) ts) (handed_over ts)
    → TookEach (turn_log answers (t ∷ ts)) (handed_over (t ∷ ts))
one_took answers t [] None is copy turns rest = rw is tt
one_took answers t (u ∷ ts) None is copy turns rest = let some : IsSome {T = Verdict} None = rw is at turns.1 in absurd cc
one_took answers t ts (Some v) is copy turns rest =
    let takes = verdict_takes (answer_for answers t.request) t.copies v copy is in
    rw is (record { first = begins_take v.loaded (chunks_of t.copies) takes.begins; all = takes.all }, rest)

turn_tail : (answers : List Answer) (t : Turn) (ts : List Turn) → InTurn answers (t ∷ ts) → InTurn (others answers) ts
turn_tail answers t [] h = tt
turn_tail answers t (u ∷ ts) h = h.2

turns_took : (answers : List Answer) (ts : List Turn) → InTurn answers ts → AreCopied ts → TookEach (turn_log answers ts) (handed_over ts)
turns_took answers [] turns copied = tt
turns_took answers (t ∷ ts) turns copied =
    one_took answers t ts (verdict (answer_for answers t.request) t.copies) refl copied.0 turns (turns_took (others answers) ts (turn_tail answers t ts turns) copied.1)

-- of fewer entries likewise
took_fewer : (ls rest : List Logged) (hs : List (List (List ℕ))) → TookEach (ls ++ rest) hs → TookEach ls hs
took_fewer [] rest hs h = tt
took_fewer (l ∷ ls) rest [] h = absurd h
took_fewer (l ∷ ls) rest (x ∷ hs) h = (h.0, took_fewer ls rest hs h.1)

pub turns_loaded : TurnsLoaded
turns_loaded answers ts handled turns copied h =
    let logs = handled_log answers ts handled turns h in
    took_fewer (log_of answers handled) logs.0 (handed_over ts) (rw (← logs.1) (turns_took answers ts turns copied))
