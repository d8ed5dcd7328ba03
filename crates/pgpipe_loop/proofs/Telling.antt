-- What is told of an event is the text of its rows.
use Rattle.std.proofs.Common.{◌≡◌, Bool, true, false, ℕ, List, [], ◌∷◌, ◌++◌, length, drop, Option, Some, None, Ok, Err, refl, sym, ap, subst, ◌∙◌}
use Rattle.std.specs.Prelude.{cond, is_some}
use Rattle.std.proofs.lemmas.Grind.{flat_map-append}
use Rattle.pg_client.specs.declared.settled.Loss.{Loss}
use Rattle.pg_client.specs.View as client
use Rattle.pg_backend.specs.Backend as backend
use Rattle.pg_copy.specs.Row.{Row}
use Rattle.pg_pair.specs.declared.event.Applied.{Applied}
use Rattle.pg_pair.specs.declared.event.Event.{Event}
use Rattle.pg_pair.specs.Carrying.{Carrying}
use Rattle.pg_pair.specs.Event.{Applies}
use Rattle.pg_pair.specs.View.{PairView}
use Rattle.pgpipe_base.specs.declared.fault.ToolFault.{ToolFault}
use Rattle.pgpipe_base.specs.declared.fault.ToolFault.TheVariants as fault
use Rattle.pgpipe_loop.specs.declared.run_loop.telling.Before.{Before}
use Rattle.pgpipe_loop.specs.Lines.{event_rows, phase_rows, text_line, text_lines}
use Rattle.pgpipe_loop.specs.RunLoop.{is_nothing, new_loss, rows_between, rows_told, traced_unless}
use Rattle.pgpipe_loop.specs.Trace.{event_row, moved_rows}
use Rattle.pgpipe_loop.specs.Private.Running.{At, Prints, Sends, SendsLines, Taking}
use Rattle.pgpipe_loop.specs.Private.Telling.{before_of, named_rows, rows_since, text_since, traced_since}

text_lines-append : (xs ys : List Row) → text_lines (xs ++ ys) ≡ text_lines xs ++ text_lines ys
text_lines-append xs ys = flat_map-append text_line xs ys

-- four lists of rows, as text
four : (xs ys zs ws : List Row) → ((text_lines xs ++ text_lines ys) ++ text_lines zs) ++ text_lines ws ≡ text_lines (xs ++ ys ++ zs ++ ws)
four xs ys zs ws =
    ap (λ (t : List ℕ). (t ++ text_lines zs) ++ text_lines ws) (sym (text_lines-append xs ys))
    ∙ ap (λ (t : List ℕ). t ++ text_lines ws) (sym (text_lines-append (xs ++ ys) zs))
    ∙ sym (text_lines-append (xs ++ ys ++ zs) ws)

loss_since : (old new : Option Loss) → cond (is_some old) None new ≡ new_loss old new
loss_since None new = refl
loss_since (Some loss) new = refl

module _ {C : Type 0} (e : Event) (p : PairView C) (a : Applied) (q : PairView C) where
  came : rows_since (before_of p) a q ≡ rows_between p a q
  came = ap (λ (loss : Option Loss). event_rows (drop (length p.settled) q.settled) a loss) (loss_since p.loss q.loss)

  traced : (b : Bool) → traced_since b (before_of p) (text_lines (event_row e ∷ [])) a q ≡ text_lines (traced_unless b e p a q)
  traced true = refl
  traced false =
      four (event_row e ∷ []) (moved_rows p q) (rows_since (before_of p) a q) (phase_rows (client.phase_of q.client) (backend.phase_of q.backend.stage))
      ∙ ap (λ (rows : List Row). text_lines (event_row e ∷ moved_rows p q ++ rows ++ phase_rows (client.phase_of q.client) (backend.phase_of q.backend.stage))) came

  told : (trace : Bool) → text_since trace (before_of p) (text_lines (named_rows trace e)) a q ≡ text_lines (rows_told trace e p a q)
  told false = ap text_lines came
  told true = traced (is_nothing a)

  -- the text that was made of an event
  pub told_as : (trace : Bool) (before : Before) (named text : List ℕ) → before ≡ before_of p → named ≡ text_lines (named_rows trace e) → text ≡ text_since trace before named a q
      → text ≡ text_lines (rows_told trace e p a q)
  told_as trace before named text b n t =
      t ∙ ap (λ (x : Before). text_since trace x named a q) b ∙ ap (λ (x : List ℕ). text_since trace (before_of p) x a q) n ∙ told trace

-- an event whose lines couldn't all be sent
pub not_told : {C K : Type 0} (carries : Carrying C) (trace : Bool) (takes : Taking K) (failures : K → ℕ) (e : Event) (old new : At C K) (a : Applied) (text : List ℕ) (f : ToolFault) → Applies carries e old.pair (Ok a) new.pair
    → text ≡ text_lines (rows_told trace e old.pair a new.pair) → SendsLines takes failures old.sink text (Err f) new.sink → Prints carries trace takes failures e old (Err f) new
not_told carries trace takes failures e old new a text fault.Memory applies told sent = absurd sent
not_told carries trace takes failures e old new a text fault.Device applies told sent =
    (a, sent.0, applies, subst (λ (t : List ℕ). Sends {A = Unit {0}} takes failures old.sink t (Err sent.0) new.sink) told sent.1)
