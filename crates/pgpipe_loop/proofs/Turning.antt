-- Turns, one after the other, and the lines that are sent for them.
use Rattle.std.proofs.Common.{◌≡◌, ℕ, ◌+◌, List, [], ◌++◌, Option, Some, None, Result, Ok, Err, inl, inr, refl, sym, subst}
use Rattle.std.proofs.lemmas.Grind.{flat_map-append}
use Rattle.pg_copy.specs.Row.{Row}
use Rattle.pg_client.specs.declared.phase.Cause.TheVariants as cause
use Rattle.pg_client.specs.declared.phase.Phase.TheVariants as client
use Rattle.pg_backend.specs.History.{IsHistoryOf, blank}
use Rattle.pg_backend.specs.Stage.{BackendState, phase_of}
use Rattle.pg_backend.specs.declared.phase.BackPhase.{BackPhase}
use Rattle.pg_backend.specs.declared.script.Script.{Script}
use Rattle.pg_backend.specs.OverLink.{Connection, connected}
use Rattle.pgpipe_base.specs.declared.fault.ToolFault.{ToolFault}
use Rattle.pgpipe_base.specs.declared.fault.ToolFault.TheVariants as tool
use Rattle.pgpipe_base.specs.Outbox.{Puts}
use Rattle.pgpipe_base.proofs.Pieces.{puts_none, puts_then}
use Rattle.pgpipe_loop.specs.Lines.{closing_rows, text_line, text_lines}
use Rattle.pgpipe_loop.specs.Serving.{AreCutOff, AreSent, IsServed, Serves, TakesTurns, Turns, at_first, left_in, most_turns, one_more, turn_rows}
use Rattle.pgpipe_loop.specs.Private.Turning.{HasTurned, SendsLines, Serving, TakesAllTurns, TakesTurn, serving}

text_lines-append : (xs ys : List Row) → text_lines (xs ++ ys) ≡ text_lines xs ++ text_lines ys
text_lines-append xs ys = flat_map-append text_line xs ys

module _ {K : Type 0} (sends : K → List ℕ → K → Type 0) (failures : K → ℕ) where
  -- no line was sent
  pub none_sent : (sink : K) → AreSent sends failures sink [] sink
  none_sent sink = puts_none sends failures [] sink

  -- nothing was sent, whatever no lines are written as
  pub nothing_sent : (sink sink' : K) → sink' ≡ sink → AreSent sends failures sink [] sink'
  nothing_sent sink sink' same = subst (λ (k : K). AreSent sends failures sink [] k) (sym same) (none_sent sink)

  -- lines were sent after lines
  pub sent_then : (sink mid sink' : K) (xs ys : List Row) → AreSent sends failures sink xs mid → AreSent sends failures mid ys sink' → AreSent sends failures sink (xs ++ ys) sink'
  sent_then sink mid sink' xs ys p q =
      subst (λ (t : List ℕ). Puts {A = Unit {0}} sends failures [] sink t (Ok tt) [] sink') (sym (text_lines-append xs ys)) (puts_then sends failures [] sink (text_lines xs) [] mid (text_lines ys) (Ok tt) [] sink' p q)

  -- the sink failed in lines after lines
  pub cut_then : (sink mid sink' : K) (xs ys : List Row) → AreSent sends failures sink xs mid → AreCutOff sends failures mid ys sink' → AreCutOff sends failures sink (xs ++ ys) sink'
  cut_then sink mid sink' xs ys p q = (
    q.0,
    subst (λ (t : List ℕ). Puts {A = Unit {0}} sends failures [] sink t (Err q.0) [] sink') (sym (text_lines-append xs ys)) (puts_then sends failures [] sink (text_lines xs) [] mid (text_lines ys) (Err q.0) [] sink' p q.1),
  )

  -- the sink stayed as it was after lines
  pub sent_still : (sink mid sink' : K) (xs : List Row) → sink' ≡ mid → AreSent sends failures sink xs mid → AreSent sends failures sink xs sink'
  sent_still sink mid sink' xs same p = subst (λ (k : K). AreSent sends failures sink xs k) (sym same) p

module _ {L K : Type 0} (gives takes : L → List ℕ → L → Type 0) (has_ended : L → Type 0) (receive_failures send_failures : L → ℕ) (sends : K → List ℕ → K → Type 0) (failures : K → ℕ) where
  -- so many turns were taken, and the connection goes on
  abbrev pub WentOn : Serving L K → ℕ → Serving L K → Type 0
  WentOn start count now = HasTurned gives takes has_ended receive_failures send_failures sends failures start count now.connection None (λ rows. AreSent sends failures start.sink rows now.sink)

  pub went_none : (now : Serving L K) → WentOn now 0 now
  went_none now = record { rows = []; turns = at_first; told = none_sent sends failures now.sink }

  -- one turn more
  pub turned : (start mid new : Serving L K) (count : ℕ) (left : Option BackPhase) → WentOn start count mid → TakesTurn gives takes has_ended receive_failures send_failures sends failures mid (Ok left) new
      → HasTurned gives takes has_ended receive_failures send_failures sends failures start (count + 1) new.connection left (λ rows. AreSent sends failures start.sink rows new.sink)
  turned start mid new count left w t = record {
    rows = w.rows ++ turn_rows mid.connection t.0 new.connection;
    turns = subst (λ (o : Option BackPhase). Turns gives takes has_ended receive_failures send_failures start.connection (count + 1) new.connection (w.rows ++ turn_rows mid.connection t.0 new.connection) o) (sym t.2)
        (one_more count mid.connection new.connection w.rows t.0 w.turns t.1);
    told = sent_then sends failures start.sink mid.sink new.sink w.rows (turn_rows mid.connection t.0 new.connection) w.told t.3;
  }

  -- one turn more, after which the connection goes on
  pub went_more : (start mid new : Serving L K) (count : ℕ) (left : Option BackPhase) → left ≡ None → WentOn start count mid → TakesTurn gives takes has_ended receive_failures send_failures sends failures mid (Ok left) new → WentOn start (count + 1) new
  went_more start mid new count left none w t = subst (λ (o : Option BackPhase). HasTurned gives takes has_ended receive_failures send_failures sends failures start (count + 1) new.connection o (λ rows. AreSent sends failures start.sink rows new.sink)) none (turned start mid new count left w t)

  -- one turn more, which was the last
  pub turned_last : (start mid new : Serving L K) (count : ℕ) (left : Option BackPhase) (phase : BackPhase) → left ≡ Some phase → WentOn start count mid → TakesTurn gives takes has_ended receive_failures send_failures sends failures mid (Ok left) new
      → TakesAllTurns gives takes has_ended receive_failures send_failures sends failures start (Ok phase) new
  turned_last start mid new count left phase is w t =
      (count + 1, Some phase, subst (λ (o : Option BackPhase). HasTurned gives takes has_ended receive_failures send_failures sends failures start (count + 1) new.connection o (λ rows. AreSent sends failures start.sink rows new.sink)) is (turned start mid new count left w t), refl)

  -- a turn failed
  pub turn_fails : (start mid new : Serving L K) (count : ℕ) (s : ToolFault) → WentOn start count mid → TakesTurn gives takes has_ended receive_failures send_failures sends failures mid (Err s) new
      → TakesAllTurns gives takes has_ended receive_failures send_failures sends failures start (Err s) new
  turn_fails start mid new count tool.Memory w same = (
    count,
    mid.connection,
    None,
    record { rows = w.rows; turns = w.turns; told = sent_still sends failures start.sink mid.sink new.sink w.rows same w.told },
  )
  turn_fails start mid new count tool.Device w t = (
    count + 1,
    new.connection,
    left_in (phase_of mid.connection.backend.stage) t.0 (phase_of new.connection.backend.stage),
    record {
      rows = w.rows ++ turn_rows mid.connection t.0 new.connection;
      turns = one_more count mid.connection new.connection w.rows t.0 w.turns t.1;
      told = cut_then sends failures start.sink mid.sink new.sink w.rows (turn_rows mid.connection t.0 new.connection) w.told t.2;
    },
  )

  -- all turns were used
  pub turns_used : (start now : Serving L K) (count : ℕ) → count ≡ most_turns → WentOn start count now
      → TakesAllTurns gives takes has_ended receive_failures send_failures sends failures start (Ok (phase_of now.connection.backend.stage)) now
  turns_used start now count all w = (count, None, w, (all, refl))

  module _ (script : Script) (link : L) (sink : K) (begun : BackendState) (is_blank : IsHistoryOf blank begun) (script_is : begun.script ≡ script) where
    taken : (count : ℕ) (now : Connection L) (rows : List Row) (left : Option BackPhase) → Turns gives takes has_ended receive_failures send_failures (connected link begun) count now rows left
        → TakesTurns gives takes has_ended receive_failures send_failures script link count now rows left
    taken count now rows left t = record { begun = begun; is_blank = is_blank; script_is = script_is; turns = t }

    -- the turns failed, and so the client is served in part
    pub turns_fail : (s : ToolFault) (over : Serving L K) → TakesAllTurns gives takes has_ended receive_failures send_failures sends failures (serving link begun sink) (Err s) over
        → Serves gives takes has_ended receive_failures send_failures sends failures script link sink (Err s) over.connection.link over.sink
    turns_fail tool.Memory over t = (t.3.rows, record { count = t.0; now = t.1; left = t.2; turns = taken t.0 t.1 t.3.rows t.2 t.3.turns }, t.3.told)
    turns_fail tool.Device over t = (t.3.rows, inl (record { count = t.0; now = t.1; left = t.2; turns = taken t.0 t.1 t.3.rows t.2 t.3.turns }), t.3.told)

    module _ (phase : BackPhase) (over : Serving L K) (all : TakesAllTurns gives takes has_ended receive_failures send_failures sends failures (serving link begun sink) (Ok phase) over) where
      abbrev closing : List Row
      closing = closing_rows over.connection.backend.log (client.Closed cause.Lost) phase

      served : IsServed gives takes has_ended receive_failures send_failures script link over.connection.link (all.2.rows ++ closing)
      served = record {
        count = all.0;
        over = over.connection;
        before = all.2.rows;
        left = all.1;
        phase = phase;
        turns = taken all.0 over.connection all.2.rows all.1 all.2.turns;
        is_over = all.3;
        link_is = refl;
        rows_are = refl;
      }

      -- memory was refused for the closing lines
      pub not_closed : Serves gives takes has_ended receive_failures send_failures sends failures script link sink (Err tool.Memory) over.connection.link over.sink
      not_closed = (all.2.rows, record { count = all.0; now = over.connection; left = all.1; turns = taken all.0 over.connection all.2.rows all.1 all.2.turns }, all.2.told)

      -- the closing lines were sent, or the sink failed in them
      pub closed : (result : Result Unit ToolFault) (text : List ℕ) (sink' : K) → text ≡ text_lines (closing_rows over.connection.backend.log (client.Closed cause.Lost) phase) → SendsLines sends failures over.sink text result sink'
          → Serves gives takes has_ended receive_failures send_failures sends failures script link sink result over.connection.link sink'
      closed (Ok x) text sink' is t = (
        all.2.rows ++ closing,
        served,
        sent_then sends failures sink over.sink sink' all.2.rows closing all.2.told (subst (λ (u : List ℕ). SendsLines sends failures over.sink u (Ok tt) sink') is t),
      )
      closed (Err tool.Memory) text sink' is t = absurd t
      closed (Err tool.Device) text sink' is t = (
        all.2.rows ++ closing,
        inr (over.connection.link, served),
        cut_then sends failures sink over.sink sink' all.2.rows closing all.2.told (subst (λ (u : List ℕ). SendsLines sends failures over.sink u (Err tool.Device) sink') is t),
      )
