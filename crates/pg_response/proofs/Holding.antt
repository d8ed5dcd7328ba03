-- What was collected goes on with each message that may come: it stays the parts of which the messages consist.
use Rattle.std.proofs.Common.{arith, ◌≡◌, ℕ, ◌+◌, ◌<◌, length, drop, List, [], ◌∷◌, ◌++◌, map, Option, Some, None, Bool, true, false, cond, refl, sym, ap, subst, ◌∙◌, append_assoc, inl, inr}
use Rattle.std.specs.Prelude.{nat_le}
use Rattle.std.specs.List.{flat_map}
use Rattle.std.specs.Option.{option_map}
use Rattle.std.proofs.lemmas.Bool.{cond_below, leb-true}
use Rattle.std.proofs.lemmas.List.{append-nil, drop-drop, drop_all, flat_map_more, length-drop, map-append}
use Rattle.pg_wire.specs.message.BackMessage.{BackMessage}
use Rattle.pg_wire.specs.message.BackMessage.TheVariants.{RowDescription, DataRow, CommandComplete, EmptyQuery, ParseComplete, BindComplete, CloseComplete, NoData, PortalSuspended, ParameterDescription, ErrorResponse, CopyData, CopyDone}
use Rattle.pg_wire.specs.message.BackMessage.TheVariants as back
use Rattle.pg_wire.specs.value.Target.TheVariants.{Statement, Portal}
use Rattle.pg_wire.specs.declared.session.Aside.{Aside}
use Rattle.pg_wire.specs.declared.session.ExecEnd.TheVariants as ends
use Rattle.pg_wire.specs.declared.session.Part.{Part}
use Rattle.pg_wire.specs.declared.session.Part.TheVariants as part
use Rattle.pg_wire.specs.declared.session.Step.{Step}
use Rattle.pg_wire.specs.declared.session.Step.TheVariants as step
use Rattle.pg_wire.specs.Segment.{error_of, Fields, Asked, Results, Steps, Answers, IsCutOff, IsDone, Reads, messages_of}
use Rattle.pg_response.specs.declared.collected.Unfinished.{Unfinished}
use Rattle.pg_response.specs.declared.place.Open.{Open}
use Rattle.pg_response.specs.declared.place.Open.TheVariants as opened
use Rattle.pg_response.specs.declared.place.Place.{Place}
use Rattle.pg_response.specs.Place.{mark_of, follows, begins, begins_result, begins_answer, still_asked, next_open, start, one_more, led_to, goes, goes_by, goes_all, all_answered, ends_with, may_end}
use Rattle.pg_response.specs.Collected.{come_of, collect, CollectedView, failed_with, Holds, HoldsBy, HoldsError, HoldsParts, nothing_collected, nothing_yet, Opens}

-- ---- how many are answered

-- an answer more leaves one less to be answered
pub counted : (a : Asked) (n : ℕ) (rest : Asked) (p : Part) (next : Asked) → still_asked a n ≡ rest → Answers rest (p ∷ []) next → still_asked a (one_more a n) ≡ next
counted Results n Results p next e h = sym h.1
counted Results n (Steps ss) p next e h = absurd cc
counted (Steps steps) n Results p next e h = absurd cc
counted (Steps steps) n (Steps []) p next e h = absurd h
counted (Steps steps) n (Steps (s ∷ ss)) p next e h =
    let same : drop n steps ≡ s ∷ ss = (let k : Steps (drop n steps) ≡ Steps (s ∷ ss) = e in cc) in
    let more : n < length steps = omega (arith, ap length same, length-drop n steps) in
    ap (λ (k : ℕ). Steps (drop k steps)) (sym (cond_below n (length steps) (n + 1) n more)) ∙ ap Steps (sym (drop-drop 1 n steps) ∙ ap (drop 1) same) ∙ sym h.1

pub Answers-more : (a : Asked) (parts : List Part) (rest : Asked) (p : Part) (next : Asked) → Answers a parts rest → Answers rest (p ∷ []) next → Answers a (parts ++ p ∷ []) next
Answers-more a [] rest p next h k = subst (λ (x : Asked). Answers x (p ∷ []) next) h k
Answers-more Results (q ∷ qs) rest p next h k = (h.0, Answers-more Results qs rest p next h.1 k)
Answers-more (Steps []) (q ∷ qs) rest p next h k = absurd h
Answers-more (Steps (s ∷ ss)) (q ∷ qs) rest p next h k = (h.0, Answers-more (Steps ss) qs rest p next h.1 k)

-- ---- one message

abbrev pub at : ℕ → Open → Place
at n o = record { answers = n; opened = o; failed = false }

-- what holds where the message leads to this being unfinished
abbrev Then : Asked → List BackMessage → ℕ → CollectedView → Open → BackMessage → Unfinished → Option Open → Type 0
Then a ms n c o m u None = Unit {0}
Then a ms n c o m u (Some w) = HoldsParts a (ms ++ m ∷ []) (led_to a (at n o) w) (collect a o (record c { unfinished = u }) m)

module _ (a : Asked) (ms : List BackMessage) (n : ℕ) (c : CollectedView) (rest : Asked) (answered : Answers a c.parts rest) (still : still_asked a n ≡ rest) (none : c.error ≡ None) where
  abbrev so_far : List BackMessage
  so_far = flat_map messages_of c.parts

  -- a message that more is to follow
  grows : (w : Open) (m : BackMessage) (front : List BackMessage) (v : Unfinished) → ms ≡ so_far ++ front → Opens rest w v → come_of w v ≡ front ++ m ∷ [] → HoldsParts a (ms ++ m ∷ []) (at n w) (record c { unfinished = v })
  grows w m front v e opens is = record {
    rest = rest;
    answered = answered;
    still = still;
    opens = opens;
    no_error = none;
    messages = ap (λ (x : List BackMessage). x ++ m ∷ []) e ∙ (append_assoc so_far front (m ∷ []) ∙ ap (λ (x : List BackMessage). so_far ++ x) (sym is));
  }

  -- the last message of a part
  closes : (m : BackMessage) (front : List BackMessage) (p : Part) (next : Asked) → ms ≡ so_far ++ front → Answers rest (p ∷ []) next → messages_of p ≡ front ++ m ∷ []
      → HoldsParts a (ms ++ m ∷ []) (at (one_more a n) opened.Nothing) (record c { parts = c.parts ++ p ∷ []; unfinished = nothing_yet })
  closes m front p next e h is = record {
    rest = next;
    answered = Answers-more a c.parts rest p next answered h;
    still = counted a n rest p next still h;
    opens = refl;
    no_error = none;
    messages = ap (λ (x : List BackMessage). x ++ m ∷ []) e ∙ (append_assoc so_far front (m ∷ []) ∙ (ap (λ (x : List BackMessage). so_far ++ x) (sym is) ∙ (flat_map_more messages_of [] c.parts p ∙ sym (append-nil (flat_map messages_of (c.parts ++ p ∷ []))))));
  }

  -- a message that what is unfinished may go on with
  follows_then : (o : Open) (u : Unfinished) → Opens rest o u → ms ≡ so_far ++ come_of o u → (m : BackMessage) → Then a ms n c o m u (follows o (mark_of m))
  follows_then opened.Rows u is e (DataRow values) = grows opened.Rows (DataRow values) (come_of opened.Rows u) (record u { rows = u.rows ++ values ∷ [] }) e is (ap (λ (x : List BackMessage). RowDescription u.columns ∷ x) (map-append DataRow u.rows (values ∷ [])))
  follows_then opened.Rows u is e (CommandComplete tag) = closes (CommandComplete tag) (come_of opened.Rows u) (part.Rows u.columns u.rows tag) Results e (rw is (refl, refl)) refl
  follows_then opened.CopyOut u is e (CopyData bytes) = grows opened.CopyOut (CopyData bytes) (come_of opened.CopyOut u) (record u { chunks = u.chunks ++ bytes ∷ [] }) e is (ap (λ (x : List BackMessage). back.CopyOut u.head ∷ x) (map-append CopyData u.chunks (bytes ∷ [])))
  follows_then opened.CopyOut u is e CopyDone = grows opened.CopyOutEnded CopyDone (come_of opened.CopyOut u) u e is refl
  follows_then opened.CopyOutEnded u is e (CommandComplete tag) =
      closes (CommandComplete tag) (come_of opened.CopyOutEnded u) (part.CopyOut u.head u.chunks tag) Results e (rw is (refl, refl))
      (ap (λ (x : List BackMessage). back.CopyOut u.head ∷ x) (sym (append_assoc (map CopyData u.chunks) (CopyDone ∷ []) (CommandComplete tag ∷ []))))
  follows_then opened.CopyIn u is e (CommandComplete tag) = closes (CommandComplete tag) (come_of opened.CopyIn u) (part.CopyIn u.head tag) Results e (rw is (refl, refl)) refl
  follows_then opened.Described u h e (RowDescription columns) = closes (RowDescription columns) (come_of opened.Described u) (part.Described (Some u.types) (Some columns)) (Steps h.1) e (rw h.2 (refl, refl)) refl
  follows_then opened.Described u h e NoData = closes NoData (come_of opened.Described u) (part.Described (Some u.types) None) (Steps h.1) e (rw h.2 (refl, refl)) refl
  follows_then opened.Executed u h e (DataRow values) = grows opened.Executed (DataRow values) (come_of opened.Executed u) (record u { rows = u.rows ++ values ∷ [] }) e h (map-append DataRow u.rows (values ∷ []))
  follows_then opened.Executed u h e (CommandComplete tag) = closes (CommandComplete tag) (come_of opened.Executed u) (part.Executed u.rows (ends.Complete tag)) (Steps h.2) e (rw h.3 (refl, refl)) refl
  follows_then opened.Executed u h e EmptyQuery = closes EmptyQuery (come_of opened.Executed u) (part.Executed u.rows ends.Empty) (Steps h.2) e (rw h.3 (refl, refl)) refl
  follows_then opened.Executed u h e PortalSuspended = closes PortalSuspended (come_of opened.Executed u) (part.Executed u.rows ends.Suspended) (Steps h.2) e (rw h.3 (refl, refl)) refl
  follows_then _ u h e _ = tt

-- the first message of a result
module _ (ms : List BackMessage) (n : ℕ) (c : CollectedView) (answered : Answers Results c.parts Results) (none : c.error ≡ None) (e : ms ≡ flat_map messages_of c.parts ++ []) where
  result_then : (m : BackMessage) → Then Results ms n c opened.Nothing m nothing_yet (begins_result (mark_of m))
  result_then (RowDescription columns) = grows Results ms n c Results answered refl none opened.Rows (RowDescription columns) [] (record nothing_yet { columns = columns }) e refl refl
  result_then (CommandComplete tag) = closes Results ms n c Results answered refl none (CommandComplete tag) [] (part.Command tag) Results e (refl, refl) refl
  result_then EmptyQuery = closes Results ms n c Results answered refl none EmptyQuery [] part.Empty Results e (refl, refl) refl
  result_then (back.CopyOut head) = grows Results ms n c Results answered refl none opened.CopyOut (back.CopyOut head) [] (record nothing_yet { head = head }) e refl refl
  result_then (back.CopyIn head) = grows Results ms n c Results answered refl none opened.CopyIn (back.CopyIn head) [] (record nothing_yet { head = head }) e refl refl
  result_then _ = tt

-- the first message of the answer to a step
module _ (steps : List Step) (ms : List BackMessage) (n : ℕ) (c : CollectedView) (none : c.error ≡ None) (e : ms ≡ flat_map messages_of c.parts ++ []) where
  step_then : (s : Step) (ss : List Step) (answered : Answers (Steps steps) c.parts (Steps (s ∷ ss))) (still : Steps (drop n steps) ≡ Steps (s ∷ ss)) (m : BackMessage)
      → Then (Steps steps) ms n c opened.Nothing m nothing_yet (begins_answer s (mark_of m))
  step_then (step.Parse name text types) ss answered still ParseComplete = closes (Steps steps) ms n c _ answered still none ParseComplete [] part.Parsed (Steps ss) e (refl, refl) refl
  step_then (step.Bind portal statement formats values result_formats) ss answered still BindComplete = closes (Steps steps) ms n c _ answered still none BindComplete [] part.Bound (Steps ss) e (refl, refl) refl
  step_then (step.Close target name) ss answered still CloseComplete = closes (Steps steps) ms n c _ answered still none CloseComplete [] part.Shut (Steps ss) e (refl, refl) refl
  step_then (step.Describe Statement name) ss answered still (ParameterDescription types) = grows (Steps steps) ms n c _ answered still none opened.Described (ParameterDescription types) [] (record nothing_yet { types = types }) e (name, ss, refl) refl
  step_then (step.Describe Portal name) ss answered still (RowDescription columns) = closes (Steps steps) ms n c _ answered still none (RowDescription columns) [] (part.Described None (Some columns)) (Steps ss) e (refl, refl) refl
  step_then (step.Describe Portal name) ss answered still NoData = closes (Steps steps) ms n c _ answered still none NoData [] (part.Described None None) (Steps ss) e (refl, refl) refl
  step_then (step.Execute portal max_rows) ss answered still (DataRow values) = grows (Steps steps) ms n c _ answered still none opened.Executed (DataRow values) [] (record nothing_yet { rows = values ∷ [] }) e (portal, max_rows, ss, refl) refl
  step_then (step.Execute portal max_rows) ss answered still (CommandComplete tag) = closes (Steps steps) ms n c _ answered still none (CommandComplete tag) [] (part.Executed [] (ends.Complete tag)) (Steps ss) e (refl, refl) refl
  step_then (step.Execute portal max_rows) ss answered still EmptyQuery = closes (Steps steps) ms n c _ answered still none EmptyQuery [] (part.Executed [] ends.Empty) (Steps ss) e (refl, refl) refl
  step_then (step.Execute portal max_rows) ss answered still PortalSuspended = closes (Steps steps) ms n c _ answered still none PortalSuspended [] (part.Executed [] ends.Suspended) (Steps ss) e (refl, refl) refl
  step_then _ ss answered still _ = tt

-- nothing is unfinished
first_then : (a : Asked) (ms : List BackMessage) (n : ℕ) (c : CollectedView) (rest : Asked) (answered : Answers a c.parts rest) (still : still_asked a n ≡ rest) (none : c.error ≡ None) → ms ≡ flat_map messages_of c.parts ++ [] → (m : BackMessage)
    → Then a ms n c opened.Nothing m nothing_yet (begins rest (mark_of m))
first_then Results ms n c Results answered still none e m = result_then ms n c answered none e m
first_then Results ms n c (Steps ss) answered still none e m = absurd cc
first_then (Steps steps) ms n c Results answered still none e m = absurd cc
first_then (Steps steps) ms n c (Steps []) answered still none e m = tt
first_then (Steps steps) ms n c (Steps (s ∷ ss)) answered still none e m = step_then steps ms n c none e s ss answered still m

-- whatever is unfinished
any_then : (a : Asked) (ms : List BackMessage) (n : ℕ) (o : Open) (c : CollectedView) (h : HoldsParts a ms (at n o) c) (m : BackMessage) → Then a ms n c o m c.unfinished (next_open a n o (mark_of m))
any_then a ms n opened.Nothing c h m =
    let empty : c.unfinished ≡ nothing_yet = h.opens in
    let e : ms ≡ flat_map messages_of c.parts ++ [] = h.messages in
    rw (empty, h.still) (first_then a ms n c h.rest h.answered h.still h.no_error e m)
any_then a ms n o c h m = follows_then a ms n c h.rest h.answered h.still h.no_error o c.unfinished h.opens h.messages m

-- ---- an error

-- a part that isn't whole can be cut off
begun_cut : (a : Asked) (o : Open) (u : Unfinished) → Opens a o u → IsCutOff a (come_of o u)
begun_cut a opened.Nothing u h = inl refl
begun_cut a opened.Rows u h = rw h (inr (part.Rows u.columns u.rows [], CommandComplete [], [], Results, (refl, refl), refl))
begun_cut a opened.CopyOut u h = rw h (inr (part.CopyOut u.head u.chunks [], CopyDone, CommandComplete [] ∷ [], Results, (refl, refl), refl))
begun_cut a opened.CopyOutEnded u h = rw h (inr (part.CopyOut u.head u.chunks [], CommandComplete [], [], Results, (refl, refl), ap (λ (ms : List BackMessage). back.CopyOut u.head ∷ ms) (sym (append_assoc (map CopyData u.chunks) (CopyDone ∷ []) (CommandComplete [] ∷ [])))))
begun_cut a opened.CopyIn u h = rw h (inr (part.CopyIn u.head [], CommandComplete [], [], Results, (refl, refl), refl))
begun_cut a opened.Described u h = rw h.2 (inr (part.Described (Some u.types) None, NoData, [], Steps h.1, (refl, refl), refl))
begun_cut a opened.Executed u h = rw h.3 (inr (part.Executed u.rows ends.Empty, EmptyQuery, [], Steps h.2, (refl, refl), refl))

-- the place that an error leads to
abbrev pub failed_at : Place → Place
failed_at p = record p { opened = opened.Nothing; failed = true }

module _ (a : Asked) (ms : List BackMessage) (c : CollectedView) (fields : Fields) (p : Place) where
  abbrev Failed : Type 0
  Failed = HoldsError a (ms ++ ErrorResponse fields ∷ []) (failed_at p) (failed_with c c.error fields)

  first_error : HoldsParts a ms p c → Failed
  first_error h = subst (λ (x : Option Fields). HoldsError a (ms ++ ErrorResponse fields ∷ []) (failed_at p) (failed_with c x fields)) (sym h.no_error) (record {
    none_open = refl;
    fields = fields;
    error = refl;
    reads = (h.rest, h.answered, come_of p.opened c.unfinished, begun_cut h.rest p.opened c.unfinished h.opens, [], rw h.messages (append_assoc (flat_map messages_of c.parts) (come_of p.opened c.unfinished) (ErrorResponse fields ∷ [])));
  })

  later_error : HoldsError a ms p c → Failed
  later_error h =
      let r = h.reads in
      subst (λ (x : Option Fields). HoldsError a (ms ++ ErrorResponse fields ∷ []) (failed_at p) (failed_with c x fields)) (sym h.error) (record {
        none_open = refl;
        fields = h.fields;
        error = h.error;
        reads = (
          r.0,
          r.1,
          r.2,
          r.3,
          r.4 ++ fields ∷ [],
          rw (r.5, map-append ErrorResponse r.4 (fields ∷ [])) (append_assoc (flat_map messages_of c.parts) (r.2 ++ ErrorResponse h.fields ∷ map ErrorResponse r.4) (ErrorResponse fields ∷ []) ∙ ap (λ (x : List BackMessage). flat_map messages_of c.parts ++ x) (append_assoc r.2 (ErrorResponse h.fields ∷ map ErrorResponse r.4) (ErrorResponse fields ∷ []))),
        );
      })

  pub holds_error : Holds a ms p c → Failed
  holds_error h = (elim p.failed as (λ b. HoldsBy b a ms p c → Failed) [ true ↦ later_error | false ↦ first_error ]) h

-- ---- any message that may come

error_is : (m : BackMessage) (fields : Fields) → error_of m ≡ Some fields → m ≡ ErrorResponse fields
error_is m fields e = grind arith

-- a message that is no error goes on from a place without one
goes_plain : (a : Asked) (p : Place) (m : BackMessage) → error_of m ≡ None → goes a p (mark_of m) ≡ cond p.failed None (option_map (led_to a p) (next_open a p.answers p.opened (mark_of m)))
goes_plain a p m plain = grind arith

module _ (a : Asked) (ms : List BackMessage) (c : CollectedView) (m : BackMessage) where
  -- no place that a message of a part leads to has failed
  not_failed : (n : ℕ) (o w : Open) (d : CollectedView) → HoldsParts a (ms ++ m ∷ []) (led_to a (at n o) w) d → Holds a (ms ++ m ∷ []) (led_to a (at n o) w) d
  not_failed n o opened.Nothing d h = h
  not_failed n o _ d h = h

  part_at : (n : ℕ) (o : Open) (failed : Bool) (q : Place) → HoldsBy failed a ms (record { answers = n; opened = o; failed = failed }) c
      → cond failed None (option_map (led_to a (record { answers = n; opened = o; failed = failed })) (next_open a n o (mark_of m))) ≡ Some q
      → Holds a (ms ++ m ∷ []) q (collect a o c m)
  part_at n o true q h g = absurd cc
  part_at n o false q h g = by (next_open a n o (mark_of m)) (any_then a ms n o c h m) g
    where
      by : (x : Option Open) → Then a ms n c o m c.unfinished x → option_map (led_to a (at n o)) x ≡ Some q → Holds a (ms ++ m ∷ []) q (collect a o c m)
      by None k is = absurd cc
      by (Some w) k is =
          let there : led_to a (at n o) w ≡ q = cc in
          subst (λ (r : Place). Holds a (ms ++ m ∷ []) r (collect a o c m)) there (not_failed n o w (collect a o c m) k)

  pub holds_part : (p q : Place) → error_of m ≡ None → Holds a ms p c → goes a p (mark_of m) ≡ Some q → Holds a (ms ++ m ∷ []) q (collect a p.opened c m)
  holds_part p q plain h e = part_at p.answers p.opened p.failed q h (sym (goes_plain a p m plain) ∙ e)

  error_at : (p q : Place) (fields : Fields) → m ≡ ErrorResponse fields → Holds a ms p c → goes a p (mark_of m) ≡ Some q → Holds a (ms ++ m ∷ []) q (collect a p.opened c m)
  error_at p q fields is h e =
      let there : failed_at p ≡ q = (let k : Some (failed_at p) ≡ Some q = sym (ap (λ (x : BackMessage). goes a p (mark_of x)) is) ∙ e in cc) in
      subst (λ (x : BackMessage). Holds a (ms ++ x ∷ []) q (collect a p.opened c x)) (sym is)
      (subst (λ (r : Place). Holds a (ms ++ ErrorResponse fields ∷ []) r (failed_with c c.error fields)) there (holds_error a ms c fields p h))

  -- any message, error or not
  pub holds_next : (p q : Place) → Holds a ms p c → goes a p (mark_of m) ≡ Some q → Holds a (ms ++ m ∷ []) q (collect a p.opened c m)
  holds_next p q h e = by (error_of m) refl
    where
      by : (o : Option Fields) → error_of m ≡ o → Holds a (ms ++ m ∷ []) q (collect a p.opened c m)
      by None plain = holds_part p q plain h e
      by (Some fields) plain = error_at p q fields (error_is m fields plain) h e

-- whichever asides came
pub with_asides : (a : Asked) (ms : List BackMessage) (p : Place) (c : CollectedView) (asides : List Aside) → Holds a ms p c → Holds a ms p (record c { asides = asides })
with_asides a ms p c asides h = (elim p.failed as (λ b. HoldsBy b a ms p c → HoldsBy b a ms p (record c { asides = asides })) [ true ↦ λ k. search | false ↦ λ k. search ]) h

-- ---- all messages so far

-- nothing is answered at first
pub still_start : (a : Asked) → still_asked a 0 ≡ a
still_start Results = refl
still_start (Steps steps) = refl

pub holds_start : (a : Asked) → Holds a [] start nothing_collected
holds_start a = record { rest = a; answered = refl; still = still_start a; opens = refl; no_error = refl; messages = refl }

-- from nowhere on leads nowhere
goes_by-none : (a : Asked) (ms : List BackMessage) → goes_by a None ms ≡ None
goes_by-none a [] = refl
goes_by-none a (m ∷ ms) = refl

pub goes_by-append : (a : Asked) (p : Option Place) (xs ys : List BackMessage) → goes_by a p (xs ++ ys) ≡ goes_by a (goes_by a p xs) ys
goes_by-append a p [] ys = refl
goes_by-append a None (x ∷ xs) ys = sym (goes_by-none a ys)
goes_by-append a (Some p) (x ∷ xs) ys = goes_by-append a (goes a p (mark_of x)) xs ys

-- what leads to a place comes from one
pub some_before : (a : Asked) (q : Option Place) (ms : List BackMessage) (p : Place) → goes_by a q ms ≡ Some p → (r : Place) × (q ≡ Some r)
some_before a None ms p e = (let k : None ≡ Some p = sym (goes_by-none a ms) ∙ e in absurd cc)
some_before a (Some r) ms p e = (r, refl)

-- whatever leads to a place, something was collected of it
holds_from : (a : Asked) (before : List BackMessage) (p q : Place) (c : CollectedView) (ms : List BackMessage) → Holds a before p c → goes_by a (Some p) ms ≡ Some q → (d : CollectedView) × Holds a (before ++ ms) q d
holds_from a before p q c [] h e =
    let same : p ≡ q = (let k : Some p ≡ Some q = e in cc) in
    (c, subst (λ (x : Place). Holds a (before ++ []) x c) same (subst (λ (x : List BackMessage). Holds a x p c) (sym (append-nil before)) h))
holds_from a before p q c (m ∷ ms) h e =
    let r = some_before a (goes a p (mark_of m)) ms q e in
    let next = holds_from a (before ++ m ∷ []) r.0 q (collect a p.opened c m) ms (holds_next a before c m p r.0 h r.1) (ap (λ (o : Option Place). goes_by a o ms) (sym r.1) ∙ e) in
    (next.0, subst (λ (x : List BackMessage). Holds a x q next.0) (append_assoc before (m ∷ []) ms) next.1)

pub holds_after : (a : Asked) (ms : List BackMessage) (q : Place) → goes_all a ms ≡ Some q → (d : CollectedView) × Holds a ms q d
holds_after a ms q e = holds_from a [] start q nothing_collected ms (holds_start a) e

-- no message adds an aside
pub collect_asides : (a : Asked) (o : Open) (c : CollectedView) (m : BackMessage) → (collect a o c m).asides ≡ c.asides
collect_asides a o c m = grind arith

-- ---- the end

none_left : (steps : List Step) (n : ℕ) → nat_le (length steps) n ≡ true → IsDone (Steps (drop n steps))
none_left steps n e = rw (drop_all n steps (leb-true (length steps) n e)) tt

done : (a : Asked) (n : ℕ) → all_answered a n ≡ true → IsDone (still_asked a n)
done Results n e = tt
done (Steps steps) n e = none_left steps n e

-- where ReadyForQuery may come, the messages are the parts that were collected, and the error
module _ (a : Asked) (ms : List BackMessage) (c : CollectedView) where
  parts_end : (n : ℕ) (o : Open) → HoldsParts a ms (at n o) c → ends_with a o n ≡ true → Reads a ms c.parts c.error
  parts_end n opened.Nothing h e =
      subst (Reads a ms c.parts) (sym h.no_error) (h.rest, h.answered, subst IsDone h.still (done a n e), h.messages ∙ append-nil (flat_map messages_of c.parts))
  parts_end n _ h e = absurd cc

  ends_by : (n : ℕ) (o : Open) (failed : Bool) → HoldsBy failed a ms (record { answers = n; opened = o; failed = failed }) c → cond failed true (ends_with a o n) ≡ true → Reads a ms c.parts c.error
  ends_by n o true h e = subst (Reads a ms c.parts) (sym h.error) h.reads
  ends_by n o false h e = parts_end n o h e

  pub holds_end : (p : Place) → Holds a ms p c → may_end a p ≡ true → Reads a ms c.parts c.error
  holds_end p h e = ends_by p.answers p.opened p.failed h e
