-- What happens in a loop, event by event.
use Rattle.std.proofs.Common.{◌≡◌, ◌≤◌, ◌<◌, ◌+◌, ◌-◌, ℕ, zero, suc, nat_eq, Bool, true, false, List, [], ◌∷◌, ◌++◌, Result, Ok, Err, refl, sym, ap, subst, ◌∙◌, append_assoc, append-nil, arith}
use Rattle.std.specs.Iterator.{Yields}
use Rattle.std.proofs.lemmas.Grind.{flat_map-append}
use Rattle.std.specs.Vec.Iter.{into_iter_items, into_iter_steps}
use Rattle.std.specs.declared.vec.IntoIter.{IntoIter}
use Rattle.pg_copy.specs.Row.{Row}
use Rattle.pg_wire.specs.declared.link.LinkFault.{LinkFault}
use Rattle.pg_pair.specs.Carrying.{Carrying}
use Rattle.pg_pair.specs.declared.carry.Way.{Way}
use Rattle.pg_pair.specs.declared.carry.Way.TheVariants.{ToBackend, ToClient}
use Rattle.pg_pair.specs.declared.event.Applied.{Applied}
use Rattle.pg_pair.specs.declared.event.Event.{Event}
use Rattle.pg_pair.specs.View.{PairView, way_state}
use Rattle.pgpipe_files.specs.declared.calls_file.CallLine.{CallLine}
use Rattle.pgpipe_base.specs.declared.fault.ToolFault.{ToolFault}
use Rattle.pgpipe_base.specs.declared.fault.ToolFault.TheVariants as fault
use Rattle.pgpipe_loop.specs.Lines.{text_line, text_lines}
use Rattle.pgpipe_loop.specs.RunLoop.{PlannedEvent, planned_events, line_events, times, Happened, one_more, came_to_nothing, left_to_happen, rows_told}
use Rattle.pgpipe_loop.specs.Private.Running.{delivery, Taking, At, Sends, Prints, HasDone, IsRefused, HasSinkFailed, Does, DoesAll, DoesOnce}
use Rattle.pgpipe_base.proofs.Pieces.{puts_then}

text_lines-append : (xs ys : List Row) → text_lines (xs ++ ys) ≡ text_lines xs ++ text_lines ys
text_lines-append xs ys = flat_map-append text_line xs ys

-- what an iterator has given is the front of its items
pub given_first : {X A : Type 0} (s : IntoIter X A) (xs : List X) (t : IntoIter X A) → Yields into_iter_steps s xs t → into_iter_items s ≡ xs ++ into_iter_items t
given_first s [] t y = ap into_iter_items y
given_first s (x ∷ xs) t y = y.1.0 ∙ ap (λ ys. x ∷ ys) (given_first y.0 xs t y.2)

-- nothing came of a delivery that moved no byte
pub delivery_nothing : {C : Type 0} (w : Way) (n : ℕ) (p : PairView C) (a : Applied) (q : PairView C) → came_to_nothing (delivery w n) p a q ≡ nat_eq (way_state w q).reached (way_state w p).reached
delivery_nothing ToBackend n p a q = refl
delivery_nothing ToClient n p a q = refl

module _ {C K : Type 0} (carries : Carrying C) (trace : Bool) (takes : Taking K) (failures : K → ℕ) where
  -- lines after lines
  pub sends_then : {A : Type 0} (start k k' : K) (xs ys : List Row) (r : Result A LinkFault) → Sends {A = Unit {0}} takes failures start (text_lines xs) (Ok tt) k → Sends takes failures k (text_lines ys) r k' → Sends takes failures start (text_lines (xs ++ ys)) r k'
  sends_then {A} start k k' xs ys r p q = subst (λ (t : List ℕ). Sends {A = A} takes failures start t r k') (sym (text_lines-append xs ys)) (puts_then takes failures [] start (text_lines xs) [] k (text_lines ys) r [] k' p q)

  -- ---- one event

  module _ (start : K) (begun : PairView C) (all left : List PlannedEvent) (e : Event) (n : ℕ) (old new : At C K) (stands : HasDone carries trace takes failures start begun all old (record { event = e; again = n } ∷ left)) where
    pub printed : (a : Applied) → Prints carries trace takes failures e old (Ok a) new → HasDone carries trace takes failures start begun all new (left_to_happen (came_to_nothing e old.pair a new.pair) (record { event = e; again = n }) ++ left)
    printed a p = record {
      rows = stands.rows ++ rows_told trace e old.pair a new.pair;
      happened = subst (λ (b : Bool). Happened carries trace begun all new.pair (left_to_happen (came_to_nothing e old.pair a new.pair) (record { event = e; again = n }) ++ left) (stands.rows ++ rows_told trace e old.pair a new.pair) b) (sym p.1)
          (one_more old.pair new.pair (record { event = e; again = n }) left stands.rows old.failed a stands.happened p.0);
      sent = sends_then start old.sink new.sink stands.rows (rows_told trace e old.pair a new.pair) (Ok tt) stands.sent p.2;
    }

    pub refused : new.sink ≡ old.sink → IsRefused carries trace takes failures start begun all new.sink
    refused e = record { at = old; left = _; stands = stands; sink_is = e }

    pub broken : Prints carries trace takes failures e old (Err fault.Device) new → HasSinkFailed carries trace takes failures start begun all new.sink
    broken p = record {
      pair = new.pair;
      left = _;
      rows = stands.rows ++ rows_told trace e old.pair p.0 new.pair;
      failed = _;
      fault = p.1;
      happened = one_more old.pair new.pair (record { event = e; again = n }) left stands.rows old.failed p.0 stands.happened p.2;
      sent = sends_then start old.sink new.sink stands.rows (rows_told trace e old.pair p.0 new.pair) (Err p.1) stands.sent p.3;
    }

  -- an event that happened, whatever is done with its answer
  pub once : (e : Event) (old new : At C K) (a : Applied) (b : Bool) → Prints carries trace takes failures e old (Ok a) new → b ≡ came_to_nothing e old.pair a new.pair → DoesOnce carries trace takes failures e old (Ok b) new
  once e old new a b p is = λ n start begun all left stands. subst (λ (x : Bool). HasDone carries trace takes failures start begun all new (left_to_happen x (record { event = e; again = n }) ++ left)) (sym is) (printed start begun all left e n old new stands a p)

  pub not_once : {A : Type 0} (rest : A → List PlannedEvent) (e : Event) (n : ℕ) (old new : At C K) (s : ToolFault) → Prints carries trace takes failures e old (Err s) new → Does carries trace takes failures (record { event = e; again = n } ∷ []) rest old (Err s) new
  not_once rest e n old new fault.Memory p = λ start begun all left stands. refused start begun all left e n old new stands p
  not_once rest e n old new fault.Device p = λ start begun all left stands. broken start begun all left e n old new stands p

  pub event_fails : (e : Event) (old new : At C K) (s : ToolFault) → Prints carries trace takes failures e old (Err s) new → DoesAll {A = Unit {0}} carries trace takes failures (times 1 e) old (Err s) new
  event_fails e old new s p = not_once {A = Unit {0}} (λ x. []) e 0 old new s p

  once_left : (b : Bool) (e : Event) → left_to_happen b (record { event = e; again = 0 }) ≡ []
  once_left true e = refl
  once_left false e = refl

  -- an event that is to happen once
  pub one_event : (e : Event) (old new : At C K) (a : Applied) → Prints carries trace takes failures e old (Ok a) new → DoesAll {A = Unit {0}} carries trace takes failures (times 1 e) old (Ok tt) new
  one_event e old new a p = λ start begun all left stands.
      subst (λ (l : List PlannedEvent). HasDone carries trace takes failures start begun all new (l ++ left)) (once_left (came_to_nothing e old.pair a new.pair) e) (printed start begun all left e 0 old new stands a p)

  pub delivered : (w : Way) (n : ℕ) (e : Event) (old new : At C K) (a : Applied) (b : Bool) → e ≡ delivery w n → Prints carries trace takes failures e old (Ok a) new → b ≡ nat_eq (way_state w new.pair).reached (way_state w old.pair).reached
      → DoesOnce carries trace takes failures (delivery w n) old (Ok b) new
  delivered w n e old new a b is p moved = once (delivery w n) old new a b (subst (λ (x : Event). Prints carries trace takes failures x old (Ok a) new) is p) (moved ∙ sym (delivery_nothing w n old.pair a new.pair))

  pub undelivered : (w : Way) (n : ℕ) (e : Event) (old new : At C K) (s : ToolFault) → e ≡ delivery w n → Prints carries trace takes failures e old (Err s) new → DoesOnce carries trace takes failures (delivery w n) old (Err s) new
  undelivered w n e old new s is p = λ k. not_once (λ nothing. left_to_happen nothing (record { event = delivery w n; again = k })) (delivery w n) k old new s (subst (λ (x : Event). Prints carries trace takes failures x old (Err s) new) is p)

  -- ---- one thing after the other

  -- what is left is left, whatever it is written as
  stands_by : (start : K) (begun : PairView C) (all xs ys : List PlannedEvent) (at : At C K) → xs ≡ ys → HasDone carries trace takes failures start begun all at xs → HasDone carries trace takes failures start begun all at ys
  stands_by start begun all xs ys at e s = subst (HasDone carries trace takes failures start begun all at) e s

  -- work that failed, with more to happen after it
  pub fails_before : (xs ys : List PlannedEvent) (old new : At C K) (s : ToolFault) → DoesAll {A = Unit {0}} carries trace takes failures xs old (Err s) new → DoesAll {A = Unit {0}} carries trace takes failures (xs ++ ys) old (Err s) new
  fails_before xs ys old new fault.Memory d = λ start begun all left stands. d start begun all (ys ++ left) (stands_by start begun all _ _ old (append_assoc xs ys left) stands)
  fails_before xs ys old new fault.Device d = λ start begun all left stands. d start begun all (ys ++ left) (stands_by start begun all _ _ old (append_assoc xs ys left) stands)

  -- all of the first, and then the second
  pub after : (xs ys : List PlannedEvent) (old mid new : At C K) (r : Result Unit ToolFault) → DoesAll {A = Unit {0}} carries trace takes failures xs old (Ok tt) mid → DoesAll {A = Unit {0}} carries trace takes failures ys mid r new → DoesAll {A = Unit {0}} carries trace takes failures (xs ++ ys) old r new
  after xs ys old mid new r d f = λ start begun all left stands. f start begun all left (d start begun all (ys ++ left) (stands_by start begun all _ _ old (append_assoc xs ys left) stands))

  -- ---- again and again

  times_some : (n : ℕ) (e : Event) → 0 < n → times n e ≡ record { event = e; again = n - 1 } ∷ []
  times_some zero e lt = absurd (omega arith)
  times_some (suc n) e lt = let same : suc n - 1 ≡ n = omega arith in rw same refl

  -- an event of which some times are left has happened once more
  pub next_time : (n i : ℕ) (e : Event) (old mid new : At C K) (b : Bool) → i < n → Does {A = Unit {0}} carries trace takes failures (times n e) (λ x. times (n - i) e) old (Ok tt) mid → DoesOnce carries trace takes failures e mid (Ok b) new
      → Does {A = Unit {0}} carries trace takes failures (times n e) (λ x. left_to_happen b (record { event = e; again = n - i - 1 })) old (Ok tt) new
  next_time n i e old mid new b lt d o = λ start begun all left stands.
      o (n - i - 1) start begun all left (stands_by start begun all _ _ mid (ap (λ (l : List PlannedEvent). l ++ left) (times_some (n - i) e (omega arith))) (d start begun all left stands))

  pub next_goes_on : (n i : ℕ) (e : Event) (old new : At C K) → i < n → Does {A = Unit {0}} carries trace takes failures (times n e) (λ x. left_to_happen false (record { event = e; again = n - i - 1 })) old (Ok tt) new
      → Does {A = Unit {0}} carries trace takes failures (times n e) (λ x. times (n - (i + 1)) e) old (Ok tt) new
  next_goes_on n i e old new lt d = let same : n - i - 1 ≡ n - (i + 1) = omega arith in λ start begun all left stands. stands_by start begun all _ _ new (ap (λ (k : ℕ). times k e ++ left) same) (d start begun all left stands)

  pub next_fails : (A : Type 0) (n i : ℕ) (e : Event) (old mid new : At C K) (s : ToolFault) → i < n → Does {A = Unit {0}} carries trace takes failures (times n e) (λ x. times (n - i) e) old (Ok tt) mid → DoesOnce carries trace takes failures e mid (Err s) new
      → DoesAll {A = A} carries trace takes failures (times n e) old (Err s) new
  next_fails A n i e old mid new fault.Memory lt d o = λ start begun all left stands.
      o (n - i - 1) start begun all left (stands_by start begun all _ _ mid (ap (λ (l : List PlannedEvent). l ++ left) (times_some (n - i) e (omega arith))) (d start begun all left stands))
  next_fails A n i e old mid new fault.Device lt d o = λ start begun all left stands.
      o (n - i - 1) start begun all left (stands_by start begun all _ _ mid (ap (λ (l : List PlannedEvent). l ++ left) (times_some (n - i) e (omega arith))) (d start begun all left stands))

  pub no_times_left : (n i : ℕ) (e : Event) (old new : At C K) → n ≤ i → Does {A = Unit {0}} carries trace takes failures (times n e) (λ x. times (n - i) e) old (Ok tt) new → DoesAll {A = Unit {0}} carries trace takes failures (times n e) old (Ok tt) new
  no_times_left n i e old new le d = let none : n - i ≡ 0 = omega arith in λ start begun all left stands. stands_by start begun all _ _ new (ap (λ (k : ℕ). times k e ++ left) none) (d start begun all left stands)

  -- ---- line by line

  planned_events-append : (cut : ℕ) (xs ys : List CallLine) → planned_events cut (xs ++ ys) ≡ planned_events cut xs ++ planned_events cut ys
  planned_events-append cut xs ys = flat_map-append (line_events cut) xs ys

  pub lines_more : (cut : ℕ) (done : List CallLine) (l : CallLine) (old mid new : At C K) → DoesAll {A = Unit {0}} carries trace takes failures (planned_events cut done) old (Ok tt) mid → DoesAll {A = Unit {0}} carries trace takes failures (line_events cut l) mid (Ok tt) new
      → DoesAll {A = Unit {0}} carries trace takes failures (planned_events cut (done ++ l ∷ [])) old (Ok tt) new
  lines_more cut done l old mid new d f =
      let all : planned_events cut (done ++ l ∷ []) ≡ planned_events cut done ++ line_events cut l = planned_events-append cut done (l ∷ []) ∙ ap (λ (ds : List PlannedEvent). planned_events cut done ++ ds) (append-nil (line_events cut l)) in
      subst (λ (ds : List PlannedEvent). DoesAll {A = Unit {0}} carries trace takes failures ds old (Ok tt) new) (sym all) (after (planned_events cut done) (line_events cut l) old mid new (Ok tt) d f)

  pub lines_fail : (cut : ℕ) (all done : List CallLine) (l : CallLine) (rest : List CallLine) (old mid new : At C K) (s : ToolFault) → all ≡ (done ++ l ∷ []) ++ rest
      → DoesAll {A = Unit {0}} carries trace takes failures (planned_events cut done) old (Ok tt) mid → DoesAll {A = Unit {0}} carries trace takes failures (line_events cut l) mid (Err s) new → DoesAll {A = Unit {0}} carries trace takes failures (planned_events cut all) old (Err s) new
  lines_fail cut all done l rest old mid new s e d f =
      let parts : planned_events cut all ≡ planned_events cut done ++ (line_events cut l ++ planned_events cut rest) = ap (planned_events cut) (e ∙ append_assoc done (l ∷ []) rest) ∙ planned_events-append cut done (l ∷ rest) in
      subst (λ (ds : List PlannedEvent). DoesAll {A = Unit {0}} carries trace takes failures ds old (Err s) new) (sym parts)
      (after (planned_events cut done) (line_events cut l ++ planned_events cut rest) old mid new (Err s) d (fails_before (line_events cut l) (planned_events cut rest) mid new s f))
