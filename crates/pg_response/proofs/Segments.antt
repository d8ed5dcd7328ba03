-- Where the messages of a segment lead, and what was collected of them, is what the grammar says of it.
use Rattle.std.proofs.Common.{◌≡◌, ℕ, zero, suc, length, drop, List, [], ◌∷◌, ◌++◌, map, Option, Some, None, Bool, true, cond, refl, sym, ap, subst, ◌∙◌, append_assoc, inl, inr, arith}
use Rattle.std.specs.Prelude.{ℤ, nat_le}
use Rattle.std.specs.List.{flat_map}
use Rattle.std.proofs.Math.Dec.{leb-zero, leb-suc-suc}
use Rattle.pg_wire.specs.message.BackMessage.{BackMessage}
use Rattle.pg_wire.specs.message.BackMessage.TheVariants.{RowDescription, DataRow, CommandComplete, EmptyQuery, ParseComplete, BindComplete, CloseComplete, NoData, PortalSuspended, ParameterDescription, ErrorResponse, CopyData, CopyDone, Ready}
use Rattle.pg_wire.specs.message.BackMessage.TheVariants as back
use Rattle.pg_wire.specs.value.Column.{Column}
use Rattle.pg_wire.specs.value.Target.TheVariants.{Statement, Portal}
use Rattle.pg_wire.specs.declared.session.ExecEnd.{ExecEnd}
use Rattle.pg_wire.specs.declared.session.Part.{Part}
use Rattle.pg_wire.specs.declared.session.Part.TheVariants as part
use Rattle.pg_wire.specs.declared.session.Step.{Step}
use Rattle.pg_wire.specs.declared.session.Step.TheVariants as step
use Rattle.pg_wire.specs.Segment.{Fields, Asked, Results, Steps, Answers, IsCutOff, IsDone, is_answer, is_result, Reads, messages_of, parameters_sent, columns_sent, execute_end_sent, asides_of, without_asides, asked, Begins, Fits}
use Rattle.pg_response.specs.declared.place.Open.{Open}
use Rattle.pg_response.specs.declared.place.Open.TheVariants as opened
use Rattle.pg_response.specs.declared.place.Place.{Place}
use Rattle.pg_response.specs.Place.{mark_of, still_asked, start, one_more, goes, goes_by, goes_all, all_answered, ends_with, may_end}
use Rattle.pg_response.proofs.Holding.{at, counted, goes_by-append, still_start, failed_at, holds_after, holds_end, holds_error, some_before}
use Rattle.pg_response.proofs.Lists.{front_splits, snoc_front, without_asides-append}
use Rattle.std.proofs.lemmas.List.{append-nil}
use Rattle.pg_wire.specs.value.Status.{Status}
use Rattle.pg_wire.specs.value.Status.TheVariants.{Idle}
use Rattle.pg_wire.specs.declared.session.Outcome.{Outcome}
use Rattle.pg_wire.specs.declared.session.Request.{Request}
use Rattle.pg_response.specs.Collected.{CollectedView, failed_with, Holds, outcome_of}

-- ---- one part: its messages but the last leave it open, and the last closes it

-- all but the last message of a part, and the last
abbrev front_of : Part → List BackMessage
front_of (part.Rows columns rows tag) = RowDescription columns ∷ map DataRow rows
front_of (part.CopyOut head chunks tag) = back.CopyOut head ∷ map CopyData chunks ++ CopyDone ∷ []
front_of (part.CopyIn head tag) = back.CopyIn head ∷ []
front_of (part.Described parameters columns) = parameters_sent parameters
front_of (part.Executed rows end) = map DataRow rows
front_of _ = []

abbrev last_of : Part → BackMessage
last_of (part.Rows columns rows tag) = CommandComplete tag
last_of (part.Command tag) = CommandComplete tag
last_of part.Empty = EmptyQuery
last_of (part.CopyOut head chunks tag) = CommandComplete tag
last_of (part.CopyIn head tag) = CommandComplete tag
last_of part.Parsed = ParseComplete
last_of part.Bound = BindComplete
last_of (part.Described parameters columns) = columns_sent columns
last_of (part.Executed rows end) = execute_end_sent end
last_of part.Shut = CloseComplete

front_last : (p : Part) → messages_of p ≡ front_of p ++ last_of p ∷ []
front_last (part.CopyOut head chunks tag) = ap (λ (ms : List BackMessage). back.CopyOut head ∷ ms) (sym (append_assoc (map CopyData chunks) (CopyDone ∷ []) (CommandComplete tag ∷ [])))
front_last _ = refl

module _ (a : Asked) (n : ℕ) where
  abbrev There : Open → Option Place
  There o = Some (at n o)

  -- messages after which the same stays unfinished
  loop : {A : Type 0} (f : A → BackMessage) (o : Open) → ((x : A) → goes a (at n o) (mark_of (f x)) ≡ There o) → (xs : List A) → goes_by a (There o) (map f xs) ≡ There o
  loop f o stays [] = refl
  loop f o stays (x ∷ xs) = ap (λ (q : Option Place). goes_by a q (map f xs)) (stays x) ∙ loop f o stays xs

  -- where a part's front leads from where nothing is unfinished, and that its last message closes it there
  pub record Passes (p : Part) : Type 0 where
    pub open_part : Open
    pub front : goes_by a (There opened.Nothing) (front_of p) ≡ There open_part
    pub last : goes a (at n open_part) (mark_of (last_of p)) ≡ Some (at (one_more a n) opened.Nothing)

  result_passes : (p : Part) → still_asked a n ≡ Results → is_result p ≡ true → Passes p
  result_passes (part.Rows columns rows tag) e h = record {
    open_part = opened.Rows;
    front = rw (e, goes_by) (loop DataRow opened.Rows (λ r. refl) rows);
    last = refl;
  }
  result_passes (part.Command tag) e h = record { open_part = opened.Nothing; front = refl; last = rw e refl }
  result_passes part.Empty e h = record { open_part = opened.Nothing; front = refl; last = rw e refl }
  result_passes (part.CopyOut head chunks tag) e h = record {
    open_part = opened.CopyOutEnded;
    front = rw (e, goes_by, goes_by-append a (There opened.CopyOut) (map CopyData chunks) (CopyDone ∷ []), loop CopyData opened.CopyOut (λ x. refl) chunks) refl;
    last = refl;
  }
  result_passes (part.CopyIn head tag) e h = record { open_part = opened.CopyIn; front = rw e refl; last = refl }
  result_passes _ e h = absurd cc

  executed_passes : (portal : List ℕ) (max_rows : ℤ) (ss : List Step) (rows : List (List (Option (List ℕ)))) (end : ExecEnd) → still_asked a n ≡ Steps (step.Execute portal max_rows ∷ ss) → Passes (part.Executed rows end)
  executed_passes portal max_rows ss [] end e = record { open_part = opened.Nothing; front = refl; last = grind (arith, e) }
  executed_passes portal max_rows ss (r ∷ rs) end e = record {
    open_part = opened.Executed;
    front = rw e (loop DataRow opened.Executed (λ r. refl) rs);
    last = grind arith;
  }

  portal_passes : (name : List ℕ) (ss : List Step) (columns : Option (List Column)) → still_asked a n ≡ Steps (step.Describe Portal name ∷ ss) → Passes (part.Described None columns)
  portal_passes name ss columns e = record { open_part = opened.Nothing; front = refl; last = grind (arith, e) }

  statement_passes : (name : List ℕ) (ss : List Step) (types : List ℕ) (columns : Option (List Column)) → still_asked a n ≡ Steps (step.Describe Statement name ∷ ss) → Passes (part.Described (Some types) columns)
  statement_passes name ss types columns e = record { open_part = opened.Described; front = rw e refl; last = grind arith }

  answer_passes : (s : Step) (ss : List Step) (p : Part) → still_asked a n ≡ Steps (s ∷ ss) → is_answer s p ≡ true → Passes p
  answer_passes (step.Parse name text types) ss part.Parsed e h = record { open_part = opened.Nothing; front = refl; last = rw e refl }
  answer_passes (step.Bind portal statement formats values result_formats) ss part.Bound e h = record { open_part = opened.Nothing; front = refl; last = rw e refl }
  answer_passes (step.Describe Statement name) ss (part.Described (Some types) columns) e h = statement_passes name ss types columns e
  answer_passes (step.Describe Portal name) ss (part.Described None columns) e h = portal_passes name ss columns e
  answer_passes (step.Execute portal max_rows) ss (part.Executed rows end) e h = executed_passes portal max_rows ss rows end e
  answer_passes (step.Close target name) ss part.Shut e h = record { open_part = opened.Nothing; front = refl; last = rw e refl }
  answer_passes _ ss _ e h = absurd cc

  part_passes : (l : Asked) (p : Part) (next : Asked) → still_asked a n ≡ l → Answers l (p ∷ []) next → Passes p
  part_passes Results p next e h = result_passes p e h.0
  part_passes (Steps []) p next e h = absurd h
  part_passes (Steps (s ∷ ss)) p next e h = answer_passes s ss p e h.0

  part_goes : (p : Part) → Passes p → goes_by a (There opened.Nothing) (messages_of p) ≡ Some (at (one_more a n) opened.Nothing)
  part_goes p h = rw (front_last p, goes_by-append a (There opened.Nothing) (front_of p) (last_of p ∷ []), h.front) h.last

-- ---- whole parts

split_first : (l : Asked) (p : Part) (ps : List Part) (rest : Asked) → Answers l (p ∷ ps) rest → (mid : Asked) × Answers l (p ∷ []) mid × Answers mid ps rest
split_first Results p ps rest h = (Results, (h.0, refl), h.1)
split_first (Steps []) p ps rest h = absurd h
split_first (Steps (s ∷ ss)) p ps rest h = (Steps ss, (h.0, refl), h.1)

parts_go : (a : Asked) (n : ℕ) (l : Asked) (parts : List Part) (rest : Asked) → still_asked a n ≡ l → Answers l parts rest
    → (k : ℕ) × (goes_by a (Some (at n opened.Nothing)) (flat_map messages_of parts) ≡ Some (at k opened.Nothing)) × (still_asked a k ≡ rest)
parts_go a n l [] rest e h = (n, refl, e ∙ sym h)
parts_go a n l (p ∷ ps) rest e h =
    let s = split_first l p ps rest h in
    let more = parts_go a (one_more a n) s.0 ps rest (counted a n l p s.0 e s.1) s.2 in (
      more.0,
      goes_by-append a (Some (at n opened.Nothing)) (messages_of p) (flat_map messages_of ps) ∙ (ap (λ (q : Option Place). goes_by a q (flat_map messages_of ps)) (part_goes a n p (part_passes a n l p s.0 e s.1)) ∙ more.1),
      more.2,
    )

-- ---- what an error cuts off

cut_goes : (a : Asked) (n : ℕ) (l : Asked) (cut : List BackMessage) → still_asked a n ≡ l → IsCutOff l cut → (p : Place) × (goes_by a (Some (at n opened.Nothing)) cut ≡ Some p)
cut_goes a n l cut e (inl is) = (at n opened.Nothing, ap (goes_by a (Some (at n opened.Nothing))) is)
cut_goes a n l cut e (inr h) =
    let passes = part_passes a n l h.0 h.3 e h.4 in
    let s = front_splits (front_of h.0) (last_of h.0) cut h.1 h.2 (sym (front_last h.0) ∙ h.5) in
    some_before a (goes_by a (Some (at n opened.Nothing)) cut) s.0 (at n passes.open_part)
    (sym (goes_by-append a (Some (at n opened.Nothing)) cut s.0) ∙ (ap (goes_by a (Some (at n opened.Nothing))) (sym s.1) ∙ passes.front))

errors_go : (a : Asked) (p : Place) (more : List Fields) → p.failed ≡ true → (q : Place) × (goes_by a (Some p) (map ErrorResponse more) ≡ Some q) × (q.failed ≡ true)
errors_go a p [] e = (p, refl, e)
errors_go a p (f ∷ fs) e = errors_go a (record p { opened = opened.Nothing; failed = true }) fs refl

-- ---- all messages of a segment

done_all : (steps : List Step) (n : ℕ) → IsDone (Steps (drop n steps)) → nat_le (length steps) n ≡ true
done_all [] zero h = leb-zero zero
done_all [] (suc n) h = leb-zero (suc n)
done_all (s ∷ ss) zero h = absurd h
done_all (s ∷ ss) (suc n) h = leb-suc-suc (length ss) n ∙ done_all ss n h

all_done : (a : Asked) (n : ℕ) → IsDone (still_asked a n) → all_answered a n ≡ true
all_done Results n h = refl
all_done (Steps steps) n h = done_all steps n h

reads_go : (a : Asked) (ms : List BackMessage) (parts : List Part) (error : Option Fields) → Reads a ms parts error → (p : Place) × (goes_all a ms ≡ Some p) × (may_end a p ≡ true)
reads_go a ms parts None h =
    let whole = parts_go a 0 a parts h.0 (still_start a) h.1 in
    (at whole.0 opened.Nothing, ap (goes_all a) h.3 ∙ whole.1, all_done a whole.0 (subst IsDone (sym whole.2) h.2))
reads_go a ms parts (Some fields) h =
    let whole = parts_go a 0 a parts h.0 (still_start a) h.1 in
    let cut = cut_goes a whole.0 h.0 h.2 whole.2 h.3 in
    let failed = errors_go a (record cut.0 { opened = opened.Nothing; failed = true }) h.4 refl in
    let errors = ErrorResponse fields ∷ map ErrorResponse h.4 in
    let goes_there : goes_all a ms ≡ Some failed.0 =
    rw (h.5, goes_by-append a (Some start) (flat_map messages_of parts) (h.2 ++ errors), whole.1, goes_by-append a (Some (at whole.0 opened.Nothing)) h.2 errors, cut.1) failed.1 in
    (failed.0, goes_there, ap (λ (b : Bool). cond b true (ends_with a failed.0.opened failed.0.answers)) failed.2)

-- ---- a segment

-- a whole segment leads to where it may end
pub fits_go : (request : Request) (body : List BackMessage) (status : Status) (outcome : Outcome) → Fits request (body ++ Ready status ∷ []) outcome → (p : Place) × (goes_all (asked request) (without_asides body) ≡ Some p) × (may_end (asked request) p ≡ true)
fits_go request body status outcome h =
    let same = (snoc_front body h.body (Ready status) (Ready outcome.status) h.closed).0 in
    let r = reads_go (asked request) (without_asides h.body) outcome.parts outcome.error h.reads in
    (r.0, ap (λ (ms : List BackMessage). goes_all (asked request) (without_asides ms)) same ∙ r.1, r.2)

-- where it may end, the segment fits with what was collected of it
pub holds_fits : (request : Request) (body : List BackMessage) (status : Status) (p : Place) (c : CollectedView) → Holds (asked request) (without_asides body) p c → may_end (asked request) p ≡ true → asides_of body ≡ c.asides → Fits request (body ++ Ready status ∷ []) (outcome_of c status)
holds_fits request body status p c h e asides = record { body = body; closed = refl; asides = asides; reads = holds_end (asked request) (without_asides body) c p h e }

-- or with it and the asides of the segment
pub holds_fit : (request : Request) (body : List BackMessage) (status : Status) (p : Place) (c : CollectedView) → Holds (asked request) (without_asides body) p c → may_end (asked request) p ≡ true → (outcome : Outcome) × Fits request (body ++ Ready status ∷ []) outcome
holds_fit request body status p c h e = (
  record { parts = c.parts; error = c.error; status = status; asides = asides_of body },
  record { body = body; closed = refl; asides = refl; reads = holds_end (asked request) (without_asides body) c p h e },
)

-- messages that lead anywhere begin a segment that fits: an error and ReadyForQuery may follow
pub goes_begin : (request : Request) (ms : List BackMessage) (p : Place) → goes_all (asked request) (without_asides ms) ≡ Some p → Begins request ms
goes_begin request ms p e =
    let body = ms ++ ErrorResponse [] ∷ [] in
    let core : without_asides body ≡ without_asides ms ++ ErrorResponse [] ∷ [] = without_asides-append ms (ErrorResponse [] ∷ []) in
    let held = holds_after (asked request) (without_asides ms) p e in
    let failed = holds_error (asked request) (without_asides ms) held.0 [] p held.1 in
    let c = failed_with held.0 held.0.error [] in
    let fits = holds_fit request body Idle (failed_at p) c (subst (λ (x : List BackMessage). Holds (asked request) x (failed_at p) c) (sym core) failed) refl in
    (ErrorResponse [] ∷ Ready Idle ∷ [], fits.0, subst (λ (x : List BackMessage). Fits request x fits.0) (append_assoc ms (ErrorResponse [] ∷ []) (Ready Idle ∷ [])) fits.1)

-- and messages that begin one, without its end, lead somewhere
pub begins_go : (request : Request) (ms : List BackMessage) → Begins request ms → ((body : List BackMessage) (status : Status) → ms ≡ body ++ Ready status ∷ [] → ⊥) → (p : Place) × (goes_all (asked request) (without_asides ms) ≡ Some p)
begins_go request ms b no_end = go b.0 b.2
  where
    go : (more : List BackMessage) → Fits request (ms ++ more) b.1 → (p : Place) × (goes_all (asked request) (without_asides ms) ≡ Some p)
    go [] fits = absurd (no_end fits.body b.1.status (sym (append-nil ms) ∙ fits.closed))
    go (n ∷ others) fits =
        let s = front_splits fits.body (Ready b.1.status) ms n others (sym fits.closed) in
        let whole = reads_go (asked request) (without_asides fits.body) b.1.parts b.1.error fits.reads in
        let core : without_asides fits.body ≡ without_asides ms ++ without_asides s.0 = ap without_asides s.1 ∙ without_asides-append ms s.0 in
        some_before (asked request) (goes_all (asked request) (without_asides ms)) (without_asides s.0) whole.0
        (sym (goes_by-append (asked request) (Some start) (without_asides ms) (without_asides s.0)) ∙ (sym (ap (goes_all (asked request)) core) ∙ whole.1))
