-- From message to message: what a client that is fed a piece has gone through.
use Rattle.std.proofs.Common.{◌≡◌, ℕ, ◌+◌, ◌≤◌, ◌<◌, List, [], ◌∷◌, ◌++◌, length, Bool, true, false, Option, Some, None, Result, Ok, Err, refl, sym, ap, subst, ◌∙◌, append_assoc, arith, length-append, is_some}
use Rattle.std.specs.Prelude.{is_err}
use Rattle.std.specs.List.{flat_map, AllByRecursion}
use Rattle.std.proofs.lemmas.Grind.{flat_map-append}
use Rattle.std.proofs.lemmas.List.{append-nil}
use Rattle.std.proofs.lemmas.Bool.{false_from_ne_true}
use Rattle.pg_wire.specs.declared.fault.WireFault.{WireFault}
use Rattle.pg_wire.specs.lent.Lent.{Lent}
use Rattle.pg_wire.specs.message.BackMessage.{BackMessage}
use Rattle.pg_wire.specs.Backend.{backend}
use Rattle.pg_wire.specs.Direction.{spelling, HasSpelling}
use Rattle.pg_wire.specs.Frontend.{frontend}
use Rattle.pg_wire.specs.Segment.{status_of}
use Rattle.pg_wire.specs.Decoder.{DecoderState, Pushes}
use Rattle.pg_wire.specs.Stream.{IsWithin, IsOpen}
use Rattle.pg_response.proofs.Lists.{all_both, all_weaker, prefix_of}
use Rattle.pg_client.specs.declared.fault.FeedFault.{FeedFault}
use Rattle.pg_client.specs.declared.fault.FeedFault.TheVariants as feeding
use Rattle.pg_client.specs.declared.phase.Cause.{Cause}
use Rattle.pg_client.specs.declared.phase.Cause.TheVariants as cause
use Rattle.pg_client.specs.declared.stand.Stand.{Stand}
use Rattle.pg_client.specs.Session.{Came}
use Rattle.pg_client.specs.View.{View, key_said, last_from, option_or, value_said}
use Rattle.pg_client.specs.Closed.{cause_of, Ends, IsKept, IsRefusedAt}
use Rattle.pg_client.specs.Client.{FeedAnswers, Feeds, FeedsByCause, FeedsOpen, Hears, happenings, History, IsHistoryBefore, merged, with_ends, with_fed, with_heard, Keeps}
use Rattle.pg_client.specs.Private.Agreeing.{Agrees, shown}
use Rattle.pg_client.specs.Keeping.{AgreesAs}
use Rattle.pg_client.specs.Sent.{answer_to, IsSpelledAt}
use Rattle.pg_client.specs.Stand.{fault_at, hear_with, Stands}
use Rattle.pg_client.specs.Private.Hearing.{Closes, Cuts, GoesOn, HearsAll, HearsOne, IsHearing}
use Rattle.pg_client.specs.Private.Sending.{PutsAnswer}
use Rattle.pg_client.proofs.Calling.Accepting.{allowed_more, not_terminated_more, sent_more}
use Rattle.pg_client.proofs.Standing.Agreeing.{answer_is_said}
use Rattle.pg_client.proofs.Hearing.Faults.{fault_for, fault_named, IsNamed}
use Rattle.pg_client.proofs.Events.Happening.{expected_came, hears, Hears as Judges, rejected_unexpected}
use Rattle.pg_client.proofs.Histories.Seen.{agreeing, seen}
use Rattle.pg_client.proofs.Histories.Merging.{merged-came, with_ends-more}

-- ---- one more message

last_from-more : {A : Type 0} (says : BackMessage → Option A) (o : Option A) (ms : List BackMessage) (m : BackMessage) → last_from says o (ms ++ m ∷ []) ≡ option_or (says m) (last_from says o ms)
last_from-more says o [] m = refl
last_from-more says o (x ∷ xs) m = last_from-more says (option_or (says x) o) xs m

pub some_bytes : (m : BackMessage) → 0 < length (spelling backend m)
some_bytes m = omega arith

pub shorter : (m : BackMessage) (kept left : List ℕ) → kept ≡ spelling backend m ++ left → length left < length kept
shorter m kept left e = omega (arith, ap length e, length-append (spelling backend m) left, some_bytes m)

not_before : (limit : ℕ) (rest piece : List ℕ) (m : BackMessage) (more : List ℕ) → IsOpen backend limit rest → IsWithin backend limit m → rest ++ piece ≡ spelling backend m ++ more → length rest < length (spelling backend m)
not_before limit rest piece m more open_rest within e =
    let whole : length (spelling backend m) ≤ length rest → ⊥ = (λ le. let u = prefix_of rest piece (spelling backend m) more e le in open_rest.no_message m u.0 within u.1) in
    grind (arith, whole)

module _ {K : Type 0} (way : Keeps K) (law : AgreesAs way) where
  -- ---- one more message

  module _ (before : ℕ) (past : History way.Given) (client : View K) (r : IsHearing way before past client) (m : BackMessage) (more : List ℕ) (cuts : Cuts client m more) where
    -- all that happened, with the message
    pub came : merged past.calls (with_ends 0 (past.heard ++ m ∷ [])) ≡ happenings past ++ Came m ∷ []
    came = ap (merged past.calls) (with_ends-more 0 past.heard m)
        ∙ merged-came past.calls m (0 + length (flat_map (spelling backend) past.heard) + length (spelling backend m)) (with_ends 0 past.heard)
        (all_weaker (λ c. c.1 ≤ before) (λ c. c.1 < 0 + length (flat_map (spelling backend) past.heard) + length (spelling backend m)) (λ c le. omega (arith, le, r.late m more cuts.within cuts.begins)) past.calls r.places)

    pub heard_bytes : flat_map (spelling backend) (past.heard ++ m ∷ []) ≡ flat_map (spelling backend) past.heard ++ spelling backend m
    heard_bytes = flat_map-append (spelling backend) past.heard (m ∷ []) ∙ ap (λ (bs : List ℕ). flat_map (spelling backend) past.heard ++ bs) (append-nil (spelling backend m))

    -- where the client stands, by what its events have led to
    pub here : client.known.stand ≡ r.led.was
    here = r.led.now ∙ ap (λ (b : Bool). shown b r.led.was) r.not_handed_back

    pub judged : Judges client.settings.password (happenings past) m (hear_with client.settings.password client.known.stand m)
    judged = hears client.settings.password (happenings past) m client.known.stand (answer_is_said (happenings past) r.happened.expected.after r.happened.allowed) (subst (Stands (happenings past)) (sym here) r.led.stands)

    answer : List ℕ
    answer = flat_map (spelling frontend) (answer_to client.settings m)

    -- the client that has heard it, whatever it lends
    pub heard_one : (new : View K) → new.settings ≡ client.settings → new.kept ≡ more → new.closed ≡ None → HearsOne way client.settings.password m client.known new.known → AllByRecursion (HasSpelling frontend) (answer_to client.settings m)
        → IsHearing way before (with_heard (m ∷ []) new.kept (flat_map (spelling frontend) (answer_to client.settings m)) past) new
    heard_one new settings kept is_open one spelled =
        let hs = happenings past in
        let j = subst (Judges client.settings.password hs m) one.led judged in
        record {
          stream = rw (settings, kept) (record {
            whole = r.stream.whole ∙ ap (λ (bs : List ℕ). flat_map (spelling backend) past.heard ++ bs) cuts.begins ∙ sym (append_assoc (flat_map (spelling backend) past.heard) (spelling backend m) more) ∙ ap (λ (bs : List ℕ). bs ++ more) (sym heard_bytes);
            each = all_both (IsWithin backend client.settings.limit) past.heard (m ∷ []) r.stream.each (cuts.within, tt);
          });
          places = r.places;
          ordered = r.ordered;
          happened = record {
            allowed = rw came (allowed_more hs (Came m) r.happened.allowed tt);
            expected = rw (settings, came) (expected_came client.settings.password hs m new.known.stand r.happened.expected j.0 j.1 j.2);
            sent_is = rw (settings, came) (ap (λ (bs : List ℕ). bs ++ flat_map (spelling frontend) (answer_to client.settings m)) r.happened.sent_is ∙ sym (sent_more client.settings hs (Came m)));
            spelled = rw (settings, came) (all_both (IsSpelledAt client.settings) hs (Came m ∷ []) r.happened.spelled (spelled, tt));
          };
          within = r.within;
          late = λ n others w e. omega (arith, r.late m more cuts.within cuts.begins, ap length heard_bytes, length-append (flat_map (spelling backend) past.heard) (spelling backend m));
          is_open = is_open;
          not_handed_back = r.not_handed_back;
          not_terminated = rw came (not_terminated_more hs (Came m) r.not_terminated (λ t. t));
          led = record {
            was = new.known.stand;
            stands = rw came j.0;
            now = rw r.not_handed_back refl;
            kept = rw came (one.keeps past.given hs (subst (Stands hs) (sym here) r.led.stands) (subst (λ (s : Stand). way.tells client.known.keeper s past.given hs) (sym here) r.led.kept));
            knows = record {
              status = one.status ∙ (ap (option_or (status_of m)) r.led.knows.status ∙ sym (last_from-more status_of None past.heard m));
              parameters = λ name. one.parameters name ∙ (ap (option_or (value_said name m)) (r.led.knows.parameters name) ∙ sym (last_from-more (value_said name) None past.heard m));
              key = one.key ∙ (ap (option_or (key_said m)) r.led.knows.key ∙ sym (last_from-more key_said None past.heard m));
            };
          };
        }

  -- ---- the end of a piece

  module _ (before : ℕ) (past : History way.Given) (client : View K) (r : IsHearing way before past client) where
    -- a client that stays open, or is closed for a cause of its own, knows what it knew
    stopped : (new : View K) (o : Option Cause) → new.settings ≡ client.settings → new.known ≡ client.known → new.closed ≡ o → (o ≡ Some cause.Terminated → ⊥) → Ends client.settings (happenings past) client.kept new.kept o → Agrees way.tells (record past { rest = client.kept }) new
    stopped new o settings known closed other ends = record {
      stream = rw settings r.stream;
      places = all_weaker (λ c. c.1 ≤ before) (λ c. c.1 ≤ length past.fed) (λ c le. omega (arith, le, r.within)) past.calls r.places;
      ordered = r.ordered;
      happened = rw settings r.happened;
      led = record { was = r.led.was; stands = r.led.stands; now = rw known r.led.now; kept = rw known r.led.kept; knows = rw known r.led.knows };
      ends = rw (settings, closed) ends;
      terminated = (λ t. absurd (r.not_terminated t), λ e. absurd (other (sym closed ∙ e)));
      lost = λ yes. absurd (let k : true ≡ false = sym yes ∙ r.not_handed_back in cc);
    }

    pub all_heard : (new : View K) → new ≡ record client { held = new.held } → IsOpen backend client.settings.limit client.kept → Agrees way.tells (record past { rest = client.kept }) new
    all_heard new same open_rest =
        stopped new None (ap (λ (v : View K). v.settings) same) (ap (λ (v : View K). v.known) same) (ap (λ (v : View K). v.closed) same ∙ r.is_open) (λ e. cc) (record { kept_is = ap (λ (v : View K). v.kept) same; is_open = open_rest })

    -- ---- a fault

    module _ (piece : List ℕ) (of_piece : length past.fed ≡ before + length piece) where
      abbrev ClosesSo : FeedFault → View K → Type 0
      ClosesSo f new = Agrees way.tells (record past { rest = client.kept }) new × FeedAnswers new.settings (happenings past) client.kept piece (Err f) new.closed

      -- a whole message that isn't heard ends in the piece
      some_piece : (m : BackMessage) (rest : List ℕ) → Cuts client m rest → 0 < length piece
      some_piece m rest cuts =
          omega (arith, of_piece, ap length r.stream.whole, length-append (flat_map (spelling backend) past.heard) client.kept, ap length cuts.begins, length-append (spelling backend m) rest, r.late m rest cuts.within cuts.begins)

      refused_at : (f : FeedFault) (m : BackMessage) (rest : List ℕ) → Cuts client m rest → hear_with client.settings.password client.known.stand m ≡ None → f ≡ fault_at client.known.stand m → IsRefusedAt client.settings (happenings past) client.kept f
      refused_at f m rest cuts none is =
          let hs = happenings past in
          let there = subst (Stands hs) (sym (r.led.now ∙ ap (λ (b : Bool). shown b r.led.was) r.not_handed_back)) r.led.stands in
          record {
            message = m;
            more = rest;
            begins = cuts.begins;
            within = cuts.within;
            not_expected = rejected_unexpected client.settings.password hs m client.known.stand (answer_is_said hs r.happened.expected.after r.happened.allowed) there none;
            fault = rw is (fault_for client.settings.password hs client.known.stand m there none);
          }

      pub fault_closes : (f : FeedFault) (new : View K) → Closes client f new → ClosesSo f new
      fault_closes (feeding.Wire w) new h = (stopped new (Some cause.Wire) h.settings h.known h.closed (λ e. cc) (w, h.refused), (rw h.settings h.refused, h.closed))
      fault_closes feeding.Memory new h = (stopped new (Some cause.Memory) h.settings h.known h.closed (λ e. cc) tt, (some_piece h.refused.0 h.refused.1 h.refused.2, h.closed))
      fault_closes feeding.Closed new h = absurd (subst IsNamed (sym h.refused.4) (fault_named client.known.stand h.refused.0))
      -- any other has a name of its own
      fault_closes f new h =
          let refused = refused_at f h.refused.0 h.refused.1 h.refused.2 h.refused.3 h.refused.4 in
          (stopped new (cause_of f) h.settings h.known h.closed (λ e. cc) (f, refl, refused), (rw h.settings refused, h.closed))

  -- ---- from message to message

  -- a history of which nothing more was heard
  pub nothing_heard : (past : History way.Given) (rest : List ℕ) → record past { rest = rest } ≡ with_heard [] rest [] past
  nothing_heard past rest = ap (λ (ms : List BackMessage). record past { heard = ms; rest = rest }) (sym (append-nil past.heard)) ∙ ap (λ (bs : List ℕ). record past { heard = past.heard ++ []; rest = rest; sent = bs }) (sym (append-nil past.sent))

  -- and one of which more was heard twice
  pub heard_twice : (ms ns : List BackMessage) (middle rest first second : List ℕ) (past : History way.Given) → with_heard ns rest second (with_heard ms middle first past) ≡ with_heard (ms ++ ns) rest (first ++ second) past
  heard_twice ms ns middle rest first second past =
      ap (λ (xs : List BackMessage). record past { heard = xs; rest = rest; sent = (past.sent ++ first) ++ second }) (append_assoc past.heard ms ns)
      ∙ ap (λ (xs : List ℕ). record past { heard = past.heard ++ (ms ++ ns); rest = rest; sent = xs }) (append_assoc past.sent first second)

  -- the rest of a history that goes on is what the client keeps
  at_rest : (before : ℕ) (past : History way.Given) (client : View K) (rest : List ℕ) → IsHearing way before past client → IsHearing way before (record past { rest = rest }) client
  at_rest before past client rest r = search

  pub goes_from : (old : View K) (start : List ℕ) → GoesOn way old old start start
  goes_from old start = record {
    settings = refl;
    added = [];
    put = sym (append-nil start);
    history = λ before past r. ([], subst (λ (x : History way.Given). IsHearing way before x old) (nothing_heard past old.kept) (at_rest before past old old.kept r));
  }

  -- one more message was heard
  pub goes_next : (old now new : View K) (start out end : List ℕ) → GoesOn way old now start out → (m : BackMessage) → Cuts now m new.kept → new.settings ≡ now.settings → new.closed ≡ now.closed → HearsOne way now.settings.password m now.known new.known → PutsAnswer now.settings m out end
      → GoesOn way old new start end
  goes_next old now new start out end g m cuts settings closed one put =
      let answer : List ℕ = flat_map (spelling frontend) (answer_to now.settings m) in
      record {
        settings = settings ∙ g.settings;
        added = g.added ++ answer;
        put = put.1 ∙ (ap (λ (bs : List ℕ). bs ++ answer) g.put ∙ append_assoc start g.added answer);
        history = λ before past r.
            let k = g.history before past r in
            let n = heard_one before (with_heard k.0 now.kept g.added past) now k.1 m new.kept cuts new settings refl (closed ∙ k.1.is_open) one put.0 in
            (k.0 ++ m ∷ [], subst (λ (x : History way.Given). IsHearing way before x new) (heard_twice k.0 (m ∷ []) now.kept new.kept g.added answer past) n);
      }

  -- no message is whole any more
  pub goes_end : (old now new : View K) (start out : List ℕ) → GoesOn way old now start out → IsOpen backend now.settings.limit now.kept → new ≡ record now { held = new.held } → HearsAll way old (Ok tt) new start out
  goes_end old now new start out g open_rest same = record {
    added = g.added;
    put = g.put;
    hears = λ before past piece of_piece r.
        let k = g.history before past r in
        record { more = k.0; rest = now.kept; history = seen way law (with_heard k.0 now.kept g.added past) new (all_heard before (with_heard k.0 now.kept g.added past) now k.1 new same open_rest); answers = subst (λ (v : View K). IsOpen backend v.settings.limit now.kept × (v.closed ≡ None)) (sym same) (open_rest, k.1.is_open) };
  }

  -- a message was refused
  pub goes_fault : (old now new : View K) (f : FeedFault) (start out : List ℕ) → GoesOn way old now start out → Closes now f new → HearsAll way old (Err f) new start out
  goes_fault old now new f start out g h = record {
    added = g.added;
    put = g.put;
    hears = λ before past piece of_piece r.
        let k = g.history before past r in
        let c = fault_closes before (with_heard k.0 now.kept g.added past) now k.1 piece of_piece f new h in
        record { more = k.0; rest = now.kept; history = seen way law (with_heard k.0 now.kept g.added past) new c.0; answers = c.1 };
  }

  -- ---- a piece

  module _ (h : History way.Given) (old : View K) (none : old.closed ≡ None) (r : Agrees way.tells h old) (piece : List ℕ) where
    kept_open : IsKept old.settings.limit h.rest old.kept
    kept_open = subst (Ends old.settings (happenings h) h.rest old.kept) none r.ends

    nothing_back : h.handed_back ≡ false
    nothing_back = false_from_ne_true h.handed_back (λ yes. r.lost yes none)

    pub hearing : IsHearing way (length h.fed) (with_fed piece h) (record old { kept = old.kept ++ piece })
    hearing = record {
      stream = record { whole = rw kept_open.kept_is (ap (λ (bs : List ℕ). bs ++ piece) r.stream.whole ∙ append_assoc (flat_map (spelling backend) h.heard) h.rest piece); each = r.stream.each };
      places = r.places;
      ordered = r.ordered;
      happened = r.happened;
      within = omega (arith, length-append h.fed piece);
      late = λ m more within begins.
          let k : h.rest ++ piece ≡ spelling backend m ++ more = ap (λ (bs : List ℕ). bs ++ piece) (sym kept_open.kept_is) ∙ begins in
          omega (arith, not_before old.settings.limit h.rest piece m more kept_open.is_open within k, ap length r.stream.whole, length-append (flat_map (spelling backend) h.heard) h.rest);
      is_open = none;
      not_handed_back = nothing_back;
      not_terminated = (λ t. let e : old.closed ≡ Some cause.Terminated = r.terminated.0 t in cc);
      led = search;
    }

    -- memory ran out before a message was heard
    pub starved : (new : View K) → new.settings ≡ old.settings → new.known ≡ old.known → new.closed ≡ Some cause.Memory → 0 < length piece → Hears way (with_fed piece h) piece [] (Err feeding.Memory) new
    starved new settings known closed some = record {
      more = [];
      rest = old.kept ++ piece;
      history = seen way law (with_heard [] (old.kept ++ piece) [] (with_fed piece h)) new
          (subst (λ (x : History way.Given). Agrees way.tells x new) (nothing_heard (with_fed piece h) (old.kept ++ piece)) (stopped (length h.fed) (with_fed piece h) (record old { kept = old.kept ++ piece }) hearing new (Some cause.Memory) settings known closed (λ e. cc) tt));
      answers = (some, closed);
    }

  -- an open client, which is still to hear these bytes, between two messages
  pub to_hear : (old : View K) → old.closed ≡ None → (unread : List ℕ) (h : History way.Given) → IsHistoryBefore way unread h old → IsHearing way (length h.fed) (with_fed unread h) old
  to_hear old none unread h r = subst (λ (bs : List ℕ). IsHearing way (length h.fed) (with_fed unread h) (record old { kept = bs })) (sym r.kept) (hearing h (record old { kept = r.first }) none (agreeing way law h (record old { kept = r.first }) r.history) unread)

  -- what it lends doesn't matter
  lends : (h : History way.Given) (v : View K) (held : Option Lent) → Agrees way.tells h v → Agrees way.tells h (record v { held = held })
  lends h v held r = search

  -- a piece is kept, and still to be heard
  abbrev pub keeping : View K → List ℕ → View K
  keeping old piece = record old { kept = old.kept ++ piece; held = None }

  pub keeps_before : (old : View K) (piece unread : List ℕ) (h : History way.Given) → IsHistoryBefore way unread h old → IsHistoryBefore way (unread ++ piece) h (keeping old piece)
  keeps_before old piece unread h r = record {
    first = r.first;
    kept = ap (λ (bs : List ℕ). bs ++ piece) r.kept ∙ append_assoc r.first unread piece;
    history = seen way law h (record old { kept = r.first; held = None }) (lends h (record old { kept = r.first }) None (agreeing way law h (record old { kept = r.first }) r.history));
  }

  -- all that was still to be heard is heard
  pub hears_rest : (old : View K) (result : Result Unit FeedFault) (new : View K) (before after : List ℕ) → old.closed ≡ None → (all : HearsAll way old result new before after) → (unread : List ℕ) (h : History way.Given) → IsHistoryBefore way unread h old → Hears way (with_fed unread h) unread all.added result new
  hears_rest old result new before after none all unread h r = all.hears (length h.fed) (with_fed unread h) unread (length-append h.fed unread) (to_hear old none unread h r)

  module _ (old : View K) (piece : List ℕ) (result : Result Unit FeedFault) (new : View K) (before after : List ℕ) where
    -- what a client that is fed a piece hears, by what it does with all the bytes that it keeps then
    pub feeds : old.closed ≡ None → HearsAll way (keeping old piece) result new before after → FeedsOpen way old piece result new before after
    feeds none all = record {
      added = all.added;
      put = all.put;
      hears = λ unread h r. hears_rest (keeping old piece) result new before after none all (unread ++ piece) h (keeps_before old piece unread h r);
    }

    -- memory ran out for the piece
    pub starves : old.closed ≡ None → 0 < length piece → new ≡ record old { held = new.held; closed = Some cause.Memory } → (unread : List ℕ) (h : History way.Given) → IsHistoryBefore way unread h old → Hears way (with_fed (unread ++ piece) h) (unread ++ piece) [] (Err feeding.Memory) new
    starves none some same unread h r =
        starved h (record old { kept = r.first }) none (agreeing way law h (record old { kept = r.first }) r.history) (unread ++ piece) new (ap (λ (v : View K). v.settings) same) (ap (λ (v : View K). v.known) same) (ap (λ (v : View K). v.closed) same) (omega (arith, some, length-append unread piece))

    pub feeds_nothing : old.closed ≡ None → 0 < length piece → new ≡ record old { held = new.held; closed = Some cause.Memory } → after ≡ before → FeedsOpen way old piece (Err feeding.Memory) new before after
    feeds_nothing none some same put = record { added = []; put = put ∙ sym (append-nil before); hears = starves none some same }

-- ---- feed

module _ {K : Type 0} (way : Keeps K) (law : AgreesAs way) (v old : View K) (same : v ≡ old) (none : v.closed ≡ None) (piece : List ℕ) (some : 0 < length piece) where
  -- a piece with bytes, by the fields of a value that was opened
  by_bytes : (bytes : List ℕ) → 0 < length bytes → (result : Result Unit FeedFault) (new : View K) (before after : List ℕ) → FeedsOpen way v bytes result new before after → FeedsByCause way None v bytes result new before after
  by_bytes [] lt result new before after f = absurd (omega (arith, lt))
  by_bytes (b ∷ bs) lt result new before after f = f

  fed : (result : Result Unit FeedFault) (new : View K) (before after : List ℕ) → FeedsOpen way v piece result new before after → Feeds way old piece result new before after
  fed result new before after f =
      subst (λ (x : View K). Feeds way x piece result new before after) same
      (subst (λ (o : Option Cause). FeedsByCause way o v piece result new before after) (sym none) (by_bytes piece some result new before after f))

  pub fed_nothing : (out kept : List ℕ) (held : Option Lent) → kept ≡ v.kept → Feeds way old piece (Err feeding.Memory) (record v { kept = kept; held = held; closed = Some cause.Memory }) out out
  fed_nothing out kept held is =
      fed (Err feeding.Memory) (record v { kept = kept; held = held; closed = Some cause.Memory }) out out
      (feeds_nothing way law v piece (Err feeding.Memory) (record v { kept = kept; held = held; closed = Some cause.Memory }) out out none some (ap (λ (bs : List ℕ). record v { kept = bs; held = held; closed = Some cause.Memory }) is) refl)

  pub fed_all : (result : Result Unit FeedFault) (new : View K) (before after kept : List ℕ) (held : Option Lent) → kept ≡ v.kept ++ piece → held ≡ None → HearsAll way (record v { kept = kept; held = held }) result new before after → Feeds way old piece result new before after
  fed_all result new before after kept held is lends_none all =
      fed result new before after (feeds way law v piece result new before after none
      (subst (λ (o : Option Lent). HearsAll way (record v { kept = v.kept ++ piece; held = o }) result new before after) lends_none (subst (λ (bs : List ℕ). HearsAll way (record v { kept = bs; held = held }) result new before after) is all)))

pub none_by_test : (o : Option Cause) → is_some o ≡ false → o ≡ None
none_by_test o e = grind arith

-- ---- what pushing the piece did

pub push_refused : (old : DecoderState) (piece : List ℕ) (r : Result Unit WireFault) (new : DecoderState) → is_err r ≡ true → Pushes old piece r new → new.kept ≡ old.kept
push_refused old piece r new e h = grind arith

pub pushed : (old : DecoderState) (piece : List ℕ) (r : Result Unit WireFault) (new : DecoderState) → is_err r ≡ false → Pushes old piece r new → new.kept ≡ old.kept ++ piece
pushed old piece r new e h = grind arith
