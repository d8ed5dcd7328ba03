-- A piece that is delivered: what arrives of it, and what it does to the receiving end.
use Rattle.pg_client.specs.Keeping.{collecting}
use Rattle.std.proofs.Common.{◌≡◌, ◌≤◌, ◌<◌, ◌+◌, ℕ, zero, suc, cond, true, false, Bool, List, [], ◌∷◌, ◌++◌, Option, Some, None, Result, Ok, Err, min, nat_eq, length, take, drop, refl, ap, sym, subst, ◌∙◌, arith, length-drop}
use Rattle.std.proofs.lemmas.List.{length-take, length-take-le, take-take, take_all, drop_all}
use Rattle.std.proofs.Math.Bridge.{le_prop}
use Rattle.std.proofs.Math.Logic.{∥∥₁_elim}
use mathlib.Core.Bool.{Bool-set}
use Rattle.pg_client.specs.declared.fault.FeedFault.{FeedFault}
use Rattle.pg_client.specs.declared.phase.Cause.{Cause}
use Rattle.pg_client.specs.declared.stand.CopyAnswer.{CopyAnswer}
use Rattle.pg_client.specs.declared.stand.CopyAnswer.TheVariants as copy
use Rattle.pg_client.specs.place.Open.{Open}
use Rattle.pg_client.specs.place.Open.TheVariants as opened
use Rattle.pg_client.specs.declared.stand.Stand.{Stand}
use Rattle.pg_client.specs.declared.stand.Stand.TheVariants as stands
use Rattle.pg_client.specs.View.{with_groups, groups_waiting, ClientView, busy_phase_of, phase_of, phase_with, stand_phase}
use Rattle.pg_client.specs.Client.{Feeds}
use Rattle.pg_backend.specs.Backend.{BackendState}
use Rattle.pg_pair.specs.declared.carry.CarryFault.{CarryFault}
use Rattle.pg_pair.specs.declared.carry.Way.TheVariants.{ToBackend, ToClient}
use Rattle.pg_pair.specs.Breaking.{is_closed, is_closed_client}
use Rattle.pg_pair.specs.Carrying.{delivered, same_front}
use Rattle.pg_pair.specs.Delivering.{ArrivesAt, client_answer, IsStored}
use Rattle.pg_pair.specs.Private.Known.{Known}
use Rattle.pg_pair.specs.Invariant.{Tied}
use Rattle.pg_pair.specs.View.{PairView, WayState, waiting, waiting_at}
use Rattle.pg_pair.proofs.Arriving.{fed_open, fed_pair, heard_more, keeps_fed, keeps_stored, stored_pair}
use Rattle.pg_pair.proofs.Counting.{SettlesOne, settles_one}

-- ---- what arrives

same_none : (xs : List ℕ) → same_front xs [] ≡ []
same_none [] = refl
same_none (x ∷ xs) = refl

pub same_front_end : (n : ℕ) (xs ys : List ℕ) → n ≡ min (length xs) (length ys) → length (same_front (drop n xs) (drop n ys)) ≡ 0
same_front_end n [] ys e = ap (λ l. length (same_front l (drop n ys))) (drop_all n [] (omega arith))
same_front_end n (x ∷ xs) [] e = ap (λ l. length (same_front (drop n (x ∷ xs)) l)) (drop_all n [] (omega arith)) ∙ ap length (same_none (drop n (x ∷ xs)))
same_front_end zero (x ∷ xs) (y ∷ ys) e = absurd (omega arith)
same_front_end (suc n) (x ∷ xs) (y ∷ ys) e = same_front_end n xs ys (omega arith)

first_of_both : (b : Bool) (x : ℕ) (xs front : List ℕ) → take (length front) xs ≡ front → take (length (cond b (x ∷ front) [])) (x ∷ xs) ≡ cond b (x ∷ front) []
first_of_both true x xs front h = ap (λ l. x ∷ l) h
first_of_both false x xs front h = refl

front_first : (xs ys : List ℕ) → take (length (same_front xs ys)) xs ≡ same_front xs ys
front_first [] ys = refl
front_first (x ∷ xs) [] = refl
front_first (x ∷ xs) (y ∷ ys) = first_of_both (nat_eq x y) x xs (same_front xs ys) (front_first xs ys)

-- what is delivered of a piece is its first bytes
pub delivered_first : (piece : List ℕ) (came : Result (List ℕ) CarryFault) → take (length (delivered piece came)) piece ≡ delivered piece came
delivered_first piece (Ok bytes) = front_first piece bytes
delivered_first piece (Err f) = refl

pub delivered_within : (piece : List ℕ) (came : Result (List ℕ) CarryFault) → length (delivered piece came) ≤ length piece
delivered_within piece came = let e = ap length (delivered_first piece came) in omega (arith, e, length-take (length (delivered piece came)) piece)

pub delivered_whole : (piece : List ℕ) (came : Result (List ℕ) CarryFault) → length piece ≤ length (delivered piece came) → delivered piece came ≡ piece
delivered_whole piece came h = sym (delivered_first piece came) ∙ take_all (length (delivered piece came)) piece h

-- of the piece that the carrier was given, what is delivered are the first bytes under way
pub delivered_of_waiting : (count : ℕ) (bytes : List ℕ) (came : Result (List ℕ) CarryFault) → take (length (delivered (take count bytes) came)) bytes ≡ delivered (take count bytes) came
delivered_of_waiting count bytes came =
    let within = delivered_within (take count bytes) came in
    let cut = length-take count bytes in
    sym (take-take (length (delivered (take count bytes) came)) count bytes (omega arith)) ∙ delivered_first (take count bytes) came

pub delivered_of_count : (count : ℕ) (bytes : List ℕ) (came : Result (List ℕ) CarryFault) → length (delivered (take count bytes) came) ≤ length bytes
delivered_of_count count bytes came =
    let within = delivered_within (take count bytes) came in
    let cut = length-take count bytes in
    omega arith

-- ---- at the backend

-- the pair after the backend has stored so many bytes
abbrev pub stored_at : {C : Type 0} → PairView C → ℕ → BackendState → PairView C
stored_at p count b = record p { backend = b; to_backend = record p.to_backend { reached = p.to_backend.reached + count } }

-- The backend has stored so many of the bytes under way.
pub record IsPushed {C : Type 0} (p : PairView C) (count : ℕ) (b : BackendState) : Type 0 where
  pub some : 0 < count
  pub within : count ≤ length (waiting p.to_backend)
  pub is_stored : IsStored p.backend (take count (waiting p.to_backend)) b

-- it has, where the pair is seen so
pub is_pushed : {C : Type 0} (p q : PairView C) → p ≡ q → (count : ℕ) (bytes : List ℕ) (b : BackendState)
    → 0 < count → count ≤ length (waiting_at ToBackend q) → bytes ≡ waiting p.to_backend → IsStored p.backend (take count bytes) b → IsPushed p count b
is_pushed {C} p q same count bytes b some within is stored = record {
  some = some;
  within = subst (λ (x : PairView C). count ≤ length (waiting_at ToBackend x)) (sym same) within;
  is_stored = subst (λ l. IsStored p.backend (take count l) b) is stored;
}

counted : (count : ℕ) (bytes : List ℕ) → count ≤ length bytes → length (take count bytes) ≡ count
counted count bytes within = length-take-le count bytes within

itself : (count : ℕ) (bytes : List ℕ) → count ≤ length bytes → take count bytes ≡ take (length (take count bytes)) bytes
itself count bytes within = ap (λ n. take n bytes) (sym (counted count bytes within))

fits : (s : WayState) (count : ℕ) → s.reached ≤ length s.sent → count ≤ length (waiting s) → s.reached + length (take count (waiting s)) ≤ length s.sent
fits s count reached within = omega (arith, counted count (waiting s) within, length-drop s.reached s.sent)

pub pushed_tied : {C : Type 0} (p : PairView C) (count : ℕ) (b : BackendState) → IsPushed p count b → Tied p → Tied (stored_at p count b)
pushed_tied p count b h t =
    subst (λ n. Tied (stored_at p n b)) (counted count (waiting p.to_backend) h.within)
    (keeps_stored p (take count (waiting p.to_backend)) b (itself count (waiting p.to_backend) h.within) (fits p.to_backend count t.backend.within h.within) h.is_stored t)

takes_stored : {C : Type 0} (p : PairView C) (bytes : List ℕ) (b : BackendState) → 0 < length bytes → IsStored p.backend bytes b → ArrivesAt ToBackend p bytes None (stored_pair p bytes b)
takes_stored p [] b some h = absurd (omega arith)
takes_stored p (x ∷ xs) b some h = (Ok record {}, (h, refl), refl)

pub pushed_in : {C : Type 0} (p : PairView C) (count : ℕ) (b : BackendState) → IsPushed p count b → ArrivesAt ToBackend p (take count (waiting_at ToBackend p)) None (stored_at p count b)
pushed_in p count b h =
    let n : length (take count (waiting p.to_backend)) ≡ count = counted count (waiting p.to_backend) h.within in
    let some = h.some in
    subst (λ n. ArrivesAt ToBackend p (take count (waiting p.to_backend)) None (stored_at p n b)) n
    (takes_stored p (take count (waiting p.to_backend)) b (omega (arith, n, some)) h.is_stored)

-- ---- at the client

stand_open : (s : Stand) → is_closed_client (stand_phase s) ≡ false
stand_open stands.New = refl
stand_open (stands.Starting w) = refl
stand_open stands.Idle = refl
stand_open (stands.Busy request place answer) = by place.opened answer
  where
    by : (o : Open) (a : CopyAnswer) → is_closed_client (busy_phase_of o a) ≡ false
    by opened.CopyIn copy.Awaited = refl
    by _ a = refl

open_none : (c : Option Cause) (s : Stand) → is_closed_client (phase_with c s) ≡ false → c ≡ None
open_none None s h = refl
open_none (Some c) s h = absurd cc

-- a client that isn't closed has no cause
pub going_none : (c : ClientView) → is_closed_client (phase_of c) ≡ false → c.closed ≡ None
going_none c h = open_none c.closed c.known.stand h

-- the pair after the client was fed so many bytes, and has put out what was sent then
abbrev pub fed_at : {C : Type 0} → PairView C → ℕ → ClientView → List ℕ → PairView C
fed_at p count fed sent = record p {
  client = with_groups fed [];
  to_backend = record p.to_backend { sent = sent };
  to_client = record p.to_client { reached = p.to_client.reached + count };
  settled = p.settled ++ groups_waiting fed;
}

-- The client was fed so many of the bytes under way.
pub record IsFed {C : Type 0} (p : PairView C) (count : ℕ) (result : Result Unit FeedFault) (fed : ClientView) (sent : List ℕ) : Type 0 where
  pub none : p.client.closed ≡ None
  pub some : 0 < count
  pub within : count ≤ length (waiting p.to_client)
  pub feeds : Feeds collecting p.client (take count (waiting p.to_client)) result fed p.to_backend.sent sent

-- it was, where the pair is seen so
pub is_fed : {C : Type 0} (p q : PairView C) → p ≡ q → (count : ℕ) (bytes : List ℕ) (result : Result Unit FeedFault) (fed : ClientView) (sent : List ℕ)
    → is_closed ToClient q ≡ false → 0 < count → count ≤ length (waiting_at ToClient q) → bytes ≡ waiting p.to_client
    → Feeds collecting p.client (take count bytes) result fed p.to_backend.sent sent → IsFed p count result fed sent
is_fed {C} p q same count bytes result fed sent going some within is feeds = record {
  none = going_none p.client (subst (λ (x : PairView C). is_closed ToClient x ≡ false) (sym same) going);
  some = some;
  within = subst (λ (x : PairView C). count ≤ length (waiting_at ToClient x)) (sym same) within;
  feeds = subst (λ l. Feeds collecting p.client (take count l) result fed p.to_backend.sent sent) is feeds;
}

pub fed_settles : Known → {C : Type 0} (p : PairView C) (count : ℕ) (result : Result Unit FeedFault) (fed : ClientView) (sent : List ℕ) → IsFed p count result fed sent → ∥ Tied p ∥₁ → SettlesOne p fed
fed_settles k p count result fed sent h some =
    let settles : Tied p → SettlesOne p fed = λ t. settles_one k p t (take count (waiting p.to_client)) result fed sent h.none h.feeds in
    record { one = ∥∥₁_elim some le_prop (λ t. (settles t).one); room = ∥∥₁_elim some le_prop (λ t. (settles t).room) }

pub fed_tied : {C : Type 0} (p : PairView C) (count : ℕ) (result : Result Unit FeedFault) (fed : ClientView) (sent : List ℕ) → IsFed p count result fed sent → Tied p → Tied (fed_at p count fed sent)
fed_tied p count result fed sent h t =
    subst (λ n. Tied (fed_at p n fed sent)) (counted count (waiting p.to_client) h.within)
    (keeps_fed p (take count (waiting p.to_client)) result fed sent h.none (itself count (waiting p.to_client) h.within) (fits p.to_client count t.client.within h.within) h.feeds t)

takes_fed : {C : Type 0} (p : PairView C) (bytes : List ℕ) (result : Result Unit FeedFault) (fed : ClientView) (sent : List ℕ) → 0 < length bytes → Feeds collecting p.client bytes result fed p.to_backend.sent sent
    → ArrivesAt ToClient p bytes (client_answer result) (fed_pair p bytes fed sent)
takes_fed p [] result fed sent some h = absurd (omega arith)
takes_fed p (x ∷ xs) result fed sent some h = (result, record { fed = fed; feeds = h; rest = refl }, refl)

pub fed_in : {C : Type 0} (p : PairView C) (count : ℕ) (result : Result Unit FeedFault) (fed : ClientView) (sent : List ℕ) → IsFed p count result fed sent
    → ArrivesAt ToClient p (take count (waiting_at ToClient p)) (client_answer result) (fed_at p count fed sent)
fed_in p count result fed sent h =
    let n : length (take count (waiting p.to_client)) ≡ count = counted count (waiting p.to_client) h.within in
    let some = h.some in
    subst (λ n. ArrivesAt ToClient p (take count (waiting p.to_client)) (client_answer result) (fed_at p n fed sent)) n
    (takes_fed p (take count (waiting p.to_client)) result fed sent (omega (arith, n, some)) h.feeds)

-- a client that answers no fault is open
no_fault : {C : Type 0} (p : PairView C) (bytes : List ℕ) (result : Result Unit FeedFault) (fed : ClientView) (sent : List ℕ) → p.client.closed ≡ None → Feeds collecting p.client bytes result fed p.to_backend.sent sent
    → client_answer result ≡ None → Tied p → is_closed_client (phase_of fed) ≡ false
no_fault p bytes (Ok x) fed sent none feeds answer t =
    let closed : fed.closed ≡ None = (heard_more p t bytes (Ok x) fed sent (fed_open p.client bytes (Ok x) fed p.to_backend.sent sent none feeds)).answers.1 in
    ap (λ c. is_closed_client (phase_with c fed.known.stand)) closed ∙ stand_open fed.known.stand
no_fault p bytes (Err f) fed sent none feeds answer t = absurd cc

pub fed_going : {C : Type 0} (p : PairView C) (count : ℕ) (result : Result Unit FeedFault) (fed : ClientView) (sent : List ℕ) → IsFed p count result fed sent → ∥ Tied p ∥₁ → client_answer result ≡ None
    → is_closed ToClient (fed_at p count fed sent) ≡ false
fed_going p count result fed sent h some answer = ∥∥₁_elim some (Bool-set _ _) (no_fault p (take count (waiting p.to_client)) result fed sent h.none h.feeds answer)
