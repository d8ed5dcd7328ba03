-- What a delivery moves.
use Rattle.pg_client.specs.Keeping.{collecting}
use Rattle.std.proofs.Common.{◌≡◌, ◌≤◌, ◌+◌, ◌-◌, ℕ, min, Bool, true, false, ◌||◌, List, [], ◌∷◌, ◌++◌, Option, Some, None, Result, Ok, Err, length, take, drop, refl, ap, sym, subst, ◌∙◌, append_assoc, arith, length-drop, nat_lt, eq-eqb, ◌⊎◌, inl, inr}
use Rattle.std.proofs.Math.Seq.{take-add}
use Rattle.std.proofs.lemmas.Bool.{le-ltb}
use Rattle.std.proofs.lemmas.List.{append-nil, drop-drop, length-take, take-take, take_all}
use Rattle.pg_client.specs.declared.fault.FeedFault.{FeedFault}
use Rattle.pg_client.specs.declared.phase.Cause.{Cause}
use Rattle.pg_client.specs.View.{ClientView}
use Rattle.pg_client.specs.Client.{FeedsByCause}
use Rattle.pg_pair.specs.declared.carry.CarryFault.{CarryFault}
use Rattle.pg_pair.specs.declared.carry.Way.{Way}
use Rattle.pg_pair.specs.declared.carry.Way.TheVariants.{ToBackend, ToClient}
use Rattle.pg_pair.specs.declared.event.Applied.{Applied}
use Rattle.pg_pair.specs.declared.event.Applied.TheVariants as applied
use Rattle.pg_pair.specs.Breaking.{BreaksIf, is_closed, is_shut}
use Rattle.pg_pair.specs.Delivering.{ArrivesAt, no_piece, CarriesPiece, DeliversUnless, delivery_applied, EndsWithPiece, DeliversPieces, one_more_piece, EndsWithoutPiece}
use Rattle.pg_pair.specs.Event.{Applies}
use Rattle.pg_pair.specs.Carrying.{Carrying, delivered, is_bad, longest_piece, same_front}
use Rattle.pg_pair.specs.Laws.{delivery_of, DeliveryMoves, Delivers, FallsShort, fed_on, GivesWhole, IsFedOn, LeavesOther, MovesAll, MovesUnless, PutsOut, unfed, WholeMoves}
use Rattle.pg_pair.specs.View.{PairView, WayState, way_state, waiting, waiting_at}
use Rattle.pg_pair.proofs.Delivering.{delivered_first, delivered_within}
use Rattle.pg_pair.proofs.Ways.{breaks_one, BreaksOne, stream_carried}

-- ---- counting

abbrev pub on_by : WayState → ℕ → WayState
on_by s n = record s { reached = s.reached + n }

-- so many more of the bytes, where the next piece is one of so many that are asked for
record IsFurther (most n count : ℕ) (bytes piece : List ℕ) : Type 0 where
  asked : n + count ≤ most
  waited : n + count ≤ length bytes
  front : take (n + count) bytes ≡ take n bytes ++ take count piece

further : (most n count : ℕ) (bytes piece : List ℕ) → n ≤ most → n ≤ length bytes → piece ≡ take longest_piece (take (most - n) (drop n bytes)) → count ≤ length piece → IsFurther most n count bytes piece
further most n count bytes piece asked waited is within =
    let cut : length piece ≡ min longest_piece (min (most - n) (length (drop n bytes))) =
    ap length is ∙ length-take longest_piece (take (most - n) (drop n bytes)) ∙ ap (min longest_piece) (length-take (most - n) (drop n bytes)) in
    let left : length (drop n bytes) ≡ length bytes - n = length-drop n bytes in
    let fewer : count ≤ most - n = omega arith in
    let short : count ≤ longest_piece = omega arith in
    record {
      asked = omega arith;
      waited = omega arith;
      front = take-add n count bytes
          ∙ ap (λ l. take n bytes ++ l) (sym (ap (take count) is ∙ take-take count longest_piece (take (most - n) (drop n bytes)) short ∙ take-take count (most - n) (drop n bytes) fewer));
    }

-- ---- one piece

-- The other way and the client, after a piece of which these bytes arrived.
record GoesOn {C : Type 0} (p : PairView C) (bytes : List ℕ) (q : PairView C) : Type 0 where
  put : List ℕ
  grown : q.to_backend ≡ record p.to_backend { sent = p.to_backend.sent ++ put }
  fed : (old : ClientView) (before first : List ℕ) → IsFedOn old before first p.client p.to_backend.sent → IsFedOn old before (first ++ bytes) q.client q.to_backend.sent

abbrev Onward : {C : Type 0} → Way → PairView C → List ℕ → PairView C → Type 0
Onward ToBackend p bytes q = q.to_client ≡ p.to_client
Onward ToClient p bytes q = GoesOn p bytes q

-- So many of the bytes that came to an end were taken.
record Took {C : Type 0} (w : Way) (p : PairView C) (bytes : List ℕ) (answer : Option Applied) (q : PairView C) : Type 0 where
  count : ℕ
  within : count ≤ length bytes
  all : answer ≡ None → count ≡ length bytes
  way : way_state w q ≡ on_by (way_state w p) count
  other : Onward w p (take count bytes) q

none_on : (s : WayState) → s ≡ on_by s 0
none_on s = ap (λ n. record s { reached = n }) (let n = s.reached in let e : n ≡ n + 0 = omega arith in e)

nothing_put : (s : WayState) → s ≡ record s { sent = s.sent ++ [] }
nothing_put s = ap (λ l. record s { sent = l }) (sym (append-nil s.sent))

-- what a feed puts out
put_by : (c : Option Cause) (old : ClientView) (piece : List ℕ) (result : Result Unit FeedFault) (new : ClientView) (before after : List ℕ) → FeedsByCause collecting c old piece result new before after → (put : List ℕ) × (after ≡ before ++ put)
put_by (Some c) old piece result new before after h = ([], h.2 ∙ sym (append-nil before))
put_by None old [] result new before after h = ([], h.2 ∙ sym (append-nil before))
put_by None old (b ∷ bs) result new before after h = (h.added, h.put)

took_none : {C : Type 0} (w : Way) (p : PairView C) (answer : Option Applied) → Took w p [] answer p
took_none ToBackend p answer = record { count = 0; within = omega arith; all = λ e. refl; way = none_on p.to_backend; other = refl }
took_none {C} ToClient p answer = record {
  count = 0;
  within = omega arith;
  all = λ e. refl;
  way = none_on p.to_client;
  other = record {
    put = [];
    grown = nothing_put p.to_backend;
    fed = λ old before first h. subst (λ l. IsFedOn old before l p.client p.to_backend.sent) (sym (append-nil first)) h;
  };
}

took : {C : Type 0} (w : Way) (p : PairView C) (bytes : List ℕ) (answer : Option Applied) (q : PairView C) → ArrivesAt w p bytes answer q → Took w p bytes answer q
took {C} w p [] answer q h = subst (λ (x : PairView C). Took w p [] answer x) (sym h.1) (took_none w p answer)
took {C} ToBackend p (b ∷ bytes) answer q (Ok x, h, e) = record {
  count = length (b ∷ bytes);
  within = omega arith;
  all = λ e. refl;
  way = ap (λ (x : PairView C). x.to_backend) h.1;
  other = ap (λ (x : PairView C). x.to_client) h.1;
}
took {C} ToBackend p (b ∷ bytes) answer q (Err f, h, e) = record {
  count = 0;
  within = omega arith;
  all = λ none. absurd cc;
  way = ap (λ (x : PairView C). x.to_backend) h.1 ∙ none_on p.to_backend;
  other = ap (λ (x : PairView C). x.to_client) h.1;
}
took {C} ToClient p (b ∷ bytes) answer q (result, h, e) =
    let put = put_by p.client.closed p.client (b ∷ bytes) result h.fed p.to_backend.sent q.to_backend.sent h.feeds in
    record {
      count = length (b ∷ bytes);
      within = omega arith;
      all = λ e. refl;
      way = ap (λ (x : PairView C). x.to_client) h.rest;
      other = record {
        put = put.0;
        grown = ap (λ (x : PairView C). x.to_backend) h.rest ∙ ap (λ l. record p.to_backend { sent = l }) put.1;
        fed = λ old before first k.
            subst (λ l. IsFedOn old before (first ++ l) q.client q.to_backend.sent) (sym (take_all (length (b ∷ bytes)) (b ∷ bytes) (omega arith)))
            (subst (λ (c : ClientView). IsFedOn old before (first ++ b ∷ bytes) c q.to_backend.sent) (sym (ap (λ (x : PairView C). x.client) h.rest))
            (fed_on first p.client p.to_backend.sent (b ∷ bytes) result h.fed q.to_backend.sent k h.feeds));
      };
    }

-- ---- piece by piece

-- The other way and the client, after all the bytes that arrived.
abbrev Leaves : {C : Type 0} → Way → PairView C → List ℕ → PairView C → Type 0
Leaves ToBackend p bytes q = q.to_client ≡ p.to_client
Leaves ToClient p bytes q = PutsOut p bytes q.client q

leaves_none : {C : Type 0} (w : Way) (p : PairView C) → Leaves w p [] p
leaves_none ToBackend p = refl
leaves_none ToClient p = record { put = []; grown = nothing_put p.to_backend; fed = unfed }

-- the carrier alone changes nothing of this
onward_carried : {C : Type 0} (w : Way) (p : PairView C) (carrier : C) (bytes : List ℕ) (q : PairView C) → Onward w (record p { carrier = carrier }) bytes q → Onward w p bytes q
onward_carried ToBackend p carrier bytes q h = h
onward_carried ToClient p carrier bytes q h = record { put = h.put; grown = h.grown; fed = h.fed }

leaves_on : {C : Type 0} (w : Way) (p : PairView C) (first bytes : List ℕ) (m q : PairView C) → Leaves w p first m → Onward w m bytes q → Leaves w p (first ++ bytes) q
leaves_on ToBackend p first bytes m q h k = k ∙ h
leaves_on ToClient p first bytes m q h k = record {
  put = h.put ++ k.put;
  grown = k.grown ∙ ap (λ (s : WayState). record s { sent = s.sent ++ k.put }) h.grown ∙ ap (λ l. record p.to_backend { sent = l }) (append_assoc p.to_backend.sent h.put k.put);
  fed = k.fed p.client p.to_backend.sent first h.fed;
}

-- So many bytes went.
record Gone {C : Type 0} (w : Way) (most : ℕ) (p : PairView C) (n : ℕ) (m : PairView C) : Type 0 where
  way : way_state w m ≡ on_by (way_state w p) n
  asked : n ≤ most
  waited : n ≤ length (waiting_at w p)
  other : Leaves w p (take n (waiting_at w p)) m

none_gone : {C : Type 0} (w : Way) (most : ℕ) (p : PairView C) → Gone w most p 0 p
none_gone w most p = record { way = none_on (way_state w p); asked = omega arith; waited = omega arith; other = leaves_none w p }

-- what waits then
left_waiting : {C : Type 0} (w : Way) (p : PairView C) (n : ℕ) (m : PairView C) → way_state w m ≡ on_by (way_state w p) n → waiting_at w m ≡ drop n (waiting_at w p)
left_waiting w p n m e = ap waiting e ∙ sym (drop-drop n (way_state w p).reached (way_state w p).sent)

on_and_on : (s : WayState) (n k : ℕ) → on_by (on_by s n) k ≡ on_by s (n + k)
on_and_on s n k = ap (λ r. record s { reached = r }) (let r = s.reached in let e : (r + n) + k ≡ r + (n + k) = omega arith in e)

-- one piece more, of which so many arrived
gone_on : {C : Type 0} (carries : Carrying C) (w : Way) (most : ℕ) (p : PairView C) (n : ℕ) (m : PairView C) (piece : List ℕ) (came : Result (List ℕ) CarryFault) (carrier : C) (answer : Option Applied) (q : PairView C)
    → Gone w most p n m → CarriesPiece carries w (most - n) m piece came carrier → (t : Took w (record m { carrier = carrier }) (delivered piece came) answer q) → Gone w most p (n + t.count) q
gone_on carries w most p n m piece came carrier answer q g c t =
    let bytes : List ℕ = waiting_at w p in
    let few : length (delivered piece came) ≤ length piece = delivered_within piece came in
    let within = t.within in
    let is : piece ≡ take longest_piece (take (most - n) (drop n bytes)) = c.piece_is ∙ ap (λ l. take longest_piece (take (most - n) l)) (left_waiting w p n m g.way) in
    let more : IsFurther most n t.count bytes piece = further most n t.count bytes piece g.asked g.waited is (omega arith) in
    let arrived : take t.count (delivered piece came) ≡ take t.count piece = ap (take t.count) (sym (delivered_first piece came)) ∙ take-take t.count (length (delivered piece came)) piece within in
    record {
      way = t.way ∙ ap (λ (s : WayState). on_by s t.count) (stream_carried w m carrier ∙ g.way) ∙ on_and_on (way_state w p) n t.count;
      asked = more.asked;
      waited = more.waited;
      other = subst (λ l. Leaves w p l q) (ap (λ l. take n bytes ++ l) arrived ∙ sym more.front)
          (leaves_on w p (take n bytes) (take t.count (delivered piece came)) m q g.other (onward_carried w m carrier (take t.count (delivered piece came)) q t.other));
    }

gone : {C : Type 0} (carries : Carrying C) (w : Way) (most : ℕ) (p : PairView C) (n : ℕ) (m : PairView C) → DeliversPieces carries w most p n m → Gone w most p n m
gone carries w most p _ _ no_piece = none_gone w most p
gone carries w most p _ _ (one_more_piece n m piece came carrier q h c whole fine takes) =
    let t : Took w (record m { carrier = carrier }) (delivered piece came) None q = subst (λ l. Took w (record m { carrier = carrier }) l None q) (sym whole) (took w (record m { carrier = carrier }) piece None q takes) in
    subst (λ k. Gone w most p (n + k) q) (t.all refl ∙ ap length whole) (gone_on carries w most p n m piece came carrier None q (gone carries w most p n m h) c t)

-- ---- the end of a delivery

-- a break changes nothing of this but the client
leaves_broken : {C : Type 0} (w : Way) (p : PairView C) (bytes : List ℕ) (m q : PairView C) → BreaksOne w m q → Leaves w p bytes m → LeavesOther w p bytes q
leaves_broken ToBackend p bytes m q b h = b.other ToClient (λ e. cc) ∙ h
leaves_broken ToClient p bytes m q b h =
    let same : q.to_backend ≡ m.to_backend = b.other ToBackend (λ e. cc) in
    (m.client, record { put = h.put; grown = same ∙ h.grown; fed = subst (λ (s : WayState). IsFedOn p.client p.to_backend.sent bytes m.client s.sent) (sym same) h.fed })

leaves_whole : {C : Type 0} (w : Way) (p : PairView C) (bytes : List ℕ) (q : PairView C) → Leaves w p bytes q → LeavesOther w p bytes q
leaves_whole ToBackend p bytes q h = h
leaves_whole ToClient p bytes q h = (q.client, h)

leaves_after : {C : Type 0} (b : Bool) (w : Way) (p : PairView C) (bytes : List ℕ) (m q : PairView C) → BreaksIf b w m q → Leaves w p bytes m → LeavesOther w p bytes q
leaves_after {C} false w p bytes m q h k = subst (λ (x : PairView C). LeavesOther w p bytes x) (sym h) (leaves_whole w p bytes m k)
leaves_after true w p bytes m q h k = leaves_broken w p bytes m q (breaks_one w m q h) k

way_after : {C : Type 0} (b : Bool) (w : Way) (m q : PairView C) → BreaksIf b w m q → way_state w q ≡ record (way_state w m) { broken = (way_state w q).broken }
way_after {C} false w m q h =
    let same : way_state w q ≡ way_state w m = ap (λ (x : PairView C). way_state w x) h in
    same ∙ ap (λ b. record (way_state w m) { broken = b }) (sym (ap (λ (s : WayState). s.broken) same))
way_after true w m q h =
    let own : way_state w q ≡ record (way_state w m) { broken = true } = (breaks_one w m q h).own in
    own ∙ ap (λ b. record (way_state w m) { broken = b }) (sym (ap (λ (s : WayState). s.broken) own))

-- the way of a delivery, by what went and whether it broke
way_gone : {C : Type 0} (w : Way) (p m q : PairView C) (n : ℕ) → way_state w m ≡ on_by (way_state w p) n → way_state w q ≡ record (way_state w m) { broken = (way_state w q).broken }
    → way_state w q ≡ record (way_state w p) { reached = (way_state w p).reached + n; broken = (way_state w q).broken }
way_gone w p m q n e k = k ∙ ap (λ (s : WayState). record s { broken = (way_state w q).broken }) e

delivers_as : {C : Type 0} (carries : Carrying C) (b : Bool) (w : Way) (most : ℕ) (p : PairView C) (n : ℕ) (m : PairView C) (result : Applied) (q : PairView C)
    → Gone w most p n m → BreaksIf b w m q → MovesUnless (is_shut w p) carries w most p n result q → Delivers carries w most p result q
delivers_as carries b w most p n m result q g breaks ends = record {
  moved = n;
  way = way_gone w p m q n g.way (way_after b w m q breaks);
  asked = g.asked;
  waited = g.waited;
  other = leaves_after b w p (take n (waiting_at w p)) m q breaks g.other;
  ends = ends;
}

-- ---- deliveries

unless_shut : {C : Type 0} (b : Bool) (carries : Carrying C) (w : Way) (most : ℕ) (p : PairView C) (n : ℕ) (result : Applied) (q : PairView C) → b ≡ false
    → MovesAll w most p n result q ⊎ FallsShort carries w most p result q → MovesUnless b carries w most p n result q
unless_shut false carries w most p n result q e h = h
unless_shut true carries w most p n result q e h = absurd cc

unbroken_way : (broken closed : Bool) → broken || closed ≡ false → broken ≡ false
unbroken_way false closed e = refl
unbroken_way true closed e = absurd cc

lesser_of : (n most : ℕ) (bytes : List ℕ) → n ≤ most → n ≤ length bytes → (n ≡ most) ⊎ (drop n bytes ≡ []) → n ≡ min most (length bytes)
lesser_of n most bytes asked waited (inl e) = omega arith
lesser_of n most bytes asked waited (inr e) = let none : length (drop n bytes) ≡ 0 = ap length e in let left = length-drop n bytes in omega arith

left_none : {C : Type 0} (w : Way) (most : ℕ) (p : PairView C) (n : ℕ) (m : PairView C) → Gone w most p n m → (n ≡ most) ⊎ (waiting_at w m ≡ []) → (n ≡ most) ⊎ (drop n (waiting_at w p) ≡ [])
left_none w most p n m g (inl e) = inl e
left_none w most p n m g (inr e) = inr (sym (left_waiting w p n m g.way) ∙ e)

moves_all : {C : Type 0} (w : Way) (most : ℕ) (p : PairView C) (n : ℕ) (m : PairView C) (result : Applied) (q : PairView C) → is_shut w p ≡ false → Gone w most p n m → EndsWithoutPiece w most n m result q → MovesAll w most p n result q
moves_all {C} w most p n m result q going g h = record {
  lesser = lesser_of n most (waiting_at w p) g.asked g.waited (left_none w most p n m g h.all);
  result_is = h.result_is;
  whole = ap (λ (s : WayState). s.broken) (ap (λ (x : PairView C). way_state w x) h.same ∙ g.way) ∙ unbroken_way (way_state w p).broken (is_closed w p) going;
}

delivers : {C : Type 0} (carries : Carrying C) (b : Bool) (w : Way) (most : ℕ) (p : PairView C) (result : Applied) (q : PairView C) → is_shut w p ≡ b
    → DeliversUnless b carries w most p result q → Delivers carries w most p result q
delivers carries true w most p result q shut h =
    delivers_as carries false w most p 0 p result q (none_gone w most p) h.1
    (subst (λ b. MovesUnless b carries w most p 0 result q) (sym shut) h)
delivers carries false w most p result q going (n, m, goes, inl h) =
    let g : Gone w most p n m = gone carries w most p n m goes in
    delivers_as carries false w most p n m result q g h.same (unless_shut (is_shut w p) carries w most p n result q going (inl (moves_all w most p n m result q going g h)))
delivers carries false w most p result q going (n, m, goes, inr h) =
    let g : Gone w most p n m = gone carries w most p n m goes in
    let t : Took w (record m { carrier = h.carrier }) (delivered h.piece h.came) h.answer h.taken = took w (record m { carrier = h.carrier }) (delivered h.piece h.came) h.answer h.taken h.takes_in in
    delivers_as carries (is_bad h.piece h.came) w most p (n + t.count) h.taken result q (gone_on carries w most p n m h.piece h.came h.carrier h.answer h.taken g h.carries_piece t) h.breaks
    (unless_shut (is_shut w p) carries w most p (n + t.count) result q going (inr (record { before = n; between = m; goes = goes; ends = h })))

delivered_along : {C : Type 0} (carries : Carrying C) (w : Way) (most : ℕ) (p : PairView C) (result : Applied) (q : PairView C) → Applies carries (delivery_of w most) p (Ok result) q → DeliversUnless (is_shut w p) carries w most p result q
delivered_along carries ToBackend most p result q h = h
delivered_along carries ToClient most p result q h = h

pub delivery_moves : {C : Type 0} (carries : Carrying C) → DeliveryMoves carries
delivery_moves carries w most p result q h = delivers carries (is_shut w p) w most p result q refl (delivered_along carries w most p result q h)

-- ---- with a carrier that gives each piece whole

same_itself : (xs : List ℕ) → same_front xs xs ≡ xs
same_itself [] = refl
same_itself (x ∷ xs) = rw (eq-eqb x x refl) (ap (λ l. x ∷ l) (same_itself xs))

not_less : (n : ℕ) → nat_lt n n ≡ false
not_less n = le-ltb n n (omega arith)

-- what an end answers is a fault
no_answer_of : (w : Way) {C : Type 0} (p : PairView C) (bytes : List ℕ) (answer : Option Applied) (bad : Bool) (n : ℕ) (q : PairView C) → ArrivesAt w p bytes answer q
    → (delivery_applied answer bad n ≡ applied.Done) ⊎ (delivery_applied answer bad n ≡ applied.Nothing) → answer ≡ None
no_answer_of w p [] answer bad n q h e = h.0
no_answer_of ToBackend p (b ∷ bytes) answer bad n q (Ok x, h, is) e = is
no_answer_of ToBackend p (b ∷ bytes) answer bad n q (Err f, h, is) (inl e) = absurd (let k : applied.Backend f ≡ applied.Done = sym (ap (λ a. delivery_applied a bad n) is) ∙ e in cc)
no_answer_of ToBackend p (b ∷ bytes) answer bad n q (Err f, h, is) (inr e) = absurd (let k : applied.Backend f ≡ applied.Nothing = sym (ap (λ a. delivery_applied a bad n) is) ∙ e in cc)
no_answer_of ToClient p (b ∷ bytes) answer bad n q (Ok x, h, is) e = is
no_answer_of ToClient p (b ∷ bytes) answer bad n q (Err f, h, is) (inl e) = absurd (let k : applied.Client f ≡ applied.Done = sym (ap (λ a. delivery_applied a bad n) is) ∙ e in cc)
no_answer_of ToClient p (b ∷ bytes) answer bad n q (Err f, h, is) (inr e) = absurd (let k : applied.Client f ≡ applied.Nothing = sym (ap (λ a. delivery_applied a bad n) is) ∙ e in cc)

never_short : {C : Type 0} (carries : Carrying C) → GivesWhole carries → (w : Way) (most : ℕ) (p : PairView C) (result : Applied) (q : PairView C) → (result ≡ applied.Done) ⊎ (result ≡ applied.Nothing) → FallsShort carries w most p result q → ⊥
never_short {C} carries gives w most p result q fine h =
    let e : EndsWithPiece carries w most h.before h.between result q = h.ends in
    let came : e.came ≡ Ok e.piece = gives h.between.carrier w e.piece e.came e.carrier e.carries_piece.carried in
    let all : delivered e.piece e.came ≡ e.piece = ap (delivered e.piece) came ∙ same_itself e.piece in
    let good : is_bad e.piece e.came ≡ false = ap (is_bad e.piece) came ∙ ap (λ l. nat_lt (length l) (length e.piece)) (same_itself e.piece) ∙ not_less (length e.piece) in
    let none : e.answer ≡ None =
    no_answer_of w (record h.between { carrier = e.carrier }) (delivered e.piece e.came) e.answer (is_bad e.piece e.came) (h.before + length (delivered e.piece e.came)) e.taken e.takes_in
    (subst (λ a. (a ≡ applied.Done) ⊎ (a ≡ applied.Nothing)) e.result_is fine) in
    e.last all none good

lesser_moved : {C : Type 0} (b : Bool) (carries : Carrying C) → GivesWhole carries → (w : Way) (most : ℕ) (p : PairView C) (moved : ℕ) (result : Applied) (q : PairView C) → b ≡ false → (result ≡ applied.Done) ⊎ (result ≡ applied.Nothing)
    → MovesUnless b carries w most p moved result q → moved ≡ min most (length (waiting_at w p))
lesser_moved true carries gives w most p moved result q going fine h = absurd cc
lesser_moved false carries gives w most p moved result q going fine (inl h) = h.lesser
lesser_moved false carries gives w most p moved result q going fine (inr h) = absurd (never_short carries gives w most p result q fine h)

pub whole_moves : {C : Type 0} (carries : Carrying C) → WholeMoves carries
whole_moves carries gives w most p result q h going fine =
    let d : Delivers carries w most p result q = delivery_moves carries w most p result q h in
    ap (λ (s : WayState). s.reached) d.way ∙ ap (λ n. (way_state w p).reached + n) (lesser_moved (is_shut w p) carries gives w most p d.moved result q going fine d.ends)
