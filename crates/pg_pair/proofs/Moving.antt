-- A delivery goes piece by piece.
use Rattle.std.proofs.Common.{◌≡◌, ◌≤◌, ◌<◌, ◌+◌, ◌-◌, ℕ, true, false, ◌||◌, Bool, List, [], ◌∷◌, Option, Some, None, is_some, min, length, take, refl, ap, sym, subst, ◌∙◌, arith, ◌⊎◌, inl, inr}
use Rattle.std.proofs.lemmas.List.{length-take, length-take-le, take-take, take_min}
use Rattle.pg_pair.specs.declared.carry.Way.{Way}
use Rattle.pg_pair.specs.declared.carry.Way.TheVariants.{ToBackend, ToClient}
use Rattle.pg_pair.specs.declared.event.Applied.{Applied}
use Rattle.pg_pair.specs.declared.pair.carrying.Carried.{Carried}
use Rattle.pg_pair.specs.declared.pair.delivering.Moved.{Moved}
use Rattle.pg_pair.specs.Breaking.{BreaksIf, is_closed, is_shut}
use Rattle.pg_pair.specs.Delivering.{ArrivesAt, CarriesPiece, DeliversUnless, delivery_applied, EndsWithPiece, DeliversPieces, one_more_piece, EndsWithoutPiece}
use Rattle.pg_pair.specs.Carrying.{Carrying, delivered, is_bad, longest_piece}
use Rattle.pg_pair.specs.Private.Delivering.{MovesPiece, PairCarries}
use Rattle.pg_pair.specs.View.{PairView, way_state, waiting_at}
use Rattle.pg_pair.proofs.Delivering.{delivered_of_count, delivered_of_waiting, delivered_whole, delivered_within}

-- ---- one piece

waiting_same : {C : Type 0} (w : Way) (p : PairView C) (carrier : C) → waiting_at w (record p { carrier = carrier }) ≡ waiting_at w p
waiting_same ToBackend p carrier = refl
waiting_same ToClient p carrier = refl

waiting_carried : {C : Type 0} (carries : Carrying C) (w : Way) (p : PairView C) (piece : List ℕ) (c : Carried) (q : PairView C) → PairCarries carries w p piece c q → waiting_at w q ≡ waiting_at w p
waiting_carried carries w p piece c q k = ap (waiting_at w) k.rest ∙ waiting_same w p q.carrier

-- what is delivered is under way
pub given_within : {C : Type 0} (carries : Carrying C) (w : Way) (p : PairView C) (count : ℕ) (c : Carried) (q : PairView C) → PairCarries carries w p (take count (waiting_at w p)) c q → c.given ≤ length (waiting_at w q)
given_within carries w p count c q k =
    let few = delivered_of_count count (waiting_at w p) k.carried.came in
    let same = ap length (waiting_carried carries w p (take count (waiting_at w p)) c q k) in
    let given = k.carried.given in
    omega arith

unbroken : {C : Type 0} (bad : Bool) (w : Way) (r s : PairView C) → bad ≡ false → BreaksIf bad w r s → s ≡ r
unbroken false w r s e b = b
unbroken true w r s e b = absurd cc

pub moves : {C : Type 0} (carries : Carrying C) (w : Way) (p : PairView C) (count : ℕ) (c : Carried) (q : PairView C) (answer : Option Applied) (r s : PairView C)
    → PairCarries carries w p (take count (waiting_at w p)) c q → ArrivesAt w q (take c.given (waiting_at w q)) answer r → (answer ≡ None → is_closed w r ≡ false) → BreaksIf c.bad w r s
    → MovesPiece carries w p (take count (waiting_at w p)) (record { given = c.given; bad = c.bad; answer = answer }) s
moves carries w p count c q answer r s k takes going breaks =
    let piece : List ℕ = take count (waiting_at w p) in
    let bytes : take c.given (waiting_at w q) ≡ delivered piece k.carried.came =
    ap (take c.given) (waiting_carried carries w p piece c q k) ∙ ap (λ n. take n (waiting_at w p)) k.carried.given ∙ delivered_of_waiting count (waiting_at w p) k.carried.came in
    record {
      came = k.carried.came;
      carrier = q.carrier;
      carried = k.carried.carried;
      taken = r;
      takes = subst (λ l. ArrivesAt w (record p { carrier = q.carrier }) l answer r) bytes (subst (λ m. ArrivesAt w m (take c.given (waiting_at w q)) answer r) k.rest takes);
      breaks = breaks;
      given = k.carried.given;
      bad = k.carried.bad;
      going = λ none fine. ap (is_closed w) (unbroken c.bad w r s fine breaks) ∙ going none;
    }

-- ---- piece by piece

-- so many bytes are the next piece
pub take_count : (count most : ℕ) (l : List ℕ) → count ≡ min (min (length l) most) longest_piece → take count l ≡ take longest_piece (take most l)
take_count count most l e =
    let cut = length-take most l in
    let same : count ≡ min longest_piece (length (take most l)) = omega arith in
    sym (take-take count most l (omega arith)) ∙ ap (λ n. take n (take most l)) same ∙ take_min longest_piece (take most l)

carries_piece : {C : Type 0} (carries : Carrying C) (w : Way) (most count : ℕ) (m : PairView C) (moved : Moved) (q : PairView C) → count ≡ min (min (length (waiting_at w m)) most) longest_piece → 0 < count
    → (h : MovesPiece carries w m (take count (waiting_at w m)) moved q) → CarriesPiece carries w most m (take count (waiting_at w m)) h.came h.carrier
carries_piece carries w most count m moved q e some h = record {
  piece_is = take_count count most (waiting_at w m) e;
  some = let n = length-take-le count (waiting_at w m) (omega arith) in omega arith;
  carried = h.carried;
}

piece_length : {C : Type 0} (w : Way) (most count : ℕ) (m : PairView C) → count ≡ min (min (length (waiting_at w m)) most) longest_piece → length (take count (waiting_at w m)) ≡ count
piece_length w most count m e = length-take-le count (waiting_at w m) (omega arith)

-- no more than the piece is moved
pub moved_within : {C : Type 0} (carries : Carrying C) (w : Way) (most count : ℕ) (m : PairView C) (moved : Moved) (q : PairView C) → count ≡ min (min (length (waiting_at w m)) most) longest_piece
    → MovesPiece carries w m (take count (waiting_at w m)) moved q → (moved.given ≤ count) × (count ≤ most)
moved_within carries w most count m moved q e h =
    let long = piece_length w most count m e in
    let few = delivered_within (take count (waiting_at w m)) h.came in
    let given = h.given in
    (omega arith, omega arith)

pub no_answer : (a : Option Applied) → is_some a ≡ false → a ≡ None
no_answer None e = refl
no_answer (Some a) e = absurd cc

open_way : (broken closed : Bool) → broken || closed ≡ false → closed ≡ false
open_way false closed e = e
open_way true closed e = absurd cc

pub going_on : {C : Type 0} (w : Way) (p : PairView C) → is_shut w p ≡ false → is_closed w p ≡ false
going_on w p e = open_way (way_state w p).broken (is_closed w p) e

pub goes_further : {C : Type 0} (carries : Carrying C) (w : Way) (most : ℕ) (p : PairView C) (n count : ℕ) (m : PairView C) (moved : Moved) (q : PairView C)
    → DeliversPieces carries w most p n m → count ≡ min (min (length (waiting_at w m)) (most - n)) longest_piece → 0 < count → MovesPiece carries w m (take count (waiting_at w m)) moved q
    → moved.bad ≡ false → moved.answer ≡ None → count ≤ moved.given → DeliversPieces carries w most p (n + moved.given) q
goes_further carries w most p n count m moved q goes e some h fine none whole =
    let piece : List ℕ = take count (waiting_at w m) in
    let long : length piece ≡ count = piece_length w (most - n) count m e in
    let given = h.given in
    let all : delivered piece h.came ≡ piece = delivered_whole piece h.came (omega arith) in
    let same : q ≡ h.taken = unbroken moved.bad w h.taken q fine h.breaks in
    let takes : ArrivesAt w (record m { carrier = h.carrier }) piece None h.taken =
    subst (λ a. ArrivesAt w (record m { carrier = h.carrier }) piece a h.taken) none (subst (λ l. ArrivesAt w (record m { carrier = h.carrier }) l moved.answer h.taken) all h.takes) in
    let on : DeliversPieces carries w most p (n + length piece) h.taken = one_more_piece n m piece h.came h.carrier h.taken goes (carries_piece carries w (most - n) count m moved q e some h) all (sym h.bad ∙ fine) takes in
    subst (λ l. DeliversPieces carries w most p (n + l) q) (sym (h.given ∙ ap length all)) (subst (λ x. DeliversPieces carries w most p (n + length piece) x) (sym same) on)

delivers : {C : Type 0} (b : Bool) (carries : Carrying C) (w : Way) (most : ℕ) (p : PairView C) (n : ℕ) (m : PairView C) (result : Applied) (q : PairView C) → b ≡ false
    → DeliversPieces carries w most p n m → EndsWithoutPiece w most n m result q ⊎ EndsWithPiece carries w most n m result q → DeliversUnless b carries w most p result q
delivers false carries w most p n m result q e goes ends = (n, m, goes, ends)
delivers true carries w most p n m result q e goes ends = absurd cc

none_left : (n most : ℕ) (l : List ℕ) → n ≤ most → 0 ≡ min (min (length l) (most - n)) longest_piece → (n ≡ most) ⊎ (l ≡ [])
none_left n most [] within e = inr refl
none_left n most (x ∷ xs) within e = inl (omega arith)

pub delivers_whole : {C : Type 0} (carries : Carrying C) (w : Way) (most : ℕ) (p : PairView C) (n count : ℕ) (m : PairView C) → is_shut w p ≡ false → DeliversPieces carries w most p n m → n ≤ most
    → count ≡ min (min (length (waiting_at w m)) (most - n)) longest_piece → count ≡ 0 → DeliversUnless (is_shut w p) carries w most p (delivery_applied None false n) m
delivers_whole carries w most p n count m going goes within e none =
    delivers (is_shut w p) carries w most p n m (delivery_applied None false n) m going goes
    (inl (record { all = none_left n most (waiting_at w m) within (sym none ∙ e); result_is = refl; same = refl }))

pub delivers_part : {C : Type 0} (carries : Carrying C) (w : Way) (most : ℕ) (p : PairView C) (n count : ℕ) (m : PairView C) (moved : Moved) (q : PairView C) → is_shut w p ≡ false → DeliversPieces carries w most p n m
    → count ≡ min (min (length (waiting_at w m)) (most - n)) longest_piece → 0 < count → MovesPiece carries w m (take count (waiting_at w m)) moved q
    → (moved.bad ≡ false → moved.answer ≡ None → count ≤ moved.given → ⊥)
    → DeliversUnless (is_shut w p) carries w most p (delivery_applied moved.answer moved.bad (n + moved.given)) q
delivers_part carries w most p n count m moved q going goes e some h last =
    let piece : List ℕ = take count (waiting_at w m) in
    let long : length piece ≡ count = piece_length w (most - n) count m e in
    delivers (is_shut w p) carries w most p n m (delivery_applied moved.answer moved.bad (n + moved.given)) q going goes
    (inr (record {
      piece = piece;
      came = h.came;
      carrier = h.carrier;
      carries_piece = carries_piece carries w (most - n) count m moved q e some h;
      answer = moved.answer;
      taken = h.taken;
      takes_in = h.takes;
      last = λ all none fine. last (h.bad ∙ fine) none (let given = h.given in let same = ap length all in omega arith);
      breaks = subst (λ b. BreaksIf b w h.taken q) h.bad h.breaks;
      result_is = ap (λ b. delivery_applied moved.answer b (n + moved.given)) h.bad ∙ ap (λ l. delivery_applied moved.answer (is_bad piece h.came) (n + l)) h.given;
    }))
