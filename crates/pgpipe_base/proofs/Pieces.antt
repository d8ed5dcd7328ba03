-- Text that is put piece by piece.
use Rattle.std.proofs.Common.{◌≡◌, ℕ, ◌+◌, ◌/◌, ◌%◌, ◌<◌, ◌≤◌, ◌⊎◌, inl, inr, List, [], ◌∷◌, ◌++◌, take, drop, slice_index, Result, Ok, Err, OnOk, refl, sym, ap, subst, ◌∙◌, append_assoc, append-nil, length, length-append, arith}
use Rattle.std.specs.List.{FoldsTo, concat}
use Rattle.std.proofs.lemmas.List.Folds.{concat-append}
use Rattle.std.proofs.lemmas.Bool.{cases_lt}
use Rattle.std.proofs.lemmas.List.{length-take, take_all, take-append-le}
use Rattle.pg_wire.specs.declared.link.LinkFault.{LinkFault}
use Rattle.pg_wire.specs.Link.{HasRisen}
use Rattle.pg_wire.specs.Sending.{SendsAll}
use Rattle.hex.specs.Hex.{encode_lower, encode_with, lower_digits}
use Rattle.pgpipe_base.specs.Receiving.{receive_limit, IsSentAtOnce}
use Rattle.pgpipe_base.specs.Outbox.{most_collected, IsSentBut, Puts}
use mathlib.Core.List.{IsPrefix}

-- calls after calls
pub FoldsTo-append : {P A : Type 0} (R : P → A → P → Type 0) (p : P) (xs ys : List A) (q r : P) → FoldsTo R p xs q → FoldsTo R q ys r → FoldsTo R p (xs ++ ys) r
FoldsTo-append R p [] ys q r e f = subst (λ (x : _). FoldsTo R x ys r) (sym e) f
FoldsTo-append R p (x ∷ xs) ys q r e f = (e.0, e.1, FoldsTo-append R e.0 xs ys q r e.2 f)

-- one more call
pub one_more : {P : Type 0} (gives : P → List ℕ → P → Type 0) (p : P) (pieces : List (List ℕ)) (q : P) (piece : List ℕ) (r : P) → FoldsTo gives p pieces q → gives q piece r → FoldsTo gives p (pieces ++ piece ∷ []) r
one_more gives p pieces q piece r f last = FoldsTo-append gives p pieces (piece ∷ []) q r f (r, last, refl)

-- what pieces and one more are together
pub joined : (pieces : List (List ℕ)) (piece : List ℕ) → concat pieces ++ piece ≡ concat (pieces ++ piece ∷ [])
joined pieces piece = sym (concat-append pieces (piece ∷ []) ∙ ap (λ (l : List ℕ). concat pieces ++ l) (append-nil piece))

-- the digits of bytes after bytes
encode_with-append : (digits xs ys : List ℕ) → encode_with digits (xs ++ ys) ≡ encode_with digits xs ++ encode_with digits ys
unfolding encode_with
encode_with-append digits [] ys = refl
encode_with-append digits (x ∷ xs) ys = ap (λ (l : List ℕ). slice_index digits (x / 16) ∷ slice_index digits (x % 16) ∷ l) (encode_with-append digits xs ys)

encode_lower-nil : encode_lower [] ≡ []
unfolding encode_with
encode_lower-nil = refl

encode_lower-append : (xs ys : List ℕ) → encode_lower (xs ++ ys) ≡ encode_lower xs ++ encode_lower ys
encode_lower-append xs ys = encode_with-append lower_digits xs ys

-- ---- a piece that was received

-- what was written over the whole of a list
pub read_back : (n : ℕ) (into old now : List ℕ) → now ≡ take n (into ++ drop (length into) old) → n ≡ length into → now ≡ into
read_back n into old now e all = e ∙ take-append-le n into (drop (length into) old) (omega arith) ∙ take_all n into (omega arith)

-- a piece is no longer than what it was received in
pub piece_within : (n : ℕ) (into : List ℕ) → length into ≡ receive_limit → length (take n into) ≤ receive_limit
piece_within n into room = omega (arith, length-take n into)

-- ---- prefixes of a text

pub prefix_of_itself : {A : Type 0} (text : List A) → IsPrefix text text
prefix_of_itself text = ([], append-nil text)

pub prefix_of_more : {A : Type 0} (before text more : List A) → IsPrefix before text → IsPrefix before (text ++ more)
prefix_of_more {A} before text more b = (b.0 ++ more, sym (append_assoc before b.0 more) ∙ ap (λ (l : List A). l ++ more) b.1)

-- the first of these pieces are the first of all
pub concat_prefix : (first all : List (List ℕ)) → IsPrefix first all → IsPrefix (concat first) (concat all)
concat_prefix first all b = (concat b.0, sym (concat-append first b.0) ∙ ap (λ (l : List (List ℕ)). concat l) b.1)

pub first_within : (first all : List (List ℕ)) → IsPrefix first all → length (concat first) ≤ length (concat all)
first_within first all b = omega (arith, ap (λ (l : List ℕ). length l) (sym (concat-append first b.0) ∙ ap (λ (l : List (List ℕ)). concat l) b.1), length-append (concat first) (concat b.0))

-- ---- what was sent before each receive

-- nothing was received
pub sent_at_first : (holds : List ℕ → List ℕ → Type 0) (sent : List (List ℕ)) → IsSentAtOnce holds [] sent
sent_at_first holds sent n some few = absurd (omega (arith, few))

-- more was sent
pub sent_on : (holds : List ℕ → List ℕ → Type 0) (received sent sent' : List (List ℕ)) → IsPrefix sent sent' → IsSentAtOnce holds received sent → IsSentAtOnce holds received sent'
sent_on holds received sent sent' b before n some few =
    let at = before n some few in (
      at.0,
      omega (arith, at.1, ap (λ (l : List (List ℕ)). length l) b.1, length-append sent b.0),
      subst (λ (l : List (List ℕ)). holds (concat (take n received)) (concat l)) (sym (take-append-le at.0 sent b.0 at.1) ∙ ap (λ (l : List (List ℕ)). take at.0 l) b.1) at.2,
    )

-- one more piece was received, before which all was sent
pub received_on : (holds : List ℕ → List ℕ → Type 0) (received sent : List (List ℕ)) (piece : List ℕ) → (0 < length received → holds (concat received) (concat sent)) → IsSentAtOnce holds received sent → IsSentAtOnce holds (received ++ piece ∷ []) sent
received_on holds received sent piece all before n some few = by_cases (cases_lt n (length received))
  where
    by_cases : (n < length received) ⊎ (length received ≤ n) → (m : ℕ) × (m ≤ length sent) × holds (concat (take n (received ++ piece ∷ []))) (concat (take m sent))
    by_cases (inl earlier) =
        let at = before n some earlier in
        (at.0, at.1, subst (λ (l : List (List ℕ)). holds (concat l) (concat (take at.0 sent))) (sym (take-append-le n received (piece ∷ []) (omega (arith, earlier)))) at.2)
    by_cases (inr now) =
        let within : n ≤ length received = omega (arith, few, length-append received (piece ∷ [])) in
        let came : take n (received ++ piece ∷ []) ≡ received = take-append-le n received (piece ∷ []) within ∙ take_all n received now in
        let went : take (length sent) sent ≡ sent = take_all (length sent) sent (omega arith) in
        (length sent, omega arith, subst (λ (l : List (List ℕ)). holds (concat l) (concat (take (length sent) sent))) (sym came) (subst (λ (l : List (List ℕ)). holds (concat received) (concat l)) (sym went) (all (omega (arith, some, within)))))

-- what holds anyway holds where there was no error
pub any_on_ok : {A E P : Type 0} (r : Result A E) → P → OnOk r P
any_on_ok (Ok x) p = p
any_on_ok (Err e) p = tt

-- ---- text that is put

module _ {K : Type 0} (takes : K → List ℕ → K → Type 0) (failures : K → ℕ) where
  abbrev pub Sent : {A : Type 0} → List ℕ → K → List ℕ → Result A LinkFault → List ℕ → K → Type 0
  Sent {A} c s t r c' s' = Puts {A = A} takes failures c s t r c' s'

  -- nothing is put
  pub puts_none : (c : List ℕ) (s : K) → Puts {A = Unit {0}} takes failures c s [] (Ok tt) c s
  puts_none c s = record { pieces = []; calls = refl; sent = append-nil c; counted = refl }

  -- text is put after text
  pub puts_then : {A : Type 0} (c : List ℕ) (s : K) (t : List ℕ) (c' : List ℕ) (s' : K) (u : List ℕ) (r : Result A LinkFault) (c'' : List ℕ) (s'' : K)
      → Puts {A = Unit {0}} takes failures c s t (Ok tt) c' s' → Puts takes failures c' s' u r c'' s'' → Puts takes failures c s (t ++ u) r c'' s''
  puts_then c s t c' s' u (Ok x) c'' s'' p q = record {
    pieces = p.pieces ++ q.pieces;
    calls = FoldsTo-append takes s p.pieces q.pieces s' s'' p.calls q.calls;
    sent = sym (append_assoc c t u) ∙ ap (λ (l : List ℕ). l ++ u) p.sent ∙ append_assoc (concat p.pieces) c' u ∙ ap (λ (l : List ℕ). concat p.pieces ++ l) q.sent ∙ sym (append_assoc (concat p.pieces) (concat q.pieces) c'') ∙ ap (λ (l : List ℕ). l ++ c'') (sym (concat-append p.pieces q.pieces));
    counted = q.counted ∙ p.counted;
  }
  puts_then c s t c' s' u (Err f) c'' s'' p q = record {
    pieces = p.pieces ++ q.pieces;
    calls = FoldsTo-append takes s p.pieces q.pieces s' s'' p.calls q.calls;
    sent = (q.sent.0, sym (sym (append_assoc c t u) ∙ ap (λ (l : List ℕ). l ++ u) p.sent ∙ append_assoc (concat p.pieces) c' u ∙ ap (λ (l : List ℕ). concat p.pieces ++ l) (sym q.sent.1) ∙ sym (append_assoc (concat p.pieces) (concat q.pieces) q.sent.0) ∙ ap (λ (l : List ℕ). l ++ q.sent.0) (sym (concat-append p.pieces q.pieces))));
    counted = subst (λ (n : ℕ). HasRisen n (failures s'')) p.counted q.counted;
  }

  -- the same text in other words
  abbrev pub puts_as : {A : Type 0} (c : List ℕ) (s : K) (t u : List ℕ) (r : Result A LinkFault) (c' : List ℕ) (s' : K) → t ≡ u → Puts {A = A} takes failures c s t r c' s' → Puts {A = A} takes failures c s u r c' s'
  puts_as c s t u r c' s' e p = record { pieces = p.pieces; calls = p.calls; sent = subst (λ (l : List ℕ). IsSentBut r (c ++ l) (concat p.pieces) c') e p.sent; counted = p.counted }

  -- what was sent before is a part of all that was sent
  pub sent_within : {A : Type 0} (c : List ℕ) (s : K) (t : List ℕ) (c' : List ℕ) (s' : K) (u : List ℕ) (r : Result A LinkFault) (c'' : List ℕ) (s'' : K) (p : Puts {A = Unit {0}} takes failures c s t (Ok tt) c' s') (q : Puts takes failures c' s' u r c'' s'')
      → length (concat p.pieces) ≤ length (concat (puts_then c s t c' s' u r c'' s'' p q).pieces)
  unfolding puts_then
  sent_within c s t c' s' u (Ok x) c'' s'' p q = omega (arith, ap (λ (l : List ℕ). length l) (concat-append p.pieces q.pieces), length-append (concat p.pieces) (concat q.pieces))
  sent_within c s t c' s' u (Err f) c'' s'' p q = omega (arith, ap (λ (l : List ℕ). length l) (concat-append p.pieces q.pieces), length-append (concat p.pieces) (concat q.pieces))

  -- what was sent first is still the first of all that was sent
  pub sends_on : {A : Type 0} (earlier : List (List ℕ)) (c : List ℕ) (s : K) (t : List ℕ) (c' : List ℕ) (s' : K) (u : List ℕ) (r : Result A LinkFault) (c'' : List ℕ) (s'' : K) (p : Puts {A = Unit {0}} takes failures c s t (Ok tt) c' s') (q : Puts takes failures c' s' u r c'' s'')
      → IsPrefix earlier p.pieces → IsPrefix earlier (puts_then c s t c' s' u r c'' s'' p q).pieces
  unfolding puts_then
  sends_on earlier c s t c' s' u (Ok x) c'' s'' p q b = prefix_of_more earlier p.pieces q.pieces b
  sends_on earlier c s t c' s' u (Err f) c'' s'' p q b = prefix_of_more earlier p.pieces q.pieces b

  -- where nothing is collected any more, all that was put was sent
  pub sent_all : (s : K) (t c' : List ℕ) (s' : K) (p : Puts {A = Unit {0}} takes failures [] s t (Ok tt) c' s') → c' ≡ [] → t ≡ concat p.pieces
  sent_all s t c' s' p none = p.sent ∙ ap (λ (l : List ℕ). concat p.pieces ++ l) none ∙ append-nil (concat p.pieces)

  -- a prefix of what was put is no more than what was sent and what may be collected
  pub put_at_once : (s : K) (before t c' : List ℕ) (s' : K) (p : Puts {A = Unit {0}} takes failures [] s t (Ok tt) c' s') → IsPrefix before t → length c' ≤ most_collected → length before ≤ most_collected + length (concat p.pieces)
  put_at_once s before t c' s' p b within = omega (arith, within, ap (λ (l : List ℕ). length l) b.1, length-append before b.0, ap (λ (l : List ℕ). length l) p.sent, length-append (concat p.pieces) c')

  -- nor more than what is sent in the end
  pub sent_at_once : {A : Type 0} (s : K) (before t c' : List ℕ) (s' : K) (u : List ℕ) (r : Result A LinkFault) (c'' : List ℕ) (s'' : K) (p : Puts {A = Unit {0}} takes failures [] s t (Ok tt) c' s') (q : Puts takes failures c' s' u r c'' s'')
      → IsPrefix before t → length c' ≤ most_collected → length before ≤ most_collected + length (concat (puts_then [] s t c' s' u r c'' s'' p q).pieces)
  sent_at_once s before t c' s' u r c'' s'' p q b within = omega (arith, put_at_once s before t c' s' p b within, sent_within [] s t c' s' u r c'' s'' p q)

  -- where the sink failed, more text changes nothing
  pub puts_fails : {A B : Type 0} (c : List ℕ) (s : K) (t : List ℕ) (f g : LinkFault) (c' : List ℕ) (s' : K) (u c'' : List ℕ) → Puts {A = A} takes failures c s t (Err f) c' s' → Puts {A = B} takes failures c s (t ++ u) (Err g) c'' s'
  puts_fails c s t f g c' s' u c'' p = record {
    pieces = p.pieces;
    calls = p.calls;
    sent = (p.sent.0 ++ u, sym (append_assoc (concat p.pieces) p.sent.0 u) ∙ ap (λ (l : List ℕ). l ++ u) p.sent.1 ∙ append_assoc c t u);
    counted = p.counted;
  }

  -- text is collected, and nothing is sent
  pub puts_collected : (c : List ℕ) (s : K) (u c' : List ℕ) → c' ≡ c ++ u → Puts {A = Unit {0}} takes failures c s u (Ok tt) c' s
  puts_collected c s u c' e = record { pieces = []; calls = refl; sent = sym e; counted = refl }

  -- what was collected begins with a piece, and the sink took it
  pub puts_sent : (c : List ℕ) (s : K) (piece c' : List ℕ) (s' : K) → c ≡ piece ++ c' → takes s piece s' → failures s' ≡ failures s → Puts {A = Unit {0}} takes failures c s [] (Ok tt) c' s'
  puts_sent c s piece c' s' e t n = record { pieces = piece ∷ []; calls = (s', t, refl); sent = append-nil c ∙ e ∙ ap (λ (l : List ℕ). l ++ c') (sym (append-nil piece)); counted = n }

  -- all that was collected was sent, and then a text
  pub sent_after : {A : Type 0} (c : List ℕ) (s : K) (c' : List ℕ) (s' : K) (text : List ℕ) (r : Result A LinkFault) (s'' : K) → Puts {A = Unit {0}} takes failures c s [] (Ok tt) c' s' → c' ≡ [] → Puts {A = A} takes failures text s' [] r [] s''
      → Puts {A = A} takes failures c s text r c' s''
  sent_after {A} c s c' s' text r s'' p none q =
      let put : Puts {A = A} takes failures [] s' text r [] s'' = record { pieces = q.pieces; calls = q.calls; sent = subst (λ (l : List ℕ). IsSentBut r l (concat q.pieces) []) (append-nil text) q.sent; counted = q.counted } in
      let here : Puts {A = A} takes failures c' s' text r c' s'' = subst (λ (k : List ℕ). Puts {A = A} takes failures k s' text r k s'') (sym none) put in
      puts_then c s [] c' s' text r c' s'' p here

  -- the sink failed at once
  pub puts_nothing : (c : List ℕ) (s : K) (f : LinkFault) (c' : List ℕ) (s' : K) → takes s [] s' → HasRisen (failures s) (failures s') → Puts {A = Unit {0}} takes failures c s [] (Err f) c' s'
  puts_nothing c s f c' s' t n = record { pieces = [] ∷ []; calls = (s', t, refl); sent = (c, sym (append-nil c)); counted = n }

  -- bytes that were sent, all of them or until the sink failed
  pub puts_all_sent : (bytes : List ℕ) (s : K) (result : Result Unit LinkFault) (s' : K) → SendsAll takes failures s bytes result s' → Puts {A = Unit {0}} takes failures bytes s [] result [] s'
  puts_all_sent bytes s (Ok x) s' p = record { pieces = p.pieces; calls = p.calls; sent = append-nil bytes ∙ sym p.whole ∙ sym (append-nil (concat p.pieces)); counted = p.none_failed }
  puts_all_sent bytes s (Err f) s' (left, p) = record {
    pieces = p.was_sent.pieces ++ [] ∷ [];
    calls = one_more takes s p.was_sent.pieces p.before [] s' p.was_sent.calls p.took_none;
    sent = (left, ap (λ (l : List ℕ). l ++ left) (sym (joined p.was_sent.pieces []) ∙ append-nil (concat p.was_sent.pieces) ∙ p.was_sent.whole) ∙ sym p.split ∙ sym (append-nil bytes));
    counted = subst (λ (n : ℕ). HasRisen n (failures s')) p.was_sent.none_failed p.counted;
  }

  -- some of the bytes are put in hexadecimal, and the rest is left
  pub record PutsSome (c : List ℕ) (s : K) (bytes rest c' : List ℕ) (s' : K) : Type 0 where
    pub done : List ℕ
    pub whole : bytes ≡ done ++ rest
    pub put : Puts {A = Unit {0}} takes failures c s (encode_lower done) (Ok tt) c' s'

  -- none of the bytes are put
  pub none_yet : (c : List ℕ) (s : K) (bytes : List ℕ) → PutsSome c s bytes bytes c s
  none_yet c s bytes =
      record {
        done = [];
        whole = refl;
        put = subst (λ (t : List ℕ). Puts {A = Unit {0}} takes failures c s t (Ok tt) c s) (sym encode_lower-nil) (puts_collected c s [] c (sym (append-nil c)));
      }

  -- more of the bytes are put
  pub some_more : (c : List ℕ) (s : K) (bytes rest c' : List ℕ) (s' : K) (c'' : List ℕ) (s'' : K) (piece later after : List ℕ) → PutsSome c s bytes rest c' s' → Puts {A = Unit {0}} takes failures c' s' [] (Ok tt) c'' s''
      → rest ≡ piece ++ later → after ≡ c'' ++ encode_lower piece → PutsSome c s bytes later after s''
  some_more c s bytes rest c' s' c'' s'' piece later after p room split e =
      let roomy = puts_then c s (encode_lower p.done) c' s' [] (Ok tt) c'' s'' p.put room in
      let all = puts_then c s (encode_lower p.done ++ []) c'' s'' (encode_lower piece) (Ok tt) after s'' roomy (puts_collected c'' s'' (encode_lower piece) after e) in
      record {
        done = p.done ++ piece;
        whole = p.whole ∙ ap (λ (l : List ℕ). p.done ++ l) split ∙ sym (append_assoc p.done piece later);
        put = subst (λ (t : List ℕ). Puts {A = Unit {0}} takes failures c s t (Ok tt) after s'') (ap (λ (l : List ℕ). l ++ encode_lower piece) (append-nil (encode_lower p.done)) ∙ sym (encode_lower-append p.done piece)) all;
      }

  -- the sink failed before all were put
  pub some_fails : {A : Type 0} (c : List ℕ) (s : K) (bytes rest c' : List ℕ) (s' : K) (f g : LinkFault) (c'' : List ℕ) (s'' : K) (after : List ℕ) → PutsSome c s bytes rest c' s' → Puts {A = A} takes failures c' s' [] (Err f) c'' s''
      → Puts {A = A} takes failures c s (encode_lower bytes) (Err g) after s''
  some_fails {A} c s bytes rest c' s' f g c'' s'' after p failed =
      let broken = puts_then c s (encode_lower p.done) c' s' [] (Err f) c'' s'' p.put failed in
      let all = puts_fails {A = A} {B = A} c s (encode_lower p.done ++ []) f g c'' s'' (encode_lower rest) after broken in
      subst (λ (t : List ℕ). Puts {A = A} takes failures c s t (Err g) after s'') (ap (λ (l : List ℕ). l ++ encode_lower rest) (append-nil (encode_lower p.done)) ∙ sym (encode_lower-append p.done rest) ∙ ap encode_lower (sym p.whole)) all
