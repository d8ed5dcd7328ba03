-- What an encoder put out is what its call sends.
use Rattle.std.proofs.Common.{◌≡◌, ℕ, ◌+◌, ◌≤◌, ◌<◌, Bool, true, false, List, [], ◌∷◌, ◌++◌, length, take, drop, get_or, map, Option, Some, None, Result, Ok, Err, refl, sym, ap, subst, ◌∙◌, append_assoc, arith}
use Rattle.std.specs.List.{flat_map, AllByRecursion}
use Rattle.std.proofs.lemmas.List.{append-nil, drop_more, map-append, map_more, take-append-drop, take_all}
use Rattle.std.proofs.lemmas.Grind.{flat_map-append}
use Rattle.pg_wire.specs.fault.EncodeFault.{EncodeFault}
use Rattle.pg_wire.specs.fault.EncodeFault.TheVariants as encoding
use Rattle.pg_wire.specs.message.FrontMessage.{FrontMessage}
use Rattle.pg_wire.specs.Direction.{spelling, HasSpelling, encode_fault}
use Rattle.pg_wire.specs.Encoder.{Encodes}
use Rattle.pg_wire.specs.Frontend.{frontend}
use Rattle.pg_wire.specs.Segment.{step_message}
use Rattle.pg_wire.specs.message.FrontMessage.TheVariants.{Sync}
use Rattle.pg_wire.specs.declared.session.Step.{Step}
use Rattle.pg_response.proofs.Lists.{all_both}
use Rattle.pg_client.specs.View.{option_or}
use Rattle.pg_client.specs.Sent.{first_fault}
use Rattle.pg_client.specs.Private.Sending.{Puts, ArePut, Lengthens, starved_after}

-- one message was encoded
pub record IsEncoded (m : FrontMessage) (before after : List ℕ) : Type 0 where
  pub spelled : AllByRecursion (HasSpelling frontend) (m ∷ [])
  pub put : after ≡ before ++ flat_map (spelling frontend) (m ∷ [])

pub encoded : (m : FrontMessage) (before after : List ℕ) → Encodes frontend m before (Ok tt) after → IsEncoded m before after
encoded m before after e = record {
  spelled = (record { of_type = e.0; no_fault = e.1 }, tt);
  put = e.2 ∙ ap (λ (bs : List ℕ). before ++ bs) (sym (append-nil (spelling frontend m)));
}

-- ---- a group's messages

both_none : (o p : Option EncodeFault) → option_or o p ≡ None → (o ≡ None) × (p ≡ None)
both_none o p e = grind arith

first_none : (ms : List FrontMessage) (m : FrontMessage) → first_fault ms ≡ None → encode_fault frontend m ≡ None → first_fault (ms ++ m ∷ []) ≡ None
first_none [] m e one = ap (λ (o : Option EncodeFault). option_or o None) one
first_none (x ∷ xs) m e one =
    let k = both_none (encode_fault frontend x) (first_fault xs) e in
    ap (λ (o : Option EncodeFault). option_or o (first_fault (xs ++ m ∷ []))) k.0 ∙ first_none xs m k.1 one

first_some : (ms more : List FrontMessage) (m : FrontMessage) (f : EncodeFault) → first_fault ms ≡ None → encode_fault frontend m ≡ Some f → first_fault (ms ++ m ∷ more) ≡ Some f
first_some [] more m f e one = ap (λ (o : Option EncodeFault). option_or o (first_fault more)) one
first_some (x ∷ xs) more m f e one =
    let k = both_none (encode_fault frontend x) (first_fault xs) e in
    ap (λ (o : Option EncodeFault). option_or o (first_fault (xs ++ m ∷ more))) k.0 ∙ first_some xs more m f k.1 one

none_first : (ms : List FrontMessage) → AllByRecursion (HasSpelling frontend) ms → first_fault ms ≡ None
none_first [] all = refl
none_first (m ∷ ms) all = ap (λ (o : Option EncodeFault). option_or o (first_fault ms)) all.0.no_fault ∙ none_first ms all.1

ok_is : (a b : Bool) → (let x : Result Bool EncodeFault = Ok a in let y : Result Bool EncodeFault = Ok b in x ≡ y) → b ≡ a
ok_is a b e = cc

err_is : (f g : EncodeFault) → (let x : Result Bool EncodeFault = Err f in let y : Result Bool EncodeFault = Err g in x ≡ y) → g ≡ f
err_is f g e = cc

module _ (ms : List FrontMessage) (before now : List ℕ) where
  put_none : (starved : Bool) → ArePut ms before starved now → first_fault ms ≡ None
  put_none false h = none_first ms h.0
  put_none true h = h.0

  put_longer : (starved : Bool) → ArePut ms before starved now → Lengthens before now
  put_longer false h = (flat_map (spelling frontend) ms, h.1)
  put_longer true h = h.1

  -- one more message
  module _ (m : FrontMessage) (after : List ℕ) where
    longer : (bytes : List ℕ) → after ≡ now ++ bytes → Lengthens before now → Lengthens before after
    longer bytes e h = (h.0 ++ bytes, e ∙ ap (λ (bs : List ℕ). bs ++ bytes) h.1 ∙ append_assoc before h.0 bytes)

    pub puts_more : (starved next : Bool) (r : Result Unit EncodeFault) → ArePut ms before starved now → Encodes frontend m now r after → Ok next ≡ starved_after starved r → ArePut (ms ++ m ∷ []) before next after
    puts_more starved next (Ok x) h e is = subst (λ (b : Bool). ArePut (ms ++ m ∷ []) before b after) (ok_is next starved is) (by starved h)
      where
        by : (b : Bool) → ArePut ms before b now → ArePut (ms ++ m ∷ []) before b after
        by false h = (
          all_both (HasSpelling frontend) ms (m ∷ []) h.0 (record { of_type = e.0; no_fault = e.1 }, tt),
          e.2 ∙ ap (λ (bs : List ℕ). bs ++ spelling frontend m) h.1 ∙ append_assoc before (flat_map (spelling frontend) ms) (spelling frontend m)
              ∙ ap (λ (bs : List ℕ). before ++ bs) (sym (flat_map-append (spelling frontend) ms (m ∷ []) ∙ ap (λ (bs : List ℕ). flat_map (spelling frontend) ms ++ bs) (append-nil (spelling frontend m)))),
        )
        by true h = (first_none ms m h.0 e.1, longer (spelling frontend m) e.2 h.1)
    puts_more starved next (Err encoding.Memory) h e is = subst (λ (b : Bool). ArePut (ms ++ m ∷ []) before b after) (ok_is next true is)
        (first_none ms m (put_none starved h) e.0, longer [] (e.1 ∙ sym (append-nil now)) (put_longer starved h))
    puts_more starved next (Err f) h e is = absurd cc

    pub puts_none : (more : List FrontMessage) (starved : Bool) (f : EncodeFault) (r : Result Unit EncodeFault) → ArePut ms before starved now → Encodes frontend m now r after → Err f ≡ starved_after starved r → Puts (ms ++ m ∷ more) before (Err f) after
    puts_none more starved f (Ok x) h e is = absurd cc
    puts_none more starved f (Err encoding.Memory) h e is = absurd cc
    puts_none more starved f (Err g) h e is = subst (λ (x : EncodeFault). Puts (ms ++ m ∷ more) before (Err x) after) (err_is f g is)
        (first_some ms more m g (put_none starved h) e.0, longer [] (e.1 ∙ sym (append-nil now)) (put_longer starved h))

-- ---- a group's messages, step by step

module _ (steps : List Step) (i : ℕ) (s : Step) (before now after : List ℕ) (starved : Bool) (so_far : ArePut (map step_message (take i steps)) before starved now) where
  pub step_put : (next : Bool) (r : Result Unit EncodeFault) → i < length steps → s ≡ get_or steps i s → Encodes frontend (step_message s) now r after → Ok next ≡ starved_after starved r → ArePut (map step_message (take (i + 1) steps)) before next after
  step_put next r lt is e said =
      let cut : map step_message (take (i + 1) steps) ≡ map step_message (take i steps) ++ step_message s ∷ [] = map_more step_message steps i s lt ∙ ap (λ (x : Step). map step_message (take i steps) ++ step_message x ∷ []) (sym is) in
      subst (λ (ms : List FrontMessage). ArePut ms before next after) (sym cut) (puts_more (map step_message (take i steps)) before now (step_message s) after starved next r so_far e said)

  pub step_fault : (f : EncodeFault) (r : Result Unit EncodeFault) → i < length steps → s ≡ get_or steps i s → Encodes frontend (step_message s) now r after → Err f ≡ starved_after starved r → Puts (map step_message steps ++ Sync ∷ []) before (Err f) after
  step_fault f r lt is e said =
      let split : steps ≡ take i steps ++ s ∷ drop (i + 1) steps = sym (take-append-drop i steps) ∙ ap (λ (ss : List Step). take i steps ++ ss) (drop_more steps i s lt ∙ ap (λ (x : Step). x ∷ drop (i + 1) steps) (sym is)) in
      let cut : map step_message steps ++ Sync ∷ [] ≡ map step_message (take i steps) ++ step_message s ∷ (map step_message (drop (i + 1) steps) ++ Sync ∷ []) =
      ap (λ (ss : List Step). map step_message ss ++ Sync ∷ []) split
      ∙ ap (λ (ms : List FrontMessage). ms ++ Sync ∷ []) (map-append step_message (take i steps) (s ∷ drop (i + 1) steps))
      ∙ append_assoc (map step_message (take i steps)) (step_message s ∷ map step_message (drop (i + 1) steps)) (Sync ∷ []) in
      subst (λ (ms : List FrontMessage). Puts ms before (Err f) after) (sym cut)
      (puts_none (map step_message (take i steps)) before now (step_message s) after (map step_message (drop (i + 1) steps) ++ Sync ∷ []) starved f r so_far e said)

pub sync_put : (steps : List Step) (i : ℕ) (before now after : List ℕ) (starved : Bool) → ArePut (map step_message (take i steps)) before starved now → (next : Bool) (r : Result Unit EncodeFault) → length steps ≤ i → Encodes frontend Sync now r after → Ok next ≡ starved_after starved r → next ≡ true → Puts (map step_message steps ++ Sync ∷ []) before (Err encoding.Memory) after
sync_put steps i before now after starved so_far next r le e said is =
    subst (λ (b : Bool). ArePut (map step_message steps ++ Sync ∷ []) before b after) is
    (subst (λ (ss : List Step). ArePut (map step_message ss ++ Sync ∷ []) before next after) (take_all i steps le) (puts_more (map step_message (take i steps)) before now Sync after starved next r so_far e said))
