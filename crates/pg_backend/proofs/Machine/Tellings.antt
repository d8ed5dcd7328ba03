-- Several messages written as one.
use Rattle.std.proofs.Common.{◌≡◌, ℕ, ◌+◌, ◌<◌, add-one, length, get_or, take, List, [], ◌∷◌, ◌++◌, Option, Some, None, map, refl, ap, sym, ◌∙◌, append_assoc}
use Rattle.std.specs.Prelude.{Result, Ok, Err}
use Rattle.std.specs.List.{flat_map, AllByRecursion}
use Rattle.std.proofs.lemmas.Grind.{flat_map-append}
use Rattle.std.proofs.lemmas.List.{append-nil}
use Rattle.std.proofs.lemmas.List.Concat.{flat_map_single}
use Rattle.std.proofs.Math.Seq.{take-suc}
use Rattle.pg_wire.specs.fault.EncodeFault.{EncodeFault}
use Rattle.pg_wire.specs.fault.EncodeFault.TheVariants as faults
use Rattle.pg_wire.specs.message.BackMessage.{BackMessage}
use Rattle.pg_wire.specs.Backend.{backend}
use Rattle.pg_wire.specs.Direction.{spelling, encode_fault, HasSpelling}
use Rattle.pg_wire.specs.Encoder.{Encodes}
use Rattle.pg_wire.specs.Segment.{messages_of}
use Rattle.pg_backend.specs.declared.script.ScriptPart.{ScriptPart}
use Rattle.pg_backend.specs.Outcome.{complete}
use Rattle.pg_backend.specs.Replies.{parts_sent}
use Rattle.pg_backend.specs.Telling.{AreEncodable, AreEncoded, EncodesAll, both}
use Rattle.pg_backend.proofs.Beginnings.{all_back, all_front, all_of_both}

differs : (o : Option EncodeFault) (f : EncodeFault) → o ≡ None → o ≡ Some f → ⊥
differs o f is e = cc

-- one message
pub one : (m : BackMessage) (old : List ℕ) (result : Result Unit EncodeFault) (new : List ℕ) → Encodes backend m old result new → EncodesAll (m ∷ []) old result new
one m old (Ok x) new h = record { added = spelling backend m; appended = h.2; says = ((record { of_type = h.0; no_fault = h.1 }, tt), sym (append-nil (spelling backend m))) }
one m old (Err faults.Memory) new h = record { added = []; appended = h.1 ∙ sym (append-nil old); says = (h.0, tt) }
one m old (Err f) new h = record { added = []; appended = h.1 ∙ sym (append-nil old); says = λ n. absurd (differs _ f n.0 h.0) }

pub none : (old : List ℕ) → EncodesAll [] old (Ok tt) old
none old = record { added = []; appended = sym (append-nil old); says = (tt, refl) }

-- what has a spelling has no fault
pub no_fault : (ms : List BackMessage) → AllByRecursion (HasSpelling backend) ms → AreEncodable ms
no_fault [] h = tt
no_fault (m ∷ ms) h = (h.0.no_fault, no_fault ms h.1)

both_say : (ms ns : List BackMessage) (x y : List ℕ) (r s : Result Unit EncodeFault) → AreEncoded ms x r → AreEncoded ns y s → AreEncoded (ms ++ ns) (x ++ y) (both r s)
both_say ms ns x y (Ok u) (Ok v) h k = (all_of_both (HasSpelling backend) ms ns h.0 k.0, ap (λ l. l ++ y) h.1 ∙ ap (λ l. flat_map (spelling backend) ms ++ l) k.1 ∙ sym (flat_map-append (spelling backend) ms ns))
both_say ms ns x y (Ok u) (Err faults.Memory) h k = all_of_both _ ms ns (no_fault ms h.0) k
both_say ms ns x y (Ok u) (Err f) h k = λ n. k (all_back (λ m. encode_fault backend m ≡ None) ms ns n)
both_say ms ns x y (Err faults.Memory) (Ok v) h k = all_of_both _ ms ns h (no_fault ns k.0)
both_say ms ns x y (Err faults.Memory) (Err faults.Memory) h k = all_of_both _ ms ns h k
both_say ms ns x y (Err faults.Memory) (Err f) h k = λ n. k (all_back (λ m. encode_fault backend m ≡ None) ms ns n)
both_say ms ns x y (Err f) s h k = λ n. h (all_front (λ m. encode_fault backend m ≡ None) ms ns n)

-- what is told after it
pub tells_both : (ms ns : List BackMessage) (a b c : List ℕ) (r s : Result Unit EncodeFault) → EncodesAll ms a r b → EncodesAll ns b s c → EncodesAll (ms ++ ns) a (both r s) c
tells_both ms ns a b c r s h k = record {
  added = h.added ++ k.added;
  appended = k.appended ∙ ap (λ l. l ++ k.added) h.appended ∙ append_assoc a h.added k.added;
  says = both_say ms ns h.added k.added r s h.says k.says;
}

-- one element more of a list that is told
pub told_more : {A : Type 0} (f : A → List BackMessage) (xs : List A) (i : ℕ) (x : A) (a b c : List ℕ) (r s : Result Unit EncodeFault)
    → i < length xs → x ≡ get_or xs i x
    → EncodesAll (flat_map f (take i xs)) a r b → EncodesAll (f x) b s c → EncodesAll (flat_map f (take (i + 1) xs)) a (both r s) c
told_more f xs i x a b c r s lt is h k =
    let more : flat_map f (take (i + 1) xs) ≡ flat_map f (take i xs) ++ f x =
    rw (add-one, take-suc xs i x lt) (ap (λ l. flat_map f (take i xs ++ l ∷ [])) (sym is) ∙ flat_map-append f (take i xs) (x ∷ []) ∙ ap (λ l. flat_map f (take i xs) ++ l) (append-nil (f x))) in
    rw more (tells_both (flat_map f (take i xs)) (f x) a b c r s h k)

-- a message before what is told
pub first : (m : BackMessage) (ns : List BackMessage) (a b c : List ℕ) (r s : Result Unit EncodeFault) → Encodes backend m a r b → EncodesAll ns b s c → EncodesAll (m ∷ ns) a (both r s) c
first m ns a b c r s h k = tells_both (m ∷ []) ns a b c r s (one m a r b h) k

-- a message after what is told
pub last : (ms : List BackMessage) (m : BackMessage) (a b c : List ℕ) (r s : Result Unit EncodeFault) → EncodesAll ms a r b → Encodes backend m b s c → EncodesAll (ms ++ m ∷ []) a (both r s) c
last ms m a b c r s h k = tells_both ms (m ∷ []) a b c r s h (one m b s c k)

-- elements that are told by one message each
pub each_told : {A : Type 0} (f : A → BackMessage) (xs : List A) (a b : List ℕ) (r : Result Unit EncodeFault) → EncodesAll (flat_map (λ x. f x ∷ []) xs) a r b → EncodesAll (map f xs) a r b
each_told f xs a b r h = rw (← flat_map_single f xs) h

-- a message, elements, and a message
pub around : {A : Type 0} (m : BackMessage) (f : A → BackMessage) (xs : List A) (n : BackMessage) (a b c d : List ℕ) (r s t : Result Unit EncodeFault)
    → Encodes backend m a r b → EncodesAll (flat_map (λ x. f x ∷ []) xs) b s c → Encodes backend n c t d → EncodesAll (m ∷ (map f xs ++ n ∷ [])) a (both (both r s) t) d
around m f xs n a b c d r s t h k l = last (m ∷ map f xs) n a c d (both r s) t (first m (map f xs) a b c r s h (each_told f xs b c s k)) l

-- a message, elements, and two messages
pub around_two : {A : Type 0} (m : BackMessage) (f : A → BackMessage) (xs : List A) (n o : BackMessage) (a b c d e : List ℕ) (r s t u : Result Unit EncodeFault)
    → Encodes backend m a r b → EncodesAll (flat_map (λ x. f x ∷ []) xs) b s c → Encodes backend n c t d → Encodes backend o d u e
    → EncodesAll (m ∷ (map f xs ++ n ∷ o ∷ [])) a (both (both (both r s) t) u) e
around_two m f xs n o a b c d e r s t u h k l z =
    rw (← append_assoc (map f xs) (n ∷ []) (o ∷ [])) (last (m ∷ (map f xs ++ n ∷ [])) o a d e (both (both r s) t) u (around m f xs n a b c d r s t h k l) z)

-- one element more of what a list gives
pub flat_more : {A B : Type 0} (f : A → List B) (xs : List A) (i : ℕ) (x : A) → i < length xs → x ≡ get_or xs i x → flat_map f (take (i + 1) xs) ≡ flat_map f (take i xs) ++ f x
flat_more f xs i x lt is =
    rw (add-one, take-suc xs i x lt) (ap (λ l. flat_map f (take i xs ++ l ∷ [])) (sym is) ∙ flat_map-append f (take i xs) (x ∷ []) ∙ ap (λ l. flat_map f (take i xs) ++ l) (append-nil (f x)))

flat_flat : {A B C : Type 0} (f : B → List C) (g : A → List B) (xs : List A) → flat_map f (flat_map g xs) ≡ flat_map (λ x. flat_map f (g x)) xs
flat_flat f g [] = refl
flat_flat f g (x ∷ xs) = flat_map-append f (g x) (flat_map g xs) ∙ ap (λ l. flat_map f (g x) ++ l) (flat_flat f g xs)

-- parts that are told
pub parts_told : (ps : List ScriptPart) (a b : List ℕ) (r : Result Unit EncodeFault) → EncodesAll (flat_map (λ p. flat_map messages_of (complete p)) ps) a r b → EncodesAll (parts_sent ps) a r b
parts_told ps a b r h = rw (flat_flat messages_of complete ps) h
