-- Lists that are appended to, and messages without their asides.
use Rattle.std.proofs.Common.{◌≡◌, ◌≤◌, List, ◌∷◌, [], ◌++◌, length, drop, Option, refl, sym, ap, ◌∙◌, arith, length-append}
use Rattle.std.specs.Prelude.{cond, is_none, take}
use Rattle.std.specs.List.{AllByRecursion}
use Rattle.std.proofs.lemmas.List.{take-append-drop, take-append-le, take_at}
use Rattle.std.proofs.lemmas.List.Elements.{filter-append}
use Rattle.pg_wire.specs.message.BackMessage.{BackMessage}
use Rattle.pg_wire.specs.declared.session.Aside.{Aside}
use Rattle.pg_wire.specs.Segment.{aside_of, without_asides}
-- two lists with a last element are equal only where both parts are
pub use Rattle.std.proofs.lemmas.List.{same_from_push as snoc_front}

-- of two beginnings of one list the shorter is a beginning of the longer
pub prefix_of : {A : Type 0} (xs ys zs ws : List A) → xs ++ ys ≡ zs ++ ws → length zs ≤ length xs → (us : List A) × (xs ≡ zs ++ us)
prefix_of {A = A} xs ys zs ws e le =
    let front : take (length zs) xs ≡ zs = sym (take-append-le (length zs) xs ys le) ∙ ap (take (length zs)) e ∙ take_at zs ws (length zs) refl in
    (drop (length zs) xs, sym (take-append-drop (length zs) xs) ∙ ap (λ (us : List A). us ++ drop (length zs) xs) front)

-- what stands before a last element, or at most there, is a beginning of what stands before the last
pub front_splits : {A : Type 0} (xs : List A) (x : A) (ys : List A) (n : A) (others : List A) → xs ++ x ∷ [] ≡ ys ++ n ∷ others → (zs : List A) × (xs ≡ ys ++ zs)
front_splits xs x ys n others e = prefix_of xs (x ∷ []) ys (n ∷ others) e (omega (arith, ap length e, length-append xs (x ∷ []), length-append ys (n ∷ others)))

-- a property of all elements of two lists is one of all elements of both together
pub all_both : {A : Type 0} (P : A → Type 0) (xs ys : List A) → AllByRecursion P xs → AllByRecursion P ys → AllByRecursion P (xs ++ ys)
all_both P [] ys h k = k
all_both P (x ∷ xs) ys h k = (h.0, all_both P xs ys h.1 k)

pub all_weaker : {A : Type 0} (P Q : A → Type 0) → ((x : A) → P x → Q x) → (xs : List A) → AllByRecursion P xs → AllByRecursion Q xs
all_weaker P Q weaker [] h = tt
all_weaker P Q weaker (x ∷ xs) h = (weaker x h.0, all_weaker P Q weaker xs h.1)

-- ---- asides

-- the message before the others, unless it is an aside
abbrev pub kept_with : Option Aside → BackMessage → List BackMessage → List BackMessage
kept_with o m others = cond (is_none o) (m ∷ others) others

pub without_asides-append : (xs ys : List BackMessage) → without_asides (xs ++ ys) ≡ without_asides xs ++ without_asides ys
without_asides-append xs ys = filter-append (λ m. is_none (aside_of m)) xs ys
