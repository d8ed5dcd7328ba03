-- Beginnings of lists, and what holds of all of a list and of its parts.
use Rattle.std.proofs.Common.{◌≡◌, ◌≤◌, List, [], ◌∷◌, ◌++◌, length, map, take, refl, ap, sym, ◌∙◌, append_assoc, arith, length-append, ◌⊎◌, inl, inr}
use Rattle.std.specs.List.{AllByRecursion}
use Rattle.std.proofs.lemmas.List.{append-nil, map-append}
use Rattle.pg_backend.specs.Lists.{IsPrefix}

pub begins_nil : {A : Type 0} (xs : List A) → IsPrefix [] xs
begins_nil xs = (xs, refl)

pub begins_same : {A : Type 0} (xs : List A) → IsPrefix xs xs
begins_same xs = ([], sym (append-nil xs))

pub begins_append : {A : Type 0} (xs ys : List A) → IsPrefix xs (xs ++ ys)
begins_append xs ys = (ys, refl)

pub begins_after : {A : Type 0} (front xs ys : List A) → IsPrefix xs ys → IsPrefix (front ++ xs) (front ++ ys)
begins_after front xs ys h = (h.0, ap (λ l. front ++ l) h.1 ∙ sym (append_assoc front xs h.0))

pub begins_cons : {A : Type 0} (x : A) (xs ys : List A) → IsPrefix xs ys → IsPrefix (x ∷ xs) (x ∷ ys)
begins_cons x xs ys h = (h.0, ap (λ l. x ∷ l) h.1)

pub begins_trans : {A : Type 0} (xs ys zs : List A) → IsPrefix xs ys → IsPrefix ys zs → IsPrefix xs zs
begins_trans xs ys zs h k = (h.0 ++ k.0, k.1 ∙ ap (λ l. l ++ k.0) h.1 ∙ append_assoc xs h.0 k.0)

pub begins_more : {A : Type 0} (xs ys more : List A) → IsPrefix xs ys → IsPrefix xs (ys ++ more)
begins_more xs ys more h = begins_trans xs ys (ys ++ more) h (begins_append ys more)

pub begins_same_as : {A : Type 0} (xs xs' ys ys' : List A) → xs ≡ xs' → ys ≡ ys' → IsPrefix xs' ys' → IsPrefix xs ys
begins_same_as xs xs' ys ys' e f h = (h.0, f ∙ h.1 ∙ ap (λ l. l ++ h.0) (sym e))

pub begins_of_nil : {A : Type 0} (xs : List A) → IsPrefix xs [] → xs ≡ []
begins_of_nil [] h = refl
begins_of_nil (x ∷ xs) h = let e = h.1 in cc

pub begins_head : {A : Type 0} (x y : A) (xs ys : List A) → IsPrefix (x ∷ xs) (y ∷ ys) → x ≡ y
begins_head x y xs ys h = let e = h.1 in cc

pub begins_tail : {A : Type 0} (x y : A) (xs ys : List A) → IsPrefix (x ∷ xs) (y ∷ ys) → IsPrefix xs ys
begins_tail x y xs ys h = (h.0, let e = h.1 in cc)

pub begins_length : {A : Type 0} (xs ys : List A) → IsPrefix xs ys → length xs ≤ length ys
begins_length xs ys h = let e = ap length h.1 in omega (arith, length-append xs h.0)

pub begins_map : {A B : Type 0} (f : A → B) (xs ys : List A) → IsPrefix xs ys → IsPrefix (map f xs) (map f ys)
begins_map f xs ys h = (map f h.0, ap (map f) h.1 ∙ map-append f xs h.0)

pub begins_take : {A : Type 0} (xs ys : List A) → IsPrefix xs ys → xs ≡ take (length xs) ys
begins_take [] ys h = refl
begins_take (x ∷ xs) [] h = let e = h.1 in cc
begins_take (x ∷ xs) (y ∷ ys) h =
    let same : x ≡ y = let e = h.1 in cc in
    let tails : IsPrefix xs ys = (h.0, let e = h.1 in cc) in
    rw (← begins_take xs ys tails) (ap (λ z. z ∷ xs) same)

-- where two cuts of one list stand to one another
pub cut_places : {A : Type 0} (h left a b : List A) → h ++ left ≡ a ++ b
    → ((h' : List A) × (h ≡ a ++ h') × (h' ++ left ≡ b)) ⊎ ((x : A) × (a' : List A) × (a ≡ h ++ x ∷ a'))
cut_places [] left [] b e = inl ([], refl, e)
cut_places [] left (x ∷ a) b e = inr (x, a, refl)
cut_places (y ∷ h) left [] b e = inl (y ∷ h, refl, e)
cut_places (y ∷ h) left (x ∷ a) b e =
    let same : y ≡ x = cc in
    let tails : h ++ left ≡ a ++ b = cc in
    elim (cut_places h left a b tails) [
      | inl p ↦ inl (p.0, (rw (same, p.1) refl), p.2)
      | inr p ↦ inr (p.0, p.1, (rw (same, p.2) refl))
    ]

pub not_nil : {A : Type 0} (h : List A) (x : A) (more : List A) → [] ≡ h ++ x ∷ more → ⊥
not_nil [] x more e = cc
not_nil (y ∷ h) x more e = cc

pub empty_left : {A : Type 0} (h left : List A) → [] ≡ h ++ left → (h ≡ []) × (left ≡ [])
empty_left [] left e = (refl, sym e)
empty_left (x ∷ h) left e = cc

-- what holds of all of a list holds of all of its parts
pub all_front : {A : Type 0} (P : A → Type 0) (xs ys : List A) → AllByRecursion P (xs ++ ys) → AllByRecursion P xs
all_front P [] ys h = tt
all_front P (x ∷ xs) ys h = (h.0, all_front P xs ys h.1)

pub all_back : {A : Type 0} (P : A → Type 0) (xs ys : List A) → AllByRecursion P (xs ++ ys) → AllByRecursion P ys
all_back P [] ys h = h
all_back P (x ∷ xs) ys h = all_back P xs ys h.1

pub all_of_both : {A : Type 0} (P : A → Type 0) (xs ys : List A) → AllByRecursion P xs → AllByRecursion P ys → AllByRecursion P (xs ++ ys)
all_of_both P [] ys h k = k
all_of_both P (x ∷ xs) ys h k = (h.0, all_of_both P xs ys h.1 k)
