-- What is said of lists of values that are made step by step.
use Rattle.std.proofs.Common.{◌≡◌, ℕ, ◌+◌, ◌<◌, List, [], ◌∷◌, ◌++◌, length, take, get_or, map, sym, ap, ◌∙◌, append_assoc}
use Rattle.std.proofs.lemmas.List.{map-append, take_more}
use Rattle.serde_json.specs.Data.{Data}
use Rattle.serde_json.specs.View.{view}
use Rattle.serde_json.specs.declared.value.Value.{Value}

-- the value of one element more
pub one_more : {A : Type 0} (json : A → Data) (vs vs' : List Value) (v : Value) (xs : List A) (i : ℕ) (x : A) → i < length xs → x ≡ get_or xs i x → map view vs ≡ map json (take i xs) → vs' ≡ vs ++ v ∷ [] → view v ≡ json x → map view vs' ≡ map json (take (i + 1) xs)
one_more {A = A} json vs vs' v xs i x lt is so_far put shown =
    ap (map view) put ∙ map-append view vs (v ∷ []) ∙ ap (λ (d : Data). map view vs ++ d ∷ []) shown
    ∙ ap (λ (ds : List Data). ds ++ json x ∷ []) so_far ∙ sym (map-append json (take i xs) (x ∷ []))
    ∙ sym (ap (map json) (take_more xs i x lt ∙ ap (λ (y : A). take i xs ++ y ∷ []) (sym is)))

-- the values of those that are left, after the first of them
pub first_left : {A : Type 0} (json : A → Data) (vs vs' : List Value) (v : Value) (x : A) (left rest : List A) (all : List Data) → left ≡ x ∷ rest → vs' ≡ vs ++ v ∷ [] → view v ≡ json x → map view vs ++ map json left ≡ all → map view vs' ++ map json rest ≡ all
first_left {A = A} json vs vs' v x left rest all is put shown so_far =
    ap (λ (ds : List Data). ds ++ map json rest) (ap (map view) put ∙ map-append view vs (v ∷ []) ∙ ap (λ (d : Data). map view vs ++ d ∷ []) shown)
    ∙ append_assoc (map view vs) (json x ∷ []) (map json rest) ∙ ap (λ (xs : List A). map view vs ++ map json xs) (sym is) ∙ so_far
