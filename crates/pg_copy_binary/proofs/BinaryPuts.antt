-- The size of a row, and values that are put one behind the other.
use Rattle.std.proofs.Common.{◌≡◌, ℕ, ◌+◌, ◌≤◌, Bool, true, false, ◌||◌, List, [], ◌∷◌, ◌++◌, length, take, Option, Some, None, refl, sym, ap, subst, ◌∙◌, append_assoc, arith, length-append}
use Rattle.std.specs.List.{flat_map, list_any}
use Rattle.std.proofs.lemmas.Grind.{flat_map-append}
use Rattle.std.proofs.lemmas.List.{append-nil, take_all}
use Rattle.pg_copy_rows.specs.Row.{Row, is_long}
use Rattle.pg_copy_binary.specs.Binary.{value}
use Rattle.pg_copy_binary.specs.Private.BinaryRow.{AreSized}

-- ---- the size of a row

none_long : (row : Row) (v : Option (List ℕ)) → list_any is_long row ≡ false → is_long v ≡ false → list_any is_long (row ++ v ∷ []) ≡ false
none_long [] v none is = rw is refl
none_long (x ∷ row) v none is = go (is_long x) none (λ h. none_long row v h is)
  where
    go : (t : Bool) → (t || list_any is_long row) ≡ false → (list_any is_long row ≡ false → list_any is_long (row ++ v ∷ []) ≡ false) → (t || list_any is_long (row ++ v ∷ [])) ≡ false
    go true h rest = h
    go false h rest = rest h

one_long : (row : Row) (v : Option (List ℕ)) (more : Row) → is_long v ≡ true → list_any is_long (row ++ v ∷ more) ≡ true
one_long [] v more is = rw is refl
one_long (x ∷ row) v more is = go (is_long x) (one_long row v more is)
  where
    go : (t : Bool) → list_any is_long (row ++ v ∷ more) ≡ true → (t || list_any is_long (row ++ v ∷ more)) ≡ true
    go true rest = refl
    go false rest = rest

-- a value of a row none of whose values is too long
short_in : (row : Row) (v : Option (List ℕ)) (more : Row) → list_any is_long (row ++ v ∷ more) ≡ false → is_long v ≡ false
short_in row v more none = go (is_long v) refl
  where
    go : (t : Bool) → is_long v ≡ t → t ≡ false
    go true e = absurd (clash (sym (one_long row v more e) ∙ none))
      where
        clash : true ≡ false → ⊥
        clash k = cc
    go false e = refl

-- the size of values and one more
size_more : (row : Row) (v : Option (List ℕ)) (more : Row) → length (flat_map value (row ++ v ∷ more)) ≡ length (flat_map value row) + (length (value v) + length (flat_map value more))
size_more row v more = ap length (flat_map-append value row (v ∷ more)) ∙ length-append (flat_map value row) (value v ++ flat_map value more) ∙ ap (λ (k : ℕ). length (flat_map value row) + k) (length-append (value v) (flat_map value more))

pub sized_more : (row : Row) (v : Option (List ℕ)) (n k : ℕ) → AreSized row (Some n) → is_long v ≡ false → k ≡ length (value v) → AreSized (row ++ v ∷ []) (Some (n + k))
sized_more row v n k s is e = (none_long row v s.0 is, omega (arith, size_more row v [], s.1, e))

pub sized_long : (row : Row) (v : Option (List ℕ)) (more all : Row) → is_long v ≡ true → all ≡ row ++ v ∷ more → AreSized all None
sized_long row v more all is e = ap (list_any is_long) e ∙ one_long row v more is

-- ---- values that are put one behind the other

-- the values up to a place of the block
pub record AreAt (place : ℕ) (old : List ℕ) (row : Row) (at : ℕ) (block : List ℕ) : Type 0 where
  pub next : at ≡ place + length (flat_map value row)
  pub front : take at block ≡ take place old ++ flat_map value row
  pub len : length block ≡ length old

pub none_at : (place : ℕ) (old : List ℕ) → AreAt place old [] place old
none_at place old = record { next = omega arith; front = sym (append-nil (take place old)); len = refl }

pub more_at : (place : ℕ) (old : List ℕ) (row : Row) (v : Option (List ℕ)) (at at' : ℕ) (block block' : List ℕ) → AreAt place old row at block → at' ≡ at + length (value v) → take at' block' ≡ take at block ++ value v → length block' ≡ length block → AreAt place old (row ++ v ∷ []) at' block'
more_at place old row v at at' block block' s next front len = record {
  next = omega (arith, next, s.next, size_more row v []);
  front = front ∙ ap (λ (l : List ℕ). l ++ value v) s.front ∙ append_assoc (take place old) (flat_map value row) (value v) ∙ ap (λ (l : List ℕ). take place old ++ l) (ap (λ (l : List ℕ). flat_map value row ++ l) (sym (append-nil (value v))) ∙ sym (flat_map-append value row (v ∷ [])));
  len = len ∙ s.len;
}

-- the next value fits, and isn't too long
pub next_fits : (place : ℕ) (old : List ℕ) (row : Row) (v : Option (List ℕ)) (more all : Row) (at : ℕ) (block : List ℕ) → AreAt place old row at block → all ≡ row ++ v ∷ more → list_any is_long all ≡ false → place + length (flat_map value all) ≡ length old → (at + length (value v) ≤ length block) × (is_long v ≡ false)
next_fits place old row v more all at block s e short fits = (omega (arith, s.next, s.len, fits, ap (λ (l : Row). length (flat_map value l)) e, size_more row v more), short_in row v more (subst (λ (l : Row). list_any is_long l ≡ false) e short))

-- all values fill the block
pub all_at : (place : ℕ) (old : List ℕ) (row : Row) (at : ℕ) (block : List ℕ) → AreAt place old row at block → place + length (flat_map value row) ≡ length old → block ≡ take place old ++ flat_map value row
all_at place old row at block s fits =
    let whole : length block ≤ at = omega (arith, s.next, s.len, fits) in
    sym (take_all at block whole) ∙ s.front
