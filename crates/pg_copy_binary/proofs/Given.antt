-- Values that an iterator gives, and the row that they are.
use Rattle.std.proofs.Common.{◌≡◌, ℕ, suc, ◌<◌, List, [], ◌∷◌, ◌++◌, map, length, Option, Some, refl, sym, ap, subst, ◌∙◌, arith, length-append}
use Rattle.std.specs.Iterator.{AlwaysYields, Drains, Yields, YieldsFirstBy}
use Rattle.std.specs.Option.{option_copied}
use Rattle.std.proofs.lemmas.Iterator.{YieldsList, items_from_drains}
use Rattle.std.proofs.lemmas.Iterator.Consumers.{YieldsList-from_first}
use Rattle.pg_copy_rows.specs.Row.{Row}
use denote.Ref.{Bor}

abbrev pub LentValue : Type 0
LentValue = Option (Bor (List ℕ))

abbrev pub row_of : List LentValue → Row
row_of values = map option_copied values

pub length-row_of : (values : List LentValue) → length (row_of values) ≡ length values
length-row_of [] = refl
length-row_of (v ∷ values) = ap suc (length-row_of values)

-- a row gives its values
are_given : (row : Row) → AlwaysYields (YieldsFirstBy option_copied (λ (left : Row). left)) option_copied row row
are_given row = (YieldsList-from_first option_copied (λ (left : Row). left) row refl).runs

-- the values that an iterator has left are given
pub values_given : {left : Row} (row : Row) → left ≡ row → AlwaysYields (YieldsFirstBy option_copied (λ (l : Row). l)) option_copied left row
values_given row e = subst (λ (l : Row). AlwaysYields (YieldsFirstBy option_copied (λ (k : Row). k)) option_copied l row) (sym e) (are_given row)

module _ {S : Type 0} (gives : S → Option LentValue → S → Type 0) where
  -- what was given, one value more and what is left are the row
  pub given_more : (seen : List LentValue) (row : Row) (s t : S) (v : LentValue) (u : S) → AlwaysYields gives option_copied s row → Yields gives s seen t → gives t (Some v) u → (more : Row) × (row ≡ row_of seen ++ option_copied v ∷ more)
  given_more [] [] s t v u given y g = absurd (given v u (subst (λ (k : S). gives k (Some v) u) (sym y) g))
  given_more [] (z ∷ row) s t v u given y g = (row, ap (λ (x : Option (List ℕ)). x ∷ row) (sym (given.1 v u (subst (λ (k : S). gives k (Some v) u) (sym y) g)).0))
  given_more (x ∷ seen) [] s t v u given y g = absurd (given x y.0 y.1)
  given_more (x ∷ seen) (z ∷ row) s t v u given y g =
      let next = given.1 x y.0 y.1 in
      let rest = given_more seen row y.0 t v u next.1 y.2 g in
      (rest.0, ap (λ (w : Option (List ℕ)). w ∷ row) (sym next.0) ∙ ap (λ (l : Row). option_copied x ∷ l) rest.1)

  -- so there is room for it in the row
  pub given_fewer : (seen : List LentValue) (row : Row) (s t : S) (v : LentValue) (u : S) → AlwaysYields gives option_copied s row → Yields gives s seen t → gives t (Some v) u → length seen < length row
  given_fewer seen row s t v u given y g =
      let m = given_more seen row s t v u given y g in
      omega (arith, ap (λ (l : Row). length l) m.1, length-append (row_of seen) (option_copied v ∷ m.0), length-row_of seen)

  -- all that was given is the row
  pub given_all : (seen : List LentValue) (row : Row) (s : S) → AlwaysYields gives option_copied s row → Drains gives s seen → row_of seen ≡ row
  given_all seen row s given d =
      let list : YieldsList gives option_copied s row = record { runs = given } in
      items_from_drains seen (d.1.0, d.1.1, λ w. (d.0, d.1.2)) list
