-- No spelling begins another, and a stream has one reading.
use Rattle.std.proofs.Common.{◌≡◌, ℕ, List, [], ◌∷◌, ◌++◌, length, take, drop, refl, sym, ap, ◌∙◌, append_assoc, arith}
use Rattle.std.specs.Prelude.{pos}
use Rattle.std.specs.List.{flat_map, AllByRecursion}
use Rattle.std.proofs.lemmas.List.{append_cancel_left, append-nil, take_at}
use Rattle.pg_message.specs.Direction.{Direction, spelling, length_field, longest}
use Rattle.pg_wire.specs.Stream.{IsWithin, BeginsNoMessage}
use Rattle.pg_wire.specs.Laws.{OneToOne, OneSpelling, OneReading, RoundTrip}
use Rattle.pg_message.proofs.Bodies.{spelled_parts}
use Rattle.pg_wire.proofs.Rests.{same_length, same_tag, first_head, pos_same}

module _ {M : Type 0} (d : Direction M) (one : OneToOne d) where
  pub one_spelling : OneSpelling d
  one_spelling m n x y s t e =
      let f = first_head d longest (spelling d m ++ x) m x (record { spelled = s; limited = (spelled_parts d m s).1 }) refl in
      let g = first_head d longest (spelling d m ++ x) n y (record { spelled = t; limited = (spelled_parts d n t).1 }) e in
      let lens : length_field d m ≡ length_field d n = pos_same _ _ (same_length (spelling d m ++ x) (d.tag m) (d.tag n) (pos (length_field d m)) (pos (length_field d n)) f.0 g.0) in
      let tags : d.tag m ≡ d.tag n = same_tag (spelling d m ++ x) (d.tag m) (d.tag n) (pos (length_field d m)) (pos (length_field d n)) f.0 g.0 in
      let after : d.body m ++ x ≡ d.body n ++ y = ap (drop 5) e in
      let size : length (d.body m) ≡ length (d.body n) = omega arith in
      let bodies : d.body m ≡ d.body n = sym (take_at (d.body m) x (length (d.body m)) refl) ∙ ap (take (length (d.body m))) after ∙ take_at (d.body n) y (length (d.body m)) (sym size) in
      (one m n s t tags bodies, append_cancel_left (d.body m) x y (after ∙ ap (λ (b : List ℕ). b ++ y) (sym bodies)))

  readings : (limit : ℕ) (ms ns : List M) (x y : List ℕ) → flat_map (spelling d) ms ++ x ≡ flat_map (spelling d) ns ++ y → AllByRecursion (IsWithin d limit) ms → AllByRecursion (IsWithin d limit) ns → BeginsNoMessage d limit y
      → (later : List M) × (ns ≡ ms ++ later) × (x ≡ flat_map (spelling d) later ++ y)
  readings limit [] ns x y e p q none = (ns, refl, e)
  readings limit (m ∷ ms) [] x y e p q none = absurd (none m (flat_map (spelling d) ms ++ x) p.0 (sym e ∙ append_assoc (spelling d m) (flat_map (spelling d) ms) x))
  readings limit (m ∷ ms) (n ∷ ns) x y e p q none =
      let f = one_spelling m n (flat_map (spelling d) ms ++ x) (flat_map (spelling d) ns ++ y) p.0.spelled q.0.spelled (sym (append_assoc (spelling d m) (flat_map (spelling d) ms) x) ∙ e ∙ append_assoc (spelling d n) (flat_map (spelling d) ns) y) in
      let g = readings limit ms ns x y f.1 p.1 q.1 none in
      (g.0, cc (f.0, g.1), g.2)

  pub one_reading : OneReading d
  one_reading limit bytes ms ns x y s t none = readings limit ms ns x y (sym s.whole ∙ t.whole) s.each t.each none

  -- nothing begins no message
  nothing_begins : (limit : ℕ) → BeginsNoMessage d limit []
  nothing_begins limit m more w is = let f = first_head d limit [] m more w is in omega (arith, f.1)

  pub round_trip : RoundTrip d
  round_trip limit ms given rest each s =
      let g = readings limit given ms rest [] (sym s.whole ∙ sym (append-nil (flat_map (spelling d) ms))) s.each each (nothing_begins limit) in
      (g.0, g.1, g.2 ∙ append-nil (flat_map (spelling d) g.0))
