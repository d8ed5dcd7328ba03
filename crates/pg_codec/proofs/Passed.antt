-- What is left after a list that is passed over is what reading it leaves.
use Rattle.std.proofs.Common.{◌≡◌, ℕ, suc, ◌+◌, ◌-◌, ◌<◌, ◌≤◌, List, ◌∷◌, Option, Some, None, refl, sym, ap, ◌∙◌, arith}
use Rattle.pg_codec.specs.Private.Reader.{◌>>=◌, times_at, up_to_zero_at, after_zero}
use Rattle.pg_codec.specs.Private.Lent.{left_after}
use Rattle.pg_codec.proofs.Layouts.{some_is}

-- what is read where something is left after it
pub read_where_left : {A : Type 0} (o : Option (A × List ℕ)) (rest : List ℕ) → Some rest ≡ left_after o → (a : A) × (o ≡ Some (a, rest))
read_where_left (Some x) rest h = (x.0, ap (λ (r : List ℕ). Some (x.0, r)) (some_is x.1 rest (sym h)))
read_where_left None rest h = absurd cc

pub none_where_none_left : {A : Type 0} (o : Option (A × List ℕ)) → None ≡ left_after o → o ≡ None
none_where_none_left (Some x) h = absurd cc
none_where_none_left None h = refl

with_one : {A : Type 0} (a : A) (o : Option (List A × List ℕ)) → left_after (o >>= λ others. Some (a ∷ others.0, others.1)) ≡ left_after o
with_one a (Some x) = refl
with_one a None = refl

module _ {A : Type 0} (read : List ℕ → Option (A × List ℕ)) (count i : ℕ) (bytes : List ℕ) (total : Option (List ℕ)) where
  pub one_passed : (rest : List ℕ) → i < count → Some rest ≡ left_after (read bytes) → left_after (times_at read (count - i) bytes) ≡ total → left_after (times_at read (count - (i + 1)) rest) ≡ total
  unfolding times_at
  one_passed rest lt left so_far =
      let r = read_where_left (read bytes) rest left in
      let k : count - i ≡ suc (count - (i + 1)) = omega arith in
      let one : left_after (times_at read (count - i) bytes) ≡ left_after (times_at read (count - (i + 1)) rest) = rw (k, r.1) (with_one r.0 (times_at read (count - (i + 1)) rest)) in
      sym one ∙ so_far

  pub cut_off : i < count → None ≡ left_after (read bytes) → left_after (times_at read (count - i) bytes) ≡ total → None ≡ total
  unfolding times_at
  cut_off lt left so_far =
      let h = none_where_none_left (read bytes) left in
      let k : count - i ≡ suc (count - (i + 1)) = omega arith in
      let one : left_after (times_at read (count - i) bytes) ≡ None = rw (k, h) refl in
      sym one ∙ so_far

  pub all_passed : count ≤ i → left_after (times_at read (count - i) bytes) ≡ total → Some bytes ≡ total
  unfolding times_at
  all_passed le so_far =
      let k : count - i ≡ 0 = omega arith in
      let one : left_after (times_at read (count - i) bytes) ≡ Some bytes = rw k refl in
      sym one ∙ so_far

  pub zero_one_passed : (rest : List ℕ) → i < count → after_zero bytes ≡ None → Some rest ≡ left_after (read bytes) → left_after (up_to_zero_at read (count - i) bytes) ≡ total → left_after (up_to_zero_at read (count - (i + 1)) rest) ≡ total
  unfolding up_to_zero_at
  zero_one_passed rest lt n left so_far =
      let r = read_where_left (read bytes) rest left in
      let k : count - i ≡ suc (count - (i + 1)) = omega arith in
      let one : left_after (up_to_zero_at read (count - i) bytes) ≡ left_after (up_to_zero_at read (count - (i + 1)) rest) = rw (k, n, r.1) (with_one r.0 (up_to_zero_at read (count - (i + 1)) rest)) in
      sym one ∙ so_far

  pub zero_cut_off : i < count → after_zero bytes ≡ None → None ≡ left_after (read bytes) → left_after (up_to_zero_at read (count - i) bytes) ≡ total → None ≡ total
  unfolding up_to_zero_at
  zero_cut_off lt n left so_far =
      let h = none_where_none_left (read bytes) left in
      let k : count - i ≡ suc (count - (i + 1)) = omega arith in
      let one : left_after (up_to_zero_at read (count - i) bytes) ≡ None = rw (k, n, h) refl in
      sym one ∙ so_far

  pub zero_passed : (rest : List ℕ) → i < count → after_zero bytes ≡ Some rest → left_after (up_to_zero_at read (count - i) bytes) ≡ total → Some rest ≡ total
  unfolding up_to_zero_at
  zero_passed rest lt n so_far =
      let k : count - i ≡ suc (count - (i + 1)) = omega arith in
      let one : left_after (up_to_zero_at read (count - i) bytes) ≡ Some rest = rw (k, n) refl in
      sym one ∙ so_far

  pub no_zero_passed : count ≤ i → left_after (up_to_zero_at read (count - i) bytes) ≡ total → None ≡ total
  unfolding up_to_zero_at
  no_zero_passed le so_far =
      let k : count - i ≡ 0 = omega arith in
      let one : left_after (up_to_zero_at read (count - i) bytes) ≡ None = rw k refl in
      sym one ∙ so_far
