-- A block of values holds what was put into it, each value where it begins.
use Rattle.std.proofs.Common.{◌≡◌, ℕ, suc, ◌+◌, ◌-◌, ◌*◌, ◌^◌, ◌<◌, ◌≤◌, false, ltb, List, [], ◌∷◌, ◌++◌, length, get_or, take, drop, Option, Some, None, refl, sym, ap, subst, ◌∙◌, append_assoc, arith, length-append, lit<, lit≤, inl, inr}
use Rattle.std.specs.Prelude.{IsSome}
use Rattle.std.specs.List.{slice_get}
use Rattle.std.proofs.lemmas.Grind.{flat_map-append}
use Rattle.std.specs.Int.{w16, w32, to_be_bytes, from_be_bytes, from_le_bytes}
use Rattle.std.proofs.lemmas.Bool.{cases_lt, ltb-false}
use Rattle.std.proofs.lemmas.List.{append-nil, get_or-drop, drop_at, drop_more, drop-append-le, take_at, take-append-drop, take-append-le, take-take, take_all, drop-drop, length-take-le, length-drop}
use Rattle.std.proofs.lemmas.Option.{slice_get-get_or, slice_get_past}
use Rattle.pg_codec.specs.Field.{value, value_bytes, listed}
use Rattle.pg_codec.specs.Private.Reader.{◌>>=◌, times_at, value_at, number_at, value_of_length}
use Rattle.pg_codec.proofs.Layouts.{IsBytes, Spelled, times_again, times_sound, bind_some, some_is, guard_some, wide32}
use Rattle.pg_codec.specs.Private.Lent.{left_after}
use Rattle.pg_codec.proofs.Fields.{value_reads, taken}
use Rattle.pg_codec.proofs.Passed.{read_where_left}
use Rattle.pg_values.specs.Private.View.{values_left, row_of}
use Rattle.pg_values.specs.Private.Block.{IsBlock, IsRow, spelled, start_of, noted_in, longest_block}
use Rattle.pg_values.proofs.Views.{values_are, value_comes, whole_is}

Value : Type 0
Value = Option (List ℕ)

-- ---- nothing keeps a list of values from having a spelling, but its length

pub no_zero : (vs : List (Option (List ℕ))) → (listed value vs).has_zero ≡ false
no_zero [] = refl
no_zero (v ∷ vs) = no_zero vs

of_type : (vs : List (Option (List ℕ))) → (listed value vs).IsOfType
of_type [] = tt
of_type (v ∷ vs) = (tt, of_type vs)

pub are_spelled : (vs : List (Option (List ℕ))) → Spelled (listed value vs)
are_spelled vs = record { no_zero = no_zero vs; countable = refl; of_type = of_type vs }

-- ---- what is read of the spelling of values is these values

pub read_back : (vs : List (Option (List ℕ))) → length (spelled vs) ≤ longest_block → values_left (length vs) (spelled vs) ≡ vs
read_back vs short =
    let limit : longest_block < 2 ^ 31 = lit< tt in
    let whole = times_again value value_at (λ v. refl) value_reads vs [] (are_spelled vs) (omega (arith, limit, short)) in
    values_are (length vs) (spelled vs) vs [] (ap (times_at value_at (length vs)) (sym (append-nil (spelled vs))) ∙ whole)

-- ---- what stands after the first values

-- what stands from the start of a value on
pub from_start : (vs : List (Option (List ℕ))) (i : ℕ) → drop (start_of vs i) (spelled vs) ≡ spelled (drop i vs)
from_start vs i =
    let parts : spelled vs ≡ spelled (take i vs) ++ spelled (drop i vs) = ap spelled (sym (take-append-drop i vs)) ∙ flat_map-append value_bytes (take i vs) (drop i vs) in
    ap (drop (start_of vs i)) parts ∙ drop_at (spelled (take i vs)) (spelled (drop i vs)) (start_of vs i) refl

pub start_in : (vs : List (Option (List ℕ))) (i : ℕ) → start_of vs i + length (spelled (drop i vs)) ≡ length (spelled vs)
start_in vs i = sym (ap length (ap spelled (sym (take-append-drop i vs)) ∙ flat_map-append value_bytes (take i vs) (drop i vs)) ∙ length-append (spelled (take i vs)) (spelled (drop i vs)))

-- ---- one value and then the others

-- what a value takes of the bytes that it begins
pub value_size : (bytes : List ℕ) (v : Option (List ℕ)) (rest : List ℕ) → value_at bytes ≡ Some (v, rest) → length bytes ≡ length (value_bytes v) + length rest
unfolding value_at
value_size bytes v rest e =
    let x = bind_some (number_at w32 bytes) (λ (n : ℕ × List ℕ). value_of_length n.0 n.1) (v, rest) e in
    let made : ℕ × List ℕ = (from_be_bytes w32 (take 4 bytes), drop 4 bytes) in
    let g = guard_some (ltb (length bytes) 4) made x.0 x.1 in
    let long : 4 ≤ length bytes = ltb-false _ _ g.0 in
    let tail : drop 4 bytes ≡ x.0.1 = ap (λ (p : ℕ × List ℕ). p.1) g.1 in
    let t = taken x.0.0 x.0.1 v rest x.2 in
    omega (arith, long, length-drop 4 bytes, ap length tail, length-append (to_be_bytes w32 x.0.0) x.0.1, length-append (value_bytes v) rest, wide32.len x.0.0, ap length t)

-- what stands behind a value
value_rest : (bytes : List ℕ) (v : Option (List ℕ)) (rest : List ℕ) → value_at bytes ≡ Some (v, rest) → rest ≡ drop (length (value_bytes v)) bytes
unfolding value_at
value_rest bytes v rest e =
    let x = bind_some (number_at w32 bytes) (λ (n : ℕ × List ℕ). value_of_length n.0 n.1) (v, rest) e in
    let made : ℕ × List ℕ = (from_be_bytes w32 (take 4 bytes), drop 4 bytes) in
    let g = guard_some (ltb (length bytes) 4) made x.0 x.1 in
    let tail : drop 4 bytes ≡ x.0.1 = ap (λ (p : ℕ × List ℕ). p.1) g.1 in
    let t = taken x.0.0 x.0.1 v rest x.2 in
    let four : 4 ≤ length (value_bytes v) = four_at_least v in
    let k : 4 + (length (value_bytes v) - 4) ≡ length (value_bytes v) = omega (arith, four) in
    let head : drop 4 (to_be_bytes w32 x.0.0 ++ x.0.1) ≡ x.0.1 = drop_at (to_be_bytes w32 x.0.0) x.0.1 4 (sym (wide32.len x.0.0)) in
    let left : drop (length (value_bytes v)) (to_be_bytes w32 x.0.0 ++ x.0.1) ≡ drop (length (value_bytes v)) bytes =
    ap (λ (n : ℕ). drop n (to_be_bytes w32 x.0.0 ++ x.0.1)) (sym k) ∙ sym (drop-drop (length (value_bytes v) - 4) 4 (to_be_bytes w32 x.0.0 ++ x.0.1)) ∙ ap (drop (length (value_bytes v) - 4)) (head ∙ sym tail) ∙ drop-drop (length (value_bytes v) - 4) 4 bytes ∙ ap (λ (n : ℕ). drop n bytes) k in
    sym (drop_at (value_bytes v) rest (length (value_bytes v)) refl) ∙ ap (drop (length (value_bytes v))) (sym t) ∙ left
  where
    four_at_least : (v : Option (List ℕ)) → 4 ≤ length (value_bytes v)
    four_at_least None = omega arith
    four_at_least (Some bytes) = omega (arith, length-append (to_be_bytes w32 (length bytes)) bytes, wide32.len (length bytes))

module _ (count others : ℕ) (bytes : List ℕ) (is : count ≡ suc others) (row : IsRow count bytes) where
  -- a row of a value or more begins with one
  pub row_begins : (v : Option (List ℕ)) × (rest : List ℕ) × (value_at bytes ≡ Some (v, rest)) × (times_at value_at others rest ≡ Some (values_left others rest, []))
  unfolding times_at
  row_begins =
      let read : times_at value_at (suc others) bytes ≡ Some (values_left count bytes, []) = ap (λ (n : ℕ). times_at value_at n bytes) (sym is) ∙ row.read in
      let x = bind_some (value_at bytes) (λ (a : Option (List ℕ) × List ℕ). times_at value_at others a.1 >>= λ vs. Some (a.0 ∷ vs.0, vs.1)) (values_left count bytes, []) read in
      let y = bind_some (times_at value_at others x.0.1) (λ (vs : List (Option (List ℕ)) × List ℕ). Some (x.0.0 ∷ vs.0, vs.1)) (values_left count bytes, []) x.2 in
      let made : List (Option (List ℕ)) × List ℕ = (x.0.0 ∷ y.0.0, y.0.1) in
      let end : y.0.1 ≡ [] = ap (λ (p : List (Option (List ℕ)) × List ℕ). p.1) (some_is made (values_left count bytes, []) y.2) in
      let left = values_are others x.0.1 y.0.0 y.0.1 y.1 in
      (x.0.0, x.0.1, x.1, y.1 ∙ ap (λ (r : List ℕ). Some (y.0.0, r)) end ∙ ap (λ (vs : List (Option (List ℕ))). Some (vs, [])) (sym left))

  -- the others are a row too
  pub row_goes : (v : Option (List ℕ)) (rest : List ℕ) → value_at bytes ≡ Some (v, rest) → IsRow others rest
  row_goes v rest e =
      let b = row_begins in
      let made : Option (List ℕ) × List ℕ = (b.0, b.1) in
      let same : b.1 ≡ rest = ap (λ (p : Option (List ℕ) × List ℕ). p.1) (some_is made (v, rest) (sym b.2 ∙ e)) in
      let comes : values_left count bytes ≡ v ∷ values_left others rest = value_comes count others bytes v rest is (sym e) in
      let all : bytes ≡ value_bytes v ++ spelled (values_left others rest) = sym row.whole ∙ ap spelled comes in
      let len = ap length comes in
      record {
        read = subst (λ (r : List ℕ). times_at value_at others r ≡ Some (values_left others r, [])) same b.3;
        whole = sym (value_rest bytes v rest e ∙ ap (drop (length (value_bytes v))) all ∙ drop_at (value_bytes v) (spelled (values_left others rest)) (length (value_bytes v)) refl);
        count_is = omega (arith, row.count_is, len, is);
      }

-- ---- values that are spelled are a row

pub row_back : (vs : List (Option (List ℕ))) → length (spelled vs) ≤ longest_block → IsRow (length vs) (spelled vs)
row_back vs short =
    let limit : longest_block < 2 ^ 31 = lit< tt in
    let back = read_back vs short in
    let read = times_again value value_at (λ v. refl) value_reads vs [] (are_spelled vs) (omega (arith, limit, short)) in
    record {
      read = ap (times_at value_at (length vs)) (sym (append-nil (spelled vs))) ∙ read ∙ ap (λ (ws : List (Option (List ℕ))). Some (ws, [])) (sym back);
      whole = ap spelled back;
      count_is = ap length back;
    }

-- the same of the bytes that they are, and of the count
pub row_of_spelled : (vs : List (Option (List ℕ))) (count : ℕ) (bytes : List ℕ) → length vs ≡ count → spelled vs ≡ bytes → length bytes ≤ longest_block → IsRow count bytes × (values_left count bytes ≡ vs)
row_of_spelled vs count bytes n e short =
    let few : length (spelled vs) ≤ longest_block = omega (arith, ap length e, short) in
    let back = read_back vs few in (
      subst (λ (m : ℕ). IsRow m bytes) n (subst (IsRow (length vs)) e (row_back vs few)),
      sym (ap (λ (m : ℕ). values_left m (spelled vs)) n ∙ ap (values_left count) e) ∙ back,
    )

pub four_each : (vs : List (Option (List ℕ))) → 4 * length vs ≤ length (spelled vs)
four_each [] = omega arith
four_each (None ∷ vs) = omega (arith, four_each vs)
four_each (Some bytes ∷ vs) = omega (arith, four_each vs, length-append (value_bytes (Some bytes)) (spelled vs), length-append (to_be_bytes w32 (length bytes)) bytes, wide32.len (length bytes))

pub few_values : (count : ℕ) (bytes : List ℕ) → IsRow count bytes → 4 * count ≤ length bytes
few_values count bytes row = omega (arith, four_each (values_left count bytes), ap length row.whole, row.count_is)

-- ---- where values begin, as the end of a block says

-- blocks with the same end say the same
pub noted_alike : (a b : List ℕ) (count i : ℕ) → i < count → 4 * count ≤ length a → 4 * count ≤ length b → drop (length a - 4 * count) a ≡ drop (length b - 4 * count) b → noted_in a i ≡ noted_in b i
noted_alike a b count i lt long long' e =
    let k = 4 * count - (4 * i + 4) in
    let at : length a - (4 * i + 4) ≡ (length a - 4 * count) + k = omega (arith, lt, long) in
    let at' : length b - (4 * i + 4) ≡ (length b - 4 * count) + k = omega (arith, lt, long') in
    let same : drop (length a - (4 * i + 4)) a ≡ drop (length b - (4 * i + 4)) b = ap (λ (n : ℕ). drop n a) at ∙ sym (drop-drop k (length a - 4 * count) a) ∙ ap (drop k) e ∙ drop-drop k (length b - 4 * count) b ∙ ap (λ (n : ℕ). drop n b) (sym at') in
    ap (λ (bytes : List ℕ). from_le_bytes w32 (take 4 bytes)) same

-- ---- writing twice

pub written_twice : (place : ℕ) (first second old one two : List ℕ) → take (place + length first) one ≡ take place old ++ first → drop (place + length first) one ≡ drop (place + length first) old
    → take (place + length first + length second) two ≡ take (place + length first) one ++ second → drop (place + length first + length second) two ≡ drop (place + length first + length second) one
    → (take (place + length (first ++ second)) two ≡ take place old ++ (first ++ second)) × (drop (place + length (first ++ second)) two ≡ drop (place + length (first ++ second)) old)
written_twice place first second old one two front back front' back' =
    let n : place + length first + length second ≡ place + length (first ++ second) = omega (arith, length-append first second) in
    let end = place + length first in
    let far : drop (end + length second) one ≡ drop (end + length second) old = sym (drop-drop (length second) end one) ∙ ap (drop (length second)) back ∙ drop-drop (length second) end old in (
      ap (λ (m : ℕ). take m two) (sym n) ∙ front' ∙ ap (λ (bytes : List ℕ). bytes ++ second) front ∙ append_assoc (take place old) first second,
      ap (λ (m : ℕ). drop m two) (sym n) ∙ back' ∙ far ∙ ap (λ (m : ℕ). drop m old) n,
    )

-- ---- a block

-- A value begins at this place of the block, and is the one of this index.
abbrev pub ValueThere : ℕ → ℕ → List ℕ → ℕ → ℕ → Type 0
ValueThere count size block i place = (v : Option (List ℕ)) × (rest : List ℕ) × (place ≤ length block) × (value_at (drop place block) ≡ Some (v, rest)) × (slice_get (values_left count (take size block)) i ≡ Some v)

module _ (count size : ℕ) (block : List ℕ) (b : IsBlock count size block) where
  abbrev pub Values : List (Option (List ℕ))
  Values = values_left count (take size block)

  pub count_is : length Values ≡ count
  count_is = b.row.count_is

  -- the value that begins where the end of the block says
  pub value_there : (i place : ℕ) → i < count → place ≡ noted_in block i → ValueThere count size block i place
  value_there i place lt is =
      let within : i < length Values = omega (arith, count_is, lt) in
      let v = get_or Values i None in
      let behind = spelled (drop (i + 1) Values) ++ drop size block in
      let at : place ≡ start_of Values i = is ∙ b.noted i lt in
      let len = length-take-le size block (omega (arith, b.fits)) in
      let all = start_in Values i in
      let inside : start_of Values i ≤ length (spelled Values) = omega (arith, all) in
      let sized : length (spelled Values) ≡ size = ap length b.row.whole ∙ len in
      let split : block ≡ spelled Values ++ drop size block = sym (take-append-drop size block) ∙ ap (λ (bytes : List ℕ). bytes ++ drop size block) (sym b.row.whole) in
      let from : drop place block ≡ value_bytes v ++ behind = ap (λ (n : ℕ). drop n block) at ∙ ap (drop (start_of Values i)) split ∙ drop-append-le (start_of Values i) (spelled Values) (drop size block) inside ∙ ap (λ (bytes : List ℕ). bytes ++ drop size block) (from_start Values i ∙ ap spelled (drop_more Values i None within)) ∙ append_assoc (value_bytes v) (spelled (drop (i + 1) Values)) (drop size block) in
      let front : length (spelled (drop i Values)) ≡ length (value_bytes v) + length (spelled (drop (i + 1) Values)) = ap (λ (vs : List (Option (List ℕ))). length (spelled vs)) (drop_more Values i None within) ∙ length-append (value_bytes v) (spelled (drop (i + 1) Values)) in
      let limit : longest_block < 2 ^ 31 = lit< tt in
      let read = value_reads.again v behind (record { no_zero = refl; countable = refl; of_type = tt }) (omega (arith, limit, b.short, all, front, sized)) in
      (v, behind, omega (arith, at, inside, sized, b.fits), ap value_at from ∙ read, slice_get-get_or Values i None within)

  pub nothing_there : (i : ℕ) → count ≤ i → slice_get Values i ≡ None
  nothing_there i le = slice_get_past Values i (omega (arith, count_is, le))

  -- another block with the same values and the same end
  pub moved : (new : List ℕ) → size + 4 * count ≤ length new → take size new ≡ take size block → drop (length new - 4 * count) new ≡ drop (length block - 4 * count) block → IsBlock count size new × (values_left count (take size new) ≡ Values)
  moved new fits values end =
      let same : values_left count (take size new) ≡ Values = ap (values_left count) values in (
        record {
          row = subst (IsRow count) (sym values) b.row;
          noted = λ i lt. noted_alike new block count i lt (omega (arith, fits)) (omega (arith, b.fits)) end ∙ b.noted i lt ∙ ap (λ (vs : List (Option (List ℕ))). start_of vs i) (sym same);
          fits = fits;
          short = b.short;
        },
        same,
      )

  -- one value more
  pub one_more : (v : Option (List ℕ)) (put new : List ℕ) → size + length (value_bytes v) ≤ longest_block → size + length (value_bytes v) + 4 * (count + 1) ≤ length block
      → length put ≡ length block → take (size + length (value_bytes v)) put ≡ take size block ++ value_bytes v → drop (size + length (value_bytes v)) put ≡ drop (size + length (value_bytes v)) block
      → length new ≡ length put → take (length put - (4 * count + 4)) new ≡ take (length put - (4 * count + 4)) put → drop (length put - 4 * count) new ≡ drop (length put - 4 * count) put → noted_in new count ≡ size
      → IsBlock (count + 1) (size + length (value_bytes v)) new × (values_left (count + 1) (take (size + length (value_bytes v)) new) ≡ Values ++ v ∷ [])
  one_more v put new short fits len front back len' values end noted =
      let n = length (value_bytes v) in
      let more : List (Option (List ℕ)) = Values ++ v ∷ [] in
      let first : take (size + n) new ≡ take size block ++ value_bytes v = sym (take-take (size + n) (length put - (4 * count + 4)) new (omega (arith, len, fits))) ∙ ap (take (size + n)) values ∙ take-take (size + n) (length put - (4 * count + 4)) put (omega (arith, len, fits)) ∙ front in
      let bytes : spelled more ≡ take (size + n) new = flat_map-append value_bytes Values (v ∷ []) ∙ rw (append-nil (value_bytes v), b.row.whole) (sym first) in
      let counted : length more ≡ count + 1 = length-append Values (v ∷ []) ∙ ap (λ (m : ℕ). m + 1) count_is in
      let sized : length (take (size + n) new) ≡ size + n = length-take-le (size + n) new (omega (arith, len', len, fits)) in
      let row = row_of_spelled more (count + 1) (take (size + n) new) counted bytes (omega (arith, sized, short)) in
      let at = length block - 4 * count in
      let k = at - (size + n) in
      let there : (size + n) + k ≡ at = omega (arith, fits) in
      let before : drop (length put - 4 * count) put ≡ drop at block = ap (λ (m : ℕ). drop (m - 4 * count) put) len ∙ ap (λ (m : ℕ). drop m put) (sym there) ∙ sym (drop-drop k (size + n) put) ∙ ap (drop k) back ∙ drop-drop k (size + n) block ∙ ap (λ (m : ℕ). drop m block) there in
      let alike : drop (length new - 4 * count) new ≡ drop at block = ap (λ (m : ℕ). drop (m - 4 * count) new) len' ∙ end ∙ before in
      let whole : length (spelled Values) ≡ size = ap length b.row.whole ∙ length-take-le size block (omega (arith, b.fits)) in (
        record {
          row = row.0;
          noted = λ i lt. elim (cases_lt i count) [
            | inl old ↦ noted_alike new block count i old (omega (arith, len', len, fits)) (omega (arith, b.fits)) alike ∙ b.noted i old ∙ ap (λ (vs : List (Option (List ℕ))). length (spelled vs)) (sym (take-append-le i Values (v ∷ []) (omega (arith, count_is, old)))) ∙ ap (λ (vs : List (Option (List ℕ))). start_of vs i) (sym row.1)
            | inr le ↦ last i (omega (arith, lt, le)) noted whole row.1
          ];
          fits = omega (arith, len', len, fits);
          short = short;
        },
        row.1,
      )
    where
      last : {vs : List (Option (List ℕ))} (i : ℕ) → i ≡ count → noted_in new count ≡ size → length (spelled Values) ≡ size → vs ≡ Values ++ v ∷ [] → noted_in new i ≡ start_of vs i
      last i is noted whole e =
          let front : take i (Values ++ v ∷ []) ≡ Values = take_at Values (v ∷ []) i (count_is ∙ sym is) in
          ap (noted_in new) is ∙ noted ∙ sym whole ∙ ap (λ (ws : List (Option (List ℕ))). length (spelled ws)) (sym front) ∙ ap (λ (ws : List (Option (List ℕ))). start_of ws i) (sym e)

-- ---- values that are all of some bytes, with room for where they begin behind them

pub made : (count : ℕ) (bytes places block : List ℕ) → IsRow count bytes → length bytes ≤ longest_block → length places ≡ 4 * count → block ≡ bytes ++ places
    → ((i : ℕ) → i < count → noted_in places i ≡ start_of (values_left count bytes) i) → IsBlock count (length bytes) block × (values_left count (take (length bytes) block) ≡ values_left count bytes)
made count bytes places block row short len is noted =
    let first : take (length bytes) block ≡ bytes = ap (take (length bytes)) is ∙ take_at bytes places (length bytes) refl in
    let same : values_left count (take (length bytes) block) ≡ values_left count bytes = ap (values_left count) first in
    let all : length block ≡ length bytes + length places = ap length is ∙ length-append bytes places in
    let cut : length block - 4 * count ≡ length bytes = omega (arith, all, len) in
    let none : length places - 4 * count ≡ 0 = omega (arith, len) in
    let end : drop (length block - 4 * count) block ≡ drop (length places - 4 * count) places = ap (λ (n : ℕ). drop n block) cut ∙ ap (drop (length bytes)) is ∙ drop_at bytes places (length bytes) refl ∙ ap (λ (n : ℕ). drop n places) (sym none) in (
      record {
        row = subst (IsRow count) (sym first) row;
        noted = λ i lt. noted_alike block places count i lt (omega (arith, all, len)) (omega (arith, len)) end ∙ noted i lt ∙ ap (λ (vs : List (Option (List ℕ))). start_of vs i) (sym same);
        fits = omega (arith, all, len);
        short = short;
      },
      same,
    )

-- what stands before zeros that were added
pub before_zeros : (xs zeros : List ℕ) (size n : ℕ) → size ≡ length xs → size ≤ n → take size (take n xs ++ zeros) ≡ xs
before_zeros xs zeros size n is le = ap (λ (front : List ℕ). take size (front ++ zeros)) (take_all n xs (omega (arith, is, le))) ∙ take_at xs zeros size (sym is)

-- ---- no value

pub no_values : (bytes : List ℕ) → values_left 0 bytes ≡ []
unfolding values_left
no_values bytes = refl

pub no_block : (block : List ℕ) → block ≡ [] → IsBlock 0 0 block
unfolding times_at values_left
no_block block e = rw e (record {
  row = record { read = refl; whole = refl; count_is = refl };
  noted = λ i lt. absurd (omega (arith, lt));
  fits = omega arith;
  short = lit≤ tt;
})

pub none_of_none : (vs : List (Option (List ℕ))) → length vs ≡ 0 → vs ≡ []
none_of_none [] e = refl
none_of_none (v ∷ vs) e = absurd (omega arith)

-- ---- noting where each value begins

-- So many values are passed, and where they begin is noted.
pub record Noting (count i : ℕ) (bytes rest places : List ℕ) : Type 0 where
  pub passed : List (Option (List ℕ))
  pub parts : values_left count bytes ≡ passed ++ values_left (count - i) rest
  pub passed_are : length passed ≡ i
  pub row : IsRow (count - i) rest
  pub size : length bytes ≡ length (spelled passed) + length rest
  pub noted : (j : ℕ) → j < i → noted_in places j ≡ start_of (values_left count bytes) j

pub nothing_noted : (count : ℕ) (bytes places : List ℕ) → IsRow count bytes → Noting count 0 bytes bytes places
nothing_noted count bytes places row =
    let all : count - 0 ≡ count = omega arith in
    record {
      passed = [];
      parts = ap (λ (n : ℕ). values_left n bytes) (sym all);
      passed_are = refl;
      row = subst (λ (n : ℕ). IsRow n bytes) (sym all) row;
      size = omega arith;
      noted = λ j lt. absurd (omega (arith, lt));
    }

module _ (count i : ℕ) (bytes rest places : List ℕ) (so_far : Noting count i bytes rest places) where
  pub one_left : i < count → count - i ≡ suc (count - (i + 1))
  one_left lt = omega (arith, lt)

  pub begins_one : i < count → IsSome (value_at rest)
  begins_one lt =
      let b = row_begins (count - i) (count - (i + 1)) rest (one_left lt) so_far.row in
      rw b.2 refl

  pub one_noted : i < count → (v : Option (List ℕ)) (after new : List ℕ) → value_at rest ≡ Some (v, after) → 4 * count ≤ length places → length new ≡ length places → drop (length places - 4 * i) new ≡ drop (length places - 4 * i) places → noted_in new i ≡ length bytes - length rest → Noting count (i + 1) bytes after new
  one_noted lt v after new e long len same here =
      let n = count - (i + 1) in
      let comes : values_left (count - i) rest ≡ v ∷ values_left n after = value_comes (count - i) n rest v after (one_left lt) (sym e) in
      let parts : values_left count bytes ≡ (so_far.passed ++ v ∷ []) ++ values_left n after = so_far.parts ∙ ap (λ (vs : List (Option (List ℕ))). so_far.passed ++ vs) comes ∙ sym (append_assoc so_far.passed (v ∷ []) (values_left n after)) in
      let spelt : spelled (so_far.passed ++ v ∷ []) ≡ spelled so_far.passed ++ value_bytes v = flat_map-append value_bytes so_far.passed (v ∷ []) ∙ rw (append-nil (value_bytes v)) refl in
      let front : take i (values_left count bytes) ≡ so_far.passed = ap (take i) so_far.parts ∙ take_at so_far.passed (values_left (count - i) rest) i so_far.passed_are in
      let end : drop (length new - 4 * i) new ≡ drop (length places - 4 * i) places = ap (λ (m : ℕ). drop (m - 4 * i) new) len ∙ same in
      record {
        passed = so_far.passed ++ v ∷ [];
        parts = parts;
        passed_are = length-append so_far.passed (v ∷ []) ∙ ap (λ (m : ℕ). m + 1) so_far.passed_are;
        row = row_goes (count - i) n rest (one_left lt) so_far.row v after e;
        size = omega (arith, so_far.size, value_size rest v after e, ap length spelt, length-append (spelled so_far.passed) (value_bytes v));
        noted = λ j jlt. elim (cases_lt j i) [
          | inl old ↦ noted_alike new places i j old (omega (arith, len, long, lt)) (omega (arith, long, lt)) end ∙ so_far.noted j old
          | inr le ↦ last j (omega (arith, jlt, le)) front
        ];
      }
    where
      last : (j : ℕ) → j ≡ i → take i (values_left count bytes) ≡ so_far.passed → noted_in new j ≡ start_of (values_left count bytes) j
      last j is front =
          let at : length bytes - length rest ≡ length (spelled so_far.passed) = omega (arith, so_far.size) in
          ap (noted_in new) is ∙ here ∙ at ∙ ap (λ (vs : List (Option (List ℕ))). length (spelled vs)) (sym front) ∙ ap (start_of (values_left count bytes)) (sym is)

  pub all_noted : count ≤ i → (j : ℕ) → j < count → noted_in places j ≡ start_of (values_left count bytes) j
  all_noted le j lt = so_far.noted j (omega (arith, lt, le))

-- ---- values that were judged, and what stands behind them

-- the values before a rest are a row
pub row_before : (count : ℕ) (bytes rest : List ℕ) → IsBytes bytes → length bytes ≤ longest_block → Some rest ≡ left_after (times_at value_at count bytes)
    → IsRow count (take (length bytes - length rest) bytes) × (times_at value_at count bytes ≡ Some (values_left count (take (length bytes - length rest) bytes), rest)) × (length rest ≤ length bytes)
row_before count bytes rest fits short left =
    let r = read_where_left (times_at value_at count bytes) rest left in
    let t = times_sound value value_at value_reads count bytes r.0 rest fits r.1 in
    let size = ap length t.0.parts ∙ length-append (spelled r.0) rest in
    let front : length bytes - length rest ≡ length (spelled r.0) = omega (arith, size) in
    let is : spelled r.0 ≡ take (length bytes - length rest) bytes = sym (ap (λ (n : ℕ). take n bytes) front ∙ ap (take (length (spelled r.0))) t.0.parts ∙ take_at (spelled r.0) rest (length (spelled r.0)) refl) in
    let row = row_of_spelled r.0 count (take (length bytes - length rest) bytes) t.1 is (omega (arith, sym (ap length is), size, short)) in
    (row.0, r.1 ∙ ap (λ (vs : List (Option (List ℕ))). Some (vs, rest)) (sym row.1), omega (arith, size))

-- ---- the block of a row

pub after_count : (body : List ℕ) (count : ℕ) (bytes : List ℕ) → IsBytes body → number_at w16 body ≡ Some (count, bytes) → IsBytes bytes
after_count body count bytes fits h =
    let made : ℕ × List ℕ = (from_be_bytes w16 (take 2 body), drop 2 body) in
    let rest : drop 2 body ≡ bytes = ap (λ (p : ℕ × List ℕ). p.1) (guard_some (ltb (length body) 2) made (count, bytes) h).1 in
    subst IsBytes rest (λ i. rw get_or-drop (fits (2 + i)))

-- what stands after the count of a row's body that is whole
pub is_row : (body : List ℕ) (count : ℕ) (bytes : List ℕ) → IsBytes body → number_at w16 body ≡ Some (count, bytes) → IsSome (row_of body) → IsRow count bytes
is_row body count bytes fits h is =
    let read = whole_is body count bytes h is in
    let t = times_sound value value_at value_reads count bytes (values_left count bytes) [] (after_count body count bytes fits h) read in
    record {
      read = read;
      whole = sym (t.0.parts ∙ append-nil (spelled (values_left count bytes)));
      count_is = t.1;
    }
