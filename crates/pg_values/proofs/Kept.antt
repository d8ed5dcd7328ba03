-- A block of fields holds what was put into it.
use Rattle.std.proofs.Common.{◌≡◌, ℕ, ◌+◌, ◌-◌, ◌<◌, ◌≤◌, Bool, true, ◌&&◌, List, [], ◌∷◌, ◌++◌, length, get_or, take, drop, Option, Some, None, refl, sym, ap, subst, ◌∙◌, append_assoc, arith, length-append}
use Rattle.std.specs.Prelude.{map, nat_eq, IsSome}
use Rattle.std.specs.Borrow.{Bor}
use Rattle.std.specs.List.{flat_map, slice_index_or}
use Rattle.std.specs.Cmp.{and_equiv}
use Rattle.std.specs.Cmp.Lexicographic.{pointwise, same_text, lists_equiv, nat_list_eq_equiv}
use Rattle.std.specs.Ordering.{eq_of_both, on}
use Rattle.std.proofs.lemmas.Bool.{eqb-true}
use Rattle.std.proofs.lemmas.Cmp.{on_equiv, nat_eq_equiv}
use Rattle.std.proofs.lemmas.Grind.{flat_map-append}
use Rattle.std.proofs.lemmas.List.{append-nil, drop-drop, drop_at, get_or_default, length-drop, length-map, map-append, take_at, take_rest}
use Rattle.pg_codec.specs.Value.{error_field}
use Rattle.pg_codec.specs.declared.fault.BodyFault.TheVariants.{Bad}
use Rattle.pg_codec.specs.declared.value.ErrorField.{ErrorField}
use Rattle.pg_codec.specs.Private.Lent.{lent_field}
use Rattle.pg_codec.specs.Private.Reader.{after_zero, up_to_zero_at, terminated_at, error_field_at}
use Rattle.pg_codec.proofs.Fields.{error_fields_reads}
use Rattle.pg_codec.proofs.Layouts.{IsBytes, bind_some, some_is}
use Rattle.pg_codec.proofs.Loops.{part_of, with_first, zero_goes_on, zero_ends, zero_is_done, zero_is_past}
use Rattle.pg_values.specs.Fields.{fields_spelled}
use Rattle.pg_values.specs.Private.View.{fields_of, fields_left}
use Rattle.pg_values.specs.Private.Block.{longest_block}
use Rattle.pg_values.specs.Private.Kept.{fields_kept, text_lengths, text_lengths_at, IsFields, IsKept}
use Rattle.pg_values.proofs.Equal.{both, and_true, one_truth, refl_numbers}
use Rattle.pg_values.proofs.Lists.{spelled_map}
use Rattle.pg_values.proofs.Views.{field_sizes, fields_is, whole_body}

-- ---- sizes

-- a field takes its code, its text and a zero byte
pub one_size : (f : ErrorField) → length (error_field f).bytes ≡ 2 + length f.value
one_size f = omega (arith, length-append f.value (0 ∷ []))

spelled_more : (fs : List ErrorField) (f : ErrorField) → fields_spelled (fs ++ f ∷ []) ≡ fields_spelled fs ++ (error_field f).bytes
spelled_more fs f = flat_map-append (λ (f : ErrorField). (error_field f).bytes) fs (f ∷ []) ∙ ap (λ (bytes : List ℕ). fields_spelled fs ++ bytes) (append-nil (error_field f).bytes)

pub one_more_size : (fs : List ErrorField) (f : ErrorField) → length (fields_spelled (fs ++ f ∷ [])) ≡ length (fields_spelled fs) + (2 + length f.value)
one_more_size fs f = omega (arith, ap length (spelled_more fs f), length-append (fields_spelled fs) (error_field f).bytes, one_size f)

-- ---- what is read of the spelling of fields is these fields

pub kept_back : (fs : List ErrorField) → fields_kept (text_lengths fs) (fields_spelled fs) ≡ fs
unfolding fields_kept
kept_back [] = refl
kept_back (f ∷ fs) =
    let rest = fields_spelled fs in
    let text : take (length f.value) ((f.value ++ 0 ∷ []) ++ rest) ≡ f.value = ap (take (length f.value)) (append_assoc f.value (0 ∷ []) rest) ∙ take_at f.value (0 ∷ rest) (length f.value) refl in
    let after : drop (length f.value + 1) ((f.value ++ 0 ∷ []) ++ rest) ≡ rest = drop_at (f.value ++ 0 ∷ []) rest (length f.value + 1) (length-append f.value (0 ∷ [])) in
    rw (text, after) (ap (λ (others : List ErrorField). f ∷ others) (kept_back fs))

-- ---- a block

pub is_kept : (fs : List ErrorField) (lengths block : List ℕ) → lengths ≡ text_lengths fs → block ≡ fields_spelled fs → length block ≤ longest_block → (fields_kept lengths block ≡ fs) × IsKept lengths block
is_kept fs lengths block l b short =
    let back : fields_kept lengths block ≡ fs = ap (λ (ns : List ℕ). fields_kept ns block) l ∙ ap (fields_kept (text_lengths fs)) b ∙ kept_back fs in
    (back, record { whole = ap fields_spelled back ∙ sym b; lengths_are = l ∙ ap text_lengths (sym back); short = short })

pub empty_kept : (lengths block : List ℕ) → lengths ≡ [] → block ≡ [] → (fields_kept lengths block ≡ []) × IsKept lengths block
empty_kept lengths block l b = is_kept [] lengths block l b (omega (arith, ap length b))

module _ (lengths block : List ℕ) (k : IsKept lengths block) where
  abbrev pub Kept : List ErrorField
  Kept = fields_kept lengths block

  pub count_is : length Kept ≡ length lengths
  count_is = omega (arith, ap length k.lengths_are, length-map Kept (λ (f : ErrorField). length f.value))

  pub none_kept : Kept ≡ [] → lengths ≡ []
  none_kept e = k.lengths_are ∙ ap text_lengths e

  -- one field more
  pub one_field_more : (f : ErrorField) → length block + (2 + length f.value) ≤ longest_block → (fields_kept (lengths ++ length f.value ∷ []) (block ++ (error_field f).bytes) ≡ Kept ++ f ∷ []) × IsKept (lengths ++ length f.value ∷ []) (block ++ (error_field f).bytes)
  one_field_more f short =
      let more : List ErrorField = Kept ++ f ∷ [] in
      let lengths_now : lengths ++ length f.value ∷ [] ≡ text_lengths more = ap (λ (ns : List ℕ). ns ++ length f.value ∷ []) k.lengths_are ∙ sym (map-append (λ (f : ErrorField). length f.value) Kept (f ∷ [])) in
      let block_now : block ++ (error_field f).bytes ≡ fields_spelled more = ap (λ (bytes : List ℕ). bytes ++ (error_field f).bytes) (sym k.whole) ∙ sym (spelled_more Kept f) in
      is_kept more (lengths ++ length f.value ∷ []) (block ++ (error_field f).bytes) lengths_now block_now (omega (arith, length-append block (error_field f).bytes, one_size f, short))

-- ---- the first field of a block

module _ (n : ℕ) (lengths : List ℕ) (code : ℕ) (bytes : List ℕ) (k : IsKept (n ∷ lengths) (code ∷ bytes)) where
  abbrev Others : List ErrorField
  Others = fields_kept lengths (drop (n + 1) bytes)

  text_is : length (take n bytes) ≡ n
  unfolding fields_kept
  text_is = sym (ap (λ (ns : List ℕ). get_or ns 0 0) k.lengths_are)

  parts : bytes ≡ (take n bytes ++ 0 ∷ []) ++ fields_spelled Others
  unfolding fields_kept
  parts = sym (ap (drop 1) k.whole)

  pub text_within : n < length bytes
  text_within = omega (arith, ap length parts, length-append (take n bytes ++ 0 ∷ []) (fields_spelled Others), length-append (take n bytes) (0 ∷ []), text_is)

  pub others_kept : IsKept lengths (drop (n + 1) bytes)
  unfolding fields_kept
  others_kept =
      let back : drop (n + 1) bytes ≡ fields_spelled Others = ap (drop (n + 1)) parts ∙ drop_at (take n bytes ++ 0 ∷ []) (fields_spelled Others) (n + 1) (omega (arith, length-append (take n bytes) (0 ∷ []), text_is)) in
      record { whole = sym back; lengths_are = ap (drop 1) k.lengths_are; short = omega (arith, length-drop (n + 1) bytes, k.short) }

-- the same, where the lengths and the bytes are split at their first
first_is : (xs : List ℕ) → 1 ≤ length xs → xs ≡ slice_index_or xs 0 0 ∷ take (length xs - 1) (drop 1 xs)
first_is [] some = absurd (omega arith)
first_is (x ∷ xs) some = ap (λ (ys : List ℕ). x ∷ ys) (sym (take_rest (x ∷ xs) 1))

pub no_block : (lengths block : List ℕ) → length block < 1 → fields_kept lengths block ≡ []
unfolding fields_kept
no_block [] block none = refl
no_block (n ∷ lengths) [] none = refl
no_block (n ∷ lengths) (code ∷ bytes) none = absurd (omega arith)

module _ (lengths block : List ℕ) (k : IsKept lengths block) (some : 1 ≤ length lengths) (more : 1 ≤ length block) where
  abbrev n : ℕ
  n = slice_index_or lengths 0 0

  abbrev code : ℕ
  code = slice_index_or block 0 0

  abbrev lengths_left : List ℕ
  lengths_left = take (length lengths - 1) (drop 1 lengths)

  abbrev bytes : List ℕ
  bytes = take (length block - 1) (drop 1 block)

  split_kept : IsKept (n ∷ lengths_left) (code ∷ bytes)
  split_kept = subst (λ (ns : List ℕ). IsKept ns (code ∷ bytes)) (first_is lengths some) (subst (IsKept lengths) (first_is block more) k)

  pub text_fits : n < length bytes
  text_fits = text_within n lengths_left code bytes split_kept

  pub left_kept : (rest : List ℕ) → rest ≡ drop 1 (drop n bytes) → IsKept lengths_left rest
  left_kept rest e = subst (IsKept lengths_left) (sym (e ∙ drop-drop 1 n bytes)) (others_kept n lengths_left code bytes split_kept)

  pub field_comes : (text rest : List ℕ) → text ≡ take n bytes → rest ≡ drop 1 (drop n bytes) → fields_kept lengths block ≡ record { code = code; value = text } ∷ fields_kept lengths_left rest
  unfolding fields_kept
  field_comes text rest t r =
      let split : fields_kept lengths block ≡ fields_kept (n ∷ lengths_left) (code ∷ bytes) = ap (λ (ns : List ℕ). fields_kept ns block) (first_is lengths some) ∙ ap (fields_kept (n ∷ lengths_left)) (first_is block more) in
      split ∙ ap (λ (v : List ℕ). record { code = code; value = v } ∷ fields_kept lengths_left (drop (n + 1) bytes)) (sym t) ∙ ap (λ (bs : List ℕ). record { code = code; value = text } ∷ fields_kept lengths_left bs) (sym (r ∙ drop-drop 1 n bytes))

-- ---- equality

abbrev pub equal_fields : List ErrorField → List ErrorField → Bool
equal_fields = pointwise (eq_of_both (on (λ (f : ErrorField). f.code) nat_eq) (on (λ (f : ErrorField). f.value) (pointwise nat_eq)))

same_field : (f g : ErrorField) → (nat_eq f.code g.code && pointwise nat_eq f.value g.value) ≡ true → f ≡ g
same_field f g e =
    let parts = both (nat_eq f.code g.code) (pointwise nat_eq f.value g.value) e in
    ap (λ (code : ℕ). record { code = code; value = f.value }) (eqb-true _ _ parts.0) ∙ ap (λ (text : List ℕ). record { code = g.code; value = text }) (same_text f.value g.value (sym parts.1))

same_fields : (fs gs : List ErrorField) → equal_fields fs gs ≡ true → fs ≡ gs
same_fields [] [] e = refl
same_fields (f ∷ fs) (g ∷ gs) e =
    let parts = both (nat_eq f.code g.code && pointwise nat_eq f.value g.value) (equal_fields fs gs) e in
    ap (λ (h : ErrorField). h ∷ fs) (same_field f g parts.0) ∙ ap (λ (hs : List ErrorField). g ∷ hs) (same_fields fs gs parts.1)
same_fields [] (g ∷ gs) e = absurd cc
same_fields (f ∷ fs) [] e = absurd cc

refl_fields : (fs : List ErrorField) → equal_fields fs fs ≡ true
refl_fields fs = (lists_equiv (and_equiv (on_equiv (λ (f : ErrorField). f.code) nat_eq_equiv) (on_equiv (λ (f : ErrorField). f.value) nat_list_eq_equiv))).refl fs

module _ (lengths block lengths' block' : List ℕ) (k : IsKept lengths block) (k' : IsKept lengths' block') where
  abbrev fs : List ErrorField
  fs = fields_kept lengths block

  abbrev gs : List ErrorField
  gs = fields_kept lengths' block'

  -- two blocks are compared as their lengths and their bytes are
  pub compared_fields : (pointwise nat_eq lengths lengths' && pointwise nat_eq block block') ≡ equal_fields fs gs
  compared_fields = one_truth (pointwise nat_eq lengths lengths' && pointwise nat_eq block block') (equal_fields fs gs) to from
    where
      to : (pointwise nat_eq lengths lengths' && pointwise nat_eq block block') ≡ true → equal_fields fs gs ≡ true
      to e =
          let parts = both (pointwise nat_eq lengths lengths') (pointwise nat_eq block block') e in
          let same : fs ≡ gs = ap (λ (ns : List ℕ). fields_kept ns block) (same_text lengths lengths' (sym parts.0)) ∙ ap (fields_kept lengths') (same_text block block' (sym parts.1)) in
          ap (equal_fields fs) (sym same) ∙ refl_fields fs

      from : equal_fields fs gs ≡ true → (pointwise nat_eq lengths lengths' && pointwise nat_eq block block') ≡ true
      from e =
          let same : fs ≡ gs = same_fields fs gs e in
          let lengths_same : lengths ≡ lengths' = k.lengths_are ∙ ap text_lengths same ∙ sym k'.lengths_are in
          let block_same : block ≡ block' = sym k.whole ∙ ap fields_spelled same ∙ k'.whole in
          and_true (pointwise nat_eq lengths lengths') (pointwise nat_eq block block') (ap (pointwise nat_eq lengths) (sym lengths_same) ∙ refl_numbers lengths) (ap (pointwise nat_eq block) (sym block_same) ∙ refl_numbers block)

-- ---- lists of lent fields

abbrev lent_bytes : ℕ × Bor (List ℕ) → List ℕ
lent_bytes f = (error_field (lent_field f)).bytes

lent_fields_spelled : (fs : List (ℕ × Bor (List ℕ))) → flat_map lent_bytes fs ≡ fields_spelled (map lent_field fs)
lent_fields_spelled fs = spelled_map (λ (f : ErrorField). (error_field f).bytes) lent_field fs

-- one field's part of the spelling of all
pub one_of_lent : (fs : List (ℕ × Bor (List ℕ))) (i : ℕ) (d : ℕ × Bor (List ℕ)) → i < length fs → length (fields_spelled (map lent_field (take i fs) ++ lent_field (get_or fs i d) ∷ [])) ≤ length (fields_spelled (map lent_field fs))
one_of_lent fs i d lt =
    let f = get_or fs i d in
    let part = part_of lent_bytes fs i f lt (get_or_default fs i d f lt) in
    omega (arith, part, ap length (lent_fields_spelled (take i fs)), ap length (lent_fields_spelled fs), one_size (lent_field f), one_more_size (map lent_field (take i fs)) (lent_field f))

-- ---- reading the fields of a block

-- The lengths are those of the texts that were passed, and the fields that are still to come complete them.
abbrev pub LengthsSoFar : ℕ → List ℕ → List ℕ → List ℕ → Type 0
LengthsSoFar i bytes lengths rest =
    (fs : List ErrorField) × (lengths ≡ text_lengths fs) × (with_first fs (up_to_zero_at error_field_at (length bytes - i) rest) ≡ up_to_zero_at error_field_at (length bytes) bytes) × (length rest ≤ length bytes)

module _ (i : ℕ) (bytes lengths rest : List ℕ) (so_far : LengthsSoFar i bytes lengths rest) where
  abbrev total : Option (List ErrorField × List ℕ)
  total = up_to_zero_at error_field_at (length bytes) bytes

  read_as : (fs : List ErrorField) (after : List ℕ) → total ≡ Some (fs, after) → text_lengths_at bytes ≡ Some (text_lengths fs, after)
  unfolding terminated_at
  read_as fs after e = rw e refl

  not_read : total ≡ None → text_lengths_at bytes ≡ None
  unfolding terminated_at
  not_read e = rw e refl

  pub all_lengths : i < length bytes → (after : List ℕ) → after_zero rest ≡ Some after → text_lengths_at bytes ≡ Some (lengths, after)
  all_lengths lt after e = read_as so_far.0 after (zero_is_done error_field_at so_far.0 (length bytes) i rest after total lt e so_far.2) ∙ ap (λ (ns : List ℕ). Some (ns, after)) (sym so_far.1)

  pub no_field : i < length bytes → after_zero rest ≡ None → error_field_at rest ≡ None → text_lengths_at bytes ≡ None
  no_field lt n e = not_read (zero_ends error_field_at Bad so_far.0 (length bytes) i rest total lt n e so_far.2)

  pub one_length : i < length bytes → after_zero rest ≡ None → (f : ErrorField) (after : List ℕ) → error_field_at rest ≡ Some (f, after) → LengthsSoFar (i + 1) bytes (lengths ++ length f.value ∷ []) after
  one_length lt n f after e = (
    so_far.0 ++ f ∷ [],
    ap (λ (ns : List ℕ). ns ++ length f.value ∷ []) so_far.1 ∙ sym (map-append (λ (f : ErrorField). length f.value) so_far.0 (f ∷ [])),
    zero_goes_on error_field_at so_far.0 (length bytes) i rest f after total lt n e so_far.2,
    omega (arith, so_far.3, (field_sizes rest f after e).0),
  )

  pub text_short : (f : ErrorField) (after : List ℕ) → error_field_at rest ≡ Some (f, after) → length f.value < length bytes
  text_short f after e = omega (arith, so_far.3, (field_sizes rest f after e).1)

  pub past_all : length bytes ≤ i → text_lengths_at bytes ≡ None
  past_all le = not_read (zero_is_past error_field_at so_far.0 (length bytes) i rest total le so_far.2)

-- The fields that the bytes begin with, where these are the lengths of their texts.
pub record AreRead (bytes lengths rest : List ℕ) : Type 0 where
  pub fields : List ErrorField
  pub read : terminated_at error_field_at bytes ≡ Some (fields, rest)
  pub lengths_are : lengths ≡ text_lengths fields
  pub parts : bytes ≡ (fields_spelled fields ++ 0 ∷ []) ++ rest

pub are_read : (bytes lengths rest : List ℕ) → IsBytes bytes → text_lengths_at bytes ≡ Some (lengths, rest) → AreRead bytes lengths rest
are_read bytes lengths rest fits e =
    let x = bind_some (terminated_at error_field_at bytes) (λ (a : List ErrorField × List ℕ). Some (text_lengths a.0, a.1)) (lengths, rest) e in
    let made : List ℕ × List ℕ = (text_lengths x.0.0, x.0.1) in
    let same : made ≡ (lengths, rest) = some_is made (lengths, rest) x.2 in
    let after : x.0.1 ≡ rest = ap (λ (p : List ℕ × List ℕ). p.1) same in
    let t = error_fields_reads.sound bytes x.0.0 x.0.1 fits x.1 in
    record {
      fields = x.0.0;
      read = x.1 ∙ ap (λ (r : List ℕ). Some (x.0.0, r)) after;
      lengths_are = sym (ap (λ (p : List ℕ × List ℕ). p.0) same);
      parts = t.parts ∙ ap (λ (r : List ℕ). (fields_spelled x.0.0 ++ 0 ∷ []) ++ r) after;
    }

module _ (bytes lengths rest : List ℕ) (r : AreRead bytes lengths rest) where
  pub size_is : length bytes ≡ length (fields_spelled r.fields) + 1 + length rest
  size_is = omega (arith, ap length r.parts, length-append (fields_spelled r.fields ++ 0 ∷ []) rest, length-append (fields_spelled r.fields) (0 ∷ []))

  pub fields_made : (block : List ℕ) → length bytes ≤ longest_block + 1 → block ≡ take (length bytes - length rest - 1) bytes → (terminated_at error_field_at bytes ≡ Some (fields_kept lengths block, rest)) × IsKept lengths block
  fields_made block short cut =
      let spelled = fields_spelled r.fields in
      let front : length bytes - length rest - 1 ≡ length spelled = omega (arith, size_is) in
      let is : block ≡ spelled = cut ∙ ap (λ (n : ℕ). take n bytes) front ∙ ap (take (length spelled)) (r.parts ∙ append_assoc spelled (0 ∷ []) rest) ∙ take_at spelled (0 ∷ rest) (length spelled) refl in
      let made = is_kept r.fields lengths block r.lengths_are is (omega (arith, short, ap length is, size_is)) in
      (r.read ∙ ap (λ (fs : List ErrorField). Some (fs, rest)) (sym made.0), made.1)

-- ---- a body that is lent

pub is_fields : (body : List ℕ) → IsBytes body → IsSome (fields_of body) → IsFields body
is_fields body fits is =
    let read = whole_body body (fields_left body) (fields_is body is) in
    let t = error_fields_reads.sound body (fields_left body) [] fits read in
    record { read = read; whole = sym (t.parts ∙ append-nil (fields_spelled (fields_left body) ++ 0 ∷ [])) }

-- its size: that of its fields, and the zero byte that closes them
pub body_size : (body : List ℕ) (fs : List ErrorField) → IsFields body → fields_left body ≡ fs → length body ≡ length (fields_spelled fs) + 1
body_size body fs is e = omega (arith, ap length is.whole, length-append (fields_spelled (fields_left body)) (0 ∷ []), ap (λ (gs : List ErrorField). length (fields_spelled gs)) e)
