-- What is lent at the beginning of a buffer.
use Rattle.std.proofs.Common.{◌≡◌, ℕ, zero, suc, ◌+◌, ◌-◌, ◌<◌, ◌≤◌, false, true, List, [], ◌∷◌, length, take, drop, Option, Some, None, Result, Ok, Err, refl, sym, ap, subst, ◌∙◌, arith, inl, inr}
use Rattle.std.specs.Prelude.{Bool, ◌||◌, ◌==◌, ◌⊎◌, ◌++◌, slice_index}
use Rattle.std.proofs.lemmas.Bool.{eqb-true}
use Rattle.std.specs.Option.{IsSome, option_map}
use Rattle.std.proofs.lemmas.List.{drop-take}
use Rattle.pg_wire.specs.declared.fault.WireFault.{WireFault}
use Rattle.pg_wire.specs.declared.fault.WireFault.TheVariants as wire
use Rattle.pg_codec.proofs.Layouts.{IsBytes, IsBytes-take}
use Rattle.pg_message.specs.declared.lent.Lent.{Lent}
use Rattle.pg_message.specs.declared.lent.Lent.TheVariants.{Row}
use Rattle.pg_values.specs.Private.View.{row_of}
use Rattle.pg_message.specs.declared.message.BackMessage.TheVariants.{DataRow, ErrorResponse, NoticeResponse}
use Rattle.pg_message.specs.Direction.{Direction, spelling, longest}
use Rattle.pg_message.specs.Lent.{message_of}
use Rattle.pg_message.specs.Private.LentReader.{has_lent, lent_body, lent_bytes, LendsBody}
use Rattle.pg_message.specs.Backend.{backend}
use Rattle.pg_message.specs.Message.{IsTag, IsMessage}
use Rattle.pg_message.proofs.Lendings.{lends}
use Rattle.pg_wire.specs.Stream.{IsWhole}
use Rattle.pg_wire.specs.Decoder.{DecoderState, Takes}
use Rattle.pg_wire.specs.BackDecoder.{LetsGo}
use Rattle.pg_wire.specs.Private.Found.{IsFirst, FindsLent, FindsRow}
use Rattle.pg_wire.specs.declared.find.Found.TheVariants as found
use Rattle.pg_wire.specs.Spellings.{LetsBytes}
use Rattle.pg_wire.specs.Private.Held.{IsHeldFront}
use Rattle.pg_wire.proofs.Rests.{IsBytes-drop, message_found, bad_fault}

-- ---- tags

one_of_them : (a b c : Bool) → (a || b || c) ≡ true → (a ≡ true) ⊎ (b ≡ true) ⊎ (c ≡ true)
one_of_them true b c e = inl refl
one_of_them false true c e = inr (inl refl)
one_of_them false false true e = inr (inr refl)
one_of_them false false false e = absurd cc

-- some message has the tag of one that is lent
pub lent_tag : (t : ℕ) → has_lent t ≡ true → IsTag backend t
lent_tag t e =
    elim (one_of_them (t == 68) (t == 69) (t == 78) e) [
      | inl p ↦ (DataRow [], sym (eqb-true _ _ p))
      | inr p ↦ elim p [
        | inl q ↦ (ErrorResponse [], sym (eqb-true _ _ q))
        | inr q ↦ (NoticeResponse [], sym (eqb-true _ _ q))
      ]
    ]

-- ---- a message that was judged

first_byte : (n : ℕ) (rest : List ℕ) → 1 ≤ n → slice_index (take n rest) 0 ≡ slice_index rest 0
first_byte zero rest h = absurd (omega arith)
first_byte (suc n) [] h = refl
first_byte (suc n) (b ∷ rest) h = refl

pub lent_whole : (limit : ℕ) (rest : List ℕ) (t len n : ℕ) (lent : Lent) → IsWhole backend limit rest t len → n ≡ len - 4 → lent_body t (take n (drop 5 rest)) ≡ Some lent → lent_bytes (take (len + 1) rest) ≡ Some lent
lent_whole limit rest t len n lent whole size found =
    let more : len + 1 ≡ 5 + n = omega (arith, whole.not_short) in
    let tag : slice_index (take (len + 1) rest) 0 ≡ t = first_byte (len + 1) rest (omega arith) ∙ whole.head.tag_is in
    let body : drop 5 (take (len + 1) rest) ≡ take n (drop 5 rest) = ap (λ (k : ℕ). drop 5 (take k rest)) more ∙ drop-take 5 n rest in
    ap (λ (b : ℕ). lent_body b (drop 5 (take (len + 1) rest))) tag ∙ ap (lent_body t) body ∙ found

module _ (limit : ℕ) (rest : List ℕ) (t len n : ℕ) where
  body_lends : IsBytes rest → has_lent t ≡ true → LendsBody t (take n (drop 5 rest)) (lent_body t (take n (drop 5 rest)))
  body_lends fits known = lends t (take n (drop 5 rest)) known (IsBytes-take n (drop 5 rest) (IsBytes-drop 5 rest fits))

  pub lent_found : (lent : Lent) → limit ≤ longest → IsBytes rest → IsWhole backend limit rest t len → n ≡ len - 4 → has_lent t ≡ true → lent_body t (take n (drop 5 rest)) ≡ Some lent → FindsLent limit rest (Ok (found.Lent (len + 1)))
  lent_found lent small fits whole size known is =
      let message : IsMessage backend t (take n (drop 5 rest)) (message_of lent) = subst (LendsBody t (take n (drop 5 rest))) is (body_lends fits known) in
      let first = message_found backend limit rest t len n (message_of lent) small fits whole size message in
      (lent, omega (arith, whole.not_short), lent_whole limit rest t len n lent whole size is, (whole.there, first.0, first.1))

  pub bad_lent : IsBytes rest → IsWhole backend limit rest t len → n ≡ len - 4 → has_lent t ≡ true → lent_body t (take n (drop 5 rest)) ≡ None → FindsLent limit rest (Err (wire.BadBody t))
  bad_lent fits whole size known is = bad_fault backend limit rest t len n whole size (subst (LendsBody t (take n (drop 5 rest))) is (body_lends fits known))

-- a row that is whole
pub row_found : (limit : ℕ) (rest : List ℕ) (len n : ℕ) → limit ≤ longest → IsBytes rest → IsWhole backend limit rest 68 len → n ≡ len - 4 → IsSome (row_of (take n (drop 5 rest))) → FindsRow limit rest (len + 1)
row_found limit rest len n small fits whole size is = by (row_of (take n (drop 5 rest))) refl is
  where
    by : (o : Option (List (Option (List ℕ)))) → row_of (take n (drop 5 rest)) ≡ o → IsSome o → FindsRow limit rest (len + 1)
    by None e is = absurd cc
    by (Some values) e is =
        let message : IsMessage backend 68 (take n (drop 5 rest)) (DataRow values) = subst (LendsBody 68 (take n (drop 5 rest))) (ap (option_map Row) e) (body_lends limit rest 68 len n fits refl) in
        let first = message_found backend limit rest 68 len n (DataRow values) small fits whole size message in
        let k : len + 1 - 5 ≡ n = omega (arith, whole.not_short, size) in
        (values, omega (arith, whole.not_short), ap (λ (m : ℕ). row_of (take m (drop 5 rest))) k ∙ e, (whole.there, first.0, first.1))

-- ---- the beginning of the buffer

pub nothing_held : (front : List ℕ) → IsHeldFront front → length front < 5 → None ≡ lent_bytes front
nothing_held front (inl e) short = sym (ap lent_bytes e)
nothing_held front (inr p) short = absurd (omega (arith, p.0))

pub held_is : (front : List ℕ) (lent : Lent) → lent_body (slice_index front 0) (drop 5 front) ≡ Some lent → Some lent ≡ lent_bytes front
held_is front lent e = sym e

pub something_held : (front : List ℕ) → IsHeldFront front → 5 ≤ length front → IsSome (lent_bytes front)
something_held front (inl e) long = absurd (omega (arith, ap length e))
something_held front (inr p) long = p.1

-- ---- after a call

pub lets_go : {A : Type 0} (old : List ℕ) (r : Result A WireFault) (new : List ℕ) → LetsBytes old r new → LetsGo (lent_bytes old) r (lent_bytes new)
lets_go old (Ok x) new e = ap lent_bytes e
lets_go old (Err wire.Memory) new e = ap lent_bytes e
lets_go old (Err (wire.UnknownTag x)) new e = ap lent_bytes e
lets_go old (Err (wire.ShortLength x)) new e = ap lent_bytes e
lets_go old (Err (wire.LongLength x)) new e = ap lent_bytes e
lets_go old (Err (wire.BadBody x)) new e = ap lent_bytes e
lets_go old (Err (wire.BadFirst x)) new e = ap lent_bytes e

pub still_lent : {A : Type 0} (old : List ℕ) (r : Result A WireFault) (new : List ℕ) → LetsBytes old r new → IsHeldFront old → IsHeldFront new
still_lent old (Ok x) new e h = inl e
still_lent old (Err wire.Memory) new e h = subst IsHeldFront (sym e) h
still_lent old (Err (wire.UnknownTag x)) new e h = inl e
still_lent old (Err (wire.ShortLength x)) new e h = inl e
still_lent old (Err (wire.LongLength x)) new e h = inl e
still_lent old (Err (wire.BadBody x)) new e h = inl e
still_lent old (Err (wire.BadFirst x)) new e h = inl e

-- ---- a message that is held

-- a decoder that keeps these bytes
abbrev pub decoded : List ℕ → ℕ → Option WireFault → DecoderState
decoded kept limit fault = record { kept = kept; limit = limit; fault = fault }

-- the first message is taken off
pub takes_first : {M : Type 0} (d : Direction M) (old new : DecoderState) (m : M) (size : ℕ) → old.fault ≡ None → new ≡ decoded (drop size old.kept) old.limit old.fault → IsFirst d old.limit old.kept m size → Takes d old (Ok (Some m)) new
takes_first d old new m size unfailed is f =
    let left : new.kept ≡ drop size old.kept = ap (λ (s : DecoderState). s.kept) is in
    (unfailed, f.1, f.2 ∙ ap (λ (u : List ℕ). spelling d m ++ u) (sym left), is ∙ ap (λ (u : List ℕ). decoded u old.limit old.fault) (sym left))
