-- Lines that end by a return and a newline are one split, and so are all lines.
use Rattle.std.proofs.Common.{◌≡◌, ℕ, Bool, true, false, cond, eqb, List, [], ◌∷◌, ◌++◌, refl, sym, ap, subst, ◌∙◌, arith, inl, inr}
use Rattle.std.specs.Prelude.{◌&&◌}
use Rattle.std.specs.List.{onto_first}
use Rattle.std.proofs.lemmas.List.{append-nil}
use Rattle.std.proofs.lemmas.Bool.{cases_eq, eqb-true, eqb-false, eq-eqb, ne_eqb, and_parts}
use Rattle.pg_copy_text.specs.declared.line_end.LineEnd.{LineEnd}
use Rattle.pg_copy_text.specs.declared.line_end.LineEnd.TheVariants.{Newline, Return, Both}
use Rattle.pg_copy_text.specs.Text.{newline, carriage_return, pairs_from, lines}
use Rattle.pg_copy_text.specs.TextLine.{NoNewlineFirst, AreUnpaired, nothing, byte, return, escape, ArePairs, one, lone, more, AreLines}
use Rattle.pg_copy_text.proofs.TextSplit.{split-there, split-once}

-- ---- there

put-byte : (b : ℕ) (bytes : List ℕ) (ps : List (List ℕ)) → (b ≡ 92 → ⊥) → (b ≡ 13 → ⊥) → ArePairs bytes ps → ArePairs (b ∷ bytes) (onto_first b ps)
put-byte b _ _ n92 n13 (one p h) = one (b ∷ p) (byte b p n92 n13 h)
put-byte b _ _ n92 n13 (lone p h) = lone (b ∷ p) (byte b p n92 n13 h)
put-byte b _ _ n92 n13 (more p bytes ps h k) = more (b ∷ p) bytes ps (byte b p n92 n13 h) k

-- the bytes begin with no newline, so no part of them that stands first does
first-part : (p rest : List ℕ) → NoNewlineFirst (p ++ rest) → NoNewlineFirst p
first-part [] rest h = tt
first-part (b ∷ p) rest h = h

put-return : (bytes : List ℕ) (ps : List (List ℕ)) → NoNewlineFirst bytes → ArePairs bytes ps → ArePairs (13 ∷ bytes) (onto_first 13 ps)
put-return _ _ apart (one p h) = one (13 ∷ p) (return p apart h)
put-return _ _ apart (lone p h) = lone (13 ∷ p) (return p (first-part p (92 ∷ []) apart) h)
put-return _ _ apart (more p bytes ps h k) = more (13 ∷ p) bytes ps (return p (first-part p (13 ∷ 10 ∷ bytes) apart) h) k

put-escape : (b : ℕ) (bytes : List ℕ) (ps : List (List ℕ)) → ArePairs bytes ps → ArePairs (92 ∷ b ∷ bytes) (onto_first 92 (onto_first b ps))
put-escape b _ _ (one p h) = one (92 ∷ b ∷ p) (escape b p h)
put-escape b _ _ (lone p h) = lone (92 ∷ b ∷ p) (escape b p h)
put-escape b _ _ (more p bytes ps h k) = more (92 ∷ b ∷ p) bytes ps (escape b p h) k

abbrev Due : Bool → List ℕ → Type 0
Due false bytes = ArePairs bytes (pairs_from false bytes)
Due true bytes = ArePairs (92 ∷ bytes) (onto_first 92 (pairs_from true bytes))

-- a byte in front, where the bytes from it on aren't a return and a newline
one-more : (b : ℕ) (bs : List ℕ) → (b ≡ 13 → NoNewlineFirst bs) → Due (eqb b 92) bs → ArePairs (b ∷ bs) (onto_first b (pairs_from (eqb b 92) bs))
one-more b bs apart due = elim (cases_eq b 92) [
  | inl e ↦ subst (λ (x : ℕ). ArePairs (x ∷ bs) (onto_first x (pairs_from (eqb x 92) bs))) (sym e) (rw (eq-eqb b 92 e) at due)
  | inr n92 ↦ rw (ne_eqb b 92 n92) (elim (cases_eq b 13) [
    | inl e ↦ subst (λ (x : ℕ). ArePairs (x ∷ bs) (onto_first x (pairs_from false bs))) (sym e) (put-return bs (pairs_from false bs) (apart e) (rw (ne_eqb b 92 n92) at due))
    | inr n13 ↦ put-byte b bs (pairs_from false bs) n92 n13 (rw (ne_eqb b 92 n92) at due)
  ])
]

pairs-there : (e : Bool) (bytes : List ℕ) → Due e bytes
pairs-there true [] = lone [] nothing
pairs-there true (b ∷ bs) = put-escape b bs (pairs_from false bs) (pairs-there false bs)
pairs-there false [] = one [] nothing
pairs-there false (b ∷ []) = single (eqb b 92) refl
  where
    single : (t : Bool) → eqb b 92 ≡ t → ArePairs (b ∷ []) ((b ∷ []) ∷ [])
    single true e = subst (λ (x : ℕ). ArePairs (x ∷ []) ((x ∷ []) ∷ [])) (sym (eqb-true b 92 e)) (lone [] nothing)
    single false e = elim (cases_eq b 13) [
      | inl f ↦ subst (λ (x : ℕ). ArePairs (x ∷ []) ((x ∷ []) ∷ [])) (sym f) (one (13 ∷ []) (return [] tt nothing))
      | inr n13 ↦ one (b ∷ []) (byte b [] (eqb-false b 92 e) n13 nothing)
    ]
pairs-there false (b ∷ c ∷ bs) = go (eqb b 13 && eqb c 10) refl (pairs-there false bs) (pairs-there (eqb b 92) (c ∷ bs))
  where
    go : (t : Bool) → (eqb b 13 && eqb c 10) ≡ t → Due false bs → Due (eqb b 92) (c ∷ bs) → ArePairs (b ∷ c ∷ bs) (cond t ([] ∷ pairs_from false bs) (onto_first b (pairs_from (eqb b 92) (c ∷ bs))))
    go true e cut due =
        let p = and_parts (eqb b 13) (eqb c 10) e in
        subst (λ (x : ℕ). ArePairs (x ∷ c ∷ bs) ([] ∷ pairs_from false bs)) (sym (eqb-true b 13 p.0)) (subst (λ (x : ℕ). ArePairs (13 ∷ x ∷ bs) ([] ∷ pairs_from false bs)) (sym (eqb-true c 10 p.1)) (more [] bs (pairs_from false bs) nothing cut))
    go false e cut due = one-more b (c ∷ bs) (λ is same. absurd (clash (sym e ∙ both (eq-eqb b 13 is) (eq-eqb c 10 same)))) due
      where
        both : eqb b 13 ≡ true → eqb c 10 ≡ true → (eqb b 13 && eqb c 10) ≡ true
        both f g = rw (f, g) refl

        clash : false ≡ true → ⊥
        clash f = cc

-- ---- one

-- a part in front of these bytes, which begin with no newline
before : (p rest : List ℕ) → AreUnpaired p → NoNewlineFirst rest → (q : List ℕ) (ps : List (List ℕ)) → pairs_from false rest ≡ q ∷ ps → pairs_from false (p ++ rest) ≡ (p ++ q) ∷ ps
before _ rest nothing apart q ps e = e
before _ rest (byte b bs n92 n13 h) apart q ps e = other b (bs ++ rest) n92 n13 ∙ ap (onto_first b) (before bs rest h apart q ps e)
  where
    other : (b : ℕ) (xs : List ℕ) → (b ≡ 92 → ⊥) → (b ≡ 13 → ⊥) → pairs_from false (b ∷ xs) ≡ onto_first b (pairs_from false xs)
    other b [] n92 n13 = refl
    other b (c ∷ cs) n92 n13 = rw (ne_eqb b 13 n13, ne_eqb b 92 n92) refl
before _ rest (return bs first h) apart q ps e = lonely (bs ++ rest) (join bs rest first apart) ∙ ap (onto_first 13) (before bs rest h apart q ps e)
  where
    join : (xs ys : List ℕ) → NoNewlineFirst xs → NoNewlineFirst ys → NoNewlineFirst (xs ++ ys)
    join [] ys f g = g
    join (x ∷ xs) ys f g = f

    lonely : (xs : List ℕ) → NoNewlineFirst xs → pairs_from false (13 ∷ xs) ≡ onto_first 13 (pairs_from false xs)
    lonely [] f = refl
    lonely (c ∷ cs) f = rw (ne_eqb c 10 f) refl
before _ rest (escape b bs h) apart q ps e = ap (λ (x : List (List ℕ)). onto_first 92 (onto_first b x)) (before bs rest h apart q ps e)

pairs-are : (bytes : List ℕ) (ps : List (List ℕ)) → ArePairs bytes ps → pairs_from false bytes ≡ ps
pairs-are _ _ (one p h) = ap (pairs_from false) (sym (append-nil p)) ∙ before p [] h tt [] [] refl ∙ ap (λ (x : List ℕ). x ∷ []) (append-nil p)
pairs-are _ _ (lone p h) = before p (92 ∷ []) h (λ e. absurd (omega (arith, e))) (92 ∷ []) [] refl
pairs-are _ _ (more p bytes ps h k) = before p (13 ∷ 10 ∷ bytes) h (λ e. absurd (omega (arith, e))) [] ps (ap (λ (qs : List (List ℕ)). [] ∷ qs) (pairs-are bytes ps k)) ∙ ap (λ (x : List ℕ). x ∷ ps) (append-nil p)

-- ---- lines

pub lines-there : (e : LineEnd) (bytes : List ℕ) → AreLines e bytes (lines e bytes)
lines-there Newline bytes = split-there newline bytes (λ e. absurd (omega (arith, e)))
lines-there Return bytes = split-there carriage_return bytes (λ e. absurd (omega (arith, e)))
lines-there Both bytes = pairs-there false bytes

pub lines-once : (e : LineEnd) (bytes : List ℕ) (ps qs : List (List ℕ)) → AreLines e bytes ps → AreLines e bytes qs → ps ≡ qs
lines-once Newline bytes ps qs h k = split-once newline bytes ps qs (λ e. absurd (omega (arith, e))) h k
lines-once Return bytes ps qs h k = split-once carriage_return bytes ps qs (λ e. absurd (omega (arith, e))) h k
lines-once Both bytes ps qs h k = sym (pairs-are bytes ps h) ∙ pairs-are bytes qs k
