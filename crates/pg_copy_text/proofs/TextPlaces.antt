-- Where the lines of a text file end.
use Rattle.std.proofs.Common.{◌≡◌, ℕ, zero, suc, ◌+◌, ◌<◌, ◌≤◌, Bool, true, false, cond, eqb, ◌&&◌, List, [], ◌∷◌, ◌++◌, length, take, drop, Option, Some, refl, ap, ◌∙◌, arith}
use Rattle.std.proofs.lemmas.List.{length-take-le}
use Rattle.std.specs.List.{onto_first}
use Rattle.std.specs.Option.{unwrap_or}
use Rattle.pg_copy_text.specs.declared.line_end.LineEnd.{LineEnd}
use Rattle.pg_copy_text.specs.declared.line_end.LineEnd.TheVariants.{Newline, Return, Both}
use Rattle.pg_copy_text.specs.Text.{newline, carriage_return, pairs_from, end_len, lines, decided_at_end}
use Rattle.pg_copy_text.specs.TextReader.{lines_size, lines_end}
use Rattle.pg_copy_text.specs.Private.Breaks.{IsFirstLine, IsLastLine}
use Rattle.pg_copy_text.proofs.TextParts.{parts-some}
use Rattle.pg_copy_text.proofs.TextBreaks.{lines_from-none}

pub not_backslash : ◌≡◌ {A = ℕ} 10 92 → ⊥
not_backslash e = absurd (omega arith)

-- there is at least one line
pub lines-some : (e : LineEnd) (bytes : List ℕ) → 0 < length (lines e bytes)
lines-some Newline bytes = parts-some false newline bytes not_backslash
lines-some Return bytes = parts-some false carriage_return bytes (λ e. absurd (omega (arith, e)))
lines-some Both bytes = pairs false bytes
  where
    onto : (b : ℕ) (ps : List (List ℕ)) → 0 < length (onto_first b ps)
    onto b [] = omega arith
    onto b (p ∷ ps) = omega arith

    either : (t : Bool) (ps qs : List (List ℕ)) → 0 < length ps → 0 < length qs → 0 < length (cond t ps qs)
    either true ps qs h k = h
    either false ps qs h k = k

    pairs : (escaped : Bool) (bytes : List ℕ) → 0 < length (pairs_from escaped bytes)
    pairs escaped [] = omega arith
    pairs true (b ∷ bs) = onto b (pairs_from false bs)
    pairs false (b ∷ []) = omega arith
    pairs false (b ∷ c ∷ bs) = either (eqb b 13 && eqb c 10) ([] ∷ pairs_from false bs) (onto_first b (pairs_from (eqb b 92) (c ∷ bs))) (omega arith) (onto b (pairs_from (eqb b 92) (c ∷ bs)))

pub end-some : (e : LineEnd) → 0 < end_len e
end-some Newline = omega arith
end-some Return = omega arith
end-some Both = omega arith

-- ---- no line

size-zero : (end : ℕ) (ps : List (List ℕ)) → lines_size end 0 ps ≡ 0
size-zero end [] = refl
size-zero end (p ∷ ps) = refl

pub lines_end-zero : (before : Option LineEnd) (bytes : List ℕ) → lines_end before bytes 0 ≡ 0
unfolding lines_end
lines_end-zero before bytes = size-zero (end_len (decided_at_end before bytes)) (lines (decided_at_end before bytes) bytes)

size-none : (end n : ℕ) → lines_size end n ([] ∷ []) ≡ 0
size-none end zero = refl
size-none end (suc n) = refl

pub lines_end-none : (before : Option LineEnd) (n : ℕ) → lines_end before [] n ≡ 0
unfolding lines_end
lines_end-none before n =
    let e = decided_at_end before [] in
    ap (lines_size (end_len e) n) (lines_from-none e false) ∙ size-none (end_len e) n

-- ---- the first line

size-first : (end n len taken : ℕ) (line : List ℕ) (ps : List (List ℕ)) → 0 < length ps → length line ≡ len → taken ≡ len + end → lines_size end (suc n) (line ∷ ps) ≡ taken + lines_size end n ps
size-first end n len taken line [] some is e = absurd (omega (arith, some))
size-first end n len taken line (p ∷ ps) some is e = omega (arith, is, e)

first-of : (e d : LineEnd) (bytes line rest : List ℕ) (len taken n : ℕ) → d ≡ e → lines e bytes ≡ line ∷ lines e rest → length line ≡ len → taken ≡ len + end_len e → lines_size (end_len d) (suc n) (lines d bytes) ≡ taken + lines_size (end_len e) n (lines e rest)
first-of e d bytes line rest len taken n is cut size all =
    ap (λ (f : LineEnd). lines_size (end_len f) (suc n) (lines f bytes)) is ∙ ap (lines_size (end_len e) (suc n)) cut ∙ size-first (end_len e) n len taken line (lines e rest) (lines-some e rest) size all

pub lines_end-first : (before : Option LineEnd) (kept more : List ℕ) (e : LineEnd) (len taken n : ℕ) → IsFirstLine before kept e len taken → taken ≡ len + end_len e → lines_end before (kept ++ more) (suc n) ≡ taken + lines_end (Some e) (drop taken kept ++ more) n
unfolding lines_end
lines_end-first before kept more e len taken n h all =
    first-of e (decided_at_end before (kept ++ more)) (kept ++ more) (take len kept) (drop taken kept ++ more) len taken n
    (ap (λ (d : Option LineEnd). unwrap_or d Return) (h.decided more)) (h.cut more) (length-take-le len kept (omega (arith, h.in_range, all))) all

-- the same, where the bytes come last
pub lines_end-last : (before : Option LineEnd) (kept : List ℕ) (e : LineEnd) (len taken n : ℕ) → IsLastLine before kept e len taken → taken ≤ length kept → taken ≡ len + end_len e → lines_end before kept (suc n) ≡ taken + lines_end (Some e) (drop taken kept) n
unfolding lines_end
lines_end-last before kept e len taken n h le all =
    first-of e (decided_at_end before kept) kept (take len kept) (drop taken kept) len taken n h.decided h.cut (length-take-le len kept (omega (arith, le, all))) all

-- a line that is open at the end of the input
pub lines_end-open : (before : Option LineEnd) (kept : List ℕ) (n : ℕ) → lines (decided_at_end before kept) kept ≡ kept ∷ [] → lines_end before kept (suc n) ≡ length kept
unfolding lines_end
lines_end-open before kept n one = ap (lines_size (end_len (decided_at_end before kept)) (suc n)) one
