-- The texts of a line's fields, put in place.
use Rattle.std.proofs.Common.{◌≡◌, ◌≢◌, ℕ, zero, suc, ◌+◌, ◌-◌, ◌<◌, ◌≤◌, Bool, true, false, List, [], ◌∷◌, ◌++◌, length, take, drop, get_or, set, Option, Some, None, refl, sym, ap, subst, ◌∙◌, append_assoc, arith, inl, inr}
use Rattle.std.specs.List.{between}
use Rattle.std.specs.Str.{bytes_eq}
use Rattle.std.proofs.lemmas.Bool.{cases_eq, eq-eqb, ne_eqb, cond-true, cond-false}
use Rattle.std.proofs.lemmas.List.{append-nil, take_at, take-take, take_more_set, drop_at, drop_more, drop_all, drop-drop, drop-set-lt, get_or-drop, get_or-take, get_or_at, length-take-le, length-append, length-drop, length-set, set_at, take-append-drop}
use Rattle.std.proofs.lemmas.Slice.{between_is}
use Rattle.std.proofs.lemmas.Slice.Eq.{bytes_eq-Decides}
use Rattle.pg_copy_rows.specs.Row.{Row}
use Rattle.pg_copy_text.specs.Text.{Options, field_value, text_after, escape_at}
use Rattle.pg_copy_text.specs.Private.Units.{NoBackslash, has_backslash, IsPlain}
use Rattle.pg_copy_rows.specs.Private.Cuts.{value_by, values_by, last_cut, AreCuts, AreTexts}
use Rattle.pg_copy_rows.specs.Private.RowBuffer.{RowBytes}
use Rattle.pg_copy_rows.proofs.Cuts.{last-more, values-more, cuts-more, values-same, texts-front}
use Rattle.pg_copy_text.specs.Private.Cuts.{line_cuts}
use Rattle.pg_copy_text.specs.Private.TextRow.{line_values, held_row, AreHeld}
use Rattle.pg_copy_text.specs.Private.TextLine.{PutsFirst}
use Rattle.pg_copy_text.proofs.TextCuts.{each_by, line-by, AreApart, line-apart}
use Rattle.pg_copy_text.proofs.TextValues.{not-backslash, text-plain, text-escape, plain-field}

-- ---- a line whose fields stand for themselves

pub apart-cuts : (start : ℕ) (cuts : List ℕ) (len : ℕ) → AreApart start cuts len → AreCuts start cuts len
apart-cuts start [] len h = tt
apart-cuts start (cut ∷ cuts) len h = (omega (arith, h.0), h.1, apart-cuts cut cuts len h.2)

plain-take : (n : ℕ) (xs : List ℕ) → NoBackslash xs → NoBackslash (take n xs)
plain-take zero xs h = tt
plain-take (suc n) [] h = tt
plain-take (suc n) (x ∷ xs) h = (h.0, plain-take n xs h.1)

plain-drop : (n : ℕ) (xs : List ℕ) → NoBackslash xs → NoBackslash (drop n xs)
plain-drop zero xs h = h
plain-drop (suc n) [] h = tt
plain-drop (suc n) (x ∷ xs) h = plain-drop n xs h.1

none-has : (xs : List ℕ) → NoBackslash xs → has_backslash xs ≡ false
none-has [] h = refl
none-has (x ∷ xs) h = rw h.0 (none-has xs h.1)

-- a field without a backslash isn't a null mark with one
other-mark : (mark field : List ℕ) → NoBackslash field → has_backslash mark ≡ true → bytes_eq field mark ≡ false
other-mark mark field h some = go (bytes_eq field mark) refl
  where
    clash : false ≡ true → ⊥
    clash e = cc

    go : (t : Bool) → bytes_eq field mark ≡ t → t ≡ false
    go true e = absurd (clash (sym (none-has field h) ∙ ap has_backslash ((bytes_eq-Decides field mark).0 e) ∙ some))
    go false e = refl

plain-by : (o : Options) (line : List ℕ) (start : ℕ) (cuts : List ℕ) → NoBackslash line → has_backslash o.null_mark ≡ true → AreApart start cuts (length line) → values_by start cuts line ≡ each_by (field_value o) start cuts line
plain-by o line start [] h some apart = refl
plain-by o line start (cut ∷ cuts) h some apart =
    let field = between start (cut - 1) line in
    let plain : NoBackslash field = plain-take (cut - 1 - start) (drop start line) (plain-drop start line h) in
    let value : value_by start cut line ≡ field_value o field =
    cond-false _ _ _ (ne_eqb cut start (λ e. absurd (omega (arith, e, apart.0)))) ∙ sym (plain-field o field plain (other-mark o.null_mark field plain some)) in
    ap (λ (v : Option (List ℕ)). v ∷ values_by cut cuts line) value ∙ ap (λ (row : Row). field_value o field ∷ row) (plain-by o line cut cuts h some apart.2)

pub plain-texts : (o : Options) (line : List ℕ) → o.delimiter ≢ 92 → NoBackslash line → has_backslash o.null_mark ≡ true → AreTexts (line_values o line) (line_cuts o.delimiter line) line
plain-texts o line other h some =
    let apart = line-apart o.delimiter line in
    record {
      cut = apart-cuts 0 (line_cuts o.delimiter line) (length line) apart;
      values = plain-by o line 0 (line_cuts o.delimiter line) h some apart ∙ sym (line-by (field_value o) o.delimiter line other);
    }

-- ---- the text of one field

later : (a b : ℕ) (xs ys : List ℕ) → a ≤ b → drop a xs ≡ drop a ys → drop b xs ≡ drop b ys
later a b xs ys le e =
    let place : a + (b - a) ≡ b = omega (arith, le) in
    ap (λ (n : ℕ). drop n xs) (sym place) ∙ sym (drop-drop (b - a) a xs) ∙ ap (drop (b - a)) e ∙ drop-drop (b - a) a ys ∙ ap (λ (n : ℕ). drop n ys) place

-- The text of a field is put so far, and what stands from `at` on is as it was.
pub record PutsText (old : List ℕ) (start end to : ℕ) (line : List ℕ) (at put : ℕ) : Type 0 where
  pub from : to ≤ put
  pub order : put ≤ at
  pub begun : start ≤ at
  pub up_to : at ≤ end
  pub within : end ≤ length old
  pub text : take put line ++ text_after 0 (drop at (take end old)) ≡ take to old ++ text_after 0 (drop start (take end old))
  pub rest : drop at line ≡ drop at old
  pub len : length line ≡ length old

pub text-begin : (old : List ℕ) (start end to : ℕ) → to ≤ start → start ≤ end → end ≤ length old → PutsText old start end to old start to
text-begin old start end to place order within = record {
  from = omega arith;
  order = place;
  begun = omega arith;
  up_to = order;
  within = within;
  text = refl;
  rest = refl;
  len = refl;
}

-- the byte at a place from `at` on
same-byte : (xs ys : List ℕ) (at i : ℕ) → at ≤ i → drop at xs ≡ drop at ys → get_or xs i 0 ≡ get_or ys i 0
same-byte xs ys at i le e =
    let place : at + (i - at) ≡ i = omega (arith, le) in
    ap (λ (n : ℕ). get_or xs n 0) (sym place) ∙ sym (get_or-drop at xs (i - at) 0) ∙ ap (λ (zs : List ℕ). get_or zs (i - at) 0) e ∙ get_or-drop at ys (i - at) 0 ∙ ap (λ (n : ℕ). get_or ys n 0) place

-- bytes that stand for themselves
text-run : (bytes : List ℕ) (at n : ℕ) → at + n ≤ length bytes → ((i : ℕ) → at ≤ i → i < at + n → get_or bytes i 0 ≢ 92) → text_after 0 (drop at bytes) ≡ take n (drop at bytes) ++ text_after 0 (drop (at + n) bytes)
text-run bytes at zero le each = let same : at ≡ at + 0 = omega arith in ap (λ (k : ℕ). text_after 0 (drop k bytes)) same
text-run bytes at (suc n) le each =
    let lt : at < length bytes = omega (arith, le) in
    let next : (at + 1) + n ≡ at + suc n = omega arith in
    let more = text-run bytes (at + 1) n (omega (arith, le)) (λ i a b. each i (omega (arith, a)) (omega (arith, b))) ∙ ap (λ (k : ℕ). take n (drop (at + 1) bytes) ++ text_after 0 (drop k bytes)) next in
    text-plain bytes at lt (each at (omega arith) (omega arith)) ∙ ap (λ (x : List ℕ). get_or bytes at 0 ∷ x) more
    ∙ ap (λ (x : List ℕ). take (suc n) x ++ text_after 0 (drop (at + suc n) bytes)) (sym (drop_more bytes at 0 lt))

-- a byte that is no backslash, and plain ones after it
pub run-plain : (line : List ℕ) (end at next : ℕ) → at < end → get_or line at 0 ≢ 92 → ((i : ℕ) → at + 1 ≤ i → i < next → IsPlain 92 (get_or (take end line) i 0)) → (i : ℕ) → at ≤ i → i < next → get_or (take end line) i 0 ≢ 92
run-plain line end at next lt first plain i a b = elim (cases_eq i at) [
  | inl e ↦ λ is. first (sym (get_or-take end line at 0 lt) ∙ ap (λ (k : ℕ). get_or (take end line) k 0) (sym e) ∙ is)
  | inr ne ↦ not-backslash _ (plain i (omega (arith, a, ne)) b)
]

pub text-moved : (old : List ℕ) (start end to : ℕ) (line line' : List ℕ) (at put next : ℕ) → PutsText old start end to line at put → at < next → next ≤ end
    → ((i : ℕ) → at ≤ i → i < next → get_or (take end line) i 0 ≢ 92)
    → take (put + (next - at)) line' ≡ take put line ++ take (next - at) (drop at line) → drop next line' ≡ drop next line → length line' ≡ length line → PutsText old start end to line' next (put + (next - at))
text-moved old start end to line line' at put next h more within plain moved rest len =
    let n = next - at in
    let bytes = take end old in
    let place : at + n ≡ next = omega (arith, more) in
    let count : length bytes ≡ end = length-take-le end old h.within in
    let run = text-run bytes at n (omega (arith, place, within, count)) (λ i a b e. plain i a (omega (arith, b, place)) (get_or-take end line i 0 (omega (arith, b, place, within)) ∙ same-byte line old at i a h.rest ∙ sym (get_or-take end old i 0 (omega (arith, b, place, within))) ∙ e)) in
    let bytes-at : take n (drop at line) ≡ take n (drop at bytes) =
    ap (take n) h.rest ∙ sym (take-take n (end - at) (drop at old) (omega (arith, place, within))) ∙ ap (take n) (between_is old at end) in
    record {
      from = omega (arith, h.from);
      order = omega (arith, h.order, place);
      begun = omega (arith, h.begun, more);
      up_to = within;
      within = h.within;
      text = ap (λ (x : List ℕ). x ++ text_after 0 (drop next bytes)) (moved ∙ ap (λ (x : List ℕ). take put line ++ x) bytes-at) ∙ append_assoc (take put line) (take n (drop at bytes)) (text_after 0 (drop next bytes))
          ∙ ap (λ (k : ℕ). take put line ++ (take n (drop at bytes) ++ text_after 0 (drop k bytes))) (sym place) ∙ ap (λ (x : List ℕ). take put line ++ x) (sym run) ∙ h.text;
      rest = rest ∙ later at next line old (omega (arith, more)) h.rest;
      len = len ∙ h.len;
    }

pub text-byte : (old : List ℕ) (start end to : ℕ) (line : List ℕ) (at put byte len : ℕ) → PutsText old start end to line at put → at < end → get_or line at 0 ≡ 92
    → (byte, len) ≡ escape_at (between (at + 1) end line) → len ≤ length (between (at + 1) end line) → PutsText old start end to (set line put byte) (at + (1 + len)) (put + 1)
text-byte old start end to line at put byte len h lt is value few =
    let bytes = take end old in
    let count : length bytes ≡ end = length-take-le end old h.within in
    let after : between (at + 1) end line ≡ drop (at + 1) bytes = ap (take (end - (at + 1))) (later at (at + 1) line old (omega arith) h.rest) ∙ between_is old (at + 1) end in
    let first : get_or bytes at 0 ≡ 92 = get_or-take end old at 0 lt ∙ sym (same-byte line old at at (omega arith) h.rest) ∙ is in
    let next = text-escape bytes at byte len (omega (arith, lt, count)) first (value ∙ ap escape_at after) in
    let size : len ≤ end - (at + 1) = omega (arith, few, ap length after, length-drop (at + 1) bytes, count) in
    let front : take (put + 1) (set line put byte) ≡ take put line ++ byte ∷ [] = take_more_set line put byte (omega (arith, h.order, lt, h.within, h.len)) in
    record {
      from = omega (arith, h.from);
      order = omega (arith, h.order);
      begun = omega (arith, h.begun);
      up_to = omega (arith, size, lt);
      within = h.within;
      text = ap (λ (x : List ℕ). x ++ text_after 0 (drop (at + (1 + len)) bytes)) front ∙ append_assoc (take put line) (byte ∷ []) (text_after 0 (drop (at + (1 + len)) bytes)) ∙ ap (λ (x : List ℕ). take put line ++ x) (sym next) ∙ h.text;
      rest = drop-set-lt (at + (1 + len)) line put byte (omega (arith, h.order)) ∙ later at (at + (1 + len)) line old (omega arith) h.rest;
      len = length-set line put byte ∙ h.len;
    }

pub text-put : (old : List ℕ) (start end to : ℕ) (line : List ℕ) (at put : ℕ) → PutsText old start end to line at put → (at < end → ⊥) → take put line ≡ take to old ++ text_after 0 (between start end old)
text-put old start end to line at put h stop =
    let all : at ≡ end = omega (arith, stop, h.up_to) in
    let bytes = take end old in
    let none : drop at bytes ≡ [] = drop_all at bytes (omega (arith, all, length-take-le end old h.within)) in
    sym (append-nil (take put line)) ∙ ap (λ (x : List ℕ). take put line ++ text_after 0 x) (sym none) ∙ h.text ∙ ap (λ (x : List ℕ). take to old ++ text_after 0 x) (sym (between_is old start end))

-- ---- texts one after the other

-- The texts of the first i fields are put, up to `put`, and the fields from `start` on stand as they did.
pub record PutsTexts (o : Options) (line0 cuts0 line cuts : List ℕ) (start put i : ℕ) : Type 0 where
  pub done : List ℕ
  pub is : cuts ≡ done ++ drop i cuts0
  pub count : length done ≡ i
  pub cut : AreCuts 0 done (length line0)
  pub last : last_cut 0 done ≡ put
  pub values : values_by 0 done line ++ each_by (field_value o) start (drop i cuts0) line0 ≡ each_by (field_value o) 0 cuts0 line0
  pub apart : AreApart start (drop i cuts0) (length line0)
  pub rest : drop start line ≡ drop start line0
  pub len : length line ≡ length line0
  pub order : put ≤ start
  pub within : start ≤ length line0 + 1

pub texts-begin : (o : Options) (line cuts : List ℕ) → AreApart 0 cuts (length line) → PutsTexts o line cuts line cuts 0 0 0
texts-begin o line cuts apart = record {
  done = [];
  is = refl;
  count = refl;
  cut = tt;
  last = refl;
  values = refl;
  apart = apart;
  rest = refl;
  len = refl;
  order = omega arith;
  within = omega arith;
}

-- what stands next
pub record NextCut (o : Options) (line0 cuts0 line : List ℕ) (start i cut : ℕ) : Type 0 where
  pub more : drop i cuts0 ≡ cut ∷ drop (i + 1) cuts0
  pub behind : start < cut
  pub in_range : cut ≤ length line0 + 1
  pub apart : AreApart cut (drop (i + 1) cuts0) (length line0)
  pub field : between start (cut - 1) line ≡ between start (cut - 1) line0

pub next-cut : (o : Options) (line0 cuts0 line cuts : List ℕ) (start put i : ℕ) → i < length cuts → PutsTexts o line0 cuts0 line cuts start put i → NextCut o line0 cuts0 line start i (get_or cuts i 0)
next-cut o line0 cuts0 line cuts start put i lt h =
    let within : i < length cuts0 = omega (arith, lt, ap length h.is, length-append h.done (drop i cuts0), h.count, length-drop i cuts0) in
    let first = get_or cuts0 i 0 in
    let more = drop_more cuts0 i 0 within in
    let same : first ≡ get_or cuts i 0 = sym (ap (λ (xs : List ℕ). get_or xs i 0) (h.is ∙ ap (λ (xs : List ℕ). h.done ++ xs) more) ∙ get_or_at h.done first (drop (i + 1) cuts0) 0 i h.count) in
    let all = more ∙ ap (λ (x : ℕ). x ∷ drop (i + 1) cuts0) same in
    let apart = subst (λ (xs : List ℕ). AreApart start xs (length line0)) all h.apart in
    record {
      more = all;
      behind = apart.0;
      in_range = apart.1;
      apart = apart.2;
      field = ap (take (get_or cuts i 0 - 1 - start)) h.rest;
    }

-- one value more, whose cut is put
put-more : (o : Options) (line0 cuts0 line cuts : List ℕ) (start put i cut : ℕ) (line' : List ℕ) (put' : ℕ) → PutsTexts o line0 cuts0 line cuts start put i → NextCut o line0 cuts0 line start i cut
    → put ≤ put' → put' ≤ cut → take put line' ≡ take put line → value_by put put' line' ≡ field_value o (between start (cut - 1) line0) → drop (cut - 1) line' ≡ drop (cut - 1) line → length line' ≡ length line
    → PutsTexts o line0 cuts0 line' (set cuts i put') cut put' (i + 1)
put-more o line0 cuts0 line cuts start put i cut line' put' h n le up front value rest len =
    let f = field_value o in
    let cs = drop (i + 1) cuts0 in
    let field = between start (cut - 1) line0 in
    let old = values_by 0 h.done line in
    let after = each_by f cut cs line0 in
    let same : values_by 0 h.done line' ≡ old = values-same 0 h.done (length line0) put line' line h.cut (omega (arith, h.last)) front in
    let mine : value_by (last_cut 0 h.done) put' line' ≡ f field = ap (λ (k : ℕ). value_by k put' line') h.last ∙ value in
    record {
      done = h.done ++ put' ∷ [];
      is = ap (λ (xs : List ℕ). set xs i put') (h.is ∙ ap (λ (xs : List ℕ). h.done ++ xs) n.more) ∙ set_at h.done cut cs put' i h.count ∙ sym (append_assoc h.done (put' ∷ []) cs);
      count = omega (arith, length-append h.done (put' ∷ []), h.count);
      cut = cuts-more 0 h.done put' (length line0) (omega (arith, h.last, le)) (omega (arith, up, n.in_range)) h.cut;
      last = last-more 0 h.done put';
      values = ap (λ (row : Row). row ++ after) (values-more 0 h.done put' line') ∙ append_assoc (values_by 0 h.done line') (value_by (last_cut 0 h.done) put' line' ∷ []) after
          ∙ ap (λ (row : Row). row ++ value_by (last_cut 0 h.done) put' line' ∷ after) same ∙ ap (λ (v : Option (List ℕ)). old ++ v ∷ after) mine ∙ ap (λ (xs : List ℕ). old ++ each_by f start xs line0) (sym n.more) ∙ h.values;
      apart = n.apart;
      rest = later (cut - 1) cut line' line (omega arith) rest ∙ later start cut line line0 (omega (arith, n.behind)) h.rest;
      len = len ∙ h.len;
      order = up;
      within = n.in_range;
    }

-- the next field is null
pub put-null : (o : Options) (line0 cuts0 line cuts : List ℕ) (start put i cut : ℕ) → PutsTexts o line0 cuts0 line cuts start put i → NextCut o line0 cuts0 line start i cut → bytes_eq (between start (cut - 1) line) o.null_mark ≡ true
    → PutsTexts o line0 cuts0 line (set cuts i put) cut put (i + 1)
put-null o line0 cuts0 line cuts start put i cut h n null =
    let value : value_by put put line ≡ field_value o (between start (cut - 1) line0) =
    cond-true _ _ _ (eq-eqb put put refl) ∙ sym (cond-true _ _ _ (ap (λ (x : List ℕ). bytes_eq x o.null_mark) (sym n.field) ∙ null)) in
    put-more o line0 cuts0 line cuts start put i cut line put h n (omega arith) (omega (arith, h.order, n.behind)) refl value refl refl

-- the text of the next field is put
pub put-text : (o : Options) (line0 cuts0 line cuts : List ℕ) (start put i cut : ℕ) (line' : List ℕ) (end : ℕ) → PutsTexts o line0 cuts0 line cuts start put i → NextCut o line0 cuts0 line start i cut
    → bytes_eq (between start (cut - 1) line) o.null_mark ≡ false → take end line' ≡ take put line ++ text_after 0 (between start (cut - 1) line) → drop (cut - 1) line' ≡ drop (cut - 1) line → put ≤ end → end ≤ cut - 1 → length line' ≡ length line
    → PutsTexts o line0 cuts0 line' (set cuts i (end + 1)) cut (end + 1) (i + 1)
put-text o line0 cuts0 line cuts start put i cut line' end h n other text rest le up len =
    let field = between start (cut - 1) line0 in
    let t = text_after 0 (between start (cut - 1) line) in
    let count : length (take put line) ≡ put = length-take-le put line (omega (arith, h.order, n.behind, n.in_range, h.len)) in
    let front : take put line' ≡ take put line = sym (take-take put end line' le) ∙ ap (take put) text ∙ take_at (take put line) t put count in
    let mine : between put end line' ≡ t = between_is line' put end ∙ ap (drop put) text ∙ drop_at (take put line) t put count in
    let more : (end + 1) - 1 ≡ end = omega arith in
    let value : value_by put (end + 1) line' ≡ field_value o field =
    cond-false _ _ _ (ne_eqb (end + 1) put (λ e. absurd (omega (arith, e, le)))) ∙ ap (λ (k : ℕ). Some (between put k line')) more ∙ ap (λ (x : List ℕ). Some x) mine
    ∙ sym (cond-false _ _ _ other) ∙ ap (field_value o) n.field in
    put-more o line0 cuts0 line cuts start put i cut line' (end + 1) h n (omega (arith, le)) (omega (arith, up, n.behind)) front value rest len

-- all texts are put
pub texts-put : (o : Options) (line0 line cuts : List ℕ) (start put i : ℕ) → o.delimiter ≢ 92 → PutsTexts o line0 (line_cuts o.delimiter line0) line cuts start put i → (i < length cuts → ⊥) → AreTexts (line_values o line0) cuts line
texts-put o line0 line cuts start put i other h stop =
    let cuts0 = line_cuts o.delimiter line0 in
    let none : drop i cuts0 ≡ [] = empty (drop i cuts0) (omega (arith, stop, ap length h.is, length-append h.done (drop i cuts0), h.count)) in
    let all : cuts ≡ h.done = h.is ∙ ap (λ (xs : List ℕ). h.done ++ xs) none ∙ append-nil h.done in
    record {
      cut = rw (all, h.len) h.cut;
      values = ap (λ (xs : List ℕ). values_by 0 xs line) all ∙ sym (append-nil (values_by 0 h.done line)) ∙ ap (λ (xs : List ℕ). values_by 0 h.done line ++ each_by (field_value o) start xs line0) (sym none) ∙ h.values ∙ sym (line-by (field_value o) o.delimiter line0 other);
    }
  where
    empty : (xs : List ℕ) → length xs ≡ 0 → xs ≡ []
    empty [] e = refl
    empty (x ∷ xs) e = absurd (omega (arith, e))

-- ---- the first line that is kept

-- its fields stand for themselves
pub first-plain : (size : ℕ) (o : Options) (kept : List ℕ) (buffer : RowBytes) (cuts : List ℕ) → o.delimiter ≢ 92 → size ≤ length kept → buffer ≡ record { front = None; kept = kept } → cuts ≡ line_cuts o.delimiter (take size kept)
    → NoBackslash (take size kept) → has_backslash o.null_mark ≡ true → PutsFirst size o kept buffer cuts
first-plain size o kept buffer cuts other within is all plain some = record {
  line = take size kept;
  is = is ∙ ap (λ (bytes : List ℕ). record { front = None; kept = bytes }) (sym (take-append-drop size kept));
  len = length-take-le size kept within;
  texts = rw all (plain-texts o (take size kept) other plain some);
}

-- the row is lent
pub first-held : (size : ℕ) (o : Options) (kept : List ℕ) (cuts line : List ℕ) → AreTexts (line_values o (take size kept)) cuts line → AreHeld cuts (Some (line ++ drop size kept)) × (held_row cuts (Some (line ++ drop size kept)) ≡ Some (line_values o (take size kept)))
first-held size o kept cuts line h =
    let all = texts-front (line_values o (take size kept)) cuts line (drop size kept) h in
    (all.cut, ap (λ (row : Row). Some row) all.values)

pub first-taken : (size taken : ℕ) (kept line : List ℕ) → size ≤ taken → length line ≡ size → drop taken (line ++ drop size kept) ≡ drop taken kept
first-taken size taken kept line le len =
    let place : size + (taken - size) ≡ taken = omega (arith, le) in
    ap (λ (n : ℕ). drop n (line ++ drop size kept)) (sym place) ∙ sym (drop-drop (taken - size) size (line ++ drop size kept)) ∙ ap (drop (taken - size)) (drop_at line (drop size kept) size len)
    ∙ drop-drop (taken - size) size kept ∙ ap (λ (n : ℕ). drop n kept) place

-- a line that was changed in its block
pub put-back : (start size n : ℕ) (block line rest : List ℕ) → start + size ≤ length block → length line ≡ size → n ≡ length block → drop start (take n ((take start block ++ (line ++ drop (start + size - start) (drop start block))) ++ rest)) ≡ line ++ drop size (drop start block)
put-back start size n block line rest within len count =
    let k : start + size - start ≡ size = omega arith in
    let front = take start block in
    let back = drop size (drop start block) in
    let first : length front ≡ start = length-take-le start block (omega (arith, within)) in
    let whole : length (front ++ (line ++ back)) ≡ n = omega (arith, length-append front (line ++ back), length-append line back, first, len, count, within, length-drop size (drop start block), length-drop start block) in
    ap (λ (m : ℕ). drop start (take n ((front ++ (line ++ drop m (drop start block))) ++ rest))) k ∙ ap (drop start) (take_at (front ++ (line ++ back)) rest n whole) ∙ drop_at front (line ++ back) start first
