-- The rows that a map holds, beside those that a clause sees.
use Rattle.std.proofs.Common.{◌≡◌, ℕ, List, [], ◌∷◌, Option, Some, Ordering, Less, Equal, Greater, nat_cmp, refl, ◌∙◌, cond, is_eq}
use Rattle.std.specs.Cmp.Lexicographic.{slice_cmp}
use Rattle.std.specs.Map.{lookup}
use Rattle.std.specs.Ordering.{match_ordering}
use Rattle.std.specs.Prelude.{Vec, unwrap_or}
use Rattle.std.specs.BTreeMap.{insert_entry, is_at}
use Rattle.std.specs.declared.alloc.Global.{Global}
use Rattle.pgpipe_show.specs.declared.summary.counts.FrameCount.{FrameCount}
use Rattle.pgpipe_show.specs.Counts.{counted_at, none_counted, with_row}
use Rattle.pgpipe_show.specs.Private.CountMap.{Entry, rows_of}

by_order : (o : Ordering) (a b c : List Entry) → rows_of (match_ordering o a b c) ≡ match_ordering o (rows_of a) (rows_of b) (rows_of c)
by_order Less a b c = refl
by_order Equal a b c = refl
by_order Greater a b c = refl

-- how two labels compare
abbrev pub label_cmp : Vec ℕ Global → Vec ℕ Global → Ordering
label_cmp k l = slice_cmp nat_cmp k.items l.items

-- what is put at a label
pub row_put : (es : List Entry) (k : Vec ℕ Global) (c : FrameCount) → rows_of (insert_entry label_cmp es k c) ≡ with_row k.items c (rows_of es)
row_put [] k c = refl
row_put (e ∷ es) k c = by_order (label_cmp k e.0) _ _ _ ∙ rw (row_put es k c) refl

found_or : (o : Ordering) (c : FrameCount) (rest : Option FrameCount) (d : FrameCount) → unwrap_or rest none_counted ≡ d → unwrap_or (cond (is_eq o) (Some c) rest) none_counted ≡ match_ordering o d c d
found_or Less c rest d e = e
found_or Equal c rest d e = refl
found_or Greater c rest d e = e

-- what stands at a label
pub row_found : (label : List ℕ) (es : List Entry) → unwrap_or (lookup (is_at (λ (k : Vec ℕ Global). slice_cmp nat_cmp label k.items)) es) none_counted ≡ counted_at label (rows_of es)
row_found label [] = refl
row_found label (e ∷ es) = found_or (slice_cmp nat_cmp label e.0.items) e.1 _ _ (row_found label es)
