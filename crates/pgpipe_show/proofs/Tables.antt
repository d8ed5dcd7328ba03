-- How the table is put together.
use Rattle.std.proofs.Common.{◌≡◌, ℕ, min, List, ◌++◌, length, drop, codes, decimal, flat_map, Result, Ok, Err, ap, ◌∙◌, append_assoc}
use Rattle.std.specs.Prelude.{OnOk, is_ok, if◌then◌else◌}
use Rattle.pgpipe_show.specs.declared.summary.counts.FrameCount.{FrameCount}
use Rattle.pgpipe_show.specs.Counts.{CountRow, SummaryState}
use Rattle.pgpipe_show.specs.Table.{aligned, headline, row_line, table, table_line}

-- a number was put at the right of twelve places
pub aligned_put : {A E : Type 0} (r : Result A E) (n size : ℕ) (old mid new spaces digits : List ℕ) → digits ≡ decimal n → size ≡ min (length digits) 12 → spaces ≡ drop size (codes "            ") → mid ≡ old ++ spaces → new ≡ (if is_ok r then mid ++ digits else mid) → OnOk r (new ≡ old ++ aligned n)
aligned_put (Ok x) n size old mid new spaces digits digits_are size_is spaces_are put e =
    let width : size ≡ min (length (decimal n)) 12 = size_is ∙ ap (λ (d : List ℕ). min (length d) 12) digits_are in
    let before : spaces ≡ drop (min (length (decimal n)) 12) (codes "            ") = spaces_are ∙ ap (λ (k : ℕ). drop k (codes "            ")) width in
    e ∙ ap (λ (l : List ℕ). l ++ digits) put ∙ append_assoc old spaces digits ∙ ap (λ (l : List ℕ). old ++ (l ++ digits)) before ∙ ap (λ (d : List ℕ). old ++ (drop (min (length (decimal n)) 12) (codes "            ") ++ d)) digits_are
aligned_put (Err x) n size old mid new spaces digits digits_are size_is spaces_are put e = tt

-- the headline, the rows and the total were put
pub table_put : {A E : Type 0} (r : Result A E) (s : SummaryState) (rows : List CountRow) (total : FrameCount) (old headed filled new : List ℕ) → rows ≡ s.rows → total ≡ s.total → headed ≡ old ++ headline → filled ≡ headed ++ flat_map row_line rows → OnOk r (new ≡ filled ++ table_line total (codes "total")) → OnOk r (new ≡ old ++ table s)
table_put (Ok x) s rows total old headed filled new rows_are total_is head fill e =
    let last : List ℕ = table_line s.total (codes "total") in
    let middle : List ℕ = flat_map row_line s.rows in
    let with_total : new ≡ filled ++ last = e ∙ ap (λ (t : FrameCount). filled ++ table_line t (codes "total")) total_is in
    let with_rows : filled ≡ (old ++ headline) ++ middle = fill ∙ ap (λ (l : List CountRow). headed ++ flat_map row_line l) rows_are ∙ ap (λ (l : List ℕ). l ++ middle) head in
    with_total ∙ ap (λ (l : List ℕ). l ++ last) with_rows ∙ append_assoc (old ++ headline) middle last ∙ append_assoc old headline (middle ++ last)
table_put (Err x) s rows total old headed filled new rows_are total_is head fill e = tt
