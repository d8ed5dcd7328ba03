-- How the rows of a file are put, one by one.
use Rattle.std.proofs.Common.{◌≡◌, ℕ, ◌<◌, Bool, true, false, List, [], ◌∷◌, ◌++◌, Result, Ok, Err, inl, inr, refl, sym, ap, subst, ◌∙◌, append-nil, append_assoc, length, length-append, arith}
use Rattle.std.specs.List.{flat_map, AllByRecursion}
use Rattle.std.proofs.lemmas.Grind.{flat_map-append}
use Rattle.pg_copy.specs.Reading.{RowsRead, Bad, after_rows}
use Rattle.pg_copy.specs.Row.{Row}
use Rattle.pg_wire.specs.declared.link.LinkFault.{LinkFault}
use Rattle.pgpipe_convert.specs.declared.convert.Converted.{Converted}
use Rattle.pgpipe_convert.specs.declared.convert.Converted.TheVariants as converted
use Rattle.pgpipe_base.specs.declared.stop.Stop.{Stop}
use Rattle.pgpipe_base.specs.declared.stop.Stop.TheVariants as stop
use Rattle.pgpipe_convert.specs.declared.copy_rows.RowReader.{RowReader}
use Rattle.pgpipe_convert.specs.declared.copy_rows.RowReader.TheVariants as reader
use Rattle.pgpipe_convert.specs.Convert.{FileReading, FileWriting, answered, none_left, IsWritable}
use Rattle.pgpipe_convert.specs.Private.Converting.{file_by, ended_of, rows_left, HasReadBy, ComeNext, ReadsOn, GivesRow, WritesRow, PutsNext, SendsMuch, RowsArePut, PutsRows}
use Rattle.pgpipe_base.specs.Outbox.{StaysWithin}
use Rattle.pgpipe_base.specs.Outbox.{Puts}
use Rattle.pgpipe_base.proofs.Pieces.{puts_none, puts_then, puts_as, puts_collected}
use Rattle.pgpipe_convert.proofs.Readers.{reading_of}

-- All rows of a list, and one more.
pub one_more_writable : (to : FileWriting) (rows : List Row) (row : Row) → AllByRecursion (IsWritable to) rows → IsWritable to row → AllByRecursion (IsWritable to) (rows ++ row ∷ [])
one_more_writable to [] row all one = (one, tt)
one_more_writable to (r ∷ rows) row all one = (all.0, one_more_writable to rows row all.1 one)

-- what was given is the beginning of the file, and the rest is left
pub is_first : (at_end : Bool) (r : RowReader) (bytes : List ℕ) (given : List Row) → (at_end ≡ false → ended_of r ≡ false) → HasReadBy r bytes given → file_by r at_end bytes ≡ after_rows given (rows_left at_end r)
is_first false (reader.Text s) bytes given begun h = ap (λ (l : List ℕ). file_by (reader.Text s) false l) (sym (append-nil bytes)) ∙ ap (answered converted.Text) (h.so_far (begun refl) [])
is_first true (reader.Text s) bytes given begun h = ap (answered converted.Text) h.in_all
is_first false (reader.Binary s) bytes given begun h = ap (λ (l : List ℕ). file_by (reader.Binary s) false l) (sym (append-nil bytes)) ∙ ap (answered converted.Binary) (h.so_far (begun refl) [])
is_first true (reader.Binary s) bytes given begun h = ap (answered converted.Binary) h.in_all

-- Rows were put, and the reader goes on after them.
pub record Grows {K : Type 0} (takes : K → List ℕ → K → Type 0) (failures : K → ℕ) (at_end : Bool) (to : FileWriting) (r : RowReader) (out : List ℕ) (sink : K) (r' : RowReader) (out' : List ℕ) (sink' : K) : Type 0 where
  pub rows : List Row
  pub each_writable : AllByRecursion (IsWritable to) rows
  pub goes_on : ReadsOn at_end r rows r'
  pub put : Puts {A = Unit {0}} takes failures out sink (flat_map to.row rows) (Ok tt) out' sink'
  pub within : StaysWithin out out'

abbrev in_front : List Row → RowsRead Converted → RowsRead Converted
in_front rows left = record { rows = rows ++ left.rows; ending = left.ending }

abbrev of_file : (Bool → List ℕ → RowsRead Converted) → Bool → List ℕ → RowsRead Converted
of_file file at_end bytes = file at_end bytes

-- what comes next at one reader comes after the rows that lead to it
pub come_after : (at_end : Bool) (r : RowReader) (rows : List Row) (r' : RowReader) (more : List Row) (left : RowsRead Converted) → ReadsOn at_end r rows r' → ComeNext at_end r' more left → ComeNext at_end r (rows ++ more) left
come_after at_end r rows r' more left on next bytes given h =
    ap (λ (f : FileReading). of_file f at_end bytes) (sym on.same) ∙ next bytes (given ++ rows) (on.read bytes given h) ∙ ap (λ (l : List Row). in_front l left) (append_assoc given rows more)

-- what is left comes next, after no row
pub left_next : (at_end : Bool) (r : RowReader) (rows : List Row) (r' : RowReader) → (at_end ≡ false → ended_of r ≡ false) → ReadsOn at_end r rows r' → ComeNext at_end r rows (rows_left at_end r')
left_next at_end r rows r' begun on bytes given h = ap (λ (f : FileReading). of_file f at_end bytes) (sym on.same) ∙ is_first at_end r' bytes (given ++ rows) on.may_go_on (on.read bytes given h)

pub goes_on_none : (at_end : Bool) (r : RowReader) → (at_end ≡ false → ended_of r ≡ false) → ReadsOn at_end r [] r
goes_on_none at_end r begun = record { same = refl; may_go_on = begun; read = λ bytes given h. subst (λ (l : List Row). HasReadBy r bytes l) (sym (append-nil given)) h }

pub goes_on_then : (at_end : Bool) (r : RowReader) (rows : List Row) (r' : RowReader) (more : List Row) (r'' : RowReader) → ReadsOn at_end r rows r' → ReadsOn at_end r' more r'' → ReadsOn at_end r (rows ++ more) r''
goes_on_then at_end r rows r' more r'' on on' = record {
  same = on'.same ∙ on.same;
  may_go_on = on'.may_go_on;
  read = λ bytes given h. subst (λ (l : List Row). HasReadBy r'' bytes l) (append_assoc given rows more) (on'.read bytes (given ++ rows) (on.read bytes given h));
}

-- a row fewer is left
pub fewer_left : (at_end : Bool) (r : RowReader) (row : Row) (r' : RowReader) (bytes : List ℕ) (given : List Row) → (at_end ≡ false → ended_of r ≡ false) → HasReadBy r bytes given → ReadsOn at_end r (row ∷ []) r' → length (rows_left at_end r').rows < length (rows_left at_end r).rows
fewer_left at_end r row r' bytes given begun h on =
    let before = is_first at_end r bytes given begun h in
    let after = left_next at_end r (row ∷ []) r' begun on bytes given h in
    omega (arith, ap (λ (x : RowsRead Converted). length x.rows) (sym before ∙ after), length-append given (rows_left at_end r).rows, length-append (given ++ row ∷ []) (rows_left at_end r').rows, length-append given (row ∷ []))

module _ {K : Type 0} (takes : K → List ℕ → K → Type 0) (failures : K → ℕ) (at_end : Bool) (to : FileWriting) (r : RowReader) (out : List ℕ) (sink : K) where
  spelled-append : (xs ys : List Row) → flat_map to.row xs ++ flat_map to.row ys ≡ flat_map to.row (xs ++ ys)
  spelled-append xs ys = sym (flat_map-append to.row xs ys)

  pub grows_none : (at_end ≡ false → ended_of r ≡ false) → Grows takes failures at_end to r out sink r out sink
  grows_none begun = record { rows = []; each_writable = tt; goes_on = goes_on_none at_end r begun; put = puts_none takes failures out sink; within = λ w. w }

  spelled_one : (rows : List Row) (row : Row) → flat_map to.row rows ++ to.row row ≡ flat_map to.row (rows ++ row ∷ [])
  spelled_one rows row = ap (λ (l : List ℕ). flat_map to.row rows ++ l) (sym (append-nil (to.row row))) ∙ spelled-append rows (row ∷ [])

  -- a row more is put
  put_more : {A : Type 0} (rows : List Row) (row : Row) (out' : List ℕ) (sink' : K) (result : Result A LinkFault) (out'' : List ℕ) (sink'' : K) → Puts {A = Unit {0}} takes failures out sink (flat_map to.row rows) (Ok tt) out' sink' → Puts {A = A} takes failures out' sink' (to.row row) result out'' sink''
      → Puts {A = A} takes failures out sink (flat_map to.row (rows ++ row ∷ [])) result out'' sink''
  put_more {A} rows row out' sink' result out'' sink'' p q = subst (λ (t : List ℕ). Puts {A = A} takes failures out sink t result out'' sink'') (spelled_one rows row) (puts_then takes failures out sink (flat_map to.row rows) out' sink' (to.row row) result out'' sink'' p q)

  -- a row that was put, and then sent so far as the result says
  row_put : {A : Type 0} (row : Row) (out' : List ℕ) (sink' : K) (mid : List ℕ) (result : Result A LinkFault) (out'' : List ℕ) (sink'' : K) → mid ≡ out' ++ to.row row → Puts {A = A} takes failures mid sink' [] result out'' sink'' → Puts {A = A} takes failures out' sink' (to.row row) result out'' sink''
  row_put {A} row out' sink' mid result out'' sink'' e q = puts_as takes failures out' sink' (to.row row ++ []) (to.row row) result out'' sink'' (append-nil (to.row row)) (puts_then takes failures out' sink' (to.row row) mid sink' [] result out'' sink'' (puts_collected takes failures out' sink' (to.row row) mid e) q)

  pub grows_more : (r' : RowReader) (out' : List ℕ) (sink' : K) (r'' : RowReader) (mid : List ℕ) (out'' : List ℕ) (sink'' : K) → Grows takes failures at_end to r out sink r' out' sink' → PutsNext at_end to r' out' (Ok true) r'' mid → SendsMuch takes failures mid sink' (Ok tt) out'' sink''
      → Grows takes failures at_end to r out sink r'' out'' sink''
  grows_more r' out' sink' r'' mid out'' sink'' g n p = record {
    rows = g.rows ++ n.0 ∷ [];
    each_writable = one_more_writable to g.rows n.0 g.each_writable n.2.0;
    goes_on = goes_on_then at_end r g.rows r' (n.0 ∷ []) r'' g.goes_on n.1;
    put = put_more g.rows n.0 out' sink' (Ok tt) out'' sink'' g.put (row_put n.0 out' sink' mid (Ok tt) out'' sink'' n.2.1 p.0);
    within = λ w. p.1;
  }

  -- what was put before the work stops
  were_put : (r' : RowReader) (out' : List ℕ) (sink' : K) (left : RowsRead Converted) → Grows takes failures at_end to r out sink r' out' sink' → ComeNext at_end r' [] left → RowsArePut {A = Unit {0}} takes failures at_end to r out sink left (Ok tt) out' sink'
  were_put r' out' sink' left g next = record {
    rows = g.rows;
    each_writable = g.each_writable;
    come_next = subst (λ (l : List Row). ComeNext at_end r l left) (append-nil g.rows) (come_after at_end r g.rows r' [] left g.goes_on next);
    put = g.put;
    within = g.within;
  }

  -- no row is left
  pub rows_end : (r' : RowReader) (out' : List ℕ) (sink' : K) (r'' : RowReader) (mid : List ℕ) → Grows takes failures at_end to r out sink r' out' sink' → PutsNext at_end to r' out' (Ok false) r'' mid → PutsRows takes failures at_end to r out sink (Ok tt) r'' mid sink'
  unfolding were_put
  rows_end r' out' sink' r'' mid g m =
      let n = m.0 in
      let put = were_put r' out' sink' (none_left n.1) g n.3 in
      rw m.1 (n.1, n.2, put, subst (λ (l : List Row). ReadsOn at_end r l r'') (append-nil g.rows) (goes_on_then at_end r g.rows r' [] r'' g.goes_on n.0))

  -- the reader answers no row
  rows_stop : (r' : RowReader) (out' : List ℕ) (sink' : K) (s : Stop Converted) (r'' : RowReader) → (at_end ≡ false → ended_of r ≡ false) → Grows takes failures at_end to r out sink r' out' sink' → GivesRow at_end r' (Err s) r'' → PutsRows takes failures at_end to r out sink (Err s) r'' out' sink'
  rows_stop r' out' sink' (stop.Answer converted.Whole) r'' begun g n = n
  rows_stop r' out' sink' (stop.Answer (converted.Text f)) r'' begun g n = (none_left (Bad (converted.Text f)), refl, were_put r' out' sink' (none_left (Bad (converted.Text f))) g n)
  rows_stop r' out' sink' (stop.Answer (converted.Binary f)) r'' begun g n = (none_left (Bad (converted.Binary f)), refl, were_put r' out' sink' (none_left (Bad (converted.Binary f))) g n)
  rows_stop r' out' sink' (stop.Answer (converted.Row f)) r'' begun g n = absurd n
  rows_stop r' out' sink' stop.Memory r'' begun g n = (rows_left at_end r', record { rows = g.rows; each_writable = g.each_writable; come_next = left_next at_end r g.rows r' begun g.goes_on; put = g.put; within = g.within })
  rows_stop r' out' sink' stop.SourceFailed r'' begun g n = n
  rows_stop r' out' sink' stop.SinkFailed r'' begun g n = absurd n
  rows_stop r' out' sink' stop.Endless r'' begun g n = n

  -- a row is not put
  row_stops : (r' : RowReader) (out' : List ℕ) (sink' : K) (row : Row) (r'' : RowReader) (s : Stop Converted) (mid : List ℕ) → (at_end ≡ false → ended_of r ≡ false) → Grows takes failures at_end to r out sink r' out' sink' → ReadsOn at_end r' (row ∷ []) r''
      → WritesRow to row out' (Err s) mid → PutsRows takes failures at_end to r out sink (Err s) r'' mid sink'
  row_stops r' out' sink' row r'' (stop.Answer converted.Whole) mid begun g on p = p
  row_stops r' out' sink' row r'' (stop.Answer (converted.Text f)) mid begun g on p = absurd p
  row_stops r' out' sink' row r'' (stop.Answer (converted.Binary f)) mid begun g on p = absurd p
  row_stops r' out' sink' row r'' (stop.Answer (converted.Row f)) mid begun g on p =
      let left = after_rows (row ∷ []) (rows_left at_end r'') in
      let next : ComeNext at_end r' [] left = λ bytes given h. left_next at_end r' (row ∷ []) r'' g.goes_on.may_go_on on bytes given h ∙ ap (λ (l : List Row). reading_of l (rows_left at_end r'').ending) (append_assoc given (row ∷ []) (rows_left at_end r'').rows ∙ ap (λ (l : List Row). l ++ (row ∷ (rows_left at_end r'').rows)) (sym (append-nil given))) in
      (left, (row, rows_left at_end r'', refl, p.0), rw p.1 (were_put r' out' sink' left g next))
  row_stops r' out' sink' row r'' stop.Memory mid begun g on p = (rows_left at_end r', rw p.1 (record { rows = g.rows; each_writable = g.each_writable; come_next = left_next at_end r g.rows r' begun g.goes_on; put = g.put; within = g.within }))
  row_stops r' out' sink' row r'' stop.SourceFailed mid begun g on p = p
  row_stops r' out' sink' row r'' stop.SinkFailed mid begun g on p = absurd p
  row_stops r' out' sink' row r'' stop.Endless mid begun g on p = p

  -- no next row is put
  pub next_stops : (r' : RowReader) (out' : List ℕ) (sink' : K) (r'' : RowReader) (s : Stop Converted) (mid : List ℕ) → (at_end ≡ false → ended_of r ≡ false) → Grows takes failures at_end to r out sink r' out' sink' → PutsNext at_end to r' out' (Err s) r'' mid → PutsRows takes failures at_end to r out sink (Err s) r'' mid sink'
  next_stops r' out' sink' r'' s mid begun g (inl n) = rw n.1 (rows_stop r' out' sink' s r'' begun g n.0)
  next_stops r' out' sink' r'' s mid begun g (inr n) = row_stops r' out' sink' n.0 r'' s mid begun g n.1 n.2

  -- a row was put, and the sink failed
  pub send_stops : (r' : RowReader) (out' : List ℕ) (sink' : K) (r'' : RowReader) (mid : List ℕ) (s : Stop Converted) (out'' : List ℕ) (sink'' : K) → (at_end ≡ false → ended_of r ≡ false) → Grows takes failures at_end to r out sink r' out' sink' → PutsNext at_end to r' out' (Ok true) r'' mid → SendsMuch takes failures mid sink' (Err s) out'' sink''
      → PutsRows takes failures at_end to r out sink (Err s) r'' out'' sink''
  send_stops r' out' sink' r'' mid (stop.Answer c) out'' sink'' begun g n p = absurd p
  send_stops r' out' sink' r'' mid stop.Memory out'' sink'' begun g n p = absurd p
  send_stops r' out' sink' r'' mid stop.SourceFailed out'' sink'' begun g n p = p
  send_stops r' out' sink' r'' mid stop.SinkFailed out'' sink'' begun g n p =
      let row = n.0 in
      let more = goes_on_then at_end r g.rows r' (row ∷ []) r'' g.goes_on n.1 in (
        rows_left at_end r'',
        p.0,
        record {
          rows = g.rows ++ row ∷ [];
          each_writable = one_more_writable to g.rows row g.each_writable n.2.0;
          come_next = left_next at_end r (g.rows ++ row ∷ []) r'' begun more;
          put = put_more g.rows row out' sink' (Err p.0) out'' sink'' g.put (row_put row out' sink' mid (Err p.0) out'' sink'' n.2.1 p.1);
          within = tt;
        },
      )
  send_stops r' out' sink' r'' mid stop.Endless out'' sink'' begun g n p = p

-- ---- what was put is sent

module _ {K : Type 0} (takes : K → List ℕ → K → Type 0) (failures : K → ℕ) (at_end : Bool) (to : FileWriting) (r : RowReader) (out : List ℕ) (sink : K) (r' : RowReader) (out' : List ℕ) (sink' : K) (p : PutsRows takes failures at_end to r out sink (Ok tt) r' out' sink') where
  abbrev all_sent : {A : Type 0} (result : Result A LinkFault) (out'' : List ℕ) (sink'' : K) → Puts {A = A} takes failures out' sink' [] result out'' sink'' → Puts {A = A} takes failures out sink (flat_map to.row p.2.rows) result out'' sink''
  all_sent {A} result out'' sink'' q = puts_as takes failures out sink (flat_map to.row p.2.rows ++ []) (flat_map to.row p.2.rows) result out'' sink'' (append-nil (flat_map to.row p.2.rows)) (puts_then takes failures out sink (flat_map to.row p.2.rows) out' sink' [] result out'' sink'' p.2.put q)

  pub rows_sent : (out'' : List ℕ) (sink'' : K) → Puts {A = Unit {0}} takes failures out' sink' [] (Ok tt) out'' sink'' → out'' ≡ [] → PutsRows takes failures at_end to r out sink (Ok tt) r' out'' sink''
  rows_sent out'' sink'' q none = (p.0, p.1, record { rows = p.2.rows; each_writable = p.2.each_writable; come_next = p.2.come_next; put = all_sent (Ok tt) out'' sink'' q; within = λ w. omega (arith, ap (λ (l : List ℕ). length l) none) }, p.3)

  pub rows_unsent : (f : LinkFault) (out'' : List ℕ) (sink'' : K) → Puts {A = Unit {0}} takes failures out' sink' [] (Err f) out'' sink'' → PutsRows takes failures at_end to r out sink (Err stop.SinkFailed) r' out'' sink''
  rows_unsent f out'' sink'' q = (none_left p.0, f, record { rows = p.2.rows; each_writable = p.2.each_writable; come_next = p.2.come_next; put = all_sent (Err f) out'' sink'' q; within = tt })
