-- A row that is put.
use Rattle.std.proofs.Common.{◌≡◌, Bool, true, false, List, [], ◌∷◌, ℕ, Option, Some, None, Result, Ok, Err, inr, refl, subst}
use Rattle.std.specs.Option.{IsSome}
use Rattle.pg_copy.specs.fault.RowFault.{RowFault}
use Rattle.pg_copy.specs.fault.RowFault.TheVariants as faults
use Rattle.pg_copy.specs.Row.{Row, Writes}
use Rattle.pgpipe_base.specs.declared.stop.Stop.{Stop}
use Rattle.pgpipe_convert.specs.declared.convert.Converted.{Converted}
use Rattle.pgpipe_convert.specs.declared.copy_rows.RowReader.{RowReader}
use Rattle.pgpipe_convert.specs.Convert.{FileWriting}
use Rattle.pgpipe_convert.specs.Private.Converting.{row_stop, ReadsOn, GivesRow, WritesRow, PutsNext}
use Rattle.pg_copy.specs.Lent.{as_next, Lends}

-- a writer's answer, with the stop for its fault
abbrev pub stopped_row : Result Unit RowFault → Result Bool (Stop Converted)
stopped_row (Ok x) = Ok true
stopped_row (Err f) = Err (row_stop f)

pub row_puts : (to : FileWriting) (row : Row) (out : List ℕ) (r : Result Unit RowFault) (out' : List ℕ) → Writes (to.row_fault row) (to.row row) out r out' → WritesRow to row out (stopped_row r) out'
row_puts to row out (Ok x) out' w = w
row_puts to row out (Err (faults.Width n)) out' w = w
row_puts to row out (Err faults.FieldLong) out' w = w
row_puts to row out (Err (faults.LikeNull n)) out' w = w
row_puts to row out (Err faults.Memory) out' w = w

-- ---- the next row

-- a row that the reader gives was put, or not
pub row_next : (at_end : Bool) (to : FileWriting) (r r' : RowReader) (row : Row) (out : List ℕ) (result : Result Bool (Stop Converted)) (out' : List ℕ) → ReadsOn at_end r (row ∷ []) r' → WritesRow to row out result out' → PutsNext at_end to r out result r' out'
row_next at_end to r r' row out (Ok true) out' on w = (row, on, w)
row_next at_end to r r' row out (Ok false) out' on w = absurd w
row_next at_end to r r' row out (Err s) out' on w = inr (row, on, w)

-- the same of a row that is lent
pub lent_next : (at_end : Bool) (to : FileWriting) (r r' : RowReader) (held : Option Row) (out : List ℕ) (result : Result Bool (Stop Converted)) (out' : List ℕ) → IsSome held → GivesRow at_end r (Ok held) r' → ((row : Row) → held ≡ Some row → WritesRow to row out result out') → PutsNext at_end to r out result r' out'
lent_next at_end to r r' (Some row) out result out' some on w = row_next at_end to r r' row out result out' on (w row refl)
lent_next at_end to r r' None out result out' some on w = absurd cc

-- the row that `next_lent` lends comes next
pub lent_reads_on : (at_end : Bool) (r r' : RowReader) (held : Option Row) (lends : Bool) (row : Row) → lends ≡ true → held ≡ Some row → GivesRow at_end r (as_next (Ok lends) held) r' → ReadsOn at_end r (row ∷ []) r'
lent_reads_on at_end r r' (Some x) true row e k g =
    let same : x ≡ row = cc in
    subst (λ (y : Row). ReadsOn at_end r (y ∷ []) r') same g
lent_reads_on at_end r r' None true row e k g = absurd cc
lent_reads_on at_end r r' held false row e k g = absurd cc

-- what was made of the row that is lent
pub held_written : (to : FileWriting) (held : Option Row) (mine : Row) (out : List ℕ) (result : Result Bool (Stop Converted)) (out' : List ℕ) → held ≡ Some mine → WritesRow to mine out result out' → (row : Row) → held ≡ Some row → WritesRow to row out result out'
held_written to held mine out result out' e w row is =
    let same : mine ≡ row = cc (is, e) in
    subst (λ (r : Row). WritesRow to r out result out') same w

-- what `next_lent` answered, and what was made of the row that it lent
pub lent_puts : (at_end : Bool) (to : FileWriting) (r r' : RowReader) (held : Option Row) (lends : Bool) (out : List ℕ) (result : Result Bool (Stop Converted)) (out' : List ℕ) → lends ≡ true → Lends {F = Stop Converted} (Ok lends) held → GivesRow at_end r (as_next (Ok lends) held) r' → ((row : Row) → held ≡ Some row → WritesRow to row out result out') → PutsNext at_end to r out result r' out'
lent_puts at_end to r r' held true out result out' e some g w = lent_next at_end to r r' held out result out' some g w
lent_puts at_end to r r' held false out result out' e some g w = absurd cc

pub none_lent : (at_end : Bool) (to : FileWriting) (r r' : RowReader) (held : Option Row) (lends : Bool) (out : List ℕ) → lends ≡ false → GivesRow at_end r (as_next (Ok lends) held) r' → PutsNext at_end to r out (Ok false) r' out
none_lent at_end to r r' held true out e g = absurd cc
none_lent at_end to r r' held false out e g = (g, refl)
