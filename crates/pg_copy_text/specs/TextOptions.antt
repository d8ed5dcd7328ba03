-- The options of COPY text (PostgreSQL documentation, page COPY, DELIMITER and NULL): which there
-- are, and why there are no others.
use Rattle.std.specs.Prelude.{◌≡◌, ℕ, ◌==◌, ◌||◌, Bool, false, if◌then◌else◌, List, Option, Some, None, Result, Ok, Err}
use Rattle.std.specs.Char.{is_ascii_digit, is_ascii_lowercase}
use Rattle.std.specs.List.{list_any}
use Rattle.std.specs.Str.{bytes_eq}
use Rattle.pg_copy_rows.specs.declared.fault.OptionFault.{OptionFault}
use Rattle.pg_copy_rows.specs.declared.fault.OptionFault.TheVariants as faults
use Rattle.pg_copy_text.specs.Text.{Options, backslash, newline, carriage_return, end_mark, null_mark, ends_escaped}

-- whether a byte can't separate fields: a newline, a return, a backslash, a dot, a letter from a to
-- z or a digit
abbrev pub is_no_delimiter : ℕ → Bool
is_no_delimiter b =
    b == newline || b == carriage_return || b == backslash || b == 46 || is_ascii_lowercase b
    || is_ascii_digit b

-- whether a byte ends a line or a field, where this delimiter separates the fields
abbrev pub ends_field : ℕ → ℕ → Bool
ends_field delimiter b = b == newline || b == carriage_return || b == delimiter

-- whether bytes can't stand for null: one of them ends a line or a field, they are the end mark, or
-- they end in a lone backslash
abbrev pub is_no_mark : ℕ → List ℕ → Bool
is_no_mark delimiter mark =
    list_any (ends_field delimiter) mark || bytes_eq mark end_mark || ends_escaped false mark

-- why there are no such options, if there are none
abbrev pub options_fault : ℕ → List ℕ → Option OptionFault
options_fault delimiter mark =
    if is_no_delimiter delimiter then Some (faults.Delimiter delimiter)
    else if is_no_mark delimiter mark then Some faults.NullMark
    else None

-- These are options that a reader or a writer may have.
abbrev pub AreOptions : Options → Type 0
AreOptions o = options_fault o.delimiter o.null_mark ≡ None

-- What is returned where options with this delimiter and this null mark are asked for: the options;
-- their fault; or, where they have none, Memory.
abbrev pub MakesOptions : ℕ → List ℕ → Result Options OptionFault → Type 0
MakesOptions delimiter mark (Ok o) = (options_fault delimiter mark ≡ None)
    × (o ≡ record { delimiter = delimiter; null_mark = mark })
MakesOptions delimiter mark (Err faults.Memory) = options_fault delimiter mark ≡ None
MakesOptions delimiter mark (Err f) = options_fault delimiter mark ≡ Some f

-- the bytes of a null, where the options name no others
abbrev pub mark_of : Option (List ℕ) → List ℕ
mark_of None = null_mark
mark_of (Some mark) = mark
