-- The options of COPY text that words say.
use Rattle.std.specs.Prelude.{ℕ, ◌≡◌, List, [], ◌∷◌, Option, Some, None, Result, Ok, Err}
use Rattle.pg_copy.specs.Text.{Options}
use Rattle.pg_copy.specs.TextOptions.{options_fault}
use Rattle.pgpipe_reasons.specs.declared.failure.Failure.{Failure}
use Rattle.pgpipe_reasons.specs.declared.failure.Failure.TheVariants as failure

-- the byte of a text that has exactly one
abbrev pub only_byte : List ℕ → Option ℕ
only_byte (b ∷ []) = Some b
only_byte _ = None

-- What came of a delimiter and a null mark: the options that they are; or the delimiter isn't one
-- byte, or there are no such options, or memory ran out.
abbrev pub ReadsOptions : Option ℕ → List ℕ → Result Options Failure → Type 0
ReadsOptions None mark r = r ≡ Err failure.Delimiter
ReadsOptions (Some b) mark (Ok o) = (options_fault b mark ≡ None)
    × (o ≡ record { delimiter = b; null_mark = mark })
ReadsOptions (Some b) mark (Err (failure.Options f)) = options_fault b mark ≡ Some f
ReadsOptions (Some b) mark (Err failure.Memory) = options_fault b mark ≡ None
ReadsOptions (Some b) mark (Err _) = ⊥
