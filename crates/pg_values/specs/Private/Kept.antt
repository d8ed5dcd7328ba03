-- The fields of an error or a notice in one block of memory: as a message spells them, one after the other, and how long
-- the text of each is.
use Rattle.std.specs.Prelude.{ℕ, ◌+◌, ◌≡◌, ◌≤◌, List, [], ◌∷◌, length, map, take, drop, Option, Some}
use Rattle.pg_codec.specs.declared.value.ErrorField.{ErrorField}
use Rattle.pg_codec.specs.Field.{terminated}
use Rattle.pg_codec.specs.Value.{error_field}
use Rattle.pg_codec.specs.Private.Reader.{mapped_at, terminated_at, error_field_at}
use Rattle.pg_values.specs.Fields.{fields_spelled}
use Rattle.pg_values.specs.Private.View.{fields_left}
use Rattle.pg_values.specs.Private.Block.{longest_block}

-- These bytes are fields and the zero byte that closes them, and nothing after it.
pub record IsFields (bytes : List ℕ) : Type 0 where
  pub read : terminated_at error_field_at bytes ≡ Some (fields_left bytes, [])
  pub whole : (terminated error_field (fields_left bytes)).bytes ≡ bytes

-- the fields whose texts are so long and that these bytes spell, or fewer where the bytes have no more
unfoldable pub fields_kept : List ℕ → List ℕ → List ErrorField
fields_kept [] bytes = []
fields_kept (n ∷ lengths) [] = []
fields_kept (n ∷ lengths) (code ∷ bytes) = record { code = code; value = take n bytes }
    ∷ fields_kept lengths (drop (n + 1) bytes)

-- how long the text of each field is
abbrev pub text_lengths : List ErrorField → List ℕ
text_lengths fields = map (λ f. length f.value) fields

-- how long the texts of the fields are that the bytes begin with, and the bytes after the zero byte that closes them
abbrev pub text_lengths_at : List ℕ → Option (List ℕ × List ℕ)
text_lengths_at bytes = mapped_at text_lengths (terminated_at error_field_at) bytes

-- The block is the spelling of just its fields, the lengths are those of their texts, and the
-- block isn't longer than a message can be.
pub record IsKept (lengths block : List ℕ) : Type 0 where
  pub whole : fields_spelled (fields_kept lengths block) ≡ block
  pub lengths_are : lengths ≡ text_lengths (fields_kept lengths block)
  pub short : length block ≤ longest_block
