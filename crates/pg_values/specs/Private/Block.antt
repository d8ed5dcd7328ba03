-- Values in one block of memory: as a row spells them, one after the other, and where each begins.
use Rattle.std.specs.Prelude.{ℕ, ◌+◌, ◌-◌, ◌*◌, ◌<◌, ◌≡◌, ◌≤◌, List, [], length, take, drop, Option, Some}
use Rattle.std.specs.List.{flat_map}
use Rattle.std.specs.Int.{w32, from_le_bytes}
use Rattle.pg_codec.specs.Field.{value_bytes}
use Rattle.pg_codec.specs.Private.Reader.{times_at, value_at}
use Rattle.pg_values.specs.Private.View.{values_left}

-- the values as a row spells them, one after the other
abbrev pub spelled : List (Option (List ℕ)) → List ℕ
spelled values = flat_map value_bytes values

-- These bytes are so many values, and nothing after them.
pub record IsRow (count : ℕ) (bytes : List ℕ) : Type 0 where
  pub read : times_at value_at count bytes ≡ Some (values_left count bytes, [])
  pub whole : spelled (values_left count bytes) ≡ bytes
  pub count_is : length (values_left count bytes) ≡ count

-- where the value of this index begins among these
abbrev pub start_of : List (Option (List ℕ)) → ℕ → ℕ
start_of values i = length (spelled (take i values))

-- where the value of this index begins, as the end of a block says: in four bytes for each value,
-- those of the first last
abbrev pub noted_in : List ℕ → ℕ → ℕ
noted_in block i = from_le_bytes w32 (take 4 (drop (length block - (4 * i + 4)) block))

-- the most bytes that the values of a block have
abbrev pub longest_block : ℕ
longest_block = 1073741823

-- The first `size` bytes of the block are so many values, and a message can have as many bytes. The
-- end of the block says where each value begins.
pub record IsBlock (count size : ℕ) (block : List ℕ) : Type 0 where
  pub row : IsRow count (take size block)
  pub noted : (i : ℕ) → i < count
      → noted_in block i ≡ start_of (values_left count (take size block)) i
  pub fits : size + 4 * count ≤ length block
  pub short : size ≤ longest_block

-- Another block has the same values, and says the same of where they begin.
pub record HasSame (count size : ℕ) (old new : List ℕ) : Type 0 where
  pub values : take size new ≡ take size old
  pub noted : drop (length new - 4 * count) new ≡ drop (length old - 4 * count) old
