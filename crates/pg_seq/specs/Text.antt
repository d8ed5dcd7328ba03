-- What `{:?}` writes of a list of bytes.
use Rattle.std.specs.Prelude.{ℕ, List, ◌++◌, flat_map, codes, encode_utf8_all}
use Rattle.std.specs.Char.Escape.{escape_ascii}

-- a byte as it stands in a byte string of Rust: the byte itself, or an escape, as `\n` or `\x00`
abbrev pub escaped_byte : ℕ → List ℕ
escaped_byte b = encode_utf8_all (escape_ascii b)

-- bytes as a byte string of Rust, as `b"ab\x00"`
abbrev pub byte_text : List ℕ → List ℕ
byte_text bs = codes "b\"" ++ flat_map escaped_byte bs ++ codes "\""
