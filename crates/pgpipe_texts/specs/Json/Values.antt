-- The JSON values that bytes, numbers and lists are shown as (RFC 8259, by the definitions of
-- serde_json).
use Rattle.std.specs.Prelude.{ℕ, ℤ, true, if◌then◌else◌, List, Option, None, Some, codes, map}
use Rattle.std.specs.Str.{is_utf8}
use Rattle.hex.specs.Hex.{encode_lower}
use Rattle.serde_json.specs.Data.{Data, null, boolean, number, string, array, object, unsigned, no_members, member}
use Rattle.serde_json.specs.Find.{of_integer}
use Rattle.serde_json.specs.View.{items_of}

-- bytes in hexadecimal: an object with the one key `hex`
abbrev pub hex_json : List ℕ → Data
hex_json bytes = object (member (codes "hex") (string (encode_lower bytes)) no_members)

-- bytes as the text that they are, if they are UTF-8
abbrev pub utf8_text : List ℕ → Option (List ℕ)
utf8_text bytes = if is_utf8 bytes then Some bytes else None

-- a text as a string, or without one these bytes in hexadecimal
abbrev pub text_or_hex : List ℕ → Option (List ℕ) → Data
text_or_hex bytes (Some text) = string text
text_or_hex bytes None = hex_json bytes

-- Bytes: a string where they are UTF-8, and else in hexadecimal. No other value is an object with the
-- one key `hex`, so no byte is lost.
abbrev pub text_json : List ℕ → Data
text_json bytes = text_or_hex bytes (utf8_text bytes)

-- what isn't shown: an object with the one key `hidden`
abbrev pub hidden_json : Data
hidden_json = object (member (codes "hidden") (boolean true) no_members)

-- bytes that may be missing, as a value that is NULL
abbrev pub text_or_null : Option (List ℕ) → Data
text_or_null None = null
text_or_null (Some bytes) = text_json bytes

-- a word that may be missing
abbrev pub word_or_null : Option (List ℕ) → Data
word_or_null None = null
word_or_null (Some word) = string word

-- a number without a sign
abbrev pub count_json : ℕ → Data
count_json n = number (unsigned n)

-- a number with a sign
abbrev pub signed_json : ℤ → Data
signed_json z = number (of_integer z)

-- a list: the value of each element, in order
abbrev pub list_json : {A : Type 0} → (A → Data) → List A → Data
list_json json xs = array (items_of (map json xs))
