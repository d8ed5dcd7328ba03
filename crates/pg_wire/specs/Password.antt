-- The text of a frontend's answer to AuthenticationMD5Password ("Start-up" in "Message Flow").
use Rattle.std.specs.Prelude.{List, ℕ, ◌++◌, codes}
use Rattle.hex.specs.Hex.{encode_lower}
use Rattle.md5.specs.Md5.{md5}

-- SQL's md5(): the digest of a text in lower-case hexadecimal digits
abbrev pub hex_digest : List ℕ → List ℕ
hex_digest text = encode_lower (md5 text)

-- the text that answers an AuthMd5, of user, password and salt; in the documentation's words
-- concat('md5', md5(concat(md5(concat(password, username)), random-salt)))
unfoldable pub md5_text : List ℕ → List ℕ → List ℕ → List ℕ
md5_text user password salt = codes "md5" ++ hex_digest (hex_digest (password ++ user) ++ salt)
