-- Worked examples of decoded lines, computed from the definitions alone but for the decimal numbers.
use Rattle.std.proofs.Common.{◌≡◌, ℕ, List, ◌∷◌, ◌++◌, codes, refl, ap, arith}
use Rattle.std.proofs.lemmas.Fmt.{decimal_digit}
use Rattle.pg_wire.specs.message.FrontMessage.TheVariants.{Query, Password}
use Rattle.pgpipe_frames.specs.Frontend.{front_text}
use Rattle.pgpipe_frames.specs.Other.{data_back_name, other_back, other_text, plain_back_name, shown_or_hidden, tag_text}
use Rattle.pgpipe_texts.specs.Text.{cut_mark, quoted, shown_byte, shown_bytes, shown_part}

-- ---- messages

pub query : front_text (Query (codes "SELECT 1")) ≡ codes "Query SELECT 1"
unfolding shown_bytes shown_byte
query = refl

-- ---- what is hidden

-- whatever the password
pub password : (text : List ℕ) → front_text (Password text) ≡ codes "PasswordMessage (hidden)"
password text = refl

-- ---- what isn't of the tables

pub function_call_response : other_back (86 ∷ 0 ∷ 0 ∷ 0 ∷ 8 ∷ codes "abcd") ≡ codes "FunctionCallResponse, not of the profile: V 8 'abcd'"
unfolding other_back other_text plain_back_name data_back_name tag_text shown_or_hidden quoted shown_part cut_mark shown_bytes shown_byte
function_call_response = ap (λ (d : List ℕ). codes "FunctionCallResponse, not of the profile: V " ++ d ++ codes " " ++ codes "'abcd'") (decimal_digit 8 (omega arith))
