-- Worked examples of messages and their lines, computed from the definitions alone.
use Rattle.std.proofs.Common.{◌≡◌, ◌++◌, codes, decimal, refl}
use Rattle.pg_wire.specs.message.FrontMessage.TheVariants as front
use Rattle.serde_json.specs.Written.{compact_text}
use Rattle.serde_json.proofs.OnLiterals.{serde_json_on_literals}
use Rattle.pgpipe_frames.specs.Json.Frontend.{front_json}
use Rattle.pgpipe_texts.specs.Json.Members.{head_members}

pub a_password : compact_text (front_json 10 (front.Password (codes "abcde"))) ≡ codes "{\"length\":" ++ decimal 10 ++ codes ",\"name\":\"PasswordMessage\",\"password\":{\"hidden\":true}}"
unfolding head_members serde_json_on_literals
a_password = refl
