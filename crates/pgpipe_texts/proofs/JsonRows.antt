-- Worked examples of messages and their lines, computed from the definitions alone.
use Rattle.std.proofs.Common.{◌≡◌, ◌++◌, codes, decimal, refl}
use Rattle.pg_wire.specs.message.BackMessage.TheVariants as back
use Rattle.pg_wire.specs.message.First.TheVariants as first
use Rattle.pg_wire.specs.value.Status.TheVariants as status
use Rattle.serde_json.specs.Written.{compact_text}
use Rattle.serde_json.proofs.OnLiterals.{serde_json_on_literals}
use Rattle.pgpipe_texts.specs.Json.Backend.{back_json}
use Rattle.pgpipe_texts.specs.Json.Members.{head_members}
use Rattle.pgpipe_texts.specs.Json.Packet.{packet_json}

pub ready : compact_text (back_json 5 (back.Ready status.Idle)) ≡ codes "{\"length\":" ++ decimal 5 ++ codes ",\"name\":\"ReadyForQuery\",\"status\":\"idle\"}"
unfolding head_members serde_json_on_literals
ready = refl

pub a_request : compact_text (packet_json 8 first.Ssl) ≡ codes "{\"length\":" ++ decimal 8 ++ codes ",\"name\":\"SSLRequest\"}"
unfolding head_members serde_json_on_literals
a_request = refl
