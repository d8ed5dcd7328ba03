use Rattle.std.proofs.Common.{length, refl}
use Rattle.pgpipe_texts.specs.Json.Packet.{packet_json}
use Rattle.pgpipe_frames.specs.Json.Frame.{IsPacketJson, json_or}
use Rattle.pgpipe_frames.specs.Json.Other.{other_packet}
use Rattle.pgpipe_frames.proofs.JsonTexts.{json_made}
use Rattle.pgpipe_frames.proofs.as_json.frame.packet_frame_value.Goals as goal

pub returns : goal.returns
returns c = json_made (IsPacketJson c.args.frame.now) c.read_packet_value.result (json_or (packet_json (length c.args.frame.now)) (other_packet c.args.frame.now) c.in_ok-read.read) (c.in_ok-read.read, c.in_ok-read.ensures, refl) c.read_packet_value.ensures
