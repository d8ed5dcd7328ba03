use Rattle.std.proofs.Common.{◌-◌, length, refl}
use Rattle.pgpipe_frames.specs.Json.Frontend.{front_json}
use Rattle.pgpipe_frames.specs.Json.Frame.{IsFrontJson, json_or}
use Rattle.pgpipe_frames.specs.Json.Other.{other_front}
use Rattle.pgpipe_frames.proofs.JsonTexts.{json_made}
use Rattle.pgpipe_frames.proofs.as_json.frame.front_frame_value.Goals as goal

pub returns : goal.returns
returns c = json_made (IsFrontJson c.args.frame.now) c.read_front_value.result (json_or (front_json (length c.args.frame.now - 1)) (other_front c.args.frame.now) c.in_ok-read.read) (c.in_ok-read.read, c.in_ok-read.ensures, refl) c.read_front_value.ensures
