use Rattle.std.proofs.Common.{◌-◌, length, refl}
use Rattle.pgpipe_texts.specs.Json.Backend.{back_json}
use Rattle.pgpipe_frames.specs.Json.Frame.{IsBackJson, json_or}
use Rattle.pgpipe_frames.specs.Json.Other.{other_back}
use Rattle.pgpipe_frames.proofs.JsonTexts.{json_made}
use Rattle.pgpipe_frames.proofs.as_json.frame.back_frame_value.Goals as goal

pub returns : goal.returns
returns c = json_made (IsBackJson c.args.frame.now) c.read_back_value.result (json_or (back_json (length c.args.frame.now - 1)) (other_back c.args.frame.now) c.in_ok-read.read) (c.in_ok-read.read, c.in_ok-read.ensures, refl) c.read_back_value.ensures
