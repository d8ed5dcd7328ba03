use Rattle.serde_json.specs.View.{view}
use Rattle.pgpipe_frames.specs.Json.Frame.{IsTextOfJson}
use Rattle.pgpipe_frames.proofs.JsonTexts.{appended}
use Rattle.pgpipe_frames.proofs.as_json.frame.put_value.Goals as goal

pub returns : goal.returns
returns c = appended (IsTextOfJson (view c.args.value.now)) c.extend_from_slice.result _ _ c.as_slice.result.now (rw c.as_slice.ensures.value (c.in_ok-text.ensures.text c.requires.floatless, c.in_ok-text.ensures.reads_back c.requires.flat)) c.extend_from_slice.ensures.items
