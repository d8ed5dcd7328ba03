use Rattle.std.proofs.Common.{◌≤◌, arith}
use Rattle.std.proofs.lemmas.Result.{on_ok_weaker}
use Rattle.serde_json.specs.Data.{depth}
use Rattle.serde_json.specs.View.{view}
use Rattle.pgpipe_frames.proofs.JsonPlain.{plain}
use Rattle.pgpipe_frames.proofs.as_json.frame.put_frame.Goals as goal

pub put_value-requires-clause-floatless : goal.put_value-requires-clause-floatless
put_value-requires-clause-floatless c = (plain c.args.front c.args.kind c.args.frame.now (view c.in_ok-value.value) c.in_ok-value.ensures).floatless

pub put_value-requires-clause-flat : goal.put_value-requires-clause-flat
put_value-requires-clause-flat c =
    let flat : depth (view c.in_ok-value.value) ≤ 4 = (plain c.args.front c.args.kind c.args.frame.now (view c.in_ok-value.value) c.in_ok-value.ensures).flat in
    omega (arith, flat)

pub returns : goal.returns
returns c = on_ok_weaker c.put_value.result (λ h. (h.0, (view c.in_ok-value.value, c.in_ok-value.ensures, h.1), h.2)) c.put_value.ensures
