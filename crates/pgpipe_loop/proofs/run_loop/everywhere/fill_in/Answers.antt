use Rattle.std.proofs.Common.{List, ℕ, ap, ◌∙◌}
use Rattle.pgpipe_files.specs.Filling.{filled}
use Rattle.pgpipe_loop.specs.Everywhere.{nothing}
use Rattle.pgpipe_loop.proofs.Everywhere.{fills_more}
use Rattle.pgpipe_loop.proofs.run_loop.everywhere.fill_in.Goals as goal

pub loop-bytes-init : goal.loop-bytes-init
loop-bytes-init c = nothing

pub loop-bytes-preserved : goal.loop-bytes-preserved
loop-bytes-preserved c = fills_more c.args.calls.now c.loop-bytes.calls c.fill.new.self c.args.named.now c.loop-bytes.bytes-index c.bytes-item.result c.loop-bytes-test.true c.bytes-item.is c.loop-bytes.invariant
    (c.in_ok-fill.ensures.ok ∙ ap (λ (b : List ℕ). filled b c.loop-bytes.calls) c.as_slice.ensures)
