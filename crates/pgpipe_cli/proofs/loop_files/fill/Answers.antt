use Rattle.std.proofs.Common.{◌≡◌, rules, subst, sym}
use Rattle.pgpipe_files.specs.declared.calls_file.Calls.{Calls}
use Rattle.pgpipe_files.specs.Filling.{filled}
use Rattle.pgpipe_cli.specs.LoopFiles.{Fills, nothing, one_more}
use Rattle.pgpipe_cli.proofs.loop_files.fill.Goals as goal

pub loop-path-init : goal.loop-path-init
loop-path-init g c = nothing

pub loop-path-preserved : goal.loop-path-preserved
loop-path-preserved g c =
    let store = g.F.FileStore in
    let made : c.fill.new.self ≡ filled c.in_ok-bytes.bytes.items c.loop-path.filled = search rules in
    let more = one_more c.loop-path.filled c.in-Some.path.now c.in_ok-bytes.bytes.items c.loop-path.invariant (search rules) (search rules) in
    subst (λ (calls : Calls). Fills (store.holds c.args.files.now) (store.fails c.args.files.now) c.args.calls calls) (sym made) more
