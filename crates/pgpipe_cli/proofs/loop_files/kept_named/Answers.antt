use Rattle.std.proofs.Common.{◌≡◌, ◌∷◌, ◌++◌, List, ℕ, [], rules, subst, sym}
use Rattle.pgpipe_files.specs.declared.calls_file.Calls.{Calls}
use Rattle.pgpipe_files.specs.Filling.{filled}
use Rattle.pgpipe_loop.specs.Everywhere as everywhere
use Rattle.pgpipe_cli.specs.LoopFiles.{Fills, nothing, one_more}
use Rattle.pgpipe_cli.proofs.loop_files.kept_named.Goals as goal

pub loop-path-init : goal.loop-path-init
loop-path-init g c =
    let empty : c.new-named.result ≡ [] = search rules in
    record { fills = nothing; kept = rw empty everywhere.nothing }

pub loop-path-preserved : goal.loop-path-preserved
loop-path-preserved g c =
    let store = g.F.FileStore in
    let bytes = c.in_ok-bytes.bytes.items in
    let made : c.fill.new.self ≡ filled bytes c.loop-path.filled = search rules in
    let put : c.push.new.self ≡ c.loop-path.named ++ bytes ∷ [] = search rules in
    let more = one_more c.loop-path.filled c.in-Some.path.now bytes c.loop-path.invariant.fills (search rules) (search rules) in
    let kept = everywhere.one_more c.loop-path.named c.loop-path.filled bytes c.loop-path.invariant.kept in
    record {
      fills = subst (λ (calls : Calls). Fills (store.holds c.args.files.now) (store.fails c.args.files.now) c.args.calls calls) (sym made) more;
      kept = subst (λ (calls : Calls). everywhere.FillsIn c.args.calls c.push.new.self calls) (sym made) (subst (λ (named : List (List ℕ)). everywhere.FillsIn c.args.calls named (filled bytes c.loop-path.filled)) (sym put) kept);
    }
