use Rattle.std.proofs.Common.{List, ℕ, rules, string_bytes, subst}
use Rattle.pgpipe_cli.specs.LoopFiles.{SaysScript}
use Rattle.pgpipe_cli.proofs.Filling.{script_read}
use Rattle.pgpipe_cli.proofs.loop_files.script_of.Goals as goal

pub returns : goal.returns
returns g c =
    let store = g.F.FileStore in
    script_read (store.holds c.args.files.now) (store.fails c.args.files.now) c.args.task.now.comments (string_bytes c.args.task.now.script) c.in_ok-text.text.items c.script_in.result (search rules)
    (subst (λ (text : List ℕ). SaysScript text c.script_in.result) c.as_slice.ensures.value c.script_in.ensures)
