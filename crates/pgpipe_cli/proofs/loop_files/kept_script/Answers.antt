use Rattle.std.proofs.Common.{◌≡◌, Ok, Err, List, ℕ, rules, string_bytes, subst}
use Rattle.std.proofs.lemmas.Result.{err_from_is_err_and}
use Rattle.pgpipe_files.specs.ScriptFile.{script_of}
use Rattle.pgpipe_cli.specs.LoopFiles.{SaysScript}
use Rattle.pgpipe_cli.proofs.Filling.{script_read}
use Rattle.pgpipe_cli.proofs.loop_files.kept_script.Goals as goal

pub returns-in_err-script : goal.returns-in_err-script
returns-in_err-script g c =
    let store = g.F.FileStore in
    let p = err_from_is_err_and c.from_residual-in_err-script.result c.from_residual-in_err-script.ensures.1 in
    rw (p.1, p.2) (script_read (store.holds c.args.files.now) (store.fails c.args.files.now) c.args.task.now.comments (string_bytes c.args.task.now.script) c.in_ok-text.text.items (Err c.in_err-script.field-0.0) (search rules)
    (subst (λ (text : List ℕ). SaysScript text (Err c.in_err-script.field-0.0)) c.as_slice.ensures.value c.in_err-script.ensures))

pub returns : goal.returns
returns g c =
    rw c.new-bytes.ensures (search rules, subst (λ (text : List ℕ). script_of text ≡ Ok c.in_ok-script.script) c.as_slice.ensures.value c.in_ok-script.ensures)
