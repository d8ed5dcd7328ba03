use Rattle.std.proofs.Common.{◌≡◌, Ok, Err, List, ℕ, rules, string_bytes, subst}
use Rattle.std.proofs.lemmas.Result.{err_from_is_err_and}
use Rattle.pgpipe_files.specs.CallsFile.{calls_of, what_is_said}
use Rattle.pgpipe_cli.specs.LoopFiles.{SaysCalls}
use Rattle.pgpipe_cli.proofs.Filling.{calls_read, calls_refused}
use Rattle.pgpipe_cli.proofs.loop_files.calls_of.Goals as goal

pub returns-in_err-calls : goal.returns-in_err-calls
returns-in_err-calls g c =
    let store = g.F.FileStore in
    let p = err_from_is_err_and c.from_residual-in_err-calls.result c.from_residual-in_err-calls.ensures.1 in
    rw (p.1, p.2) (calls_refused (store.holds c.args.files.now) (store.fails c.args.files.now) c.args.task.now.comments (string_bytes c.args.task.now.calls) c.in_ok-text.text.items c.in_err-calls.field-0.0 (search rules)
    (subst (λ (text : List ℕ). SaysCalls text (Err c.in_err-calls.field-0.0)) c.as_slice.ensures.value c.in_err-calls.ensures))

pub returns : goal.returns
returns g c =
    let store = g.F.FileStore in
    calls_read (store.holds c.args.files.now) (store.fails c.args.files.now) c.args.task.now.comments (string_bytes c.args.task.now.calls) c.in_ok-text.text.items c.in_ok-calls.calls c.fill.result (search rules)
    (subst (λ (text : List ℕ). calls_of text ≡ Ok (what_is_said c.in_ok-calls.calls)) c.as_slice.ensures.value c.in_ok-calls.ensures.0) c.in_ok-calls.ensures.1 (search rules)
