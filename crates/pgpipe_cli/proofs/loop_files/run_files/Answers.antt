use Rattle.std.proofs.Common.{◌∙◌, Ok, Err, ap, rules}
use Rattle.pgpipe_cli.proofs.Filling.{keeps_settings}
use Rattle.pgpipe_cli.proofs.loop_files.run_files.Goals as goal

pub returns-in_err-script : goal.returns-in_err-script
returns-in_err-script g c = (Err c.in_err-script.field-0.0, c.in_err-script.ensures, search rules)

pub returns-in_err-calls : goal.returns-in_err-calls
returns-in_err-calls g c = (Ok c.in_ok-script.script, c.in_ok-script.ensures, (Err c.in_err-calls.field-0.0, c.in_err-calls.ensures, search rules))

pub run_judged-requires-clause-limit : goal.run_judged-requires-clause-limit
run_judged-requires-clause-limit g c =
    let store = g.F.FileStore in
    let calls = c.in_ok-calls.ensures in
    let same = keeps_settings (store.holds c.args.files.now) (store.fails c.args.files.now) calls.2 c.in_ok-calls.calls calls.5.0 in
    ap (λ s. s.limit) same ∙ calls.4
