use Rattle.std.proofs.Common.{◌∙◌, Ok, rules, subst, sym}
use Rattle.pg_backend.specs.Check.{IsChecked}
use Rattle.pgpipe_cli.proofs.Judging.{same_script}
use Rattle.pgpipe_cli.proofs.serving.serve_script.Goals as goal

pub serve_all-requires : goal.serve_all-requires
serve_all-requires g c =
    let checked : IsChecked c.args.script.now = search rules in
    λ script is. subst IsChecked (same_script c.args.script.now script (sym c.requires ∙ is)) checked

pub returns : goal.returns
returns g c = (Ok tt, search rules, (c.serve_all.result, c.serve_all.ensures, c.served_result.ensures))
