use Rattle.pgpipe_cli.proofs.doing.do_summary.Goals as goal

pub returns : goal.returns
returns g c = (c.summarize.result, c.summarize.ensures, c.show_result_of.ensures)
