use Rattle.pgpipe_cli.proofs.doing.do_both.Goals as goal

pub returns : goal.returns
returns g c = (c.show_both-shown.result.answer, c.show_both-shown.ensures, c.both_result_of.ensures)
