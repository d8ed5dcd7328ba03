use Rattle.pgpipe_texts.proofs.Texts.{byte_put, control_put}
use Rattle.pgpipe_texts.proofs.text.put_unit.Goals as goal

pub returns-in_ok-put_control-in-Some : goal.returns-in_ok-put_control-in-Some
returns-in_ok-put_control-in-Some c = control_put c.args.utf8 c.args.mark c.args.byte c.in-Some.end c.args.later.now _ _ c.in-Some.ensures c.in_ok-put_control-in-Some.ensures

pub returns-in_ok-put_byte-in-None : goal.returns-in_ok-put_byte-in-None
returns-in_ok-put_byte-in-None c = byte_put c.args.utf8 c.args.mark c.args.byte c.args.later.now _ _ c.in-None.ensures c.in_ok-put_byte-in-None.ensures
