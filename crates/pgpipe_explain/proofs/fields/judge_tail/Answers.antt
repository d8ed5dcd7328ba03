use Rattle.std.specs.Prelude.{option_copied}
use Rattle.pgpipe_explain.proofs.FieldLists.{none_left, some_left}
use Rattle.pgpipe_explain.proofs.fields.judge_tail.Goals as goal

pub returns-in-None : goal.returns-in-None
returns-in-None c = rw c.in-Nothing.is (none_left c.args.from c.args.fields.now c.in-None.ensures)

pub returns-in-Some : goal.returns-in-Some
returns-in-Some c = rw c.in-Nothing.is (some_left c.args.from c.args.fields.now (option_copied c.in-Some.field-0) c.in-Some.ensures)
