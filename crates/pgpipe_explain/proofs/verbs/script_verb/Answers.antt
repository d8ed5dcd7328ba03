use Rattle.std.proofs.Common.{sym}
use Rattle.pgpipe_lines.proofs.Words.{no-script_verb}
use Rattle.pgpipe_explain.proofs.verbs.script_verb.Goals as goal

pub returns-in-Err : goal.returns-in-Err
returns-in-Err c = sym (no-script_verb c.args.word.now c.in-Err.ensures.cases.0)
