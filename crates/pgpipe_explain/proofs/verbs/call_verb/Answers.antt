use Rattle.std.proofs.Common.{sym}
use Rattle.pgpipe_lines.proofs.Words.{no-call_verb}
use Rattle.pgpipe_explain.proofs.verbs.call_verb.Goals as goal

pub returns-in-Err : goal.returns-in-Err
returns-in-Err c = sym (no-call_verb c.args.word.now c.in-Err.ensures.cases.0)
