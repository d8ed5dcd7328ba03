use Rattle.std.proofs.Common.{option_copied, ◌∙◌}
use Rattle.pg_message.proofs.BackMessages.{ends_is}
use Rattle.pg_message.proofs.backend.judging.is_back_message.Goals as goal

pub returns : goal.returns
returns c = c.is_end.ensures ∙ ends_is c.args.kind c.args.body.now (option_copied c.after_message.result) c.after_message.ensures
