use Rattle.std.proofs.Common.{sym}
use Rattle.pg_backend.proofs.Machine.AnsweredAtOnce.{no_copy_parts}
use Rattle.pg_backend.proofs.Definitions.CopyMessageSends.{copy_parts}
use Rattle.pg_backend.proofs.answering.around_copy.Goals as goal

pub returns-in-Whole-clause-before : goal.returns-in-Whole-clause-before
returns-in-Whole-clause-before c = sym ((no_copy_parts c.args.parts.now c.in-Whole.ensures).0)

pub returns-in-Whole-clause-after : goal.returns-in-Whole-clause-after
returns-in-Whole-clause-after c = sym ((no_copy_parts c.args.parts.now c.in-Whole.ensures).1)

pub returns-in-Copies-clause-before : goal.returns-in-Copies-clause-before
returns-in-Copies-clause-before c = sym ((copy_parts c.args.parts.now _ _ _ _ c.in-Copies.ensures).0)

pub returns-in-Copies-clause-after : goal.returns-in-Copies-clause-after
returns-in-Copies-clause-after c = sym ((copy_parts c.args.parts.now _ _ _ _ c.in-Copies.ensures).1)
