use Rattle.pg_client.proofs.Hearing.Messages.{heard_alone, part_says}
use Rattle.pg_client.proofs.known.Known.hear.Goals as goal

pub returns-in-Part : goal.returns-in-Part
returns-in-Part g c =
    heard_alone g.K.Keeper.way c.args.settings.now c.args.message c.args.self.now c.hear_part.new.self c.hear_part.result c.args.out.now.items (part_says c.args.message c.in-Part.ensures.1).no_question (rw c.in-Part.ensures.0 c.hear_part.ensures)
