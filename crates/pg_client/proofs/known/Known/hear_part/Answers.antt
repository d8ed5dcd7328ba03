use Rattle.std.proofs.Common.{sym, ◌∙◌}
use Rattle.pg_client.proofs.Hearing.Messages.{leads_busy, part_kept, part_not_heard}
use Rattle.pg_client.proofs.known.Known.hear_part.Goals as goal

pub returns-in_default : goal.returns-in_default
returns-in_default g c = part_not_heard g.K.Keeper.way c.args.message c.args.self.now c.refuse.result c.requires (cc) c.refuse.ensures

pub returns-in_default-stand : goal.returns-in_default-stand
returns-in_default-stand g c = absurd (leads_busy g.K.Keeper.way c.args.self.now.stand c.of-mark.result c.in-Some.next (sym c.read.ensures ∙ c.in-Some.is) c.in_default-stand.not-Busy)

pub returns : goal.returns
returns g c password =
    rw (c.lead.ensures, c.of-mark.ensures) (part_kept g.K.Keeper.way c.args.message c.args.self.now c.in-Some.next c.in-Busy.request c.in-Busy.place c.in-Busy.answer c.keep.new.self c.requires c.in-Busy.is (cc) c.in_ok-keep.ensures.ok password)
