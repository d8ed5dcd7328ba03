use Rattle.std.proofs.Common.{ap, ◌∙◌}
use Rattle.pg_client.specs.View.{loss_at}
use Rattle.pg_client.proofs.Histories.Lifetime.{first_is, is_lost}
use Rattle.pg_client.proofs.connection.Connection.lost.Goals as goal

pub returns : goal.returns
returns g c =
    is_lost g.K.Keeper.way c.silent.ensures.agrees_as _ c.args.self.now c.self.view_is c.replace.new.dest c.unwrap_or.result c.into_loss.result c.replace.ensures.after (c.unwrap_or.ensures ∙ first_is c.self.inside.closed) (c.into_loss.ensures ∙ ap loss_at c.replace.ensures.value)
