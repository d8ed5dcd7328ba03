use Rattle.std.proofs.Common.{◌∙◌, ap, ℕ, Vec, Global}
use Rattle.pg_client.specs.View.{value_of}
use Rattle.pg_client.proofs.ParameterLaws.{looked_up}
use Rattle.pg_client.proofs.parameters.Parameters.get.Goals as goal

pub returns : goal.returns
returns c = c.get.ensures.value ∙ looked_up (λ (k : Vec ℕ Global). k.items) c.args.name.now c.self.inside.values.entries ∙ ap (value_of c.args.name.now) c.self.view_is
