use Rattle.std.proofs.Common.{List, subst, ◌∙◌}
use Rattle.pgpipe_loop.specs.declared.run_loop.places.Place.{Place}
use Rattle.pgpipe_loop.specs.Everywhere.{AreBroken, IsBrokenEverywhere}
use Rattle.pgpipe_loop.proofs.Everywhere.{if_ok}
use Rattle.pgpipe_loop.proofs.run_loop.everywhere.LoopFiles.broken_everywhere.Goals as goal

pub returns : goal.returns
returns c = if_ok (λ all. AreBroken c.args.cut c.args.self.now c.as_slice.result.now all.items) (λ all. IsBrokenEverywhere c.args.cut c.args.self.now all.items) c.broken_in.result c.broken_in.ensures (λ all are.
    record {
      carrier = _;
      whole = c.in_ok-whole.whole;
      is_whole = c.in_ok-whole.ensures;
      are_broken = subst (λ (ps : List Place). AreBroken c.args.cut c.args.self.now ps all.items) (c.as_slice.ensures.value ∙ c.in_ok-places.ensures) are;
    })
