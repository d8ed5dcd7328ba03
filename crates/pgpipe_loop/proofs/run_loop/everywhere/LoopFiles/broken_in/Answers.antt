use Rattle.std.proofs.Common.{rules, ◌≡◌, ◌∷◌, ◌++◌, List, [], refl, subst, sym}
use Rattle.pgpipe_loop.specs.declared.run_loop.places.Broken.{Broken}
use Rattle.pgpipe_loop.specs.Everywhere.{AreBroken, nowhere}
use Rattle.pgpipe_loop.proofs.Everywhere.{broken_more}
use Rattle.pgpipe_loop.proofs.run_loop.everywhere.LoopFiles.broken_in.Goals as goal

pub loop-place-init : goal.loop-place-init
loop-place-init c =
    let none : c.new-all.result.items ≡ [] = search rules in
    subst (λ (all : List Broken). AreBroken c.args.cut c.args.self.now [] all) (sym none) nowhere

pub loop-place-preserved : goal.loop-place-preserved
loop-place-preserved c =
    let pushed : c.push.new.self.items ≡ c.loop-place.all.items ++ c.in_ok-broken_at.field-0 ∷ [] = search rules in
    broken_more c.args.cut c.args.self.now c.args.places.now c.loop-place.all.items c.push.new.self.items c.loop-place.place-index _ _ c.in_ok-broken_at.field-0 c.loop-place-test.true refl c.loop-place.invariant
    c.in_ok-broken_at.ensures pushed
