use Rattle.std.proofs.Common.{◌≡◌, ◌∙◌, ℕ, ◌+◌, List, [], ◌∷◌, ◌++◌, take, drop, get_or, sym, rules, arith, append-nil}
use Rattle.std.proofs.lemmas.List.{at_drop_all, at_drop_more}
use Rattle.pgpipe_show.specs.ColoredPart.{colored, escape, part_after}
use Rattle.pgpipe_show.proofs.Paints.{paints_more, part_more}
use Rattle.pgpipe_show.proofs.color.painting.paint.Goals as goal

pub loop-byte-preserved : goal.loop-byte-preserved
loop-byte-preserved c =
    let piece = c.args.piece.now in
    let i = c.loop-byte.byte-index in
    let part = c.loop-byte.part in
    let front = take c.loop-byte.at c.loop-byte.out in
    let b = get_or piece i 0 in
    let mid : take c.put-at.result c.put-at.new.out ≡ front ++ escape part b = search rules in
    let now : take c.put-at-in-loop-byte.result c.put-at-in-loop-byte.new.out ≡ take c.put-at.result c.put-at.new.out ++ b ∷ [] = search rules in
    record {
      room = omega (arith, c.escape.ensures.size);
      size = search rules;
      colored = paints_more part _ _ (drop (i + 1) piece) front _ _ mid now c.next-part.ensures
          ∙ sym (at_drop_more (λ (rest : List ℕ). front ++ colored part rest) piece i 0 (omega arith)) ∙ c.loop-byte.invariant.colored;
      part = part_more part _ _ (drop (i + 1) piece) c.next-part.ensures
          ∙ sym (at_drop_more (λ (rest : List ℕ). part_after part rest) piece i 0 (omega arith)) ∙ c.loop-byte.invariant.part;
    }

pub returns-clause-colored : goal.returns-clause-colored
unfolding colored
returns-clause-colored c =
    let front = take c.loop-byte.at c.loop-byte.out in
    sym (append-nil front) ∙ sym (at_drop_all (λ (rest : List ℕ). front ++ colored c.loop-byte.part rest) c.args.piece.now c.loop-byte.byte-index (omega arith)) ∙ c.loop-byte.invariant.colored

pub returns-clause-part : goal.returns-clause-part
unfolding part_after
returns-clause-part c =
    sym (at_drop_all (λ (rest : List ℕ). part_after c.loop-byte.part rest) c.args.piece.now c.loop-byte.byte-index (omega arith)) ∙ c.loop-byte.invariant.part
