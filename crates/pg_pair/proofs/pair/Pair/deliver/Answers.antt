use Rattle.std.proofs.Common.{◌≡◌, ◌-◌, true, false, None, is_some, min, length, ap, sym, subst, ◌∙◌, arith}
use Rattle.pg_pair.specs.Breaking.{is_shut}
use Rattle.pg_pair.specs.Delivering.{no_piece, DeliversUnless}
use Rattle.pg_pair.specs.View.{waiting_at}
use Rattle.pg_pair.specs.Carrying.{longest_piece}
use Rattle.pg_pair.proofs.Moving.{delivers_part, delivers_whole, goes_further, going_on, moved_within, no_answer}
use Rattle.pg_pair.proofs.pair.Pair.deliver.Goals as goal
use Rattle.pg_pair.proofs.pair.Pair.deliver.Goals.{then-went-via-then-went, then-went-via-else-went+then-is_some, then-went-via-else-went+else-is_some+then-went-count}

pub loop-way-init : goal.loop-way-init
loop-way-init g c = record { goes = no_piece; going = going_on c.args.way c.args.self.now (sym c.is_shut.ensures ∙ c.if-is_shut.false); within = omega arith }

pub returns-then-count-eq0 : goal.returns-then-count-eq0
returns-then-count-eq0 g c =
    let count : c.min-count.result ≡ min (min (length (waiting_at c.args.way c.loop-way.self)) (c.args.most - c.loop-way.moved)) longest_piece =
    c.min-count.ensures ∙ ap (λ n. min n longest_piece) (c.min.ensures ∙ ap (λ l. min (length l) (c.args.most - c.loop-way.moved)) c.waiting.ensures) in
    subst (λ a. DeliversUnless (is_shut c.args.way c.args.self.now) g.C.Carry.carries c.args.way c.args.most c.args.self.now a c.loop-way.self) (sym c.delivery_applied.ensures)
    (delivers_whole g.C.Carry.carries c.args.way c.args.most c.args.self.now c.loop-way.moved c.min-count.result c.loop-way.self (sym c.is_shut.ensures ∙ c.if-is_shut.false) c.loop-way.invariant.goes c.loop-way.invariant.within count c.if-count-eq0.true)

pub overflow_add-moved : goal.overflow_add-moved
overflow_add-moved g c =
    let count : c.min-count.result ≡ min (min (length (waiting_at c.args.way c.loop-way.self)) (c.args.most - c.loop-way.moved)) longest_piece =
    c.min-count.ensures ∙ ap (λ n. min n longest_piece) (c.min.ensures ∙ ap (λ l. min (length l) (c.args.most - c.loop-way.moved)) c.waiting.ensures) in
    let few = moved_within g.C.Carry.carries c.args.way (c.args.most - c.loop-way.moved) c.min-count.result c.loop-way.self c.move_piece-went.result c.move_piece-went.new.self count c.move_piece-went.ensures in
    let room = c.loop-way.invariant.within in
    omega (arith, c.ranges.most.fits)

pub returns-then-went : goal.returns-then-went
returns-then-went g c =
    let count : c.min-count.result ≡ min (min (length (waiting_at c.args.way c.loop-way.self)) (c.args.most - c.loop-way.moved)) longest_piece =
    c.min-count.ensures ∙ ap (λ n. min n longest_piece) (c.min.ensures ∙ ap (λ l. min (length l) (c.args.most - c.loop-way.moved)) c.waiting.ensures) in
    subst (λ a. DeliversUnless (is_shut c.args.way c.args.self.now) g.C.Carry.carries c.args.way c.args.most c.args.self.now a c.move_piece-went.new.self) (sym c.delivery_applied-then-went.ensures)
    (delivers_part g.C.Carry.carries c.args.way c.args.most c.args.self.now c.loop-way.moved c.min-count.result c.loop-way.self c.move_piece-went.result c.move_piece-went.new.self (sym c.is_shut.ensures ∙ c.if-is_shut.false) c.loop-way.invariant.goes
    count (omega arith) c.move_piece-went.ensures
    (elim c.then-went.branch [
      | then-went-via-then-went w ↦ (λ fine none whole. let bad = w.if-went.true in cc)
      | then-went-via-else-went+then-is_some w ↦ (λ fine none whole. let yes : true ≡ false = sym w.if-is_some.true ∙ w.is_some.ensures ∙ ap is_some none in cc)
      | then-went-via-else-went+else-is_some+then-went-count w ↦ (λ fine none whole. let fewer = w.if-went-count.true in omega arith)
    ]))

pub loop-way-preserved : goal.loop-way-preserved
loop-way-preserved g c =
    let count : c.min-count.result ≡ min (min (length (waiting_at c.args.way c.loop-way.self)) (c.args.most - c.loop-way.moved)) longest_piece =
    c.min-count.ensures ∙ ap (λ n. min n longest_piece) (c.min.ensures ∙ ap (λ l. min (length l) (c.args.most - c.loop-way.moved)) c.waiting.ensures) in
    let few = moved_within g.C.Carry.carries c.args.way (c.args.most - c.loop-way.moved) c.min-count.result c.loop-way.self c.move_piece-went.result c.move_piece-went.new.self count c.move_piece-went.ensures in
    let room = c.loop-way.invariant.within in
    let none : c.move_piece-went.result.answer ≡ None = no_answer c.move_piece-went.result.answer (sym c.is_some.ensures ∙ c.if-is_some.false) in
    record {
      goes = goes_further g.C.Carry.carries c.args.way c.args.most c.args.self.now c.loop-way.moved c.min-count.result c.loop-way.self c.move_piece-went.result c.move_piece-went.new.self c.loop-way.invariant.goes count (omega arith) c.move_piece-went.ensures
          c.if-went.false none (omega arith);
      going = c.move_piece-went.ensures.going none c.if-went.false;
      within = omega arith;
    }
