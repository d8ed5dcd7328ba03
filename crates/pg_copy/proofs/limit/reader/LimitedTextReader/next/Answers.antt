use Rattle.std.proofs.Common.{ap, ◌∙◌}
use Rattle.pg_copy.proofs.Judged.{judges-next, read-judged}
use Rattle.pg_copy.specs.Limited.{LimitedState}
use Rattle.pg_copy.specs.contracts.limit.reader.LimitedTextReader.{the_view}
use Rattle.pg_copy.proofs.limit.reader.LimitedTextReader.next.Goals as goal

pub returns-clause-read : goal.returns-clause-read
returns-clause-read c p g h =
    let s = c.self.inside in
    let reader = ap (λ (t : LimitedState). t.reader) c.self.view_is in
    read-judged (the_view (record { reader = c.next-found.new.self; limit = s.limit; pushed = s.pushed; long = s.long })) c.next-found.result c.judge.result c.judge.new.self c.judge.ensures.answer c.judge.ensures.state p g
    (c.next-found.ensures.read p g (rw reader h.read)) (ap (λ (t : LimitedState). t.pushed) c.self.view_is ∙ h.counted)

pub returns-clause-judges : goal.returns-clause-judges
returns-clause-judges c short p g h =
    let s = c.self.inside in
    judges-next c.one_split.ensures c.args.self.now (the_view (record { reader = c.next-found.new.self; limit = s.limit; pushed = s.pushed; long = s.long })) c.judge.new.self c.next-found.result c.judge.result
    (ap (λ (t : LimitedState). t.pushed) c.self.view_is) (ap (λ (t : LimitedState). t.long) c.self.view_is ∙ short) c.judge.ensures.state c.judge.ensures.answer
    (λ p g k. c.next-found.ensures.read p g (rw (ap (λ (t : LimitedState). t.reader) c.self.view_is) k))
    (λ p g k. c.next-found.ensures.gives p g (rw (ap (λ (t : LimitedState). t.reader) c.self.view_is) k)) p g h
