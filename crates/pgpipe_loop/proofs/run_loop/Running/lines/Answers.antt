use Rattle.std.proofs.Common.{[], ◌∷◌, ◌++◌, sym, ◌∙◌}
use Rattle.std.proofs.iter.Next.{Yields-more}
use Rattle.std.proofs.lemmas.Result.{err_from_is_err_and}
use Rattle.std.specs.Vec.Iter.{into_iter_items, into_iter_steps}
use Rattle.pgpipe_loop.specs.Private.Running.{at}
use Rattle.pgpipe_loop.proofs.Loops.{given_first, lines_fail}
use Rattle.pgpipe_loop.proofs.run_loop.Running.lines.Goals as goal

pub returns-in_err-line : goal.returns-in_err-line
returns-in_err-line g c =
    let p = err_from_is_err_and c.from_residual.result c.from_residual.ensures.1 in
    let it = c.into_iter-line-iterator in
    let given = Yields-more into_iter_steps it.result c.loop-line.yielded c.loop-line.line-iterator c.in-Some.line c.next.new.self c.loop-line.yielded_by c.in-Some.ensures.steps in
    let parts = sym (it.ensures.into_iter_gives.0) ∙ given_first it.result (c.loop-line.yielded ++ c.in-Some.line ∷ []) c.next.new.self given in
    rw (p.1, p.2) (lines_fail g.C.Carry.carries c.args.trace g.K.Sink.takes g.K.Sink.failures c.args.cut c.args.lines c.loop-line.yielded c.in-Some.line (into_iter_items c.next.new.self)
    (at c.args.self.now.pair c.args.self.now.carrier_failed c.args.sink.now) (at c.loop-line.self.pair c.loop-line.self.carrier_failed c.loop-line.sink) (at c.line.new.self.pair c.line.new.self.carrier_failed c.line.new.sink)
    c.in_err-line.field-0.0 parts c.loop-line.invariant c.in_err-line.ensures)
