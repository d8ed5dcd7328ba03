use Rattle.std.proofs.Common.{◌≡◌, ◌++◌, take, sym, ap, ◌∙◌, take-append-drop}
use Rattle.std.proofs.lemmas.Result.{err_from_is_err_and}
use Rattle.pgpipe_base.proofs.Pieces.{none_yet, some_more, some_fails}
use Rattle.pgpipe_base.proofs.outbox.Outbox.put_all.Goals as goal

pub loop-rest-init : goal.loop-rest-init
loop-rest-init g c = none_yet g.K.Sink.takes g.K.Sink.failures _ _ _

pub returns-in_err-make_room : goal.returns-in_err-make_room
returns-in_err-make_room g c =
    let p = err_from_is_err_and c.from_residual.result c.from_residual.ensures.1 in
    rw p.1 (some_fails g.K.Sink.takes g.K.Sink.failures _ _ _ _ _ _ _ _ _ _ _ c.loop-rest.invariant c.in_err-make_room.ensures.puts)

pub loop-rest-preserved : goal.loop-rest-preserved
loop-rest-preserved g c =
    let rest = c.loop-rest.rest.now in
    let split : rest ≡ c.split_at.result.0.now ++ c.split_at.result.1.now = sym (take-append-drop c.min.result rest) ∙ ap (λ l. take c.min.result rest ++ l) (sym c.split_at.ensures.back) ∙ ap (λ l. l ++ c.split_at.result.1.now) (sym c.split_at.ensures.front) in
    some_more g.K.Sink.takes g.K.Sink.failures _ _ _ _ _ _ _ _ c.split_at.result.0.now _ _ c.loop-rest.invariant c.in_ok-make_room.ensures.puts split c.put_hexadecimal.ensures
