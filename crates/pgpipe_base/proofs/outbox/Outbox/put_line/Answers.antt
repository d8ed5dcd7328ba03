use Rattle.std.proofs.Common.{◌++◌, [], ◌∷◌, List, ℕ}
use Rattle.std.specs.Fmt.{decimal}
use Rattle.std.proofs.lemmas.Result.{err_from_is_err_and}
use Rattle.pgpipe_base.specs.Outbox.{body_text}
use Rattle.pgpipe_base.proofs.Pieces.{puts_then, puts_fails, puts_collected}
use Rattle.pgpipe_base.proofs.outbox.Outbox.put_line.Goals as goal

-- what stands before the bytes
abbrev head : List ℕ → ℕ → List ℕ
head name n = name ++ (32 ∷ []) ++ decimal n ++ (32 ∷ [])

pub returns-in_err-put_head : goal.returns-in_err-put_head
returns-in_err-put_head g c =
    let p = err_from_is_err_and c.from_residual.result c.from_residual.ensures.1 in
    let front = head c.args.name.now c.args.size in
    let text = body_text c.args.bytes.now in
    record { puts = rw p.1 (puts_fails g.K.Sink.takes g.K.Sink.failures {A = Unit {0}} {B = Unit {0}} _ _ (front ++ text) p.0 _ [] _ (10 ∷ []) _ (puts_fails g.K.Sink.takes g.K.Sink.failures {A = Unit {0}} {B = Unit {0}} _ _ front _ _ _ _ text [] c.in_err-put_head.ensures)); within = rw p.1 tt }

pub returns-in_err-put_body : goal.returns-in_err-put_body
returns-in_err-put_body g c =
    let p = err_from_is_err_and c.from_residual-in_err-put_body.result c.from_residual-in_err-put_body.ensures.1 in
    let front = head c.args.name.now c.args.size in
    let text = body_text c.args.bytes.now in
    let broken = puts_then g.K.Sink.takes g.K.Sink.failures _ _ front _ _ text _ _ _ c.in_ok-put_head.ensures c.in_err-put_body.ensures in
    record { puts = rw p.1 (puts_fails g.K.Sink.takes g.K.Sink.failures {A = Unit {0}} {B = Unit {0}} _ _ (front ++ text) _ _ _ _ (10 ∷ []) _ broken); within = rw p.1 tt }

pub returns-in_err-make_room : goal.returns-in_err-make_room
returns-in_err-make_room g c =
    let p = err_from_is_err_and c.from_residual-in_err-make_room.result c.from_residual-in_err-make_room.ensures.1 in
    let front = head c.args.name.now c.args.size in
    let text = body_text c.args.bytes.now in
    let done = puts_then g.K.Sink.takes g.K.Sink.failures _ _ front _ _ text _ _ _ c.in_ok-put_head.ensures c.in_ok-put_body.ensures in
    let failed = puts_fails g.K.Sink.takes g.K.Sink.failures {A = Unit {0}} {B = Unit {0}} _ _ [] _ p.0 _ _ (10 ∷ []) c.make_room.new.self c.in_err-make_room.ensures.puts in
    record { puts = rw p.1 (puts_then g.K.Sink.takes g.K.Sink.failures _ _ (front ++ text) _ _ (10 ∷ []) _ _ _ done failed); within = rw p.1 tt }

pub returns-clause-puts : goal.returns-clause-puts
returns-clause-puts g c =
    let front = head c.args.name.now c.args.size in
    let text = body_text c.args.bytes.now in
    let done = puts_then g.K.Sink.takes g.K.Sink.failures _ _ front _ _ text _ _ _ c.in_ok-put_head.ensures c.in_ok-put_body.ensures in
    let last = puts_then g.K.Sink.takes g.K.Sink.failures _ _ [] _ _ (10 ∷ []) _ _ _ c.in_ok-make_room.ensures.puts (puts_collected g.K.Sink.takes g.K.Sink.failures _ _ (10 ∷ []) _ c.put.ensures) in
    puts_then g.K.Sink.takes g.K.Sink.failures _ _ (front ++ text) _ _ (10 ∷ []) _ _ _ done last
