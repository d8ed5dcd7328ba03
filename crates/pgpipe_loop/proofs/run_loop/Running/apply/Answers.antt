use Rattle.std.proofs.Common.{◌||◌, List, ℕ, Ok, rules, subst}
use Rattle.std.proofs.lemmas.Result.{err_from_is_err_and}
use Rattle.pgpipe_loop.specs.Private.Running.{at, Sends}
use Rattle.pgpipe_loop.proofs.LoopGroups.{event_keeps}
use Rattle.pgpipe_loop.proofs.Telling.{not_told, told_as}
use Rattle.pgpipe_loop.proofs.run_loop.Running.apply.Goals as goal

pub lines_since-requires : goal.lines_since-requires
lines_since-requires g c = rw (c.before_of-before.ensures) (event_keeps g.C.Carry.carries c.args.event c.args.self.now.pair c.in-Ok.answer c.apply.new.self c.in-Ok.ensures.applies)

pub returns-in_err-send_lines : goal.returns-in_err-send_lines
returns-in_err-send_lines g c =
    let p = err_from_is_err_and c.from_residual-in_err-send_lines.result c.from_residual-in_err-send_lines.ensures.1 in
    let old = at c.args.self.now.pair c.args.self.now.carrier_failed c.args.sink.now in
    let new = at c.apply.new.self (c.args.self.now.carrier_failed || c.is_carrier.result) c.send_lines.new.sink in
    let told = told_as c.args.event c.args.self.now.pair c.in-Ok.answer c.apply.new.self c.args.trace c.before_of-before.result c.in_ok-named.named.items c.in_ok-lines.lines.items c.before_of-before.ensures c.in_ok-named.ensures c.in_ok-lines.ensures in
    rw (p.1, p.2) (not_told g.C.Carry.carries c.args.trace g.K.Sink.takes g.K.Sink.failures c.args.event old new c.in-Ok.answer c.in_ok-lines.lines.items c.in_err-send_lines.field-0.0 c.in-Ok.ensures.applies told c.in_err-send_lines.ensures)

pub returns : goal.returns
returns g c =
    let told = told_as c.args.event c.args.self.now.pair c.in-Ok.answer c.apply.new.self c.args.trace c.before_of-before.result c.in_ok-named.named.items c.in_ok-lines.lines.items c.before_of-before.ensures c.in_ok-named.ensures c.in_ok-lines.ensures in (
      c.in-Ok.ensures.applies,
      search rules,
      subst (λ (text : List ℕ). Sends {A = Unit {0}} g.K.Sink.takes g.K.Sink.failures c.args.sink.now text (Ok tt) c.send_lines.new.sink) told c.in_ok-send_lines.ensures,
    )
