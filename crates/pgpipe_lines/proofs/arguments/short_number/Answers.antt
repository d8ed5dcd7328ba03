use Rattle.std.proofs.Common.{Ok, Err, refl}
use Rattle.std.proofs.lemmas.Result.{err_from_is_err_and}
use Rattle.pgpipe_lines.specs.Arguments.{short_number}
use Rattle.pgpipe_lines.proofs.Refusals.{fails}
use Rattle.pgpipe_lines.proofs.Numbers.{no_digits, number-read}
use Rattle.pgpipe_lines.proofs.arguments.short_number.Goals as goal

pub returns-in_err-number_text : goal.returns-in_err-number_text
returns-in_err-number_text c =
    let p = err_from_is_err_and c.from_residual.result c.from_residual.ensures.1 in
    rw p.1 (fails p.0 (short_number c.args.text.now) (no_digits 65535 c.args.text.now c.in_err-number_text.ensures.none))

pub returns-in-Ok : goal.returns-in-Ok
returns-in-Ok c =
    let text = c.in_ok-number_text.ensures.text in
    number-read {E = Unit {0}} 16 65535 c.in_ok-number_text.field-0.now c.args.text.now (Ok c.in-Ok.number) refl c.in-Ok.ensures.value.0 text.0 text.1

pub returns-in-Err : goal.returns-in-Err
returns-in-Err c =
    let text = c.in_ok-number_text.ensures.text in
    number-read {E = Unit {0}} 16 65535 c.in_ok-number_text.field-0.now c.args.text.now (Err tt) refl c.in-Err.ensures.value.0 text.0 text.1
