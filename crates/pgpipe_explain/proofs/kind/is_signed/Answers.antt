use Rattle.std.proofs.Common.{ℤ, Option, Ok, Err, refl, sym, ap}
use Rattle.std.specs.Prelude.{is_some}
use Rattle.pgpipe_lines.proofs.Numbers.{no_signed, signed-read}
use Rattle.pgpipe_explain.proofs.kind.is_signed.Goals as goal

pub returns-in-None : goal.returns-in-None
returns-in-None c = sym (ap (λ (o : Option ℤ). is_some o) (no_signed c.args.text.now (c.in-None.ensures.none refl)))

pub returns-in-Ok : goal.returns-in-Ok
returns-in-Ok c =
    let text = c.in-Some.ensures.text in
    sym (ap (λ (o : Option ℤ). is_some o) (signed-read {E = Unit {0}} c.in-Some.digits.now c.args.text.now (Ok c.in-Ok._number) c.in-Ok.ensures.value.0 text.0 text.1))

pub returns-in-Err : goal.returns-in-Err
returns-in-Err c =
    let text = c.in-Some.ensures.text in
    sym (ap (λ (o : Option ℤ). is_some o) (signed-read {E = Unit {0}} c.in-Some.digits.now c.args.text.now (Err tt) c.in-Err.ensures.value.0 text.0 text.1))
