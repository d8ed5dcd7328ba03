use Rattle.std.proofs.Common.{Ok, Err, rules}
use Rattle.pgpipe_cli.proofs.loop_files.break_files.Goals as goal

pub returns-in_err-script_text : goal.returns-in_err-script_text
returns-in_err-script_text g c = (Err c.in_err-script_text.field-0.0, c.in_err-script_text.ensures, search rules)

pub returns-in_err-calls : goal.returns-in_err-calls
returns-in_err-calls g c =
    (Ok (c.in_ok-script_text.script_text, c.in_ok-script_text.script), c.in_ok-script_text.ensures, (Err c.in_err-calls.field-0.0, c.in_err-calls.ensures, search rules))

pub break_judged-requires : goal.break_judged-requires
break_judged-requires g c =
    let kept = c.in_ok-calls.ensures in (
      kept.calls,
      record { script_is = c.in_ok-script_text.ensures.1; read = kept.read; calls_are = kept.is_read; limit = kept.limit; fills_in = kept.named_are.1 },
      kept.named_are.0.1,
    )

pub returns : goal.returns
returns g c =
    (Ok (c.in_ok-script_text.script_text, c.in_ok-script_text.script), c.in_ok-script_text.ensures, (Ok (c.in_ok-calls.calls, c.in_ok-calls.named), c.in_ok-calls.ensures, c.break_judged.ensures))
