use Rattle.std.proofs.Common.{◌≡◌, true, sym}
use Rattle.std.specs.Str.{is_utf8}
use Rattle.std.proofs.lemmas.Str.{IsUtf8-from_is_utf8, is_utf8-from_IsUtf8}
use Rattle.pgpipe_lines.proofs.Words.{is_false}
use Rattle.pgpipe_explain.proofs.kind.is_path.Goals as goal

pub returns-in-Ok : goal.returns-in-Ok
returns-in-Ok c = sym (is_utf8-from_IsUtf8 c.args.text.now c.in-Ok.ensures.cases.1)

pub returns-in-Err : goal.returns-in-Err
returns-in-Err c = sym (is_false (is_utf8 c.args.text.now) (λ (e : is_utf8 c.args.text.now ≡ true). c.in-Err.ensures.cases.0 (IsUtf8-from_is_utf8 c.args.text.now e)))
