use Rattle.std.proofs.Common.{◌≡◌, List, ℕ, string_bytes, ap, sym, subst, ◌∙◌, arith}
use Rattle.std.specs.Str.{IsUtf8}
use Rattle.std.proofs.lemmas.Str.{IsUtf8-string_bytes}
use Rattle.pgpipe_files.specs.CallsFile.{path}
use Rattle.pgpipe_files.proofs.CallLines.{path-none, path-some}
use Rattle.pgpipe_files.proofs.calls_file.path_in.Goals as goal

pub returns-in-Ok : goal.returns-in-Ok
returns-in-Ok c =
    let same : string_bytes c.in-Ok.path ≡ c.args.bytes = grind arith in
    ap path (sym same) ∙ path-some (string_bytes c.in-Ok.path) (IsUtf8-string_bytes c.in-Ok.path)

pub returns : goal.returns
returns c = path-none c.args.bytes (λ (h : IsUtf8 c.args.bytes). let ok = c.in-Err.ensures.succeeds (subst (λ (bytes : List ℕ). IsUtf8 bytes) (sym c.into_vec.ensures) h) in cc)
