use Rattle.std.proofs.Common.{◌≡◌, ◌+◌, ◌++◌, Bool, false, [], ◌∷◌, take, get_or, ap, ◌∙◌}
use Rattle.std.proofs.lemmas.List.{take_more}
use Rattle.pg_copy_text.specs.Text.{ends_escaped}
use Rattle.pg_copy_text.proofs.TextParts.{ends_escaped-append}
use Rattle.pg_copy_text.proofs.text_options.ends_escaped.Goals as goal
use Rattle.pg_copy_text.proofs.text_options.ends_escaped.Goals.{then-escaped, else-escaped}

pub loop-byte-preserved : goal.loop-byte-preserved
loop-byte-preserved c =
    let bytes = c.args.bytes.now in
    let l = c.loop-byte in
    let b = get_or bytes l.byte-index 0 in
    let more : take (l.byte-index + 1) bytes ≡ take l.byte-index bytes ++ b ∷ [] = take_more bytes l.byte-index 0 c.loop-byte-test.true in
    let all : ends_escaped false (take (l.byte-index + 1) bytes) ≡ ends_escaped l.escaped (b ∷ []) = ap (ends_escaped false) more ∙ ends_escaped-append false (take l.byte-index bytes) (b ∷ []) ∙ ap (λ (e : Bool). ends_escaped e (b ∷ [])) l.invariant in
    elim c.if-escaped.branch [
      | then-escaped w ↦ rw w.escaped-is (all ∙ ap (λ (e : Bool). ends_escaped e (b ∷ [])) w.if-escaped.true)
      | else-escaped w ↦ rw w.escaped-is (all ∙ ap (λ (e : Bool). ends_escaped e (b ∷ [])) w.if-escaped.false)
    ]
