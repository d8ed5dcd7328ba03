use Rattle.std.proofs.Common.{length, sym, ap, subst, ◌∙◌, ◌≤◌, List, ℕ}
use Rattle.std.specs.Prelude.{nat_eq}
use Rattle.std.specs.Cmp.Lexicographic.{pointwise}
use Rattle.std.proofs.lemmas.Bool.{ne_eqb}
use Rattle.pg_values.specs.Private.Block.{longest_block}
use Rattle.pg_values.proofs.Equal.{compared, apart}
use Rattle.pg_values.proofs.values.ValuesPartialEq.eq.Goals as goal

pub returns-then-len : goal.returns-then-len
returns-then-len c =
    let mine = c.spelling.ensures in
    let theirs = c.spelling-then-len.ensures in
    let short = subst (λ (bytes : List ℕ). length bytes ≤ longest_block) mine.bytes mine.short in
    let short' = subst (λ (bytes : List ℕ). length bytes ≤ longest_block) theirs.bytes theirs.short in
    let bytes = ap (pointwise nat_eq c.spelling.result.now) theirs.bytes in
    c.eq.ensures ∙ bytes ∙ rw mine.bytes (compared c.args.self.now c.args.other.now (sym c.len.ensures ∙ c.if-len.true ∙ c.len-2.ensures) short short')

pub returns-else-len : goal.returns-else-len
returns-else-len c = ne_eqb c.len.result c.len-2.result c.if-len.false ∙ apart c.args.self.now c.args.other.now (λ e. c.if-len.false (c.len.ensures ∙ e ∙ sym c.len-2.ensures))
