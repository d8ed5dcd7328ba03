use Rattle.std.proofs.Common.{ap, sym, ◌∙◌, drop, length}
use Rattle.std.proofs.lemmas.Result.{err_from_is_err_and}
use Rattle.pg_copy_binary.specs.Private.BinaryPart.{no_part}
use Rattle.pg_copy_binary.proofs.BinaryWalk.{part-head, part-stuck, part-closed, part-after, started}
use Rattle.pg_copy_binary.proofs.binary_part.find_part.Goals as goal

pub returns-in_err-look-clause-found : goal.returns-in_err-look-clause-found
returns-in_err-look-clause-found c =
    let p = err_from_is_err_and c.from_residual.result c.from_residual.ensures.1 in
    rw (p.1, p.2) (part-head c.args.in_head c.args.columns c.args.limit c.args.bytes.now (no_part c.in_err-look.field-0.0) c.in_err-look.ensures.0 c.in_err-look.ensures.2, λ e z. c.in_err-look.ensures.2)

pub returns-in_err-find_row-clause-found : goal.returns-in_err-find_row-clause-found
returns-in_err-find_row-clause-found c =
    let p = err_from_is_err_and c.from_residual-in_err-find_row.result c.from_residual-in_err-find_row.ensures.1 in
    let found = rw c.split_at.ensures.back at c.in_err-find_row.ensures.found in
    rw (p.1, p.2) (
      part-stuck c.args.in_head c.args.columns c.args.limit c.args.bytes.now (drop c.in_ok-look.field-0 c.args.bytes.now) (no_part c.in_err-find_row.field-0.0) c.in_ok-look.ensures.1 found,
      λ e z. absurd (started c.args.in_head c.args.bytes.now c.args.look.now.start c.in_ok-look.field-0 c.in_ok-look.ensures e z),
    )

pub returns-then-rest-eq2-clause-found : goal.returns-then-rest-eq2-clause-found
returns-then-rest-eq2-clause-found c =
    let found = rw (c.in-Trailer.is, c.split_at.ensures.back) at c.in_ok-find_row.ensures.found in
    (part-closed c.args.in_head c.args.columns c.args.limit c.args.bytes.now (drop c.in_ok-look.field-0 c.args.bytes.now) c.in_ok-look.ensures.1 found (ap length (sym c.split_at.ensures.back) ∙ c.if-rest-eq2.true), c.in_ok-look.ensures.1)

pub returns-else-rest-eq2-clause-found : goal.returns-else-rest-eq2-clause-found
returns-else-rest-eq2-clause-found c =
    let found = rw (c.in-Trailer.is, c.split_at.ensures.back) at c.in_ok-find_row.ensures.found in (
      part-after c.args.in_head c.args.columns c.args.limit c.args.bytes.now (drop c.in_ok-look.field-0 c.args.bytes.now) c.in_ok-look.ensures.1 found (λ e. c.if-rest-eq2.false (ap length c.split_at.ensures.back ∙ e)),
      λ e z. absurd (started c.args.in_head c.args.bytes.now c.args.look.now.start c.in_ok-look.field-0 c.in_ok-look.ensures e z),
    )
