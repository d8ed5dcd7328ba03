use Rattle.std.proofs.Common.{ℕ, sym, subst}
use Rattle.pgpipe_convert.specs.Convert.{file_with}
use Rattle.pgpipe_convert.specs.Private.Converting.{file_by, HasWidth}
use Rattle.pgpipe_convert.proofs.Widths.{file_width, same_width}
use Rattle.pgpipe_convert.proofs.convert.begin.Goals as goal

pub returns-in-Ok-vec-clause-width : goal.returns-in-Ok-vec-clause-width
returns-in-Ok-vec-clause-width c =
    subst (λ (n : ℕ). HasWidth (file_by c.in-Ok-new.reader) n) (sym c.in-Ok.ensures.columns)
    (same_width (file_with c.args.options.now c.args.from c.args.columns) (file_by c.in-Ok-new.reader) c.args.columns c.in-Ok-new.ensures.begun.0 (file_width c.args.options.now c.args.from c.args.columns))
