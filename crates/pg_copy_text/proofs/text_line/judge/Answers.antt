use Rattle.std.proofs.Common.{◌≡◌, sym, ap, ◌∙◌, false, arith}
use Rattle.std.specs.Str.{bytes_eq}
use Rattle.pg_copy_text.specs.Text.{end_mark}
use Rattle.pg_copy_text.proofs.TextParts.{counted-few}
use Rattle.pg_copy_text.proofs.OptionFacts.{no-backslash}
use Rattle.pg_copy_text.proofs.TextLines.{lines_row, line-ends, line-return, line-newline, line-lone, line-columns, line-row}
use Rattle.pg_copy_text.proofs.text_line.judge.Goals as goal

pub overflow_add-count : goal.overflow_add-count
overflow_add-count c =
    let few = counted-few c.args.options.now.delimiter c.args.line.now c.args.scan c.requires.counted in
    omega (arith, few, c.requires.whole)

pub returns-then-eq : goal.returns-then-eq
returns-then-eq c = line-ends c.args.options.now c.args.columns c.args.line.now (ap (bytes_eq c.args.line.now) (sym c.as_slice.ensures) ∙ sym c.eq.ensures ∙ c.if-eq.true)

pub returns-then-scan : goal.returns-then-scan
returns-then-scan c =
    let line = c.args.line.now in
    let other : bytes_eq line end_mark ≡ false = ap (bytes_eq line) (sym c.as_slice.ensures) ∙ sym c.eq.ensures ∙ c.if-eq.false in
    let l = lines_row c.args.options.now.delimiter line c.args.scan (no-backslash c.args.options.now c.requires.options) c.requires.counted c.requires.whole in
    line-return c.args.options.now c.args.columns line other (l.0 ∙ c.if-scan.true)

pub returns-then-scan-2 : goal.returns-then-scan-2
returns-then-scan-2 c =
    let line = c.args.line.now in
    let other : bytes_eq line end_mark ≡ false = ap (bytes_eq line) (sym c.as_slice.ensures) ∙ sym c.eq.ensures ∙ c.if-eq.false in
    let l = lines_row c.args.options.now.delimiter line c.args.scan (no-backslash c.args.options.now c.requires.options) c.requires.counted c.requires.whole in
    line-newline c.args.options.now c.args.columns line other (l.0 ∙ c.if-scan.false) (l.1 ∙ c.if-scan-2.true)

pub returns-then-scan-3 : goal.returns-then-scan-3
returns-then-scan-3 c =
    let line = c.args.line.now in
    let other : bytes_eq line end_mark ≡ false = ap (bytes_eq line) (sym c.as_slice.ensures) ∙ sym c.eq.ensures ∙ c.if-eq.false in
    let l = lines_row c.args.options.now.delimiter line c.args.scan (no-backslash c.args.options.now c.requires.options) c.requires.counted c.requires.whole in
    line-lone c.args.options.now c.args.columns line other (l.0 ∙ c.if-scan.false) (l.1 ∙ c.if-scan-2.false) (l.2 ∙ c.if-scan-3.true)

pub returns-then-fits_width : goal.returns-then-fits_width
returns-then-fits_width c =
    let line = c.args.line.now in
    let other : bytes_eq line end_mark ≡ false = ap (bytes_eq line) (sym c.as_slice.ensures) ∙ sym c.eq.ensures ∙ c.if-eq.false in
    let l = lines_row c.args.options.now.delimiter line c.args.scan (no-backslash c.args.options.now c.requires.options) c.requires.counted c.requires.whole in
    (sym l.3, line-row c.args.options.now c.args.columns line _ other (l.0 ∙ c.if-scan.false) (l.1 ∙ c.if-scan-2.false) (l.2 ∙ c.if-scan-3.false) l.3 (sym c.fits_width.ensures ∙ c.if-fits_width.true))

pub returns-else-fits_width : goal.returns-else-fits_width
returns-else-fits_width c =
    let line = c.args.line.now in
    let other : bytes_eq line end_mark ≡ false = ap (bytes_eq line) (sym c.as_slice.ensures) ∙ sym c.eq.ensures ∙ c.if-eq.false in
    let l = lines_row c.args.options.now.delimiter line c.args.scan (no-backslash c.args.options.now c.requires.options) c.requires.counted c.requires.whole in
    line-columns c.args.options.now c.args.columns line _ other (l.0 ∙ c.if-scan.false) (l.1 ∙ c.if-scan-2.false) (l.2 ∙ c.if-scan-3.false) l.3 (sym c.fits_width.ensures ∙ c.if-fits_width.false)
