use Rattle.std.proofs.Common.{◌-◌, ap, sym, ◌∙◌, get_or, arith}
use Rattle.std.specs.List.{between}
use Rattle.std.specs.Str.{bytes_eq}
use Rattle.pg_copy_text.proofs.OptionFacts.{no-backslash}
use Rattle.pg_copy_text.proofs.BlockBits.{unless, when}
use Rattle.pg_copy_text.proofs.TextCuts.{line-apart}
use Rattle.pg_copy_text.proofs.TextPuts.{texts-begin, next-cut, put-null, put-text, texts-put}
use Rattle.pg_copy_text.proofs.cuts.put_texts.Goals as goal
use Rattle.pg_copy_text.proofs.cuts.put_texts.Goals.{then-ne, else-ne}

pub loop-i-init : goal.loop-i-init
loop-i-init c =
    let o = c.args.options.now in
    (texts-begin o c.args.line.now c.args.cuts.now (rw c.requires.cuts (line-apart o.delimiter c.args.line.now)), c.null_mark-mark.ensures)

pub loop-i-preserved : goal.loop-i-preserved
loop-i-preserved c =
    let o = c.args.options.now in
    let l = c.loop-i in
    let line0 = c.args.line.now in
    let cuts0 = c.args.cuts.now in
    let cut = get_or l.cuts l.i 0 in
    let field = between l.start (cut - 1) l.line in
    let n = next-cut o line0 cuts0 l.line l.cuts l.start l.put l.i (omega (arith, c.loop-i-test.true, l.auto.cuts)) l.invariant.0 in
    let mark = ap (bytes_eq field) c.null_mark-mark.ensures in
    elim c.if-ne.branch [
      | then-ne w ↦
          let t = w.put_text-put.ensures in
          let other = sym mark ∙ unless (bytes_eq field c.null_mark-mark.result.now) (sym c.ne.ensures ∙ w.if-ne.true) in
          rw (w.line-is, w.put-is) (put-text o line0 cuts0 l.line l.cuts l.start l.put l.i cut w.put_text-put.new.line w.put_text-put.result l.invariant.0 n other t.text t.rest t.from t.up_to t.len, c.null_mark-mark.ensures)
      | else-ne w ↦
          let null = sym mark ∙ when (bytes_eq field c.null_mark-mark.result.now) (sym c.ne.ensures ∙ w.if-ne.false) in
          rw (w.line-is, w.put-is) (put-null o line0 cuts0 l.line l.cuts l.start l.put l.i cut l.invariant.0 n null, c.null_mark-mark.ensures)
    ]

pub returns-clause-texts : goal.returns-clause-texts
returns-clause-texts c =
    let o = c.args.options.now in
    let l = c.loop-i in
    texts-put o c.args.line.now l.line l.cuts l.start l.put l.i (no-backslash o c.requires.options) (rw c.requires.cuts at l.invariant.0) (λ lt. absurd (omega (arith, lt, c.loop-i-test.false, l.auto.cuts)))

pub returns-clause-count : goal.returns-clause-count
returns-clause-count c = omega (arith, c.loop-i.auto.cuts)
