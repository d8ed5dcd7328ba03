use Rattle.std.proofs.Common.{◌≡◌, ◌+◌, ◌++◌, ◌∷◌, [], List, ℕ, Result, Ok, Err, length, take, ap, sym, ◌∙◌, arith}
use Rattle.std.specs.Prelude.{OnErr}
use Rattle.pg_copy_text.specs.Private.Cuts.{cuts_of, AreNoted}
use Rattle.pg_copy_text.proofs.TextCuts.{noted-front, noted-whole, noted-all}
use Rattle.pg_copy_text.proofs.cuts.finish_cuts.Goals as goal
use Rattle.pg_copy_text.proofs.cuts.finish_cuts.Goals.{After-push, then-len-delimiters+in_ok-note_all, else-len-delimiters}

all : (c : After-push) → c.if-len-delimiters.cuts.items ≡ cuts_of c.args.options.now.delimiter c.args.line.now
all c =
    let d = c.args.options.now.delimiter in
    let line = c.args.line.now in
    elim c.if-len-delimiters.branch [
      | then-len-delimiters+in_ok-note_all w ↦ rw (w.cuts-is, sym c.delimiter-delimiter.ensures.value) w.in_ok-note_all.ensures.ok
      | else-len-delimiters w ↦
          let noted = noted-front d line c.requires.noted.0 c.args.cuts.now.items c.args.delimiters c.requires.counted c.requires.noted.1 in
          rw (w.cuts-is, c.truncate.ensures.items) (noted-whole d line (take c.args.delimiters c.args.cuts.now.items) noted (omega (arith, c.requires.counted, w.if-len-delimiters.false, c.len.ensures, ap length c.truncate.ensures.items)))
    ]

on-err : {A F : Type 0} (r : Result A F) (P : Type 0) → P → OnErr r P
on-err (Ok x) P p = tt
on-err (Err e) P p = p

pub returns-in_err-push-clause-err : goal.returns-in_err-push-clause-err
returns-in_err-push-clause-err c =
    let d = c.args.options.now.delimiter in
    let line = c.args.line.now in
    on-err c.from_residual-in_err-push.result (AreNoted d line c.push.new.self.items) (noted-all d line c.push.new.self.items (c.in_err-push.ensures.items ∙ all (goal.at.returns-in_err-push-clause-err c).After-push))

pub returns-clause-ok : goal.returns-clause-ok
returns-clause-ok c = c.in_ok-push.ensures.items ∙ ap (λ (xs : List ℕ). xs ++ (length c.args.line.now + 1) ∷ []) (all (goal.at.returns-clause-ok c).After-push)
