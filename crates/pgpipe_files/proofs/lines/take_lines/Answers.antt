use Rattle.std.proofs.Common.{Result, [], ◌∙◌, ap, arith, ◌≡◌, Err, Option}
use Rattle.pg_copy.specs.fault.TextFault.{TextFault}
use Rattle.pg_copy.specs.Row.{Row}
use Rattle.pgpipe_lines.specs.declared.fault.LineFault.TheVariants.{Memory}
use Rattle.pgpipe_files.specs.Private.Faults.{text_fault_at}
use Rattle.pg_copy.specs.TextReader.{TextState, kept_after}
use Rattle.pgpipe_files.proofs.RowsRead.{file-faulty, file-taken, row-few, row-refused, row-wants, stands-first, stands-next, text-memory, waiting-wants}
use Rattle.pgpipe_files.proofs.lines.take_lines.Goals as goal

pub loop-number-init : goal.loop-number-init
loop-number-init g c =
    let read = c.in-Ok.ensures.read [] [] (c.new-reader.ensures.read) in
    let kept = c.in-Ok.ensures.call.1 ∙ ap (λ (s : TextState). kept_after s c.args.bytes.now) c.new-reader.ensures.state in
    stands-first g.T.TakesLines.line c.args.taker.now c.args.bytes.now c.push.new.self read (ap (λ (s : TextState). s.options) kept) (ap (λ (s : TextState). s.columns) kept)

pub returns-in-Err-take_row-clause-taken : goal.returns-in-Err-take_row-clause-taken
returns-in-Err-take_row-clause-taken g c =
    let next = rw c.in-Ok-Some.field-0-is at c.in-Ok-Some.ensures.read in
    rw c.at.ensures (row-refused g.T.TakesLines.line c.args.taker.now c.loop-number.taker c.take_row.new.taker c.args.bytes.now c.loop-number.reader c.finish.new.self c.loop-number.number c.in-Ok-Some.row c.in-Err-take_row.refusal c.loop-number.invariant next c.in-Ok-Some.ensures.options c.in-Ok-Some.ensures.columns c.in-Err-take_row.ensures)

pub returns-in-Ok-None-clause-taken : goal.returns-in-Ok-None-clause-taken
returns-in-Ok-None-clause-taken g c =
    let none = rw c.in-Ok-None.field-0-is at c.in-Ok-None.ensures.gives in
    file-taken g.T.TakesLines.line c.args.taker.now c.loop-number.taker c.args.bytes.now c.loop-number.reader c.finish.new.self c.loop-number.number c.loop-number.invariant none c.in-Ok-None.ensures.options c.in-Ok-None.ensures.columns

pub returns-in-Err-clause-taken : goal.returns-in-Err-clause-taken
returns-in-Err-clause-taken g c =
    rw c.text_fault_at.ensures (file-faulty g.T.TakesLines.line c.args.taker.now c.loop-number.taker c.loop-number.taker c.args.bytes.now c.loop-number.reader c.finish.new.self c.loop-number.number c.in-Err.fault c.loop-number.invariant c.in-Err.ensures.gives c.in-Err.ensures.options c.in-Err.ensures.columns)

pub loop-number-preserved : goal.loop-number-preserved
loop-number-preserved g c =
    let next = rw c.in-Ok-Some.field-0-is at c.in-Ok-Some.ensures.read in
    stands-next g.T.TakesLines.line c.args.taker.now c.loop-number.taker c.take_row.new.taker c.args.bytes.now c.loop-number.reader c.finish.new.self c.loop-number.number c.in-Ok-Some.row c.loop-number.invariant next c.in-Ok-Some.ensures.options c.in-Ok-Some.ensures.columns c.in-Ok-take_row.ensures

pub returns-clause-taken : goal.returns-clause-taken
returns-clause-taken g c = absurd (let few = row-few g.T.TakesLines.line c.args.taker.now c.loop-number.taker c.args.bytes.now c.loop-number.reader c.loop-number.number c.loop-number.invariant in omega arith)

pub returns-in-Err-take_row-clause-memory : goal.returns-in-Err-take_row-clause-memory
returns-in-Err-take_row-clause-memory g c =
    let next = rw c.in-Ok-Some.field-0-is at c.in-Ok-Some.ensures.read in
    λ e. row-wants g.T.TakesLines.line c.args.taker.now c.loop-number.taker c.args.bytes.now c.loop-number.reader c.finish.new.self c.loop-number.number c.in-Ok-Some.row c.loop-number.invariant next c.in-Ok-Some.ensures.options c.in-Ok-Some.ensures.columns

pub returns-in-Err-clause-memory : goal.returns-in-Err-clause-memory
returns-in-Err-clause-memory g c = λ e.
    let answered : text_fault_at c.in-Err.fault c.loop-number.number ≡ Memory = cc in
    let failed : TextFault → Result (Option Row) TextFault = λ f. Err f in
    let none = c.in-Err.ensures.memory (ap failed (text-memory c.in-Err.fault c.loop-number.number answered)) in
    waiting-wants g.T.TakesLines.line c.args.taker.now c.loop-number.taker c.args.bytes.now c.loop-number.reader c.loop-number.number c.loop-number.invariant none.1
