use Rattle.std.proofs.Common.{Ok, Err, ap, sym, ◌∙◌}
use Rattle.pg_copy_binary.specs.declared.binary_part.NoPart.TheVariants.{Incomplete, Faulty}
use Rattle.pg_copy_binary.specs.declared.binary_part.NoRow.TheVariants.{NoPart}
use Rattle.pg_copy_binary.specs.BinaryReader.{BinaryState}
use Rattle.pg_copy_binary.proofs.BinaryHistory.{HasReadBinary-next, AnswersNext-next, next-row, next-waits}
use Rattle.pg_copy_binary.proofs.BinaryFewer.{next-fewer, next-given}
use Rattle.pg_copy_binary.proofs.binary_reader.BinaryReader.next.Goals as goal

pub returns-in-Ok-clause-read : goal.returns-in-Ok-clause-read
returns-in-Ok-clause-read c = λ pushed given h. HasReadBinary-next (Ok c.in-Ok.row) c.args.self.now c.read.new.self pushed given c.in-Ok.ensures h

pub returns-in-Ok-clause-gives : goal.returns-in-Ok-clause-gives
returns-in-Ok-clause-gives c = λ pushed given h. AnswersNext-next (Ok c.in-Ok.row) c.args.self.now c.read.new.self pushed given c.requires c.in-Ok.ensures h

pub returns-in-Ok-clause-row : goal.returns-in-Ok-clause-row
returns-in-Ok-clause-row c = λ row e. next-row (Ok c.in-Ok.row) c.args.self.now c.read.new.self c.in-Ok.ensures row e

pub returns-in-Err-NoPart-Incomplete-clause-read : goal.returns-in-Err-NoPart-Incomplete-clause-read
returns-in-Err-NoPart-Incomplete-clause-read c = λ pushed given h.
    let w = c.in-Err-NoPart-Incomplete in
    HasReadBinary-next (Err (NoPart Incomplete)) c.args.self.now c.read.new.self pushed given (rw (w.field-0-is, w.field-0-0-is) at w.ensures) h

pub returns-in-Err-NoPart-Incomplete-clause-gives : goal.returns-in-Err-NoPart-Incomplete-clause-gives
returns-in-Err-NoPart-Incomplete-clause-gives c = λ pushed given h.
    let w = c.in-Err-NoPart-Incomplete in
    AnswersNext-next (Err (NoPart Incomplete)) c.args.self.now c.read.new.self pushed given c.requires (rw (w.field-0-is, w.field-0-0-is) at w.ensures) h

pub returns-in-Err-NoPart-Faulty-clause-read : goal.returns-in-Err-NoPart-Faulty-clause-read
returns-in-Err-NoPart-Faulty-clause-read c = λ pushed given h.
    let w = c.in-Err-NoPart-Faulty in
    HasReadBinary-next (Err (NoPart (Faulty w.fault))) c.args.self.now c.read.new.self pushed given (rw (w.field-0-is, w.field-0-0-is) at w.ensures) h

pub returns-in-Err-NoPart-Faulty-clause-gives : goal.returns-in-Err-NoPart-Faulty-clause-gives
returns-in-Err-NoPart-Faulty-clause-gives c = λ pushed given h.
    let w = c.in-Err-NoPart-Faulty in
    AnswersNext-next (Err (NoPart (Faulty w.fault))) c.args.self.now c.read.new.self pushed given c.requires (rw (w.field-0-is, w.field-0-0-is) at w.ensures) h

pub returns-in-Ok-clause-waits : goal.returns-in-Ok-clause-waits
returns-in-Ok-clause-waits c = λ e.
    let kept = ap (λ (t : BinaryState). t.kept) (sym c.self.view_is) in
    let stage = ap (λ (t : BinaryState). t.stage) c.self.view_is in
    next-waits (Ok c.in-Ok.row) c.args.self.now c.read.new.self (λ n is. kept ∙ (c.self.invariant.skips n (stage ∙ is)).1) c.in-Ok.ensures e

pub returns-in-Err-NoPart-Incomplete-clause-waits : goal.returns-in-Err-NoPart-Incomplete-clause-waits
returns-in-Err-NoPart-Incomplete-clause-waits c = λ e.
    let kept = ap (λ (t : BinaryState). t.kept) (sym c.self.view_is) in
    let stage = ap (λ (t : BinaryState). t.stage) c.self.view_is in
    let w = c.in-Err-NoPart-Incomplete in
    next-waits (Err (NoPart Incomplete)) c.args.self.now c.read.new.self (λ n is. kept ∙ (c.self.invariant.skips n (stage ∙ is)).1) (rw (w.field-0-is, w.field-0-0-is) at w.ensures) e

pub returns-in-Ok-clause-fewer : goal.returns-in-Ok-clause-fewer
returns-in-Ok-clause-fewer c = λ row e. next-fewer (Ok c.in-Ok.row) c.args.self.now c.read.new.self c.in-Ok.ensures row e

pub returns-in-Ok-clause-given : goal.returns-in-Ok-clause-given
returns-in-Ok-clause-given c = next-given (Ok c.in-Ok.row) c.args.self.now c.read.new.self c.in-Ok.ensures
