use Rattle.std.proofs.Common.{Ok, Err}
use Rattle.pg_copy_binary.specs.declared.binary_part.NoPart.TheVariants.{Incomplete, Faulty}
use Rattle.pg_copy_binary.specs.declared.binary_part.NoRow.TheVariants.{NoPart}
use Rattle.pg_copy_binary.proofs.BinaryHistory.{HasReadBinary-finish, AnswersNext-finish, finish-row, finish-closed}
use Rattle.pg_copy_binary.proofs.BinaryFewer.{finish-fewer, finish-given}
use Rattle.pg_copy_binary.proofs.binary_reader.BinaryReader.finish.Goals as goal

pub returns-in-Ok-clause-read : goal.returns-in-Ok-clause-read
returns-in-Ok-clause-read c = λ pushed given h. HasReadBinary-finish (Ok c.in-Ok.row) c.args.self.now c.read.new.self c.end.new.self pushed given c.in-Ok.ensures c.end.ensures h

pub returns-in-Ok-clause-gives : goal.returns-in-Ok-clause-gives
returns-in-Ok-clause-gives c = λ pushed given h. AnswersNext-finish (Ok c.in-Ok.row) c.args.self.now c.read.new.self c.end.new.self pushed given c.in-Ok.ensures c.end.ensures h

pub returns-in-Ok-clause-row : goal.returns-in-Ok-clause-row
returns-in-Ok-clause-row c = λ row e. finish-row (Ok c.in-Ok.row) c.args.self.now c.read.new.self c.end.new.self c.in-Ok.ensures c.end.ensures row e

pub returns-in-Ok-clause-trailer : goal.returns-in-Ok-clause-trailer
returns-in-Ok-clause-trailer c = λ e. finish-closed (Ok c.in-Ok.row) c.args.self.now c.read.new.self c.end.new.self c.in-Ok.ensures c.end.ensures e

pub returns-in-Err-NoPart-Incomplete-clause-read : goal.returns-in-Err-NoPart-Incomplete-clause-read
returns-in-Err-NoPart-Incomplete-clause-read c = λ pushed given h.
    let w = c.in-Err-NoPart-Incomplete in
    HasReadBinary-finish (Err (NoPart Incomplete)) c.args.self.now c.read.new.self c.end-in-Err-NoPart-Incomplete.new.self pushed given (rw (w.field-0-is, w.field-0-0-is) at w.ensures) (rw c.stop.ensures at c.end-in-Err-NoPart-Incomplete.ensures) h

pub returns-in-Err-NoPart-Incomplete-clause-gives : goal.returns-in-Err-NoPart-Incomplete-clause-gives
returns-in-Err-NoPart-Incomplete-clause-gives c = λ pushed given h.
    let w = c.in-Err-NoPart-Incomplete in
    AnswersNext-finish (Err (NoPart Incomplete)) c.args.self.now c.read.new.self c.end-in-Err-NoPart-Incomplete.new.self pushed given (rw (w.field-0-is, w.field-0-0-is) at w.ensures) (rw c.stop.ensures at c.end-in-Err-NoPart-Incomplete.ensures) h

pub returns-in-Err-NoPart-Faulty-clause-read : goal.returns-in-Err-NoPart-Faulty-clause-read
returns-in-Err-NoPart-Faulty-clause-read c = λ pushed given h.
    let w = c.in-Err-NoPart-Faulty in
    HasReadBinary-finish (Err (NoPart (Faulty w.fault))) c.args.self.now c.read.new.self c.end-in-Err-NoPart-Faulty.new.self pushed given (rw (w.field-0-is, w.field-0-0-is) at w.ensures) c.end-in-Err-NoPart-Faulty.ensures h

pub returns-in-Err-NoPart-Faulty-clause-gives : goal.returns-in-Err-NoPart-Faulty-clause-gives
returns-in-Err-NoPart-Faulty-clause-gives c = λ pushed given h.
    let w = c.in-Err-NoPart-Faulty in
    AnswersNext-finish (Err (NoPart (Faulty w.fault))) c.args.self.now c.read.new.self c.end-in-Err-NoPart-Faulty.new.self pushed given (rw (w.field-0-is, w.field-0-0-is) at w.ensures) c.end-in-Err-NoPart-Faulty.ensures h

pub returns-in-Ok-clause-fewer : goal.returns-in-Ok-clause-fewer
returns-in-Ok-clause-fewer c = λ row e. finish-fewer (Ok c.in-Ok.row) c.args.self.now c.read.new.self c.end.new.self c.in-Ok.ensures c.end.ensures row e

pub returns-in-Ok-clause-given : goal.returns-in-Ok-clause-given
returns-in-Ok-clause-given c = finish-given (Ok c.in-Ok.row) c.args.self.now c.read.new.self c.end.new.self c.in-Ok.ensures c.end.ensures
