use Rattle.std.proofs.Common.{Ok, Err, None, refl, ap, sym, ◌∙◌}
use Rattle.pg_copy_binary.specs.declared.binary_part.NoPart.TheVariants.{Incomplete, Faulty}
use Rattle.pg_copy_binary.specs.declared.binary_part.NoRow.TheVariants.{NoPart}
use Rattle.pg_copy_binary.specs.BinaryReader.{BinaryState}
use Rattle.pg_copy_binary.proofs.BinaryHistory.{HasReadBinary-next, AnswersNext-next, next-waits}
use Rattle.pg_copy_binary.proofs.BinaryHolds.{none-takes, lends-at, HasReadBinary-lent, AnswersNext-lent, some-lent, given-lent, fewer-lent}
use Rattle.pg_copy_binary.proofs.binary_reader.BinaryReader.next_lent.Goals as goal

pub returns-in-Ok-Some-clause-read : goal.returns-in-Ok-Some-clause-read
returns-in-Ok-Some-clause-read c =
    let found = rw c.in-Ok-Some.field-0-is at c.in-Ok-Some.ensures in
    let l = lends-at c.args.self.now c.find.new.self c.hold.new.self c.in-Ok-Some.place found c.hold.ensures in
    λ pushed given k. HasReadBinary-lent c.args.self.now c.hold.new.self c.in-Ok-Some.place pushed given l k

pub returns-in-Ok-Some-clause-gives : goal.returns-in-Ok-Some-clause-gives
returns-in-Ok-Some-clause-gives c =
    let found = rw c.in-Ok-Some.field-0-is at c.in-Ok-Some.ensures in
    let l = lends-at c.args.self.now c.find.new.self c.hold.new.self c.in-Ok-Some.place found c.hold.ensures in
    λ pushed given k. AnswersNext-lent c.args.self.now c.hold.new.self c.in-Ok-Some.place _ given _ l

pub returns-in-Ok-Some-clause-same : goal.returns-in-Ok-Some-clause-same
returns-in-Ok-Some-clause-same c =
    let found = rw c.in-Ok-Some.field-0-is at c.in-Ok-Some.ensures in
    let l = lends-at c.args.self.now c.find.new.self c.hold.new.self c.in-Ok-Some.place found c.hold.ensures in
    (ap (λ (s : BinaryState). s.columns) l.2, ap (λ (s : BinaryState). s.limit) l.2)

pub returns-in-Ok-Some-clause-ended : goal.returns-in-Ok-Some-clause-ended
returns-in-Ok-Some-clause-ended c =
    let found = rw c.in-Ok-Some.field-0-is at c.in-Ok-Some.ensures in
    let l = lends-at c.args.self.now c.find.new.self c.hold.new.self c.in-Ok-Some.place found c.hold.ensures in
    ap (λ (s : BinaryState). s.ended) l.2 ∙ c.requires

pub returns-in-Ok-Some-clause-lends : goal.returns-in-Ok-Some-clause-lends
returns-in-Ok-Some-clause-lends c =
    let found = rw c.in-Ok-Some.field-0-is at c.in-Ok-Some.ensures in
    let l = lends-at c.args.self.now c.find.new.self c.hold.new.self c.in-Ok-Some.place found c.hold.ensures in
    some-lent c.args.self.now c.hold.new.self c.in-Ok-Some.place l

pub returns-in-Ok-Some-clause-row : goal.returns-in-Ok-Some-clause-row
returns-in-Ok-Some-clause-row c =
    let found = rw c.in-Ok-Some.field-0-is at c.in-Ok-Some.ensures in
    let l = lends-at c.args.self.now c.find.new.self c.hold.new.self c.in-Ok-Some.place found c.hold.ensures in
    λ e. ap (λ (s : BinaryState). s.stage) l.2

pub returns-in-Ok-Some-clause-given : goal.returns-in-Ok-Some-clause-given
returns-in-Ok-Some-clause-given c =
    let found = rw c.in-Ok-Some.field-0-is at c.in-Ok-Some.ensures in
    let l = lends-at c.args.self.now c.find.new.self c.hold.new.self c.in-Ok-Some.place found c.hold.ensures in
    given-lent c.args.self.now c.hold.new.self c.in-Ok-Some.place l

pub returns-in-Ok-Some-clause-fewer : goal.returns-in-Ok-Some-clause-fewer
returns-in-Ok-Some-clause-fewer c =
    let found = rw c.in-Ok-Some.field-0-is at c.in-Ok-Some.ensures in
    let l = lends-at c.args.self.now c.find.new.self c.hold.new.self c.in-Ok-Some.place found c.hold.ensures in
    λ e. fewer-lent c.args.self.now c.hold.new.self c.in-Ok-Some.place l

pub returns-in-Ok-None-clause-read : goal.returns-in-Ok-None-clause-read
returns-in-Ok-None-clause-read c =
    let takes = none-takes c.args.self.now c.find.new.self (rw c.in-Ok-None.field-0-is at c.in-Ok-None.ensures) in
    λ pushed given k. HasReadBinary-next (Ok None) c.args.self.now c.find.new.self pushed given takes k

pub returns-in-Ok-None-clause-gives : goal.returns-in-Ok-None-clause-gives
returns-in-Ok-None-clause-gives c =
    let takes = none-takes c.args.self.now c.find.new.self (rw c.in-Ok-None.field-0-is at c.in-Ok-None.ensures) in
    λ pushed given k. AnswersNext-next (Ok None) c.args.self.now c.find.new.self pushed given c.requires takes k

pub returns-in-Ok-None-clause-waits : goal.returns-in-Ok-None-clause-waits
returns-in-Ok-None-clause-waits c =
    let takes = none-takes c.args.self.now c.find.new.self (rw c.in-Ok-None.field-0-is at c.in-Ok-None.ensures) in
    λ e. next-waits (Ok None) c.args.self.now c.find.new.self (λ n is. ap (λ (t : BinaryState). t.kept) (sym c.self.view_is) ∙ (c.self.invariant.skips n (ap (λ (t : BinaryState). t.stage) c.self.view_is ∙ is)).1) takes refl

pub returns-in-Err-Incomplete-clause-read : goal.returns-in-Err-Incomplete-clause-read
returns-in-Err-Incomplete-clause-read c =
    let takes = rw c.in-Err-Incomplete.field-0-is at c.in-Err-Incomplete.ensures in
    λ pushed given k. HasReadBinary-next (Err (NoPart Incomplete)) c.args.self.now c.find.new.self pushed given takes k

pub returns-in-Err-Incomplete-clause-gives : goal.returns-in-Err-Incomplete-clause-gives
returns-in-Err-Incomplete-clause-gives c =
    let takes = rw c.in-Err-Incomplete.field-0-is at c.in-Err-Incomplete.ensures in
    λ pushed given k. AnswersNext-next (Err (NoPart Incomplete)) c.args.self.now c.find.new.self pushed given c.requires takes k

pub returns-in-Err-Incomplete-clause-waits : goal.returns-in-Err-Incomplete-clause-waits
returns-in-Err-Incomplete-clause-waits c =
    let takes = rw c.in-Err-Incomplete.field-0-is at c.in-Err-Incomplete.ensures in
    λ e. next-waits (Err (NoPart Incomplete)) c.args.self.now c.find.new.self (λ n is. ap (λ (t : BinaryState). t.kept) (sym c.self.view_is) ∙ (c.self.invariant.skips n (ap (λ (t : BinaryState). t.stage) c.self.view_is ∙ is)).1) takes refl

pub returns-in-Err-Faulty-clause-read : goal.returns-in-Err-Faulty-clause-read
returns-in-Err-Faulty-clause-read c =
    let takes = rw c.in-Err-Faulty.field-0-is at c.in-Err-Faulty.ensures in
    λ pushed given k. HasReadBinary-next (Err (NoPart (Faulty c.in-Err-Faulty.fault))) c.args.self.now c.find.new.self pushed given takes k

pub returns-in-Err-Faulty-clause-gives : goal.returns-in-Err-Faulty-clause-gives
returns-in-Err-Faulty-clause-gives c =
    let takes = rw c.in-Err-Faulty.field-0-is at c.in-Err-Faulty.ensures in
    λ pushed given k. AnswersNext-next (Err (NoPart (Faulty c.in-Err-Faulty.fault))) c.args.self.now c.find.new.self pushed given c.requires takes k
