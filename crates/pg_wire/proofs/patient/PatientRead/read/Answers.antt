use Rattle.std.proofs.Common.{rules, sym}
use Rattle.pg_wire.proofs.Patience.{reads_as_one}
use Rattle.pg_wire.proofs.patient.PatientRead.read.Goals as goal

pub shape_of-self-inside : goal.shape_of-self-inside
shape_of-self-inside g c = sym (reads_as_one _ _ _ _ _ c.patiently.ensures).reader

pub returns-clause-bound : goal.returns-clause-bound
returns-clause-bound g c =
    let one = reads_as_one _ _ _ _ _ c.patiently.ensures in
    let into = one.into in
    let bound = one.bound in
    search rules

pub returns-clause-bytes : goal.returns-clause-bytes
returns-clause-bytes g c =
    let one = reads_as_one _ _ _ _ _ c.patiently.ensures in
    let into = one.into in
    let bytes = one.bytes in
    rw (← c.self.view_is) (search rules)
