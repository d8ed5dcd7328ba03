use Rattle.std.proofs.Common.{sym}
use Rattle.pg_wire.proofs.Patience.{writes_as_one}
use Rattle.pg_wire.proofs.patient.PatientWrite.write.Goals as goal

pub shape_of-self-inside : goal.shape_of-self-inside
shape_of-self-inside g c = sym (writes_as_one _ _ _ _ _ c.patiently.ensures).writer

pub returns-clause-bound : goal.returns-clause-bound
returns-clause-bound g c = (writes_as_one _ _ _ _ _ c.patiently.ensures).bound

pub returns-clause-bytes : goal.returns-clause-bytes
returns-clause-bytes g c = rw (← c.self.view_is) (writes_as_one _ _ _ _ _ c.patiently.ensures).bytes
