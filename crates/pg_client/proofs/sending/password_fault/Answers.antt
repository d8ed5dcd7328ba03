use Rattle.std.proofs.Common.{rules, ◌≡◌, true, refl}
use Rattle.pg_wire.specs.Field.{contains_zero}
use Rattle.pg_client.proofs.sending.password_fault.Goals as goal

pub returns-then-contains : goal.returns-then-contains
returns-then-contains c =
    let zero : contains_zero c.in-Some.password ≡ true = search rules in
    rw (c.in-Some.is, zero) refl
