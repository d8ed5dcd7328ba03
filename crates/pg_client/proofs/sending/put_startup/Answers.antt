use Rattle.pg_client.proofs.sending.put_startup.Goals.{in-Some, in-None}
use Rattle.pg_client.proofs.sending.put_startup.Goals as goal

pub returns : goal.returns
returns c = elim c.match-settings.branch [
  | in-Some w ↦
      let h = rw (w.database-is, w.as_slice.ensures, c.as_slice-2.ensures, c.as_slice-3.ensures) at c.startup.ensures in
      rw w.in-Some.is h
  | in-None w ↦
      let h = rw (w.database-is, c.as_slice-2.ensures, c.as_slice-3.ensures) at c.startup.ensures in
      rw w.in-None.is h
]
