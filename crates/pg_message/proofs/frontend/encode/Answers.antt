use Rattle.pg_message.proofs.frontend.encode.Goals as goal

pub returns-in-Bind : goal.returns-in-Bind
returns-in-Bind c =
    let h = rw (c.as_slice-in-Bind.ensures, c.as_slice-in-Bind-2.ensures, c.as_slice-in-Bind-3.ensures, c.as_slice-in-Bind-4.ensures) at c.bind.ensures in
    rw c.in-Bind.is h
