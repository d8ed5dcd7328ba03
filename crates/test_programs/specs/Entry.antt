-- What the entries of a recorded session have of the server's bytes, and of the client's password.
use Rattle.std.specs.Prelude.{◌∷◌, ℕ, List, None, Option, Some, vec_len}
use Rattle.test_programs.specs.declared.sessions.entry.Entry.{Entry}
use Rattle.test_programs.specs.declared.sessions.entry.Entry.TheVariants as entry

-- how many bytes of the server it has: a call has none
abbrev pub server_bytes : Entry → ℕ
server_bytes (entry.Bytes bytes) = vec_len bytes
server_bytes _ = 0

-- the client's password: it stands after the start
abbrev pub password_of : List Entry → Option (List ℕ)
password_of (_ ∷ entry.Password password ∷ _) = Some password
password_of _ = None
