-- The program's exit status where it fails, as its help lists them.
use Rattle.std.specs.Prelude.{ℕ}
use Rattle.hello_pg.specs.declared.failure.Failure.{Failure}
use Rattle.hello_pg.specs.declared.failure.Failure.TheVariants as failure

-- 1: the server returned an error. 2: there is no session. 3: the session has ended while a query
-- was outstanding. 4: the words or the environment are wrong. 5: anything else.
abbrev pub exit_status : Failure → ℕ
exit_status failure.Refused = 1
exit_status (failure.Unreachable e) = 2
exit_status (failure.NoSession f) = 2
exit_status (failure.NotBegun why) = 2
exit_status (failure.Ended f) = 3
exit_status (failure.Words why) = 4
exit_status _ = 5
