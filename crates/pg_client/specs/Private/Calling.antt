-- What a call does to where the client stands.
use Rattle.pg_wire.specs.declared.session.Request.{Request}
use Rattle.pg_response.specs.Place.{start}
use Rattle.pg_client.specs.declared.stand.CopyAnswer.{CopyAnswer}
use Rattle.pg_client.specs.declared.stand.CopyAnswer.TheVariants.{Awaited}
use Rattle.pg_client.specs.declared.stand.Stand.{Stand}
use Rattle.pg_client.specs.declared.stand.Stand.TheVariants.{Idle, Busy}

-- Where a client stands after copy_done or copy_fail.
abbrev pub with_answer : Stand → CopyAnswer → Stand
with_answer (Busy request place answer) said = Busy request place said
with_answer stand said = stand

-- Where a client stands after it has made a request, which it may where it stands between two.
abbrev pub with_request : Stand → Request → Stand
with_request Idle request = Busy request start Awaited
with_request stand request = stand
