-- What a client hands over for its copies ("COPY Operations").
use Rattle.std.specs.Prelude.{ℕ, List, map}
use Rattle.pg_wire.specs.Turns.{Turn, chunks_of}
use Rattle.pg_client.specs.declared.call.Call.{Call}
use Rattle.pg_client.specs.Answering.{calls_of}
use Rattle.pg_client.specs.Turns.{turns_of}

-- each request that these calls made, in order, with the copy messages that the calls after it sent
abbrev pub turns_made : List (Call × ℕ) → List Turn
turns_made cs = turns_of (calls_of cs)

-- for each turn, the chunks that the client's caller handed over: the bytes of its CopyData
-- messages
abbrev pub handed_for : List Turn → List (List (List ℕ))
handed_for ts = map (λ t. chunks_of t.copies) ts
