-- What the turns of a client come to at examples: a copy of three chunks, which the script refuses with the second one, and a query.
use Rattle.std.proofs.Common.{◌≡◌, List, [], ◌∷◌, None, refl}
use Rattle.std.specs.Prelude.{codes, pos}
use Rattle.std.specs.List.{flat_map}
use Rattle.pg_wire.specs.message.FrontMessage.{FrontMessage}
use Rattle.pg_wire.specs.message.FrontMessage.TheVariants as front
use Rattle.pg_wire.specs.declared.session.Part.TheVariants as whole
use Rattle.pg_wire.specs.declared.session.Request.TheVariants as request
use Rattle.pg_wire.specs.declared.session.Step.TheVariants as step
use Rattle.pg_backend.specs.declared.script.Logged.{Logged}
use Rattle.pg_backend.specs.Session.{Between, Copying, Terminated, decided, log_of}
use Rattle.pg_wire.specs.Turns.{Turn, turn_messages, IsCopy, chunks_of}
use Rattle.pg_backend.specs.Turns.{InTurn, turn_exchanges, turn_place, Took}
use Rattle.pg_backend.proofs.Examples.Copies.{text_head, bad, accepting, refusing, chunk, logged, failed, next_logged}

-- a query for the copy, with these messages of it
abbrev copy : List FrontMessage → Turn
copy ms = record { request = request.Query (codes "COPY"); copies = ms }

abbrev whole_copy : Turn
whole_copy = copy (chunk ∷ chunk ∷ chunk ∷ front.CopyDone ∷ [])

abbrev next : Turn
next = record { request = request.Query (codes "NEXT"); copies = [] }

abbrev turns : List Turn
turns = whole_copy ∷ next ∷ []

-- ---- a turn waits for what comes of the one before it

in_turn : InTurn (refusing 2) turns
in_turn = ((refl, (refl, (refl, (refl, tt)))), refl, tt)

-- a query within a copy that isn't decided is out of turn, and so is a Sync among its messages
query_out_of_turn : InTurn accepting (copy (chunk ∷ []) ∷ next ∷ []) → ⊥
query_out_of_turn (copies, answered, more) = absurd cc

sync_out_of_turn : InTurn accepting (copy (front.Sync ∷ []) ∷ []) → ⊥
sync_out_of_turn (copies, more) = absurd cc

-- ---- what the turns come to

messages : flat_map turn_messages turns
    ≡ front.Query (codes "COPY") ∷ chunk ∷ chunk ∷ chunk ∷ front.CopyDone ∷ front.Query (codes "NEXT") ∷ []
messages = refl

group_messages : turn_messages (record { request = request.Group (step.Execute [] (pos 0) ∷ []); copies = [] }) ≡ front.Execute [] (pos 0) ∷ front.Sync ∷ []
group_messages = refl

-- each turn by itself, and all their messages together
abbrev both : List Logged
both = failed bad (codes "a" ∷ codes "a" ∷ []) ∷ next_logged ∷ []

each_by_itself : decided (record { exchanges = turn_exchanges (refusing 2) turns; place = Between }) ≡ both
each_by_itself = refl

all_together : log_of (refusing 2) (flat_map turn_messages turns) ≡ both
all_together = refl

-- the last turn's copy is under way, or it is after it
copy_under_way : turn_place accepting (copy (chunk ∷ []) ∷ []) ≡ Copying
copy_under_way = refl

copy_after : turn_place (refusing 2) (whole_copy ∷ []) ≡ Between
copy_after = refl

copy_left : turn_place accepting (copy (chunk ∷ front.Terminate ∷ []) ∷ []) ≡ Terminated
copy_left = refl

-- ---- the data of a copy

is_copy : IsCopy whole_copy.copies
is_copy = refl

-- nothing of a copy comes after its end
chunk_after_end : IsCopy (front.CopyDone ∷ chunk ∷ []) → ⊥
chunk_after_end e = absurd cc

handed : chunks_of whole_copy.copies ≡ codes "a" ∷ codes "a" ∷ codes "a" ∷ []
handed = refl

-- of a copy that failed, some chunks may have been taken
took_some : Took (failed bad (codes "a" ∷ codes "a" ∷ [])) (chunks_of whole_copy.copies)
took_some = record { first = refl; all = λ e. absurd cc }

-- of one that is complete, no chunk may be missing
took_less : Took (logged (whole.CopyIn text_head (codes "COPY 2") ∷ []) None (codes "a" ∷ [])) (codes "a" ∷ codes "b" ∷ []) → ⊥
took_less t = let e : codes "a" ∷ [] ≡ codes "a" ∷ codes "b" ∷ [] = t.all refl in absurd cc
