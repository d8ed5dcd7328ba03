use Rattle.std.proofs.Common.{ap, ◌∙◌}
use Rattle.pg_pair.specs.Calling.{add_to_last}
use Rattle.pg_pair.specs.Private.Chunks.{list_of}
use Rattle.pg_pair.proofs.Keeping.{chunk_after}
use Rattle.pg_pair.proofs.pair.calling.take_chunks.Goals as goal

pub returns-in-Chunk-clause-after : goal.returns-in-Chunk-clause-after
returns-in-Chunk-clause-after c =
    rw c.in-Chunk.is
    (ap (add_to_last c.in-Chunk.field-0) c.take_last.ensures.lists ∙ chunk_after c.in-Chunk.field-0 c.take_last.new.lists.items (list_of c.take_last.result) c.take_last.ensures.none)
