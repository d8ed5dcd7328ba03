-- What one message of a client means: where a request is awaited, and during a copy.
use Rattle.pg_wire.specs.message.FrontMessage.{FrontMessage}
use Rattle.pg_wire.specs.message.FrontMessage.TheVariants as front
use Rattle.pg_wire.specs.declared.session.Step.TheVariants as step
use Rattle.pg_backend.specs.declared.meaning.InCopy.{InCopy}
use Rattle.pg_backend.specs.declared.meaning.InCopy.TheVariants as copy
use Rattle.pg_backend.specs.declared.meaning.Meaning.{Meaning}
use Rattle.pg_backend.specs.declared.meaning.Meaning.TheVariants.{Asks, Adds, Closes, Drops, Leaves, Strays}

-- what a message means while a request is awaited: a query, one more step, the Sync of a group, no
-- effect, the end of the session, or a message that may not stand there
abbrev pub meaning : FrontMessage → Meaning
meaning (front.Query text) = Asks text
meaning (front.Parse name text types) = Adds (step.Parse name text types)
meaning (front.Bind portal statement formats values result_formats) =
    Adds (step.Bind portal statement formats values result_formats)
meaning (front.Describe target name) = Adds (step.Describe target name)
meaning (front.Close target name) = Adds (step.Close target name)
meaning (front.Execute portal max_rows) = Adds (step.Execute portal max_rows)
meaning front.Sync = Closes
meaning front.Flush = Drops
meaning (front.CopyData bytes) = Drops
meaning front.CopyDone = Drops
meaning (front.CopyFail reason) = Drops
meaning front.Terminate = Leaves
meaning (front.Password password) = Strays

-- what a message means during a copy from the client: a chunk, an end, no effect, the end of the
-- session, or a message that may not stand there ("COPY Operations")
abbrev pub in_copy : FrontMessage → InCopy
in_copy (front.CopyData bytes) = copy.Chunk bytes
in_copy front.CopyDone = copy.Done
in_copy (front.CopyFail reason) = copy.Fails reason
in_copy front.Flush = copy.Waits
in_copy front.Sync = copy.Waits
in_copy front.Terminate = copy.Leaves
in_copy _ = copy.Strays
