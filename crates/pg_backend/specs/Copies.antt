-- How a copy from the client ends ("COPY Operations").
use Rattle.std.specs.Prelude.{ℕ, zero, suc, List, [], ◌∷◌, Option, Some, None, option_map, map, Result, Ok, Err}
use Rattle.pg_wire.specs.value.ErrorField.{ErrorField}
use Rattle.pg_wire.specs.message.FrontMessage.{FrontMessage}
use Rattle.pg_backend.specs.declared.meaning.InCopy.{InCopy}
use Rattle.pg_backend.specs.declared.meaning.InCopy.TheVariants.{Chunk, Done, Fails, Waits, Leaves, Strays}
use Rattle.pg_backend.specs.declared.script.Load.{Load}
use Rattle.pg_backend.specs.declared.script.Load.TheVariants.{Accept, Refuse}
use Rattle.pg_backend.specs.Meaning.{in_copy}
use Rattle.pg_backend.specs.OwnError.{canceled, out_of_copy}

-- how a copy from the client ended: the chunks that were taken, the tag or the error, and how many
-- messages were used up for it, its end and those without effect included
pub record CopyEnd : Type 0 where
  pub loaded : List (List ℕ)
  pub result : Result (List ℕ) (List ErrorField)
  pub taken : ℕ

-- a copy that its next message ends: no chunk is taken, and one message is used up
abbrev pub ended : Result (List ℕ) (List ErrorField) → Option CopyEnd
ended result = Some (record { loaded = []; result = result; taken = 1 })

-- this end of a copy, with this chunk taken before it
abbrev pub with_chunk : List ℕ → CopyEnd → CopyEnd
with_chunk bytes e =
    record { loaded = bytes ∷ e.loaded; result = e.result; taken = suc e.taken }

-- this end of a copy, with a message without effect before it
abbrev pub with_wait : CopyEnd → CopyEnd
with_wait e = record { loaded = e.loaded; result = e.result; taken = suc e.taken }

-- how a copy that is accepted with this tag ends by these messages; None where they don't end it,
-- or a Terminate ends the session
abbrev pub accepted : List ℕ → List InCopy → Option CopyEnd
accepted tag [] = None
accepted tag (Chunk bytes ∷ ms) = option_map (with_chunk bytes) (accepted tag ms)
accepted tag (Done ∷ ms) = ended (Ok tag)
accepted tag (Fails reason ∷ ms) = ended (Err (canceled reason))
accepted tag (Strays ∷ ms) = ended (Err out_of_copy)
accepted tag (Waits ∷ ms) = option_map with_wait (accepted tag ms)
accepted tag (Leaves ∷ ms) = None

-- how a copy that is rejected with these fields at the n-th chunk from here ends by these messages;
-- None where they don't end it, or a Terminate ends the session
abbrev pub refused : List ErrorField → ℕ → List InCopy → Option CopyEnd
refused fields zero ms = Some (record { loaded = []; result = Err fields; taken = 0 })
refused fields (suc n) [] = None
refused fields (suc n) (Chunk bytes ∷ ms) = option_map (with_chunk bytes) (refused fields n ms)
refused fields (suc n) (Done ∷ ms) = ended (Err fields)
refused fields (suc n) (Fails reason ∷ ms) = ended (Err (canceled reason))
refused fields (suc n) (Strays ∷ ms) = ended (Err out_of_copy)
refused fields (suc n) (Waits ∷ ms) = option_map with_wait (refused fields (suc n) ms)
refused fields (suc n) (Leaves ∷ ms) = None

-- how a copy from the client ends by the messages after its request; None where it is undecided
abbrev pub copy_end : Load → List FrontMessage → Option CopyEnd
copy_end (Accept tag) ms = accepted tag (map in_copy ms)
copy_end (Refuse n fields) ms = refused fields n (map in_copy ms)
