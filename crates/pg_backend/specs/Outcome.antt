-- The outcome of an answer that is given whole, as a client would report it.
use Rattle.std.specs.Prelude.{List, [], ◌∷◌}
use Rattle.std.specs.List.{flat_map}
use Rattle.pg_wire.specs.declared.session.Outcome.{Outcome}
use Rattle.pg_wire.specs.declared.session.Part.{Part}
use Rattle.pg_wire.specs.declared.session.Part.TheVariants as whole
use Rattle.pg_backend.specs.declared.script.Answer.{Answer}
use Rattle.pg_backend.specs.declared.script.Load.TheVariants.{Accept, Refuse}
use Rattle.pg_backend.specs.declared.script.ScriptPart.{ScriptPart}
use Rattle.pg_backend.specs.declared.script.ScriptPart.TheVariants as part

-- the part of an outcome that a part of an answer becomes; a copy that is rejected becomes none
abbrev pub complete : ScriptPart → List Part
complete (part.Rows columns rows tag) = whole.Rows columns rows tag ∷ []
complete (part.Command tag) = whole.Command tag ∷ []
complete part.Empty = whole.Empty ∷ []
complete (part.CopyOut head chunks tag) = whole.CopyOut head chunks tag ∷ []
complete (part.CopyIn head (Accept tag)) = whole.CopyIn head tag ∷ []
complete (part.CopyIn head (Refuse after fields)) = []
complete part.Parsed = whole.Parsed ∷ []
complete part.Bound = whole.Bound ∷ []
complete (part.Described parameters columns) = whole.Described parameters columns ∷ []
complete (part.Executed rows end) = whole.Executed rows end ∷ []
complete part.Shut = whole.Shut ∷ []

-- the parts of an outcome that come of these parts of an answer, in order
abbrev pub parts_of : List ScriptPart → List Part
parts_of parts = flat_map complete parts

-- the outcome of an answer that is sent to its end: its parts, its error, its status and its asides
abbrev pub whole_outcome : Answer → Outcome
whole_outcome a =
    record { parts = parts_of a.parts; error = a.error; status = a.status; asides = a.before }
