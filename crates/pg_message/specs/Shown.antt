-- What `{:?}` writes of a message, as far as a clause says it, and of a name with its value.
-- `++?` is std's operator: it joins two optional texts where both are there.
use Rattle.std.specs.Prelude.{ℕ, List, Option, Some, None, codes}
use Rattle.std.specs.Fmt.{◌++?◌}
use Rattle.pg_seq.specs.Text.{byte_text}
use Rattle.pg_message.specs.declared.message.FrontMessage.{FrontMessage}
use Rattle.pg_message.specs.declared.message.FrontMessage.TheVariants.{Password}

-- what `{:?}` writes of a message of the frontend: one text for every password. Nothing is claimed
-- about any other message.
abbrev pub shown_front : FrontMessage → Option (List ℕ)
shown_front (Password password) = Some (codes "Password(..)")
shown_front _ = None

-- what `{:?}` writes of a name and its value: `(b"a", b"b")`
abbrev pub shown_pair : List ℕ × List ℕ → Option (List ℕ)
shown_pair p = Some (codes "(") ++? Some (byte_text p.0) ++? Some (codes ", ")
    ++? Some (byte_text p.1) ++? Some (codes ")")
