-- The members of an object. They stand in the order of the bytes of their keys, as serde_json's map
-- has them.
use Rattle.std.specs.Prelude.{ℕ, List, [], ◌∷◌, codes}
use Rattle.serde_json.specs.Data.{Data, string, object, Members, no_members, put}
use Rattle.pgpipe_texts.specs.Json.Values.{count_json}

-- a key and its value
abbrev pub Member : Type 0
Member = List ℕ × Data

-- the members with these put among them, one after the other
abbrev pub with_members : List Member → Members → Members
with_members [] ms = ms
with_members (m ∷ more) ms = with_members more (put m.0 m.1 ms)

-- an object with these members and no other
abbrev pub object_json : List Member → Data
object_json members = object (with_members members no_members)

-- what each line has: the name of its message, and the length field
unfoldable pub head_members : List ℕ → ℕ → Members
head_members name size =
    with_members ((codes "name", string name) ∷ (codes "length", count_json size) ∷ []) no_members

-- a message of this name and this length field: an object with these members too
abbrev pub message_json : List ℕ → ℕ → List Member → Data
message_json name size members = object (with_members members (head_members name size))
