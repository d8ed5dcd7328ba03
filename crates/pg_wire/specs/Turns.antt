-- What a client sends, request by request ("Message Flow"): a turn is a request, with what is sent
-- for the copies that the server asks for while it answers this request. The next turn begins once
-- this one is answered.
use Rattle.std.specs.Prelude.{ℕ, suc, ◌≡◌, Bool, true, false, List, [], ◌∷◌, ◌++◌}
use Rattle.std.specs.List.{AllByRecursion}
use Rattle.pg_message.specs.declared.message.BackMessage.{BackMessage}
use Rattle.pg_message.specs.declared.message.BackMessage.TheVariants as back
use Rattle.pg_message.specs.declared.message.FrontMessage.{FrontMessage}
use Rattle.pg_message.specs.declared.message.FrontMessage.TheVariants as front
use Rattle.pg_wire.specs.declared.session.Request.{Request}
use Rattle.pg_wire.specs.Segment.{request_messages}

-- a request, and the copy messages that its client sends for it before the next one
pub record Turn : Type 0 where
  pub request : Request
  pub copies : List FrontMessage

-- all that the client sends in a turn
abbrev pub turn_messages : Turn → List FrontMessage
turn_messages t = request_messages t.request ++ t.copies

-- ---- what is sent for copies ("COPY Operations")

-- whether the message is a CopyData, a CopyDone or a CopyFail
abbrev pub is_copy : FrontMessage → Bool
is_copy (front.CopyData bytes) = true
is_copy front.CopyDone = true
is_copy (front.CopyFail reason) = true
is_copy m = false

-- Each message is a CopyData, a CopyDone or a CopyFail.
abbrev pub AreCopies : List FrontMessage → Type 0
AreCopies ms = AllByRecursion (λ m. is_copy m ≡ true) ms

-- The messages are chunks, and then at most one end of a copy.
abbrev pub IsCopy : List FrontMessage → Type 0
IsCopy [] = Unit {0}
IsCopy (front.CopyData bytes ∷ ms) = IsCopy ms
IsCopy (front.CopyDone ∷ ms) = ms ≡ []
IsCopy (front.CopyFail reason ∷ ms) = ms ≡ []
IsCopy (m ∷ ms) = ⊥

-- What is sent for each turn's copies is chunks, and then at most one end.
abbrev pub AreCopied : List Turn → Type 0
AreCopied ts = AllByRecursion (λ t. IsCopy t.copies) ts

-- the bytes of the CopyData among these messages, in order
abbrev pub chunks_of : List FrontMessage → List (List ℕ)
chunks_of [] = []
chunks_of (front.CopyData bytes ∷ ms) = bytes ∷ chunks_of ms
chunks_of (m ∷ ms) = chunks_of ms

-- how many CopyInResponse are among the messages
abbrev pub copies_begun : List BackMessage → ℕ
copies_begun [] = 0
copies_begun (back.CopyIn head ∷ ms) = suc (copies_begun ms)
copies_begun (_ ∷ ms) = copies_begun ms
