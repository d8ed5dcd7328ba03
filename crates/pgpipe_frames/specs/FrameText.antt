-- What a frame is shown as: as the message or the first packet that it is, or as none of the tables.
use Rattle.std.specs.Prelude.{ℕ, ◌≡◌, Bool, true, false, List, Option, Some, None}
use Rattle.pg_wire.specs.Backend.{backend}
use Rattle.pg_wire.specs.Frontend.{frontend}
use Rattle.pg_wire.specs.message.BackMessage.{BackMessage}
use Rattle.pg_wire.specs.message.FrontMessage.{FrontMessage}
use Rattle.pg_wire.specs.message.First.{First}
use Rattle.pgpipe_frames.specs.declared.next.NextFrame.{NextFrame}
use Rattle.pgpipe_frames.specs.declared.next.NextFrame.TheVariants as next
use Rattle.pgpipe_frames.specs.Reading.{IsReadAs, IsPacketReadAs}
use Rattle.pgpipe_texts.specs.Backend.{back_text}
use Rattle.pgpipe_frames.specs.Frontend.{front_text}
use Rattle.pgpipe_texts.specs.Packet.{packet_text}
use Rattle.pgpipe_frames.specs.Other.{other_back, other_front, other_packet}

-- the text of what was read, or this other one where nothing was
abbrev pub text_or : {M : Type 0} → (M → List ℕ) → List ℕ → Option M → List ℕ
text_or text other (Some m) = text m
text_or text other None = other

-- what a message of the backend is shown as
abbrev pub IsBackText : List ℕ → List ℕ → Type 0
IsBackText bytes text = (m : Option BackMessage) × IsReadAs backend bytes m
    × (text ≡ text_or back_text (other_back bytes) m)

-- what a message of the frontend is shown as
abbrev pub IsFrontText : List ℕ → List ℕ → Type 0
IsFrontText bytes text = (m : Option FrontMessage) × IsReadAs frontend bytes m
    × (text ≡ text_or front_text (other_front bytes) m)

-- what a first packet is shown as
abbrev pub IsPacketText : List ℕ → List ℕ → Type 0
IsPacketText bytes text = (p : Option First) × IsPacketReadAs bytes p
    × (text ≡ text_or packet_text (other_packet bytes) p)

-- what a message of a client (true) or of a backend is shown as
abbrev pub IsMessageText : Bool → List ℕ → List ℕ → Type 0
IsMessageText false bytes text = IsBackText bytes text
IsMessageText true bytes text = IsFrontText bytes text

-- what a frame of a client (true) or of a backend is shown as
abbrev pub IsTextOf : Bool → NextFrame → List ℕ → List ℕ → Type 0
IsTextOf front next.Packet bytes text = IsPacketText bytes text
IsTextOf front next.Message bytes text = IsMessageText front bytes text
IsTextOf front next.Nothing bytes text = IsMessageText front bytes text
