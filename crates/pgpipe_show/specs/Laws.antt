-- Laws of two streams that are printed.
use Rattle.std.specs.Prelude.{◌≡◌, true, false, List}
use Rattle.pgpipe_frames.specs.declared.next.NextFrame.{NextFrame}
use Rattle.pgpipe_frames.specs.declared.next.NextFrame.TheVariants as next
use Rattle.pgpipe_show.specs.declared.both.turn.Due.TheVariants as whose
use Rattle.pgpipe_show.specs.declared.both.turn.BothEnds.{BothEnds}
use Rattle.pgpipe_show.specs.declared.both.turn.Turn.{Turn}
use Rattle.pgpipe_show.specs.Entries.{Entry, AreInTurn, said}
use Rattle.pgpipe_show.specs.Turn.{due, first_turn}

-- The order is a function of the two streams alone: two lists of entries that stand in turn to the end of
-- both streams are the same where they have the same bytes of the client and of the server.
abbrev pub OneOrder : Type 0
OneOrder = (xs : List Entry) (turn : Turn) (n : NextFrame) (ends : BothEnds) (ys : List Entry)
    (turn' : Turn) (n' : NextFrame) (ends' : BothEnds)
    → AreInTurn first_turn next.Packet xs turn n → due turn ≡ whose.Nobody ends
    → AreInTurn first_turn next.Packet ys turn' n' → due turn' ≡ whose.Nobody ends'
    → said true xs ≡ said true ys → said false xs ≡ said false ys → xs ≡ ys
