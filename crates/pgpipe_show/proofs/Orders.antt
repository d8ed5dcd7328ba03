-- The entries, and whose turn it is, as one entry more is put.
use Rattle.std.proofs.Common.{◌≡◌, ℕ, zero, suc, eqb, Bool, true, false, List, [], ◌∷◌, ◌++◌, length, get_or, Option, Some, None, refl, sym, ap, subst, ◌∙◌, append_assoc, append-nil}
use Rattle.std.specs.Prelude.{unwrap_or}
use Rattle.std.proofs.lemmas.Grind.{flat_map-append}
use Rattle.pgpipe_frames.specs.declared.judge.FrameJudgement.{FrameJudgement}
use Rattle.pgpipe_frames.specs.declared.judge.FrameJudgement.TheVariants as judge
use Rattle.pgpipe_frames.specs.declared.next.NextFrame.{NextFrame}
use Rattle.pgpipe_frames.specs.declared.next.NextFrame.TheVariants as next
use Rattle.pgpipe_frames.specs.Frames.{judged}
use Rattle.pgpipe_show.specs.declared.both.turn.Due.TheVariants as whose
use Rattle.pgpipe_show.specs.declared.both.turn.Encryption.{Encryption}
use Rattle.pgpipe_show.specs.declared.both.turn.Ended.{Ended}
use Rattle.pgpipe_show.specs.declared.both.turn.Ended.TheVariants as ending
use Rattle.pgpipe_show.specs.declared.both.turn.BothEnds.{BothEnds}
use Rattle.pgpipe_show.specs.declared.both.turn.Stage.{Stage}
use Rattle.pgpipe_show.specs.declared.both.turn.Stage.TheVariants.{Opening, Requested, Talking}
use Rattle.pgpipe_show.specs.declared.both.turn.Turn.{Turn}
use Rattle.pgpipe_show.specs.Entries.{Entry, Message, End, Reply, AreEntryLines, AreInTurn, HasEnded, IsAt, IsDue, IsEntryLine, begins_reply, bytes_at, bytes_of, end_at, end_by, kind_at, next_for, said, side_of, spelling, turn_after}
use Rattle.pgpipe_show.specs.Turn.{after_reply, due, due_of, is_reply, opening_sent, stage_sent}
use Rattle.pgpipe_show.specs.Private.Telling.{IsAlone, IsEnding, IsSourceAtEnd, IsUntouched, kind_after, left_after, unread}

-- ---- one entry more

pub in_turn_more : (turn : Turn) (n : NextFrame) (xs : List Entry) (turn' : Turn) (n' : NextFrame) (x : Entry) → AreInTurn turn n xs turn' n' → IsDue (due turn') x → IsAt (kind_at (side_of x) n') x → AreInTurn turn n (xs ++ x ∷ []) (turn_after turn' x) (next_for n' x)
in_turn_more turn n [] turn' n' x a d k = (
  subst (λ (t : Turn). IsDue (due t) x) (sym a.0) d,
  subst (λ (m : NextFrame). IsAt (kind_at (side_of x) m) x) (sym a.1) k,
  (ap (λ (t : Turn). turn_after t x) a.0, ap (λ (m : NextFrame). next_for m x) a.1),
)
in_turn_more turn n (y ∷ ys) turn' n' x a d k = (a.0, a.1, in_turn_more (turn_after turn y) (next_for n y) ys turn' n' x a.2 d k)

pub lines_more : (xs : List Entry) (x : Entry) (text line : List ℕ) → AreEntryLines xs text → IsEntryLine x line → AreEntryLines (xs ++ x ∷ []) (text ++ line)
lines_more [] x text line a l = (line, [], l, refl, ap (λ (t : List ℕ). t ++ line) a ∙ sym (append-nil line))
lines_more (y ∷ ys) x text line a l = (a.0, a.1 ++ line, a.2, lines_more ys x a.1 line a.3 l, ap (λ (t : List ℕ). t ++ line) a.4 ∙ append_assoc a.0 a.1 line)

pub said_more : (side : Bool) (xs : List Entry) (x : Entry) → said side (xs ++ x ∷ []) ≡ said side xs ++ bytes_of side x
said_more side xs x = flat_map-append (bytes_of side) xs (x ∷ []) ∙ ap (λ (l : List ℕ). said side xs ++ l) (append-nil (bytes_of side x))

-- of the side that an entry is of
pub own : (side : Bool) (x : Entry) → side_of x ≡ side → bytes_of side x ≡ spelling x
own side x is = at_own side (side_of x) (spelling x) is
  where
    at_own : (a b : Bool) (bytes : List ℕ) → b ≡ a → bytes_at a b bytes ≡ bytes
    at_own true true bytes e = refl
    at_own true false bytes e = absurd cc
    at_own false true bytes e = absurd cc
    at_own false false bytes e = refl

pub said_own : (side : Bool) (xs : List Entry) (x : Entry) → side_of x ≡ side → said side (xs ++ x ∷ []) ≡ said side xs ++ spelling x
said_own side xs x is = said_more side xs x ∙ ap (λ (l : List ℕ). said side xs ++ l) (own side x is)

-- and of the other
pub front_same : (xs : List Entry) (x : Entry) → side_of x ≡ false → said true (xs ++ x ∷ []) ≡ said true xs
front_same xs x is = said_more true xs x ∙ ap (λ (b : Bool). said true xs ++ bytes_at true b (spelling x)) is ∙ append-nil (said true xs)

pub back_same : (xs : List Entry) (x : Entry) → side_of x ≡ true → said false (xs ++ x ∷ []) ≡ said false xs
back_same xs x is = said_more false xs x ∙ ap (λ (b : Bool). said false xs ++ bytes_at false b (spelling x)) is ∙ append-nil (said false xs)

-- ---- what is due

pub side_due : (side : Bool) (x : Entry) → IsDue (whose.Side side) x → side_of x ≡ side
side_due side (Message front f) d = d
side_due side (End front how rest) d = d
side_due side (Reply b) d = absurd d

pub reply_due : (r : Encryption) (x : Entry) → IsDue (whose.Reply r) x → side_of x ≡ false
reply_due r (Message front f) d = d.0
reply_due r (End front how rest) d = d.0
reply_due r (Reply b) d = refl

-- the side that has the turn has not ended
pub front_open : (stage : Stage) (front back : Option Ended) → due_of stage front back ≡ whose.Side true → front ≡ None
front_open stage None back e = refl
front_open Opening (Some how) None e = absurd cc
front_open (Requested r) (Some how) None e = absurd cc
front_open (Talking t) (Some how) None e = absurd cc
front_open stage (Some how) (Some how') e = absurd cc

pub back_open : (stage : Stage) (front back : Option Ended) → due_of stage front back ≡ whose.Side false → back ≡ None
back_open stage front None e = refl
back_open stage None (Some how) e = absurd cc
back_open stage (Some how') (Some how) e = absurd cc

pub reply_open : (stage : Stage) (front back : Option Ended) (r : Encryption) → due_of stage front back ≡ whose.Reply r → back ≡ None
reply_open stage front None r e = refl
reply_open stage None (Some how) r e = absurd cc
reply_open stage (Some how') (Some how) r e = absurd cc

-- and a request for encryption was made
pub requested : (stage : Stage) (front back : Option Ended) (r : Encryption) (kept : List ℕ) → due_of stage front back ≡ whose.Reply r → IsUntouched stage kept → kept ≡ []
requested Opening front back r kept e u = u
requested (Requested r') front back r kept e u = u
requested (Talking t) None None r kept e u = absurd cc
requested (Talking t) (Some how) None r kept e u = absurd cc
requested (Talking t) None (Some how) r kept e u = absurd cc
requested (Talking t) (Some how') (Some how) r kept e u = absurd cc

-- nobody has the turn once both have ended
pub both_ended : (stage : Stage) (front back : Option Ended) (ends : BothEnds) → due_of stage front back ≡ whose.Nobody ends → (front ≡ Some ends.front) × (back ≡ Some ends.back)
both_ended stage (Some how) (Some how') ends e =
    let made : BothEnds = record { front = how; back = how' } in
    let same : made ≡ ends = cc in
    (ap (λ (x : BothEnds). Some x.front) same, ap (λ (x : BothEnds). Some x.back) same)
both_ended stage None (Some how) ends e = absurd cc
both_ended Opening (Some how) None ends e = absurd cc
both_ended (Requested r) (Some how) None ends e = absurd cc
both_ended (Talking t) (Some how) None ends e = absurd cc
both_ended Opening None None ends e = absurd cc
both_ended (Requested r) None None ends e = absurd cc
both_ended (Talking t) None None ends e = absurd cc

-- ---- the turn after an entry

-- an end is never that of a stream which goes on encrypted
not_encrypted : (j : FrameJudgement) (size : ℕ) → ending.Encrypted ≡ end_by j size → ⊥
not_encrypted (judge.Faulty f) size e = cc
not_encrypted judge.Open zero e = cc
not_encrypted judge.Open (suc size) e = cc
not_encrypted (judge.Whole k) zero e = cc
not_encrypted (judge.Whole k) (suc size) e = cc

never_encrypted : (n : NextFrame) (rest : List ℕ) → ending.Encrypted ≡ end_at n rest → ⊥
never_encrypted next.Packet rest e = not_encrypted (judged next.Packet rest) (length rest) e
never_encrypted next.Message rest e = not_encrypted (judged next.Message rest) (length rest) e
never_encrypted next.Nothing rest e = cc

end_left : (how : Ended) (n : NextFrame) (rest kept : List ℕ) → HasEnded n rest how → unread (Some how) kept ≡ []
end_left ending.Whole n rest kept h = refl
end_left (ending.Rest size) n rest kept h = refl
end_left (ending.Fault f) n rest kept h = refl
end_left ending.Canceled n rest kept h = refl
end_left ending.Encrypted n rest kept h = absurd (never_encrypted n rest h.0)

-- what is kept of the client's stream after an entry of it
pub front_left : (turn : Turn) (x : Entry) (kind : NextFrame) (kept : List ℕ) → turn.front ≡ None → side_of x ≡ true → IsAt kind x → unread (turn_after turn x).front kept ≡ left_after x kept
front_left turn (Message true f) kind kept free is at = ap (λ (o : Option Ended). unread o kept) free
front_left turn (Message false f) kind kept free is at = absurd cc
front_left turn (End true how rest) kind kept free is at = end_left how kind rest kept at
front_left turn (End false how rest) kind kept free is at = absurd cc
front_left turn (Reply b) kind kept free is at = absurd cc

reply_left : (refused : Bool) (turn : Turn) (kept : List ℕ) → turn.back ≡ None → unread (after_reply refused turn).back kept ≡ kept
reply_left true turn kept free = ap (λ (o : Option Ended). unread o kept) free
reply_left false turn kept free = refl

-- and of the server's after one of that
pub back_left : (turn : Turn) (x : Entry) (kind : NextFrame) (kept : List ℕ) → turn.back ≡ None → side_of x ≡ false → IsAt kind x → unread (turn_after turn x).back kept ≡ left_after x kept
back_left turn (Message false f) kind kept free is at = ap (λ (o : Option Ended). unread o kept) free
back_left turn (Message true f) kind kept free is at = absurd cc
back_left turn (End false how rest) kind kept free is at = end_left how kind rest kept at
back_left turn (End true how rest) kind kept free is at = absurd cc
back_left turn (Reply b) kind kept free is at = reply_left (eqb b 78) turn kept free

-- the server's stream plays no part in an entry of the client
pub back_stays : (turn : Turn) (x : Entry) → side_of x ≡ true → (turn_after turn x).back ≡ turn.back
back_stays turn (Message true f) is = refl
back_stays turn (Message false f) is = absurd cc
back_stays turn (End true how rest) is = refl
back_stays turn (End false how rest) is = absurd cc
back_stays turn (Reply b) is = absurd cc

kept_or : (o : Option Ended) (kept : List ℕ) → unread (Some (unwrap_or o ending.Encrypted)) kept ≡ unread o kept
kept_or None kept = refl
kept_or (Some how) kept = refl

reply_stays : (refused : Bool) (turn : Turn) (kept : List ℕ) → unread (after_reply refused turn).front kept ≡ unread turn.front kept
reply_stays true turn kept = refl
reply_stays false turn kept = kept_or turn.front kept

-- nor the client's in one of the server
pub front_stays : (turn : Turn) (x : Entry) (kept : List ℕ) → side_of x ≡ false → unread (turn_after turn x).front kept ≡ unread turn.front kept
front_stays turn (Message false f) kept is = refl
front_stays turn (Message true f) kept is = absurd cc
front_stays turn (End false how rest) kept is = refl
front_stays turn (End true how rest) kept is = absurd cc
front_stays turn (Reply b) kept is = reply_stays (eqb b 78) turn kept

-- ---- the sources

pub front_ends : (at_end : Type 0) (turn : Turn) (x : Entry) → turn.front ≡ None → side_of x ≡ true → IsEnding at_end x → IsSourceAtEnd at_end (turn_after turn x).front
front_ends at_end turn (Message true f) free is e = subst (λ (o : Option Ended). IsSourceAtEnd at_end o) (sym free) tt
front_ends at_end turn (Message false f) free is e = absurd cc
front_ends at_end turn (End true how rest) free is e = e
front_ends at_end turn (End false how rest) free is e = absurd cc
front_ends at_end turn (Reply b) free is e = absurd cc

reply_ends : (at_end : Type 0) (refused : Bool) (turn : Turn) → turn.back ≡ None → IsSourceAtEnd at_end (after_reply refused turn).back
reply_ends at_end true turn free = subst (λ (o : Option Ended). IsSourceAtEnd at_end o) (sym free) tt
reply_ends at_end false turn free = tt

pub back_ends : (at_end : Type 0) (turn : Turn) (x : Entry) → turn.back ≡ None → side_of x ≡ false → IsEnding at_end x → IsSourceAtEnd at_end (turn_after turn x).back
back_ends at_end turn (Message false f) free is e = subst (λ (o : Option Ended). IsSourceAtEnd at_end o) (sym free) tt
back_ends at_end turn (Message true f) free is e = absurd cc
back_ends at_end turn (End false how rest) free is e = e
back_ends at_end turn (End true how rest) free is e = absurd cc
back_ends at_end turn (Reply b) free is e = reply_ends at_end (eqb b 78) turn free

ends_or : (at_end : Type 0) (o : Option Ended) → IsSourceAtEnd at_end o → IsSourceAtEnd at_end (Some (unwrap_or o ending.Encrypted))
ends_or at_end None e = tt
ends_or at_end (Some how) e = e

reply_keeps : (at_end : Type 0) (refused : Bool) (turn : Turn) → IsSourceAtEnd at_end turn.front → IsSourceAtEnd at_end (after_reply refused turn).front
reply_keeps at_end true turn e = e
reply_keeps at_end false turn e = ends_or at_end turn.front e

pub front_keeps : (at_end : Type 0) (turn : Turn) (x : Entry) → side_of x ≡ false → IsSourceAtEnd at_end turn.front → IsSourceAtEnd at_end (turn_after turn x).front
front_keeps at_end turn (Message false f) is e = e
front_keeps at_end turn (Message true f) is e = absurd cc
front_keeps at_end turn (End false how rest) is e = e
front_keeps at_end turn (End true how rest) is e = absurd cc
front_keeps at_end turn (Reply b) is e = reply_keeps at_end (eqb b 78) turn e

-- ---- before the server has sent a message

untouched_any : (stage : Stage) (kept : List ℕ) → kept ≡ [] → IsUntouched stage kept
untouched_any Opening kept e = e
untouched_any (Requested r) kept e = e
untouched_any (Talking t) kept e = tt

untouched_sent : (stage : Stage) (kind : NextFrame) (bytes kept : List ℕ) → IsUntouched stage kept → IsUntouched (stage_sent stage kind bytes) kept
untouched_sent Opening kind bytes kept u = untouched_any (opening_sent kind bytes) kept u
untouched_sent (Requested r) kind bytes kept u = untouched_any (opening_sent kind bytes) kept u
untouched_sent (Talking t) kind bytes kept u = tt

pub front_untouched : (turn : Turn) (x : Entry) (kept : List ℕ) → side_of x ≡ true → IsUntouched turn.stage kept → IsUntouched (turn_after turn x).stage kept
front_untouched turn (Message true f) kept is u = untouched_sent turn.stage f.kind f.bytes kept u
front_untouched turn (Message false f) kept is u = absurd cc
front_untouched turn (End true how rest) kept is u = u
front_untouched turn (End false how rest) kept is u = absurd cc
front_untouched turn (Reply b) kept is u = absurd cc

reply_untouched : (refused : Bool) (turn : Turn) (kept : List ℕ) → kept ≡ [] → IsUntouched (after_reply refused turn).stage kept
reply_untouched true turn kept e = e
reply_untouched false turn kept e = e

pub back_untouched : (turn : Turn) (x : Entry) (kept : List ℕ) → side_of x ≡ false → IsAlone x kept → IsUntouched (turn_after turn x).stage kept
back_untouched turn (Message false f) kept is a = tt
back_untouched turn (Message true f) kept is a = absurd cc
back_untouched turn (End false how rest) kept is a = tt
back_untouched turn (End true how rest) kept is a = absurd cc
back_untouched turn (Reply b) kept is a = reply_untouched (eqb b 78) turn kept a

-- ---- what is next in the client's stream

pub front_next : (n : NextFrame) (x : Entry) → side_of x ≡ true → kind_after n x ≡ next_for n x
front_next n (Message true f) is = refl
front_next n (Message false f) is = absurd cc
front_next n (End front how rest) is = refl
front_next n (Reply b) is = refl

pub back_next : (n : NextFrame) (x : Entry) → side_of x ≡ false → n ≡ next_for n x
back_next n (Message false f) is = refl
back_next n (Message true f) is = absurd cc
back_next n (End front how rest) is = refl
back_next n (Reply b) is = refl

-- a message follows each message of the server
pub message_next : (kind : NextFrame) (x : Entry) → kind ≡ next.Message → kind_after kind x ≡ next.Message
message_next kind x is = subst (λ (k : NextFrame). kind_after k x ≡ next.Message) (sym is) (by_entry x)
  where
    by_entry : (y : Entry) → kind_after next.Message y ≡ next.Message
    by_entry (Message front f) = refl
    by_entry (End front how rest) = refl
    by_entry (Reply b) = refl

-- an entry is at its place, whose side is known
pub front_at : (n : NextFrame) (x : Entry) → side_of x ≡ true → IsAt n x → IsAt (kind_at (side_of x) n) x
front_at n x is at = subst (λ (s : Bool). IsAt (kind_at s n) x) (sym is) at

pub back_at : (n kind : NextFrame) (x : Entry) → side_of x ≡ false → kind ≡ next.Message → IsAt kind x → IsAt (kind_at (side_of x) n) x
back_at n kind x is k at = subst (λ (s : Bool). IsAt (kind_at s n) x) (sym is) (subst (λ (m : NextFrame). IsAt m x) k at)

-- ---- what doesn't begin with an answer to a request for encryption

pub no_reply : (r : Encryption) (b : ℕ) (xs ys zs : List ℕ) → b ∷ xs ≡ ys ++ zs → is_reply r b ≡ false → begins_reply r ys ≡ false
no_reply r b xs [] zs e isnt = refl
no_reply r b xs (y ∷ ys) zs e isnt = let same : b ≡ y = ap (λ (l : List ℕ). get_or l 0 0) e in subst (λ (c : ℕ). is_reply r c ≡ false) same isnt
