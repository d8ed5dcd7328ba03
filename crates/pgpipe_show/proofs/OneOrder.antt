-- What the client and the server sent is printed in one order alone.
use Rattle.std.proofs.Common.{◌≡◌, ℕ, ◌<◌, eqb, Bool, true, false, List, [], ◌∷◌, ◌++◌, length, get_or, take, Option, Some, None, refl, sym, ap, subst, ◌∙◌, append-nil, arith}
use Rattle.std.specs.Prelude.{unwrap_or}
use Rattle.std.proofs.lemmas.Bool.{false≢true}
use Rattle.std.proofs.lemmas.List.{append_cancel_left, take-append-le, take_all}
use Rattle.pgpipe_frames.specs.declared.judge.FrameJudgement.TheVariants as judge
use Rattle.pgpipe_frames.specs.declared.next.NextFrame.{NextFrame}
use Rattle.pgpipe_frames.specs.declared.next.NextFrame.TheVariants as next
use Rattle.pgpipe_frames.specs.Frames.{Frame, judged}
use Rattle.pgpipe_frames.proofs.Judging.{frame_begins}
use Rattle.pgpipe_show.specs.declared.both.turn.Due.{Due}
use Rattle.pgpipe_show.specs.declared.both.turn.Due.TheVariants as whose
use Rattle.pgpipe_show.specs.declared.both.turn.Encryption.{Encryption}
use Rattle.pgpipe_show.specs.declared.both.turn.Ended.{Ended}
use Rattle.pgpipe_show.specs.declared.both.turn.Ended.TheVariants as ending
use Rattle.pgpipe_show.specs.declared.both.turn.BothEnds.{BothEnds}
use Rattle.pgpipe_show.specs.declared.both.turn.Stage.{Stage}
use Rattle.pgpipe_show.specs.declared.both.turn.Stage.TheVariants.{Opening, Requested, Talking}
use Rattle.pgpipe_show.specs.declared.both.turn.Turn.{Turn}
use Rattle.pgpipe_show.specs.Entries.{Entry, Message, End, Reply, AreInTurn, IsAt, IsDue, begins_reply, bytes_at, bytes_of, end_at, kind_at, next_for, said, side_of, spelling, turn_after}
use Rattle.pgpipe_show.specs.Laws.{OneOrder}
use Rattle.pgpipe_show.specs.Turn.{after_reply, due, due_of, first_turn, is_reply}
use Rattle.pgpipe_show.proofs.Orders.{back_stays, own, reply_due, side_due}
use Rattle.pgpipe_show.proofs.Tellings.{frame_fits}

-- ---- after the end of a stream no entry is of it

-- the client's has ended
front_gone : (stage : Stage) (how : Ended) (back : Option Ended) (x : Entry) → IsDue (due_of stage (Some how) back) x → side_of x ≡ false
front_gone Opening how None x d = side_due false x d
front_gone (Requested r) how None x d = reply_due r x d
front_gone (Talking t) how None x d = side_due false x d
front_gone stage how (Some how') x d = absurd d

reply_gone : (refused : Bool) (turn : Turn) (how : Ended) → turn.front ≡ Some how → (how' : Ended) × ((after_reply refused turn).front ≡ Some how')
reply_gone true turn how e = (how, e)
reply_gone false turn how e = (unwrap_or turn.front ending.Encrypted, refl)

front_gone_on : (turn : Turn) (x : Entry) (how : Ended) → side_of x ≡ false → turn.front ≡ Some how → (how' : Ended) × ((turn_after turn x).front ≡ Some how')
front_gone_on turn (Message false f) how is e = (how, e)
front_gone_on turn (Message true f) how is e = absurd cc
front_gone_on turn (End false h rest) how is e = (how, e)
front_gone_on turn (End true h rest) how is e = absurd cc
front_gone_on turn (Reply b) how is e = reply_gone (eqb b 78) turn how e

front_none : (turn : Turn) (n : NextFrame) (xs : List Entry) (turn' : Turn) (n' : NextFrame) (how : Ended) → turn.front ≡ Some how → AreInTurn turn n xs turn' n' → said true xs ≡ []
front_none turn n [] turn' n' how e a = refl
front_none turn n (x ∷ xs) turn' n' how e a =
    let side : side_of x ≡ false = front_gone turn.stage how turn.back x (subst (λ (o : Option Ended). IsDue (due_of turn.stage o turn.back) x) e a.0) in
    let on = front_gone_on turn x how side e in
    ap (λ (b : Bool). bytes_at true b (spelling x) ++ said true xs) side ∙ front_none (turn_after turn x) (next_for n x) xs turn' n' on.0 on.1 a.2

-- the server's has ended
back_gone : (stage : Stage) (how : Ended) (front : Option Ended) (x : Entry) → IsDue (due_of stage front (Some how)) x → side_of x ≡ true
back_gone stage how None x d = side_due true x d
back_gone stage how (Some how') x d = absurd d

back_none : (turn : Turn) (n : NextFrame) (xs : List Entry) (turn' : Turn) (n' : NextFrame) (how : Ended) → turn.back ≡ Some how → AreInTurn turn n xs turn' n' → said false xs ≡ []
back_none turn n [] turn' n' how e a = refl
back_none turn n (x ∷ xs) turn' n' how e a =
    let side : side_of x ≡ true = back_gone turn.stage how turn.front x (subst (λ (o : Option Ended). IsDue (due_of turn.stage turn.front o) x) e a.0) in
    ap (λ (b : Bool). bytes_at false b (spelling x) ++ said false xs) side ∙ back_none (turn_after turn x) (next_for n x) xs turn' n' how (back_stays turn x side ∙ e) a.2

-- so no bytes follow it
abbrev Last : Entry → List ℕ → Type 0
Last (Message front f) later = Unit {0}
Last (End front how rest) later = later ≡ []
Last (Reply b) later = Unit {0}

last : (turn : Turn) (n : NextFrame) (x : Entry) (xs : List Entry) (turn' : Turn) (n' : NextFrame) (side : Bool) → side_of x ≡ side → AreInTurn (turn_after turn x) (next_for n x) xs turn' n' → Last x (said side xs)
last turn n (Message front f) xs turn' n' side is a = tt
last turn n (End true how rest) xs turn' n' true is a = front_none (turn_after turn (End true how rest)) n xs turn' n' how refl a
last turn n (End true how rest) xs turn' n' false is a = absurd cc
last turn n (End false how rest) xs turn' n' false is a = back_none (turn_after turn (End false how rest)) n xs turn' n' how refl a
last turn n (End false how rest) xs turn' n' true is a = absurd cc
last turn n (Reply b) xs turn' n' side is a = tt

-- ---- one entry

first_of : (a x : List ℕ) → take (length a) (a ++ x) ≡ a
first_of a x = take-append-le (length a) a x (omega arith) ∙ take_all (length a) a (omega arith)

same_bytes : (k : NextFrame) (a b p q : List ℕ) → judged k a ≡ judge.Whole (length a) → judged k b ≡ judge.Whole (length b) → a ++ p ≡ b ++ q → a ≡ b
same_bytes k a b p q wa wb e =
    let sizes : judge.Whole (length a) ≡ judge.Whole (length b) = sym (frame_begins k a p wa) ∙ ap (judged k) e ∙ frame_begins k b q wb in
    let long : length a ≡ length b = cc in
    sym (first_of a p) ∙ ap (take (length a)) e ∙ ap (λ (n : ℕ). take n (b ++ q)) long ∙ first_of b q

abbrev frame : NextFrame → List ℕ → Frame
frame kind bytes = record { kind = kind; bytes = bytes }

same_frame : (f g : Frame) → f.kind ≡ g.kind → f.bytes ≡ g.bytes → f ≡ g
same_frame f g kind bytes = ap (λ (k : NextFrame). frame k f.bytes) kind ∙ ap (λ (b : List ℕ). frame g.kind b) bytes

-- a frame isn't what is left at the end of a stream
frame_or_end : (k : NextFrame) (a rest p q : List ℕ) → judged k a ≡ judge.Whole (length a) → ((size : ℕ) → judged k rest ≡ judge.Whole size → ⊥) → a ++ p ≡ rest ++ q → q ≡ [] → ⊥
frame_or_end k a rest p q whole none e nothing =
    let all : rest ≡ a ++ p = sym (append-nil rest) ∙ ap (λ (l : List ℕ). rest ++ l) (sym nothing) ∙ sym e in
    none (length a) (ap (judged k) all ∙ frame_begins k a p whole)

-- where neither is an answer to a request for encryption
one_entry : (k : NextFrame) (side : Bool) (x y : Entry) (p q : List ℕ) → IsDue (whose.Side side) x → IsDue (whose.Side side) y → IsAt k x → IsAt k y → spelling x ++ p ≡ spelling y ++ q → Last x p → Last y q → x ≡ y
one_entry k side (Message a f) (Message b g) p q dx dy ax ay e lx ly =
    let same : f ≡ g = same_frame f g (ax.0 ∙ sym ay.0) (same_bytes k f.bytes g.bytes p q ax.1 ay.1 e) in
    ap (λ (s : Bool). Message s f) (dx ∙ sym dy) ∙ ap (λ (h : Frame). Message b h) same
one_entry k side (Message a f) (End b how rest) p q dx dy ax ay e lx ly = absurd (frame_or_end k f.bytes rest p q ax.1 ay.1 e ly)
one_entry k side (End a how rest) (Message b g) p q dx dy ax ay e lx ly = absurd (frame_or_end k g.bytes rest q p ay.1 ax.1 (sym e) lx)
one_entry k side (End a how rest) (End b how' rest') p q dx dy ax ay e lx ly =
    let same : rest ≡ rest' = sym (append-nil rest) ∙ ap (λ (l : List ℕ). rest ++ l) (sym lx) ∙ e ∙ ap (λ (l : List ℕ). rest' ++ l) ly ∙ append-nil rest' in
    let alike : how ≡ how' = ax.0 ∙ ap (end_at k) same ∙ sym ay.0 in
    ap (λ (s : Bool). End s how rest) (dx ∙ sym dy) ∙ ap (λ (h : Ended). End b h rest) alike ∙ ap (λ (r : List ℕ). End b how' r) same
one_entry k side (Reply b) y p q dx dy ax ay e lx ly = absurd dx
one_entry k side (Message a f) (Reply b) p q dx dy ax ay e lx ly = absurd dy
one_entry k side (End a how rest) (Reply b) p q dx dy ax ay e lx ly = absurd dy

-- an answer is not what doesn't begin with one
not_both : (r : Encryption) (b : ℕ) (p ys q : List ℕ) → is_reply r b ≡ true → begins_reply r ys ≡ false → 0 < length ys → b ∷ p ≡ ys ++ q → ⊥
not_both r b p [] q does isnt some e = omega (arith, some)
not_both r b p (y ∷ ys) q does isnt some e =
    let same : b ≡ y = ap (λ (l : List ℕ). get_or l 0 0) e in
    false≢true (sym isnt ∙ ap (is_reply r) (sym same) ∙ does)

not_message : (r : Encryption) (k : NextFrame) (b : ℕ) (p : List ℕ) (f : Frame) (q : List ℕ) → is_reply r b ≡ true → begins_reply r f.bytes ≡ false → judged k f.bytes ≡ judge.Whole (length f.bytes) → b ∷ p ≡ f.bytes ++ q → ⊥
not_message r k b p f q does isnt whole e = not_both r b p f.bytes q does isnt (omega (arith, (frame_fits k f.bytes whole).0)) e

not_end : (r : Encryption) (b : ℕ) (p rest q : List ℕ) → is_reply r b ≡ true → begins_reply r rest ≡ false → q ≡ [] → b ∷ p ≡ rest ++ q → ⊥
not_end r b p [] q does isnt nothing e = omega (arith, ap (λ (l : List ℕ). length l) (e ∙ nothing))
not_end r b p (y ∷ ys) q does isnt nothing e = not_both r b p (y ∷ ys) q does isnt (omega arith) e

one_answer : (k : NextFrame) (r : Encryption) (x y : Entry) (p q : List ℕ) → IsDue (whose.Reply r) x → IsDue (whose.Reply r) y → IsAt k x → IsAt k y → spelling x ++ p ≡ spelling y ++ q → Last x p → Last y q → x ≡ y
one_answer k r (Reply b) (Reply b') p q dx dy ax ay e lx ly = ap (λ (l : List ℕ). Reply (get_or l 0 0)) e
one_answer k r (Reply b) (Message a f) p q dx dy ax ay e lx ly = absurd (not_message r k b p f q dx dy.1 ay.1 e)
one_answer k r (Reply b) (End a how rest) p q dx dy ax ay e lx ly = absurd (not_end r b p rest q dx dy.1 ly e)
one_answer k r (Message a f) (Reply b) p q dx dy ax ay e lx ly = absurd (not_message r k b q f p dy dx.1 ax.1 (sym e))
one_answer k r (End a how rest) (Reply b) p q dx dy ax ay e lx ly = absurd (not_end r b q rest p dy dx.1 lx (sym e))
one_answer k r (Message a f) (Message b g) p q dx dy ax ay e lx ly = one_entry k false (Message a f) (Message b g) p q dx.0 dy.0 ax ay e lx ly
one_answer k r (Message a f) (End b how rest) p q dx dy ax ay e lx ly = one_entry k false (Message a f) (End b how rest) p q dx.0 dy.0 ax ay e lx ly
one_answer k r (End a how rest) (Message b g) p q dx dy ax ay e lx ly = one_entry k false (End a how rest) (Message b g) p q dx.0 dy.0 ax ay e lx ly
one_answer k r (End a how rest) (End b how' rest') p q dx dy ax ay e lx ly = one_entry k false (End a how rest) (End b how' rest') p q dx.0 dy.0 ax ay e lx ly

-- ---- all entries

-- at the place of the side that they are of
placed : (n : NextFrame) (side : Bool) (x : Entry) → side_of x ≡ side → IsAt (kind_at (side_of x) n) x → IsAt (kind_at side n) x
placed n side x is at = subst (λ (s : Bool). IsAt (kind_at s n) x) is at

spelled : (side : Bool) (x y : Entry) (p q : List ℕ) → side_of x ≡ side → side_of y ≡ side → bytes_of side x ++ p ≡ bytes_of side y ++ q → spelling x ++ p ≡ spelling y ++ q
spelled side x y p q sx sy e = ap (λ (l : List ℕ). l ++ p) (sym (own side x sx)) ∙ e ∙ ap (λ (l : List ℕ). l ++ q) (own side y sy)

module _ (turn : Turn) (n : NextFrame) (x : Entry) (xs : List Entry) (turn1 : Turn) (n1 : NextFrame) (y : Entry) (ys : List Entry) (turn2 : Turn) (n2 : NextFrame) (a : AreInTurn turn n (x ∷ xs) turn1 n1) (b : AreInTurn turn n (y ∷ ys) turn2 n2)
    (same : (side : Bool) → said side (x ∷ xs) ≡ said side (y ∷ ys)) where
  of_side : (side : Bool) → IsDue (whose.Side side) x → IsDue (whose.Side side) y → x ≡ y
  of_side side dx dy =
      let sx = side_due side x dx in
      let sy = side_due side y dy in
      one_entry (kind_at side n) side x y (said side xs) (said side ys) dx dy (placed n side x sx a.1) (placed n side y sy b.1) (spelled side x y (said side xs) (said side ys) sx sy (same side)) (last turn n x xs turn1 n1 side sx a.2) (last turn n y ys turn2 n2 side sy b.2)

  of_answer : (r : Encryption) → IsDue (whose.Reply r) x → IsDue (whose.Reply r) y → x ≡ y
  of_answer r dx dy =
      let sx = reply_due r x dx in
      let sy = reply_due r y dy in
      one_answer (kind_at false n) r x y (said false xs) (said false ys) dx dy (placed n false x sx a.1) (placed n false y sy b.1) (spelled false x y (said false xs) (said false ys) sx sy (same false)) (last turn n x xs turn1 n1 false sx a.2) (last turn n y ys turn2 n2 false sy b.2)

  first_same : (d : Due) → IsDue d x → IsDue d y → x ≡ y
  first_same (whose.Side side) dx dy = of_side side dx dy
  first_same (whose.Reply r) dx dy = of_answer r dx dy
  first_same (whose.Nobody ends) dx dy = absurd dx

  heads : x ≡ y
  heads = first_same (due turn) a.0 b.0

  tails : (side : Bool) → said side xs ≡ said side ys
  tails side = append_cancel_left (bytes_of side x) (said side xs) (said side ys) (same side ∙ ap (λ (z : Entry). bytes_of side z ++ said side ys) (sym heads))

  later : AreInTurn (turn_after turn x) (next_for n x) ys turn2 n2
  later = subst (λ (z : Entry). AreInTurn (turn_after turn z) (next_for n z) ys turn2 n2) (sym heads) b.2

-- nothing is due where both streams have ended
over : (turn : Turn) (turn' : Turn) (ends : BothEnds) (x : Entry) → turn ≡ turn' → due turn' ≡ whose.Nobody ends → IsDue (due turn) x → ⊥
over turn turn' ends x e is d = subst (λ (z : Due). IsDue z x) (ap (λ (t : Turn). due t) e ∙ is) d

same_order : (turn : Turn) (n : NextFrame) (xs : List Entry) (turn1 : Turn) (n1 : NextFrame) (ends1 : BothEnds) (ys : List Entry) (turn2 : Turn) (n2 : NextFrame) (ends2 : BothEnds) → AreInTurn turn n xs turn1 n1 → due turn1 ≡ whose.Nobody ends1 → AreInTurn turn n ys turn2 n2 → due turn2 ≡ whose.Nobody ends2
    → ((side : Bool) → said side xs ≡ said side ys) → xs ≡ ys
same_order turn n [] turn1 n1 ends1 [] turn2 n2 ends2 a over1 b over2 same = refl
same_order turn n [] turn1 n1 ends1 (y ∷ ys) turn2 n2 ends2 a over1 b over2 same = absurd (over turn turn1 ends1 y a.0 over1 b.0)
same_order turn n (x ∷ xs) turn1 n1 ends1 [] turn2 n2 ends2 a over1 b over2 same = absurd (over turn turn2 ends2 x b.0 over2 a.0)
same_order turn n (x ∷ xs) turn1 n1 ends1 (y ∷ ys) turn2 n2 ends2 a over1 b over2 same =
    let first : x ≡ y = heads turn n x xs turn1 n1 y ys turn2 n2 a b same in
    let rest : xs ≡ ys = same_order (turn_after turn x) (next_for n x) xs turn1 n1 ends1 ys turn2 n2 ends2 a.2 over1 (later turn n x xs turn1 n1 y ys turn2 n2 a b same) over2 (tails turn n x xs turn1 n1 y ys turn2 n2 a b same) in
    cc

both_sides : (xs ys : List Entry) → said true xs ≡ said true ys → said false xs ≡ said false ys → (side : Bool) → said side xs ≡ said side ys
both_sides xs ys front back true = front
both_sides xs ys front back false = back

pub one_order : OneOrder
one_order = λ xs turn n ends ys turn' n' ends' a is b is' front back. same_order first_turn next.Packet xs turn n ends ys turn' n' ends' a is b is' (both_sides xs ys front back)
