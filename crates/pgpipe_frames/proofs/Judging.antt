-- What stands at the beginning of a rest, of the frame that it begins with, and of more bytes.
use Rattle.std.proofs.Common.{◌≡◌, ℕ, ◌+◌, ◌-◌, ◌≤◌, ◌++◌, Bool, true, false, ltb, List, length, take, drop, Some, None, Ok, Err, refl, sym, ap, subst, ◌∙◌, arith, length-append}
use Rattle.std.specs.Int.{w32, from_be_bytes}
use Rattle.std.proofs.lemmas.Bool.{cond-true, cond-false, le-ltb, ltb-false}
use Rattle.std.proofs.lemmas.List.{length-take-le, drop-take, take-take, take-append-le, drop-append-le, length-drop}
use Rattle.pgpipe_frames.specs.declared.next.NextFrame.{NextFrame}
use Rattle.pgpipe_frames.specs.declared.next.NextFrame.TheVariants as next
use Rattle.pgpipe_frames.specs.declared.judge.FrameJudgement.{FrameJudgement}
use Rattle.pgpipe_frames.specs.declared.judge.FrameJudgement.TheVariants.{Open, Whole, Faulty}
use Rattle.pg_wire.specs.declared.fault.WireFault.{WireFault}
use Rattle.pgpipe_frames.specs.Reader.{answer_of}
use Rattle.pgpipe_frames.specs.Frames.{fewest, field_at, judged_by, judged_field, judged}

-- what the length field of a whole frame says: its size, the least of it, and that it is there
pub whole_is : (tag least most size : ℕ) (field : List ℕ) (n : ℕ) → judged_by tag least most size field ≡ Whole n → (n ≡ tag + from_be_bytes w32 field) × (least ≤ from_be_bytes w32 field) × (from_be_bytes w32 field ≤ most) × (n ≤ size)
whole_is tag least most size field n e = grind arith

-- the same field says the same of any number of bytes that are enough
pub whole_of : (tag least most size size' : ℕ) (field : List ℕ) (n : ℕ) → judged_by tag least most size field ≡ Whole n → n ≤ size' → judged_by tag least most size' field ≡ Whole n
whole_of tag least most size size' field n e fits = grind arith

-- a length field that is there
pub field_there : (tag : ℕ) (rest : List ℕ) → tag + 4 ≤ length rest → field_at tag rest ≡ Some (take 4 (drop tag rest))
field_there tag rest there = cond-false _ _ _ (le-ltb (length rest) (tag + 4) there)

-- One that isn't there begins no frame.
pub there_if_whole : (tag least most : ℕ) (rest : List ℕ) (n : ℕ) → judged_field tag least most (length rest) (field_at tag rest) ≡ Whole n → tag + 4 ≤ length rest
there_if_whole tag least most rest n e = by_test (ltb (length rest) (tag + 4)) refl
  where
    by_test : (b : Bool) → ltb (length rest) (tag + 4) ≡ b → tag + 4 ≤ length rest
    by_test false is = ltb-false (length rest) (tag + 4) is
    by_test true is =
        let none : field_at tag rest ≡ None = cond-true _ _ _ is in
        let opened : Open ≡ Whole n = sym (ap (judged_field tag least most (length rest)) none) ∙ e in
        absurd cc

-- What a whole frame is in other bytes, of which its length field is the same.
pub same_field : (tag least most : ℕ) (rest other : List ℕ) (n : ℕ) → judged_field tag least most (length rest) (field_at tag rest) ≡ Whole n → tag + 4 ≤ length other → n ≤ length other → take 4 (drop tag other) ≡ take 4 (drop tag rest)
    → judged_field tag least most (length other) (field_at tag other) ≡ Whole n
same_field tag least most rest other n e there fits same =
    let here = there_if_whole tag least most rest n e in
    let by : judged_by tag least most (length rest) (take 4 (drop tag rest)) ≡ Whole n = sym (ap (judged_field tag least most (length rest)) (field_there tag rest here)) ∙ e in
    ap (judged_field tag least most (length other)) (field_there tag other there) ∙ ap (judged_by tag least most (length other)) same ∙ whole_of tag least most (length rest) (length other) (take 4 (drop tag rest)) n by fits

-- its size
pub sizes : (tag least most : ℕ) (rest : List ℕ) (n : ℕ) → judged_field tag least most (length rest) (field_at tag rest) ≡ Whole n → (tag + least ≤ n) × (n ≤ tag + most) × (n ≤ length rest)
sizes tag least most rest n e =
    let here = there_if_whole tag least most rest n e in
    let by : judged_by tag least most (length rest) (take 4 (drop tag rest)) ≡ Whole n = sym (ap (judged_field tag least most (length rest)) (field_there tag rest here)) ∙ e in
    let w = whole_is tag least most (length rest) (take 4 (drop tag rest)) n by in
    (omega (arith, w.0, w.1), omega (arith, w.0, w.2), w.3)

-- the first n bytes have the field of all
field_of_first : (tag : ℕ) (rest : List ℕ) (n : ℕ) → tag + 4 ≤ n → take 4 (drop tag (take n rest)) ≡ take 4 (drop tag rest)
field_of_first tag rest n low =
    let e : tag + (n - tag) ≡ n = omega (arith, low) in
    ap (λ (k : ℕ). take 4 (drop tag (take k rest))) (sym e) ∙ ap (take 4) (drop-take tag (n - tag) rest) ∙ take-take 4 (n - tag) (drop tag rest) (omega (arith, low))

-- a frame that begins a rest is a frame alone
alone : (tag least most : ℕ) (rest : List ℕ) (n : ℕ) → 4 ≤ least → judged_field tag least most (length rest) (field_at tag rest) ≡ Whole n
    → judged_field tag least most (length (take n rest)) (field_at tag (take n rest)) ≡ Whole (length (take n rest))
alone tag least most rest n low e =
    let s = sizes tag least most rest n e in
    let four : tag + 4 ≤ n = omega (arith, s.0, low) in
    let long : length (take n rest) ≡ n = length-take-le n rest s.2 in
    same_field tag least most rest (take n rest) n e (subst (λ (k : ℕ). tag + 4 ≤ k) (sym long) four) (subst (λ (k : ℕ). n ≤ k) (sym long) (omega arith)) (field_of_first tag rest n four) ∙ ap Whole (sym long)

-- and a frame with more bytes after it begins them
begins : (tag least most : ℕ) (frame more : List ℕ) → 4 ≤ least → judged_field tag least most (length frame) (field_at tag frame) ≡ Whole (length frame)
    → judged_field tag least most (length (frame ++ more)) (field_at tag (frame ++ more)) ≡ Whole (length frame)
begins tag least most frame more low e =
    let s = sizes tag least most frame (length frame) e in
    let four : tag + 4 ≤ length frame = omega (arith, s.0, low) in
    let long = length-append frame more in
    let dropped : drop tag (frame ++ more) ≡ drop tag frame ++ more = drop-append-le tag frame more (omega (arith, four)) in
    let left : 4 ≤ length (drop tag frame) = omega (arith, four, length-drop tag frame) in
    same_field tag least most frame (frame ++ more) (length frame) e (omega (arith, four, long)) (omega (arith, long)) (ap (take 4) dropped ∙ take-append-le 4 (drop tag frame) more left)

pub frame_alone : (n : NextFrame) (rest : List ℕ) (size : ℕ) → judged n rest ≡ Whole size → judged n (take size rest) ≡ Whole (length (take size rest))
frame_alone next.Packet rest size e = alone 0 8 10000 rest size (omega arith) e
frame_alone next.Message rest size e = alone 1 4 1073741823 rest size (omega arith) e
frame_alone next.Nothing rest size e = absurd cc

pub frame_begins : (n : NextFrame) (frame more : List ℕ) → judged n frame ≡ Whole (length frame) → judged n (frame ++ more) ≡ Whole (length frame)
frame_begins next.Packet frame more e = begins 0 8 10000 frame more (omega arith) e
frame_begins next.Message frame more e = begins 1 4 1073741823 frame more (omega arith) e
frame_begins next.Nothing frame more e = absurd cc

-- a frame has its fewest bytes at least, fits a size of 32 bits, and is there
pub frame_sizes : (n : NextFrame) (rest : List ℕ) (size : ℕ) → judged n rest ≡ Whole size → (fewest n ≤ size) × (size ≤ 1073741824) × (size ≤ length rest)
frame_sizes next.Packet rest size e = let s = sizes 0 8 10000 rest size e in (omega (arith, s.0), omega (arith, s.1), s.2)
frame_sizes next.Message rest size e = let s = sizes 1 4 1073741823 rest size e in (omega (arith, s.0), omega (arith, s.1), s.2)
frame_sizes next.Nothing rest size e = absurd cc

-- ---- what a call of `next` answered

pub was_open : (j : FrameJudgement) → Ok false ≡ answer_of j → j ≡ Open
was_open Open e = refl
was_open (Whole size) e = absurd cc
was_open (Faulty f) e = absurd cc

pub was_whole : (j : FrameJudgement) → Ok true ≡ answer_of j → (size : ℕ) × (j ≡ Whole size)
was_whole Open e = absurd cc
was_whole (Whole size) e = (size, refl)
was_whole (Faulty f) e = absurd cc

pub was_faulty : (j : FrameJudgement) (f : WireFault) → Err f ≡ answer_of j → j ≡ Faulty f
was_faulty Open f e = absurd cc
was_faulty (Whole size) f e = absurd cc
was_faulty (Faulty g) f e = cc
