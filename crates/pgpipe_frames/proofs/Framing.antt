-- The frames of a stream, as more bytes come and more frames are read.
use Rattle.std.proofs.Common.{◌≡◌, ℕ, ◌≤◌, List, [], ◌∷◌, ◌++◌, ◌⊎◌, inl, inr, length, length-append, take, drop, refl, sym, ap, subst, ◌∙◌, append_assoc, append-nil, arith}
use Rattle.std.specs.List.{flat_map}
use Rattle.std.proofs.lemmas.Grind.{flat_map-append}
use Rattle.std.proofs.lemmas.List.{take-append-drop, take-append-le, take_all, append_cancel_left}
use mathlib.Core.List.{IsPrefix}
use Rattle.pgpipe_frames.proofs.Judging.{frame_alone, frame_begins}
use Rattle.pgpipe_frames.specs.declared.next.NextFrame.{NextFrame}
use Rattle.pgpipe_frames.specs.declared.judge.FrameJudgement.TheVariants.{Whole}
use Rattle.pgpipe_frames.specs.Frames.{Frame, judged, next_after, AreFrames, AreFramed}

abbrev bytes_of : List Frame → List ℕ
bytes_of frames = flat_map (λ f. f.bytes) frames

-- no frame was read
pub framed_none : (first : NextFrame) (bytes : List ℕ) → AreFramed first bytes [] first bytes
framed_none first bytes = record { whole = refl; each = refl }

-- more bytes come
pub framed_received : (first : NextFrame) (bytes : List ℕ) (frames : List Frame) (last : NextFrame) (rest piece : List ℕ) → AreFramed first bytes frames last rest → AreFramed first (bytes ++ piece) frames last (rest ++ piece)
framed_received first bytes frames last rest piece a = record { whole = ap (λ (u : List ℕ). u ++ piece) a.whole ∙ append_assoc (bytes_of frames) rest piece; each = a.each }

-- frames after frames
each_then : (first : NextFrame) (frames : List Frame) (mid : NextFrame) (more : List Frame) (last : NextFrame) → AreFrames first frames mid → AreFrames mid more last → AreFrames first (frames ++ more) last
each_then first [] mid more last a b = subst (λ (n : NextFrame). AreFrames n more last) (sym a) b
each_then first (f ∷ frames) mid more last a b = (a.0, a.1, each_then (next_after first f.bytes) frames mid more last a.2 b)

pub framed_then : (first : NextFrame) (bytes : List ℕ) (frames : List Frame) (mid : NextFrame) (rest : List ℕ) (more : List Frame) (last : NextFrame) (rest' : List ℕ) → AreFramed first bytes frames mid rest → AreFramed mid rest more last rest' → AreFramed first bytes (frames ++ more) last rest'
framed_then first bytes frames mid rest more last rest' a b = record {
  whole = a.whole ∙ ap (λ (u : List ℕ). bytes_of frames ++ u) b.whole ∙ sym (append_assoc (bytes_of frames) (bytes_of more) rest') ∙ ap (λ (u : List ℕ). u ++ rest') (sym (flat_map-append (λ f. f.bytes) frames more));
  each = each_then first frames mid more last a.each b.each;
}

-- the rest is no longer than the bytes
pub rest_within : (first : NextFrame) (bytes : List ℕ) (frames : List Frame) (last : NextFrame) (rest : List ℕ) → AreFramed first bytes frames last rest → length rest ≤ length bytes
rest_within first bytes frames last rest a = omega (arith, ap (λ (l : List ℕ). length l) a.whole, length-append (bytes_of frames) rest)

-- a frame that begins a rest
pub one_frame : (n : NextFrame) (rest : List ℕ) (size : ℕ) → judged n rest ≡ Whole size → AreFramed n rest (record { kind = n; bytes = take size rest } ∷ []) (next_after n (take size rest)) (drop size rest)
one_frame n rest size e = record {
  whole = sym (take-append-drop size rest) ∙ ap (λ (u : List ℕ). u ++ drop size rest) (sym (append-nil (take size rest)));
  each = (refl, frame_alone n rest size e, refl);
}

-- ---- one reading

first_of : (a x : List ℕ) → take (length a) (a ++ x) ≡ a
first_of a x = take-append-le (length a) a x (omega arith) ∙ take_all (length a) a (omega arith)

append_split : (a b x y : List ℕ) → length a ≡ length b → a ++ x ≡ b ++ y → (a ≡ b) × (x ≡ y)
append_split a b x y long e =
    let first : a ≡ b = sym (first_of a x) ∙ ap (take (length a)) e ∙ ap (λ (n : ℕ). take n (b ++ y)) long ∙ first_of b y in
    (first, append_cancel_left b x y (ap (λ (l : List ℕ). l ++ x) (sym first) ∙ e))

same_first : (n : NextFrame) (f g : Frame) (x y : List ℕ) → f.bytes ++ x ≡ g.bytes ++ y → judged n f.bytes ≡ Whole (length f.bytes) → judged n g.bytes ≡ Whole (length g.bytes) → (f.bytes ≡ g.bytes) × (x ≡ y)
same_first n f g x y e a b =
    let sizes : Whole (length f.bytes) ≡ Whole (length g.bytes) = sym (frame_begins n f.bytes x a) ∙ ap (judged n) e ∙ frame_begins n g.bytes y b in
    let long : length f.bytes ≡ length g.bytes = cc in
    append_split f.bytes g.bytes x y long e

abbrev frame : NextFrame → List ℕ → Frame
frame kind bytes = record { kind = kind; bytes = bytes }

same_frame : (f g : Frame) → f.kind ≡ g.kind → f.bytes ≡ g.bytes → f ≡ g
same_frame f g kind bytes = ap (λ (k : NextFrame). frame k f.bytes) kind ∙ ap (λ (b : List ℕ). frame g.kind b) bytes

pub one_framing : (first : NextFrame) (x y : List ℕ) (frames frames' : List Frame) (last last' : NextFrame) → bytes_of frames ++ x ≡ bytes_of frames' ++ y → AreFrames first frames last → AreFrames first frames' last' → IsPrefix frames frames' ⊎ IsPrefix frames' frames
one_framing first x y [] frames' last last' e a b = inl (frames', refl)
one_framing first x y (f ∷ frames) [] last last' e a b = inr (f ∷ frames, refl)
one_framing first x y (f ∷ frames) (g ∷ frames') last last' e a b =
    let shape : f.bytes ++ (bytes_of frames ++ x) ≡ g.bytes ++ (bytes_of frames' ++ y) = sym (append_assoc f.bytes (bytes_of frames) x) ∙ e ∙ append_assoc g.bytes (bytes_of frames') y in
    let same = same_first first f g (bytes_of frames ++ x) (bytes_of frames' ++ y) shape a.1 b.1 in
    let is : f ≡ g = same_frame f g (a.0 ∙ sym b.0) same.0 in
    let after : AreFrames (next_after first f.bytes) frames' last' = subst (λ (u : List ℕ). AreFrames (next_after first u) frames' last') (sym same.0) b.2 in
    joined is (one_framing (next_after first f.bytes) x y frames frames' last last' same.1 a.2 after)
  where
    joined : f ≡ g → IsPrefix frames frames' ⊎ IsPrefix frames' frames → IsPrefix (f ∷ frames) (g ∷ frames') ⊎ IsPrefix (g ∷ frames') (f ∷ frames)
    joined is (inl p) = inl (p.0, cc (is, p.1))
    joined is (inr p) = inr (p.0, cc (is, p.1))
