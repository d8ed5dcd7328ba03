-- Where the parts of an answer are split.
use Rattle.std.proofs.Common.{◌≡◌, ℕ, suc, ◌+◌, ◌<◌, ◌≤◌, add-one, length, get_or, take, drop, List, [], ◌∷◌, ◌++◌, refl, ap, ◌∙◌, drop-cons}
use Rattle.std.proofs.Math.Seq.{take-suc}
use Rattle.std.proofs.lemmas.List.{append-nil, drop_all}
use Rattle.pg_wire.specs.value.CopyHead.{CopyHead}
use Rattle.pg_backend.specs.declared.script.Load.{Load}
use Rattle.pg_backend.specs.declared.script.ScriptPart.{ScriptPart}
use Rattle.pg_backend.specs.declared.script.ScriptPart.TheVariants as part
use Rattle.pg_backend.specs.Replies.{Shape, Whole, Copies, after_part, shape}

-- the shape of these parts before what has that shape, where none of them is a copy from the client
abbrev pub onto : List ScriptPart → Shape → Shape
onto [] s = s
onto (p ∷ ps) s = after_part p (onto ps s)

onto_copies : (ps before : List ScriptPart) (head : CopyHead) (load : Load) (later : List ScriptPart) → onto ps (Copies before head load later) ≡ Copies (ps ++ before) head load later
onto_copies [] before head load later = refl
onto_copies (p ∷ ps) before head load later = ap (after_part p) (onto_copies ps before head load later)

onto_whole : (ps : List ScriptPart) → onto ps Whole ≡ Whole
onto_whole [] = refl
onto_whole (p ∷ ps) = ap (after_part p) (onto_whole ps)

onto_more : (ps : List ScriptPart) (p : ScriptPart) (s : Shape) → onto ps (after_part p s) ≡ onto (ps ++ p ∷ []) s
onto_more [] p s = refl
onto_more (q ∷ ps) p s = ap (after_part q) (onto_more ps p s)

-- a copy from the client at this place
pub copy_here : (parts : List ScriptPart) (i : ℕ) (head : CopyHead) (load : Load) → i < length parts → part.CopyIn head load ≡ get_or parts i (part.CopyIn head load)
    → shape parts ≡ onto (take i parts) (shape (drop i parts)) → shape parts ≡ Copies (take i parts) head load (drop 1 (drop i parts))
copy_here parts i head load lt is so_far =
    so_far ∙ rw (drop-cons parts i (part.CopyIn head load) lt, ← is) (onto_copies (take i parts) [] head load (drop (suc i) parts) ∙ ap (λ l. Copies l head load (drop (suc i) parts)) (append-nil (take i parts)))

-- another part at this place
pub no_copy_here : (parts : List ScriptPart) (i : ℕ) (p : ScriptPart) → i < length parts → p ≡ get_or parts i p → ((s : List ScriptPart) → shape (p ∷ s) ≡ after_part p (shape s))
    → shape parts ≡ onto (take i parts) (shape (drop i parts)) → shape parts ≡ onto (take (i + 1) parts) (shape (drop (i + 1) parts))
no_copy_here parts i p lt is other so_far =
    so_far ∙ rw (add-one, take-suc parts i p lt, drop-cons parts i p lt, ← is) (ap (onto (take i parts)) (other (drop (suc i) parts)) ∙ onto_more (take i parts) p (shape (drop (suc i) parts)))

-- no part is left
pub no_copy : (parts : List ScriptPart) (i : ℕ) → length parts ≤ i → shape parts ≡ onto (take i parts) (shape (drop i parts)) → shape parts ≡ Whole
no_copy parts i le so_far = so_far ∙ ap (λ l. onto (take i parts) (shape l)) (drop_all i parts le) ∙ onto_whole (take i parts)

pub other_part : (p : ScriptPart) → ((head : CopyHead) (load : Load) → p ≡ part.CopyIn head load → ⊥) → (s : List ScriptPart) → shape (p ∷ s) ≡ after_part p (shape s)
other_part (part.CopyIn head load) no_copy s = absurd (no_copy head load refl)
other_part p no_copy s = refl
