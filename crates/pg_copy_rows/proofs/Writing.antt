-- A buffer that is only appended to.
use Rattle.std.proofs.Common.{◌≡◌, ℕ, ◌≤◌, List, ◌++◌, length, take, sym, ap, ◌∙◌, arith}
use Rattle.std.proofs.lemmas.List.{take-take, length-take, take-append-le}

-- new goes on from old
abbrev pub GoesOn : List ℕ → List ℕ → Type 0
GoesOn old new = take (length old) new ≡ old

pub GoesOn-append : (old new more : List ℕ) → GoesOn old new → GoesOn old (new ++ more)
GoesOn-append old new more h =
    let le : length old ≤ length new = omega (arith, length-take (length old) new, ap length h) in
    rw (take-append-le (length old) new more le) h

pub GoesOn-trans : (a b c : List ℕ) → GoesOn a b → GoesOn b c → GoesOn a c
GoesOn-trans a b c h k =
    let le : length a ≤ length b = omega (arith, length-take (length a) b, ap length h) in
    let le' : length b ≤ length c = omega (arith, length-take (length b) c, ap length k) in
    let e : take (length a) (take (length b) c) ≡ take (length a) c = take-take (length a) (length b) c le in
    sym e ∙ ap (take (length a)) k ∙ h
