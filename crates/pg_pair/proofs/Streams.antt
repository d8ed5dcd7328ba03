-- What was sent is read as what was meant, and segments grow.
use Rattle.std.proofs.Common.{◌≡◌, ℕ, List, [], ◌∷◌, ◌++◌, Option, Some, None, refl, sym, ◌∙◌, append_assoc}
use Rattle.std.specs.List.{flat_map, AllByRecursion}
use Rattle.pg_wire.specs.message.BackMessage.{BackMessage}
use Rattle.pg_wire.specs.value.Status.{Status}
use Rattle.pg_wire.specs.Direction.{Direction, spelling, HasSpelling}
use Rattle.pg_wire.specs.Laws.{OneSpelling}
use Rattle.pg_wire.specs.Segment.{status_of, put_before, segments}
use Rattle.pg_wire.specs.Stream.{IsWithin}
use Rattle.pg_backend.specs.Lists.{IsPrefix}
use Rattle.pg_backend.proofs.Beginnings.{begins_cons, begins_head, begins_nil, begins_tail}

pub within_spelled : {M : Type 0} (d : Direction M) (limit : ℕ) (ms : List M) → AllByRecursion (IsWithin d limit) ms → AllByRecursion (HasSpelling d) ms
within_spelled d limit [] h = tt
within_spelled d limit (m ∷ ms) h = (h.0.spelled, within_spelled d limit ms h.1)

cons_same : {A : Type 0} (x y : A) (xs ys later : List A) → x ≡ y → ys ≡ xs ++ later → y ∷ ys ≡ (x ∷ xs) ++ later
cons_same x y xs ys later e f = rw (e, f) refl

-- messages that are read from the spellings of others are the first of these
pub reads_first : {M : Type 0} (d : Direction M) → OneSpelling d → (xs ys : List M) (rest : List ℕ) → AllByRecursion (HasSpelling d) xs → AllByRecursion (HasSpelling d) ys
    → flat_map (spelling d) xs ++ rest ≡ flat_map (spelling d) ys → (later : List M) × (ys ≡ xs ++ later) × (rest ≡ flat_map (spelling d) later)
reads_first d one [] ys rest h k e = (ys, refl, e)
reads_first d one (x ∷ xs) [] rest h k e = absurd cc
reads_first d one (x ∷ xs) (y ∷ ys) rest h k e =
    let first = one x y (flat_map (spelling d) xs ++ rest) (flat_map (spelling d) ys) h.0 k.0 (sym (append_assoc (spelling d x) (flat_map (spelling d) xs) rest) ∙ e) in
    let more = reads_first d one xs ys rest h.1 k.1 first.1 in
    (more.0, cons_same x y xs ys more.0 first.0 more.1, more.2)

put_grows : (o : Option Status) (m : BackMessage) (w w' : List (List BackMessage)) (r r' : List BackMessage) → IsPrefix w w' → IsPrefix (put_before o m w r).whole (put_before o m w' r').whole
put_grows (Some status) m w w' r r' h = begins_cons (m ∷ []) w w' h
put_grows None m [] w' r r' h = begins_nil _
put_grows None m (s ∷ ss) [] r r' h = let e = h.1 in cc
put_grows None m (s ∷ ss) (z ∷ zs) r r' h = rw (begins_head s z ss zs h) (begins_cons (m ∷ z) ss zs (begins_tail s z ss zs h))

segments_more : (xs ys : List BackMessage) → IsPrefix (segments xs).whole (segments (xs ++ ys)).whole
segments_more [] ys = begins_nil _
segments_more (m ∷ ms) ys = put_grows (status_of m) m (segments ms).whole (segments (ms ++ ys)).whole (segments ms).rest (segments (ms ++ ys)).rest (segments_more ms ys)

-- the whole segments of a beginning are a beginning of the whole segments
pub segments_grow : (xs ys : List BackMessage) → IsPrefix xs ys → IsPrefix (segments xs).whole (segments ys).whole
segments_grow xs ys h = rw (h.1) (segments_more xs h.0)
