-- A session's segments: its messages are cut after each ReadyForQuery in one way.
use Rattle.std.proofs.Common.{◌≡◌, List, [], ◌∷◌, ◌++◌, Option, Some, None, refl, sym, ap, subst, ◌∙◌, append_assoc}
use Rattle.std.specs.List.{flat_map, AllByRecursion}
use Rattle.pg_message.specs.declared.message.BackMessage.{BackMessage}
use Rattle.pg_message.specs.declared.message.BackMessage.TheVariants as back
use Rattle.pg_codec.specs.declared.value.Status.{Status}
use Rattle.pg_wire.specs.Segment.{Segments, segments, status_of, put_before}
use Rattle.pg_wire.specs.Laws.{NoReady, EndsAtReady, AreSegments, OneCut}

abbrev joined : List (List BackMessage) → List BackMessage
joined = flat_map (λ segment. segment)

ready_is : (m : BackMessage) (status : Status) → status_of m ≡ Some status → m ≡ back.Ready status
ready_is (back.Ready s) status e = cc
ready_is m status e = absurd cc

-- ---- the segments are a cut

one_more : (o : Option Status) (m : BackMessage) (ms : List BackMessage) (whole : List (List BackMessage)) (rest : List BackMessage) → status_of m ≡ o → AreSegments ms (record { whole = whole; rest = rest }) → AreSegments (m ∷ ms) (put_before o m whole rest)
one_more (Some status) m ms whole rest is h = record {
  joined = ap (λ (xs : List BackMessage). m ∷ xs) h.joined;
  closed = (([], status, ap (λ (x : BackMessage). x ∷ []) (ready_is m status is), tt), h.closed);
  open_rest = h.open_rest;
}
one_more None m ms [] rest is h = record {
  joined = ap (λ (xs : List BackMessage). m ∷ xs) h.joined;
  closed = tt;
  open_rest = (is, h.open_rest);
}
one_more None m ms (s ∷ ss) rest is h = record {
  joined = ap (λ (xs : List BackMessage). m ∷ xs) h.joined;
  closed = ((m ∷ h.closed.0.0, h.closed.0.1, ap (λ (xs : List BackMessage). m ∷ xs) h.closed.0.2, (is, h.closed.0.3)), h.closed.1);
  open_rest = h.open_rest;
}

cut : (ms : List BackMessage) → AreSegments ms (segments ms)
cut [] = record { joined = refl; closed = tt; open_rest = tt }
cut (m ∷ ms) = one_more (status_of m) m ms (segments ms).whole (segments ms).rest refl (cut ms)

-- ---- it is the only one

none_ready : (body : List BackMessage) (status : Status) (z : List BackMessage) → NoReady (body ++ back.Ready status ∷ z) → ⊥
none_ready [] status z h = absurd (cc (h.0))
none_ready (m ∷ body) status z h = none_ready body status z h.1

first_ready : (a b : List BackMessage) (s t : Status) (x y : List BackMessage) → NoReady a → NoReady b → a ++ back.Ready s ∷ x ≡ b ++ back.Ready t ∷ y → (a ≡ b) × (s ≡ t) × (x ≡ y)
first_ready [] [] s t x y p q e = (refl, cc, cc)
first_ready [] (m ∷ b) s t x y p q e =
    let head : back.Ready s ≡ m = cc in
    let k : Some s ≡ None = ap status_of head ∙ q.0 in
    absurd cc
first_ready (m ∷ a) [] s t x y p q e =
    let head : back.Ready t ≡ m = cc in
    let k : Some t ≡ None = ap status_of head ∙ p.0 in
    absurd cc
first_ready (m ∷ a) (n ∷ b) s t x y p q e =
    let head : m ≡ n = cc in
    let tail : a ++ back.Ready s ∷ x ≡ b ++ back.Ready t ∷ y = cc in
    let r = first_ready a b s t x y p.1 q.1 tail in
    (cc (head, r.0), r.1, r.2)

-- a whole segment, and what stands after it
after : (segment body : List BackMessage) (status : Status) (others : List (List BackMessage)) (rest : List BackMessage) → segment ≡ body ++ back.Ready status ∷ [] → joined (segment ∷ others) ++ rest ≡ body ++ back.Ready status ∷ (joined others ++ rest)
after segment body status others rest e =
    ap (λ (s : List BackMessage). (s ++ joined others) ++ rest) e
    ∙ ap (λ (xs : List BackMessage). xs ++ rest) (append_assoc body (back.Ready status ∷ []) (joined others))
    ∙ append_assoc body (back.Ready status ∷ joined others) rest

once : (v w : List (List BackMessage)) (x y : List BackMessage) → joined v ++ x ≡ joined w ++ y → AllByRecursion EndsAtReady v → AllByRecursion EndsAtReady w → NoReady x → NoReady y → (v ≡ w) × (x ≡ y)
once [] [] x y e p q a b = (refl, e)
once [] (s ∷ w) x y e p q a b = absurd (none_ready q.0.0 q.0.1 (joined w ++ y) (subst NoReady (e ∙ after s q.0.0 q.0.1 w y q.0.2) a))
once (s ∷ v) [] x y e p q a b = absurd (none_ready p.0.0 p.0.1 (joined v ++ x) (subst NoReady (sym e ∙ after s p.0.0 p.0.1 v x p.0.2) b))
once (s ∷ v) (t ∷ w) x y e p q a b =
    let f = first_ready p.0.0 q.0.0 p.0.1 q.0.1 (joined v ++ x) (joined w ++ y) p.0.3 q.0.3 (sym (after s p.0.0 p.0.1 v x p.0.2) ∙ e ∙ after t q.0.0 q.0.1 w y q.0.2) in
    let r = once v w x y f.2 p.1 q.1 a b in
    let same : s ≡ t = p.0.2 ∙ ap (λ (xs : List BackMessage). xs ++ back.Ready p.0.1 ∷ []) f.0 ∙ ap (λ (u : Status). q.0.0 ++ back.Ready u ∷ []) f.1 ∙ sym q.0.2 in
    (ap (λ (u : List BackMessage). u ∷ v) same ∙ ap (λ (us : List (List BackMessage)). t ∷ us) r.0, r.1)

pub one_cut : OneCut
one_cut = (cut, only)
  where
    made : List (List BackMessage) → List BackMessage → Segments
    made whole rest = record { whole = whole; rest = rest }

    only : (ms : List BackMessage) (s t : Segments) → AreSegments ms s → AreSegments ms t → s ≡ t
    only ms s t h k =
        let r = once s.whole t.whole s.rest t.rest (sym h.joined ∙ k.joined) h.closed k.closed h.open_rest k.open_rest in
        ap (λ (v : List (List BackMessage)). made v s.rest) r.0 ∙ ap (made t.whole) r.1
