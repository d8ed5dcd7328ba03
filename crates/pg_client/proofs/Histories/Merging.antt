-- A call or a message that comes last stands last in the merged.
use Rattle.std.proofs.Common.{◌≡◌, ℕ, ◌+◌, ◌≤◌, ◌<◌, Bool, true, false, cond, List, [], ◌∷◌, ◌++◌, length, map, refl, sym, ap, ◌∙◌, append_assoc, arith, length-append}
use Rattle.std.specs.Prelude.{nat_lt}
use Rattle.std.specs.List.{flat_map, AllByRecursion}
use Rattle.std.proofs.lemmas.List.{map-append}
use Rattle.std.proofs.lemmas.Bool.{lt-ltb, le-ltb}
use Rattle.pg_wire.specs.message.BackMessage.{BackMessage}
use Rattle.pg_client.specs.declared.call.Call.{Call}
use Rattle.pg_client.specs.Session.{Happening, Did, Came}
use Rattle.pg_client.specs.Client.{made_before, made_since, merged, with_ends}
use Rattle.pg_client.specs.Private.Agreeing.{AreOrdered}
use Rattle.pg_wire.specs.Backend.{backend}
use Rattle.pg_wire.specs.Direction.{spelling}

-- every message ends by then
abbrev pub EndBy : ℕ → List (BackMessage × ℕ) → Type 0
EndBy place ms = AllByRecursion (λ m. m.1 ≤ place) ms

-- every call was made before
abbrev pub MadeBefore : ℕ → List (Call × ℕ) → Type 0
MadeBefore end cs = AllByRecursion (λ c. c.1 < end) cs

before_more : (end : ℕ) (cs : List (Call × ℕ)) (c : Call) (place : ℕ) → end ≤ place → made_before end (cs ++ (c, place) ∷ []) ≡ made_before end cs
before_more end [] c place le = ap (λ (b : Bool). cond b (Did c ∷ []) []) (le-ltb place end le)
before_more end (x ∷ xs) c place le = ap (λ (hs : List Happening). cond (nat_lt x.1 end) (Did x.0 ∷ hs) []) (before_more end xs c place le)

since_more : (end : ℕ) (cs : List (Call × ℕ)) (c : Call) (place : ℕ) → end ≤ place → made_since end (cs ++ (c, place) ∷ []) ≡ made_since end cs ++ (c, place) ∷ []
since_more end [] c place le = ap (λ (b : Bool). cond b [] ((c, place) ∷ [])) (le-ltb place end le)
since_more end (x ∷ xs) c place le = by_test (nat_lt x.1 end) (since_more end xs c place le)
  where
    by_test : (b : Bool) → made_since end (xs ++ (c, place) ∷ []) ≡ made_since end xs ++ (c, place) ∷ [] → cond b (made_since end (xs ++ (c, place) ∷ [])) (x ∷ xs ++ (c, place) ∷ []) ≡ cond b (made_since end xs) (x ∷ xs) ++ (c, place) ∷ []
    by_test true ih = ih
    by_test false ih = refl

pub merged-did : (cs : List (Call × ℕ)) (c : Call) (place : ℕ) (ms : List (BackMessage × ℕ)) → EndBy place ms → merged (cs ++ (c, place) ∷ []) ms ≡ merged cs ms ++ Did c ∷ []
merged-did cs c place [] h = map-append (λ (x : Call × ℕ). Did x.0) cs ((c, place) ∷ [])
merged-did cs c place (m ∷ ms) h =
    ap (λ (hs : List Happening). hs ++ Came m.0 ∷ merged (made_since m.1 (cs ++ (c, place) ∷ [])) ms) (before_more m.1 cs c place h.0)
    ∙ ap (λ (r : List (Call × ℕ)). made_before m.1 cs ++ Came m.0 ∷ merged r ms) (since_more m.1 cs c place h.0)
    ∙ ap (λ (hs : List Happening). made_before m.1 cs ++ Came m.0 ∷ hs) (merged-did (made_since m.1 cs) c place ms h.1)
    ∙ sym (append_assoc (made_before m.1 cs) (Came m.0 ∷ merged (made_since m.1 cs) ms) (Did c ∷ []))

all_before : (end : ℕ) (cs : List (Call × ℕ)) → MadeBefore end cs → made_before end cs ≡ map (λ (x : Call × ℕ). Did x.0) cs
all_before end [] h = refl
all_before end (x ∷ xs) h = ap (λ (b : Bool). cond b (Did x.0 ∷ made_before end xs) []) (lt-ltb x.1 end h.0) ∙ ap (λ (hs : List Happening). Did x.0 ∷ hs) (all_before end xs h.1)

none_since : (end : ℕ) (cs : List (Call × ℕ)) → MadeBefore end cs → made_since end cs ≡ []
none_since end [] h = refl
none_since end (x ∷ xs) h = ap (λ (b : Bool). cond b (made_since end xs) (x ∷ xs)) (lt-ltb x.1 end h.0) ∙ none_since end xs h.1

MadeBefore-since : (end at : ℕ) (cs : List (Call × ℕ)) → MadeBefore end cs → MadeBefore end (made_since at cs)
MadeBefore-since end at [] h = tt
MadeBefore-since end at (x ∷ xs) h = by_test (nat_lt x.1 at) (MadeBefore-since end at xs h.1)
  where
    by_test : (b : Bool) → MadeBefore end (made_since at xs) → MadeBefore end (cond b (made_since at xs) (x ∷ xs))
    by_test true ih = ih
    by_test false ih = h

pub merged-came : (cs : List (Call × ℕ)) (m : BackMessage) (end : ℕ) (ms : List (BackMessage × ℕ)) → MadeBefore end cs → merged cs (ms ++ (m, end) ∷ []) ≡ merged cs ms ++ Came m ∷ []
merged-came cs m end [] h = ap (λ (hs : List Happening). hs ++ Came m ∷ merged (made_since end cs) []) (all_before end cs h) ∙ ap (λ (r : List (Call × ℕ)). map (λ (x : Call × ℕ). Did x.0) cs ++ Came m ∷ merged r []) (none_since end cs h)
merged-came cs m end (x ∷ xs) h =
    ap (λ (hs : List Happening). made_before x.1 cs ++ Came x.0 ∷ hs) (merged-came (made_since x.1 cs) m end xs (MadeBefore-since end x.1 cs h))
    ∙ sym (append_assoc (made_before x.1 cs) (Came x.0 ∷ merged (made_since x.1 cs) xs) (Came m ∷ []))

-- each message ends within the bytes that were fed
pub ends_within : (at : ℕ) (ms : List BackMessage) (place : ℕ) → at + length (flat_map (spelling backend) ms) ≤ place → EndBy place (with_ends at ms)
ends_within at [] place h = tt
ends_within at (m ∷ ms) place h =
    (omega (arith, length-append (spelling backend m) (flat_map (spelling backend) ms)), ends_within (at + length (spelling backend m)) ms place (omega (arith, length-append (spelling backend m) (flat_map (spelling backend) ms))))

pub with_ends-more : (at : ℕ) (ms : List BackMessage) (m : BackMessage) → with_ends at (ms ++ m ∷ []) ≡ with_ends at ms ++ (m, at + length (flat_map (spelling backend) ms) + length (spelling backend m)) ∷ []
with_ends-more at [] m = ap (λ (n : ℕ). (m, n) ∷ []) (omega arith)
with_ends-more at (x ∷ xs) m =
    ap (λ (es : List (BackMessage × ℕ)). (x, at + length (spelling backend x)) ∷ es) (with_ends-more (at + length (spelling backend x)) xs m)
    ∙ ap (λ (n : ℕ). (x, at + length (spelling backend x)) ∷ with_ends (at + length (spelling backend x)) xs ++ (m, n) ∷ []) (omega (arith, length-append (spelling backend x) (flat_map (spelling backend) xs)))

pub places_more : (cs : List (Call × ℕ)) (c : Call) (place : ℕ) → AllByRecursion (λ x. x.1 ≤ place) cs → AllByRecursion (λ x. x.1 ≤ place) (cs ++ (c, place) ∷ [])
places_more [] c place h = (omega arith, tt)
places_more (x ∷ xs) c place h = (h.0, places_more xs c place h.1)

pub ordered_more : (cs : List (Call × ℕ)) (c : Call) (place : ℕ) → AreOrdered cs → AllByRecursion (λ x. x.1 ≤ place) cs → AreOrdered (cs ++ (c, place) ∷ [])
ordered_more [] c place o h = tt
ordered_more (x ∷ []) c place o h = (h.0, tt)
ordered_more (x ∷ y ∷ xs) c place o h = (o.0, ordered_more (y ∷ xs) c place o.1 h.1)
