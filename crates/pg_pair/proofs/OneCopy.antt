-- Of what a client hears for one request, one message at most begins a copy in.
use Rattle.std.proofs.Common.{◌≡◌, ◌≤◌, ℕ, List, [], ◌∷◌, ◌++◌, map, Option, Some, None, refl, ap, sym, subst, ◌∙◌, append_assoc, arith}
use Rattle.std.specs.List.{AllByRecursion}
use Rattle.pg_wire.specs.message.BackMessage.{BackMessage}
use Rattle.pg_wire.specs.message.BackMessage.TheVariants as back
use Rattle.pg_wire.specs.message.FrontMessage.{FrontMessage}
use Rattle.pg_wire.specs.value.Status.{Status}
use Rattle.pg_wire.specs.value.Status.TheVariants.{Idle}
use Rattle.pg_wire.specs.Segment.{Segments, status_of, put_before, segments}
use Rattle.pg_wire.specs.Turns.{copies_begun}
use Rattle.pg_backend.specs.declared.script.Auth.{Auth}
use Rattle.pg_backend.specs.declared.script.Auth.TheVariants.{Trust, Cleartext, Md5}
use Rattle.pg_backend.specs.declared.script.Key.{Key}
use Rattle.pg_backend.specs.declared.script.Script.{Script}
use Rattle.pg_backend.specs.Check.{HasOneCopyEach}
use Rattle.pg_backend.specs.Laws.{HaveOneCopy, OneCopyEach, WelcomeIsSegment}
use Rattle.pg_backend.specs.Lists.{IsPrefix}
use Rattle.pg_backend.specs.Opening.{welcome, question_for, pair_message, key_messages}
use Rattle.pg_backend.specs.Session.{replies}
use Rattle.pg_backend.proofs.Beginnings.{begins_cons, begins_nil}

first_fewer : (xs more : List BackMessage) → copies_begun xs ≤ copies_begun (xs ++ more)
first_fewer [] more = omega arith
first_fewer (back.CopyIn head ∷ xs) more = omega (arith, first_fewer xs more)
first_fewer (_ ∷ xs) more = first_fewer xs more

fewer : (xs ys : List BackMessage) → IsPrefix xs ys → copies_begun xs ≤ copies_begun ys
fewer xs ys h = rw (h.1) (first_fewer xs h.0)

-- The whole segments of the first are the first of the second's, and its rest begins what comes next there.
abbrev Grown : List (List BackMessage) → List BackMessage → List (List BackMessage) → List BackMessage → Type 0
Grown [] r [] r' = IsPrefix r r'
Grown [] r (s ∷ ss) r' = IsPrefix r s
Grown (x ∷ xs) r [] r' = ⊥
Grown (x ∷ xs) r (y ∷ ys) r' = (x ≡ y) × Grown xs r ys r'

abbrev Follow : Segments → Segments → Type 0
Follow s t = Grown s.whole s.rest t.whole t.rest

none_grown : (s : Segments) → Follow (segments []) s
none_grown s = from s.whole s.rest
  where
    from : (w : List (List BackMessage)) (r : List BackMessage) → Grown [] [] w r
    from [] r = begins_nil r
    from (s ∷ ss) r = begins_nil s

put_grown : (o : Option Status) (m : BackMessage) (w : List (List BackMessage)) (r : List BackMessage) (w' : List (List BackMessage)) (r' : List BackMessage)
    → Grown w r w' r' → Follow (put_before o m w r) (put_before o m w' r')
put_grown (Some status) m w r w' r' h = (refl, h)
put_grown None m [] r [] r' h = begins_cons m r r' h
put_grown None m [] r (s ∷ ss) r' h = begins_cons m r s h
put_grown None m (x ∷ xs) r [] r' h = absurd h
put_grown None m (x ∷ xs) r (y ∷ ys) r' h = (ap (λ l. m ∷ l) h.0, h.1)

segments_follow : (xs more : List BackMessage) → Follow (segments xs) (segments (xs ++ more))
segments_follow [] more = none_grown (segments more)
segments_follow (m ∷ xs) more = put_grown (status_of m) m (segments xs).whole (segments xs).rest (segments (xs ++ more)).whole (segments (xs ++ more)).rest (segments_follow xs more)

grown_one : (w : List (List BackMessage)) (r : List BackMessage) (w' : List (List BackMessage)) (r' : List BackMessage) → Grown w r w' r'
    → AllByRecursion (λ ms. copies_begun ms ≤ 1) w' → copies_begun r' ≤ 1 → copies_begun r ≤ 1
grown_one [] r [] r' h all last = omega (arith, fewer r r' h)
grown_one [] r (s ∷ ss) r' h all last = omega (arith, fewer r s h, all.0)
grown_one (x ∷ xs) r [] r' h all last = absurd h
grown_one (x ∷ xs) r (y ∷ ys) r' h all last = grown_one xs r ys r' h.1 all.1 last

-- The rest of a beginning begins one of the segments, or the rest, and a beginning has no more copies.
pub rest_one : (xs ys : List BackMessage) → IsPrefix xs ys → HaveOneCopy (segments ys) → copies_begun (segments xs).rest ≤ 1
rest_one xs ys h one =
    let all : HaveOneCopy (segments (xs ++ h.0)) = subst (λ l. HaveOneCopy (segments l)) h.1 one in
    grown_one (segments xs).whole (segments xs).rest (segments (xs ++ h.0)).whole (segments (xs ++ h.0)).rest (segments_follow xs h.0) all.0 all.1

-- ---- the welcome and the replies

key_none : (key : Option Key) → copies_begun (key_messages key ++ back.Ready Idle ∷ []) ≡ 0
key_none None = refl
key_none (Some key) = refl

pairs_none : (pairs : List (List ℕ × List ℕ)) (ms : List BackMessage) → copies_begun (map pair_message pairs ++ ms) ≡ copies_begun ms
pairs_none [] ms = refl
pairs_none (p ∷ pairs) ms = pairs_none pairs ms

welcome_none : (s : Script) → copies_begun (welcome s) ≡ 0
welcome_none s = ap copies_begun (append_assoc (map pair_message s.pairs) (key_messages s.key) (back.Ready Idle ∷ [])) ∙ pairs_none s.pairs (key_messages s.key ++ back.Ready Idle ∷ []) ∙ key_none s.key

asked_none : (auth : Auth) (user : List ℕ) (ms : List BackMessage) → copies_begun (question_for auth user ++ ms) ≡ copies_begun ms
asked_none auth [] ms = refl
asked_none Trust (c ∷ cs) ms = refl
asked_none (Cleartext password) (c ∷ cs) ms = refl
asked_none (Md5 password salt) (c ∷ cs) ms = refl

-- What was heard of a question, the welcome and the replies has one copy in at most after its last whole segment.
pub heard_one : OneCopyEach → WelcomeIsSegment → (s : Script) (user : List ℕ) (ms : List FrontMessage) (heard : List BackMessage) → HasOneCopyEach s
    → IsPrefix heard (question_for s.auth user ++ (welcome s ++ replies s.answers ms)) → copies_begun (segments heard).rest ≤ 1
heard_one one first s user ms heard each begins =
    let of_replies = one s.answers ms each in
    let of_all : HaveOneCopy (segments (question_for s.auth user ++ (welcome s ++ replies s.answers ms))) =
    subst HaveOneCopy (sym (first s user (replies s.answers ms))) ((omega (arith, asked_none s.auth user (welcome s), welcome_none s), of_replies.0), of_replies.1) in
    rest_one heard (question_for s.auth user ++ (welcome s ++ replies s.answers ms)) begins of_all
