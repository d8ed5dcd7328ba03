-- The startup is admitted exactly if its messages are those of one, and read so far exactly if they begin one.
use Rattle.std.proofs.Common.{◌≡◌, List, [], ◌∷◌, ◌++◌, map, Option, Some, None, refl, sym, ap, subst, ◌∙◌, append_assoc, true}
use Rattle.std.specs.Prelude.{ℤ}
use Rattle.std.proofs.lemmas.List.{append-nil, map-append}
use Rattle.pg_wire.specs.message.BackMessage.{BackMessage}
use Rattle.pg_wire.specs.message.BackMessage.TheVariants.{Ready, AuthOk, AuthCleartext, AuthMd5, KeyData}
use Rattle.pg_wire.specs.value.Status.{Status}
use Rattle.pg_wire.specs.value.Status.TheVariants as statuses
use Rattle.pg_wire.specs.Segment.{without_asides}
use Rattle.pg_client.specs.declared.startup.Welcome.{Welcome}
use Rattle.pg_client.specs.declared.startup.Welcome.TheVariants.{Fresh, Asked, Admitted}
use Rattle.pg_client.specs.Session.{asks_password, AtMostOneQuestion, IsStartup}
use Rattle.pg_client.specs.Startup.{greet_fresh, greet_asked, greet_admitted, greet, greet_from, greet_all}
use Rattle.pg_response.proofs.Lists.{front_splits, snoc_front, without_asides-append}

-- what the messages are that lead there
abbrev pub Greeted : List BackMessage → Option Welcome → Type 0
Greeted core None = Unit {0}
Greeted core (Some Fresh) = core ≡ []
Greeted core (Some Asked) = (question : BackMessage) × (asks_password question ≡ true) × (core ≡ question ∷ [])
Greeted core (Some Admitted) = (questions : List BackMessage) × AtMostOneQuestion questions × (keys : List (ℤ × ℤ)) × (core ≡ questions ++ AuthOk ∷ map (λ k. KeyData k.0 k.1) keys)

from_fresh : (core : List BackMessage) (m : BackMessage) → core ≡ [] → Greeted (core ++ m ∷ []) (greet_fresh m)
from_fresh core AuthOk h = ([], tt, [], ap (λ (c : List BackMessage). c ++ AuthOk ∷ []) h)
from_fresh core AuthCleartext h = (AuthCleartext, refl, ap (λ (c : List BackMessage). c ++ AuthCleartext ∷ []) h)
from_fresh core (AuthMd5 salt) h = (AuthMd5 salt, refl, ap (λ (c : List BackMessage). c ++ AuthMd5 salt ∷ []) h)
from_fresh core _ h = tt

from_asked : (core : List BackMessage) (m : BackMessage) → Greeted core (Some Asked) → Greeted (core ++ m ∷ []) (greet_asked m)
from_asked core AuthOk h = (h.0 ∷ [], h.1, [], ap (λ (c : List BackMessage). c ++ AuthOk ∷ []) h.2)
from_asked core _ h = tt

from_admitted : (core : List BackMessage) (m : BackMessage) → Greeted core (Some Admitted) → Greeted (core ++ m ∷ []) (greet_admitted m)
from_admitted core (KeyData process secret) h =
    (h.0, h.1, h.2 ++ (process, secret) ∷ [], rw (h.3, map-append (λ k. KeyData k.0 k.1) h.2 ((process, secret) ∷ [])) (append_assoc h.0 (AuthOk ∷ map (λ k. KeyData k.0 k.1) h.2) (KeyData process secret ∷ [])))
from_admitted core _ h = tt

one_more : (core : List BackMessage) (w : Welcome) (m : BackMessage) → Greeted core (Some w) → Greeted (core ++ m ∷ []) (greet w m)
one_more core Fresh m h = from_fresh core m h
one_more core Asked m h = from_asked core m h
one_more core Admitted m h = from_admitted core m h

greet_from_sound : (before : List BackMessage) (w : Option Welcome) (ms : List BackMessage) → Greeted before w → Greeted (before ++ ms) (greet_from w ms)
greet_from_sound before w [] h = rw append-nil h
greet_from_sound before None (m ∷ ms) h = tt
greet_from_sound before (Some w) (m ∷ ms) h = subst (λ (x : List BackMessage). Greeted x (greet_from (greet w m) ms)) (append_assoc before (m ∷ []) ms) (greet_from_sound (before ++ m ∷ []) (greet w m) ms (one_more before w m h))

pub greet_sound : (core : List BackMessage) → Greeted core (greet_all core)
greet_sound core = greet_from_sound [] (Some Fresh) core refl

-- ---- the other way

none_stays : (zs : List BackMessage) → greet_from None zs ≡ None
none_stays [] = refl
none_stays (z ∷ zs) = refl

pub greet_from-append : (w : Option Welcome) (xs ys : List BackMessage) → greet_from w (xs ++ ys) ≡ greet_from (greet_from w xs) ys
greet_from-append w [] ys = refl
greet_from-append None (x ∷ xs) ys = sym (none_stays ys)
greet_from-append (Some w) (x ∷ xs) ys = greet_from-append (greet w x) xs ys

keys_greeted : (keys : List (ℤ × ℤ)) → greet_from (Some Admitted) (map (λ k. KeyData k.0 k.1) keys) ≡ Some Admitted
keys_greeted [] = refl
keys_greeted (k ∷ ks) = keys_greeted ks

pub question_greeted : (m : BackMessage) → asks_password m ≡ true → greet_fresh m ≡ Some Asked
question_greeted AuthCleartext q = refl
question_greeted (AuthMd5 salt) q = refl
question_greeted _ q = absurd cc

questions_greeted : (questions more : List BackMessage) → AtMostOneQuestion questions → greet_all (questions ++ AuthOk ∷ more) ≡ greet_from (Some Admitted) more
questions_greeted [] more q = refl
questions_greeted (m ∷ []) more q = ap (λ (w : Option Welcome). greet_from w (AuthOk ∷ more)) (question_greeted m q)
questions_greeted (m ∷ n ∷ ms) more q = absurd q

whole_greeted : (segment : List BackMessage) (h : IsStartup segment) → greet_all (without_asides h.body) ≡ Some Admitted
whole_greeted segment h = ap greet_all h.reads ∙ questions_greeted h.questions (map (λ k. KeyData k.0 k.1) h.keys) h.one_question ∙ keys_greeted h.keys

pub startup_admitted : (body : List BackMessage) (status : Status) → IsStartup (body ++ Ready status ∷ []) → greet_all (without_asides body) ≡ Some Admitted
startup_admitted body status h =
    let s = snoc_front body h.body (Ready status) (Ready h.status) h.closed in
    ap (λ (x : List BackMessage). greet_all (without_asides x)) s.0 ∙ whole_greeted (body ++ Ready status ∷ []) h

pub admitted_startup : (body : List BackMessage) (status : Status) → greet_all (without_asides body) ≡ Some Admitted → IsStartup (body ++ Ready status ∷ [])
admitted_startup body status e =
    let g : Greeted (without_asides body) (Some Admitted) = subst (Greeted (without_asides body)) e (greet_sound (without_asides body)) in
    record { body = body; status = status; closed = refl; questions = g.0; one_question = g.1; keys = g.2; reads = g.3 }

-- these messages begin the segment of a startup
abbrev pub BeginsStartup : List BackMessage → Type 0
BeginsStartup messages = (more : List BackMessage) × IsStartup (messages ++ more)

-- AuthenticationOk may follow
admitted_next : (ms : List BackMessage) (w : Welcome) → greet_all (without_asides ms) ≡ Some w → greet w AuthOk ≡ Some Admitted → BeginsStartup ms
admitted_next ms w e ok =
    let then : greet_all (without_asides (ms ++ AuthOk ∷ [])) ≡ Some Admitted =
    ap greet_all (without_asides-append ms (AuthOk ∷ [])) ∙ greet_from-append (Some Fresh) (without_asides ms) (AuthOk ∷ []) ∙ ap (λ (x : Option Welcome). greet_from x (AuthOk ∷ [])) e ∙ ok in
    (AuthOk ∷ Ready statuses.Idle ∷ [], subst IsStartup (append_assoc ms (AuthOk ∷ []) (Ready statuses.Idle ∷ [])) (admitted_startup (ms ++ AuthOk ∷ []) statuses.Idle then))

pub greeted_begins : (ms : List BackMessage) (w : Welcome) → greet_all (without_asides ms) ≡ Some w → BeginsStartup ms
greeted_begins ms Admitted e = (Ready statuses.Idle ∷ [], admitted_startup ms statuses.Idle e)
greeted_begins ms Asked e = admitted_next ms Asked e refl
greeted_begins ms Fresh e = admitted_next ms Fresh e refl

pub begins_greeted : (ms : List BackMessage) → BeginsStartup ms → ((body : List BackMessage) (status : Status) → ms ≡ body ++ Ready status ∷ [] → ⊥) → greet_all (without_asides ms) ≡ None → ⊥
begins_greeted ms b no_end none = go b.0 b.1
  where
    go : (more : List BackMessage) → IsStartup (ms ++ more) → ⊥
    go [] h = no_end h.body h.status (sym (append-nil ms) ∙ h.closed)
    go (n ∷ others) h =
        let s = front_splits h.body (Ready h.status) ms n others (sym h.closed) in
        let whole : greet_all (without_asides h.body) ≡ Some Admitted = whole_greeted (ms ++ n ∷ others) h in
        let reads : greet_all (without_asides h.body) ≡ greet_from None (without_asides s.0) =
        ap (λ (x : List BackMessage). greet_all (without_asides x)) s.1 ∙ ap greet_all (without_asides-append ms s.0) ∙ greet_from-append (Some Fresh) (without_asides ms) (without_asides s.0) ∙ ap (λ (x : Option Welcome). greet_from x (without_asides s.0)) none in
        let nothing : greet_from None (without_asides s.0) ≡ None = none_stays (without_asides s.0) in
        absurd cc
