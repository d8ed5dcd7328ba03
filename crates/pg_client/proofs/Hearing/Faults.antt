-- The fault that a message is which is rejected.
use Rattle.std.proofs.Common.{◌≡◌, ℕ, List, [], ◌∷◌, ◌++◌, length, map, Bool, true, false, Option, Some, None, refl, sym, ap, subst, ◌∙◌, arith, length-append}
use Rattle.pg_wire.specs.message.BackMessage.{BackMessage}
use Rattle.pg_wire.specs.message.BackMessage.TheVariants as back
use Rattle.pg_wire.specs.Backend.{tag}
use Rattle.pg_wire.specs.Segment.{error_of, Fields, without_asides}
use Rattle.pg_client.specs.declared.stand.Stand.{Stand}
use Rattle.pg_client.specs.declared.stand.Stand.TheVariants.{New, Starting, Idle, Busy}
use Rattle.pg_client.specs.declared.startup.Welcome.TheVariants.{Fresh, Asked, Admitted}
use Rattle.pg_client.specs.Session.{Happening, rest_in, asks_password, IsStarted, IsStarting, IsReady}
use Rattle.pg_client.specs.Closed.{AwaitsAuthentication, IsNamedFault, IsFaultFor}
use Rattle.pg_client.specs.declared.fault.FeedFault.{FeedFault}
use Rattle.pg_client.specs.declared.fault.FeedFault.TheVariants as feeding
use Rattle.pg_client.specs.declared.startup.Welcome.{Welcome}
use Rattle.pg_client.specs.Stand.{fault_at, fresh_fault, hear_with, idle_fault, later_fault, Stands, welcome_fault}
use Rattle.pg_client.proofs.Standing.FactsHold.{stand_facts}
use Rattle.pg_client.proofs.Events.OneMessage.{EachFits-length}
use Rattle.pg_client.proofs.Events.Greeting.{Greeted, greet_sound}

abbrev asks : BackMessage → Bool
asks back.AuthCleartext = true
asks (back.AuthMd5 salt) = true
asks (back.AuthOther code bytes) = true
asks _ = false

question_asks : (m : BackMessage) → asks_password m ≡ true → asks m ≡ true
question_asks back.AuthCleartext q = refl
question_asks (back.AuthMd5 salt) q = refl
question_asks _ q = absurd cc

-- no error, and at the beginning of the startup no question: it is unexpected
pub plain : (password : Option (List ℕ)) (hs : List Happening) (m : BackMessage) → error_of m ≡ None → (AwaitsAuthentication hs → asks m ≡ false) → IsFaultFor password hs m (feeding.Unexpected (tag m))
plain password hs m error silent = (refl, none)
  where
    no_error : (fields : Fields) → m ≡ back.ErrorResponse fields → ⊥
    no_error fields is = (let k : error_of (back.ErrorResponse fields) ≡ None = subst (λ (x : BackMessage). error_of x ≡ None) is error in cc)

    none : (f : FeedFault) → IsNamedFault password hs m f → ⊥
    none (feeding.StartupError fields) n = no_error fields n.1
    none (feeding.ServerEnd fields) n = no_error fields n.1
    none feeding.PasswordWanted n = (let k : false ≡ true = sym (silent n.0) ∙ question_asks m n.1 in cc)
    none (feeding.UnsupportedAuth code) n = (let k : asks (back.AuthOther code n.1) ≡ false = subst (λ (x : BackMessage). asks x ≡ false) n.2 (silent n.0) in cc)
    none _ n = n

-- neither in the startup nor ready: anything is unexpected
outstanding : (password : Option (List ℕ)) (hs : List Happening) (m : BackMessage) → (IsStarting hs → ⊥) → (IsReady hs → ⊥) → IsFaultFor password hs m (feeding.Unexpected (tag m))
outstanding password hs m startup ready = (refl, none)
  where
    none : (f : FeedFault) → IsNamedFault password hs m f → ⊥
    none (feeding.StartupError fields) n = startup n.0
    none (feeding.ServerEnd fields) n = ready n.0
    none feeding.PasswordWanted n = startup n.0.0
    none (feeding.UnsupportedAuth code) n = startup n.0.0
    none _ n = n

-- a client that has a password answers the first question
none_given : (password : Option (List ℕ)) → hear_with password (Starting Fresh) back.AuthCleartext ≡ None → password ≡ None
none_given None rejected = refl
none_given (Some p) rejected = absurd cc

none_given_md5 : (password : Option (List ℕ)) (salt : List ℕ) → hear_with password (Starting Fresh) (back.AuthMd5 salt) ≡ None → password ≡ None
none_given_md5 None salt rejected = refl
none_given_md5 (Some p) salt rejected = absurd cc

fresh_for : (password : Option (List ℕ)) (hs : List Happening) (m : BackMessage) → AwaitsAuthentication hs → hear_with password (Starting Fresh) m ≡ None → IsFaultFor password hs m (fresh_fault m)
fresh_for password hs (back.ErrorResponse fields) f rejected = (f.0, refl)
fresh_for password hs (back.AuthOther code bytes) f rejected = (f, bytes, refl)
fresh_for password hs back.AuthCleartext f rejected = (f, refl, none_given password rejected)
fresh_for password hs (back.AuthMd5 salt) f rejected = (f, refl, none_given_md5 password salt rejected)
fresh_for password hs m f rejected = plain password hs m refl (λ q. refl)

later_for : (password : Option (List ℕ)) (hs : List Happening) (m : BackMessage) → IsStarting hs → (AwaitsAuthentication hs → ⊥) → IsFaultFor password hs m (later_fault m)
later_for password hs (back.ErrorResponse fields) s later = (s, refl)
later_for password hs m s later = plain password hs m refl (λ f. absurd (later f))

idle_for : (password : Option (List ℕ)) (hs : List Happening) (m : BackMessage) → IsReady hs → (AwaitsAuthentication hs → ⊥) → IsFaultFor password hs m (idle_fault m)
idle_for password hs (back.ErrorResponse fields) s later = (s, refl)
idle_for password hs m s later = plain password hs m refl (λ f. absurd (later f))

never_none : (ms : List BackMessage) (m : BackMessage) (others : List BackMessage) → [] ≡ ms ++ m ∷ others → ⊥
never_none [] m others e = cc
never_none (x ∷ ms) m others e = cc

pub fault_for : (password : Option (List ℕ)) (hs : List Happening) (stand : Stand) (m : BackMessage) → Stands hs stand → hear_with password stand m ≡ None → IsFaultFor password hs m (fault_at stand m)
fault_for password hs New m h rejected = outstanding password hs m (λ s. subst IsStarted h s.0) (λ s. let k : IsReady [] = subst IsReady h s in omega (arith, k))
fault_for password hs (Starting Fresh) m h rejected = fresh_for password hs m ((h.0, h.1.no_segment), subst (Greeted (without_asides (rest_in hs))) h.1.greeted (greet_sound (without_asides (rest_in hs)))) rejected
fault_for password hs (Starting Asked) m h rejected = later_for password hs m (h.0, h.1.no_segment) (λ f.
    let g : Greeted (without_asides (rest_in hs)) (Some Asked) = subst (Greeted (without_asides (rest_in hs))) h.1.greeted (greet_sound (without_asides (rest_in hs))) in
    never_none [] g.0 [] (sym f.1 ∙ g.2))
fault_for password hs (Starting Admitted) m h rejected = later_for password hs m (h.0, h.1.no_segment) (λ f.
    let g : Greeted (without_asides (rest_in hs)) (Some Admitted) = subst (Greeted (without_asides (rest_in hs))) h.1.greeted (greet_sound (without_asides (rest_in hs))) in
    never_none g.0 back.AuthOk (map (λ k. back.KeyData k.0 k.1) g.2) (sym f.1 ∙ g.3))
fault_for password hs Idle m h rejected = idle_for password hs m ((stand_facts hs Idle h).ready.0 refl) (λ f. let k : [] ≡ h.1.answered.startup ∷ h.1.answered.groups = sym f.0.1 ∙ h.1.answered.cut in cc)
fault_for password hs (Busy request place answer) m h rejected = outstanding password hs m
    (λ s. let k : [] ≡ h.1.answered.startup ∷ h.1.answered.groups = sym s.1 ∙ h.1.answered.cut in cc)
    (λ s. omega (arith, s, EachFits-length h.1.earlier h.1.answered.groups h.1.answered.fit, ap length h.1.answered.cut, ap length h.1.last, length-append h.1.earlier (request ∷ [])))

-- ---- a fault that has a name of its own

-- it is neither of the bytes nor of memory nor of a client that was closed
abbrev pub IsNamed : FeedFault → Type 0
IsNamed (feeding.Wire f) = ⊥
IsNamed feeding.Memory = ⊥
IsNamed feeding.Closed = ⊥
IsNamed _ = Unit {0}

fresh_named : (m : BackMessage) → IsNamed (fresh_fault m)
fresh_named (back.ErrorResponse fields) = tt
fresh_named (back.AuthOther code bytes) = tt
fresh_named back.AuthCleartext = tt
fresh_named (back.AuthMd5 salt) = tt
fresh_named _ = tt

later_named : (m : BackMessage) → IsNamed (later_fault m)
later_named (back.ErrorResponse fields) = tt
later_named _ = tt

idle_named : (m : BackMessage) → IsNamed (idle_fault m)
idle_named (back.ErrorResponse fields) = tt
idle_named _ = tt

welcome_named : (w : Welcome) (m : BackMessage) → IsNamed (welcome_fault w m)
welcome_named Fresh m = fresh_named m
welcome_named Asked m = later_named m
welcome_named Admitted m = later_named m

pub fault_named : (stand : Stand) (m : BackMessage) → IsNamed (fault_at stand m)
fault_named New m = tt
fault_named (Starting w) m = welcome_named w m
fault_named Idle m = idle_named m
fault_named (Busy request place answer) m = tt
