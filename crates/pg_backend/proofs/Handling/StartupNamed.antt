-- What a Startup that names a user comes to.
use Rattle.std.proofs.Common.{◌≡◌, ℕ, List, [], ◌∷◌, ◌++◌, map, refl, ap, sym, ◌∙◌, append_assoc}
use Rattle.std.proofs.lemmas.List.{append-nil, map-append}
use Rattle.pg_wire.specs.message.First.{First}
use Rattle.pg_wire.specs.message.First.TheVariants as first
use Rattle.pg_wire.specs.message.FrontMessage.{FrontMessage}
use Rattle.pg_wire.specs.Password.{md5_text}
use Rattle.pg_backend.specs.declared.script.Auth.{Auth}
use Rattle.pg_backend.specs.declared.script.Auth.TheVariants.{Trust, Cleartext, Md5}
use Rattle.pg_backend.specs.declared.script.Script.{Script}
use Rattle.pg_backend.specs.Session.{replies}
use Rattle.pg_backend.specs.Opening.{Says, welcome, user_from, question, question_for, by_password, by_auth, admission, admission_messages, started, sent_for}
use Rattle.pg_backend.specs.Input.{admission_log, packets_log, admission_end}
use Rattle.pg_backend.specs.Awaited.{IsAsked, LetIn, AwaitsAt}
use Rattle.pg_backend.specs.Private.Opening.{awaits_first, greeting}
use Rattle.pg_backend.proofs.Definitions.ReadOn.{starts}
use Rattle.pg_backend.proofs.Handling.PacketsMore.{GoOn, sent_more, log_more, end_more}

-- What is sent, that nothing is logged, and what is awaited.
pub record Greeted (s : Script) (ps : List First) (pairs : List (List ℕ × List ℕ)) (user : List ℕ) (auth : Auth) : Type 0 where
  pub sends : sent_for s (first.Startup pairs ∷ []) [] ≡ map Says (greeting s auth)
  pub logs : packets_log s (first.Startup pairs ∷ []) [] ≡ []
  pub awaits : AwaitsAt s s.answers (ps ++ first.Startup pairs ∷ []) [] (awaits_first auth user)

-- what is sent and logged after it, and where the messages end
started_is : (s : Script) (pairs : List (List ℕ × List ℕ)) (c : ℕ) (cs : List ℕ) (auth : Auth) (ms : List FrontMessage) → s.auth ≡ auth → user_from [] pairs ≡ c ∷ cs
    → started s pairs ms ≡ question auth ++ admission_messages s (by_auth auth (c ∷ cs) ms)
started_is s pairs c cs auth ms a u = ap (λ x. question_for s.auth x ++ admission_messages s (admission s.auth x ms)) u ∙ ap (λ x. question x ++ admission_messages s (by_auth x (c ∷ cs) ms)) a

logged_is : (s : Script) (pairs : List (List ℕ × List ℕ)) (c : ℕ) (cs : List ℕ) (auth : Auth) (ms : List FrontMessage) → s.auth ≡ auth → user_from [] pairs ≡ c ∷ cs
    → packets_log s (first.Startup pairs ∷ []) ms ≡ admission_log s (by_auth auth (c ∷ cs) ms)
logged_is s pairs c cs auth ms a u = ap (λ x. admission_log s (admission s.auth x ms)) u ∙ ap (λ x. admission_log s (by_auth x (c ∷ cs) ms)) a

ended_is : (s : Script) (pairs : List (List ℕ × List ℕ)) (c : ℕ) (cs : List ℕ) (auth : Auth) (ms : List FrontMessage) → s.auth ≡ auth → user_from [] pairs ≡ c ∷ cs
    → admission_end s (admission s.auth (user_from [] pairs) ms) ≡ admission_end s (by_auth auth (c ∷ cs) ms)
ended_is s pairs c cs auth ms a u = ap (λ x. admission_end s (admission s.auth x ms)) u ∙ ap (λ x. admission_end s (by_auth x (c ∷ cs) ms)) a

-- each user is let in
let_in : (s : Script) (ps : List First) (pairs : List (List ℕ × List ℕ)) (c : ℕ) (cs : List ℕ) → GoOn ps → s.auth ≡ Trust → user_from [] pairs ≡ c ∷ cs → LetIn s (ps ++ first.Startup pairs ∷ []) []
let_in s ps pairs c cs go a u = record {
  before = sent_for s ps [] ++ map Says (welcome s);
  sends = λ ms. sent_more s ps (first.Startup pairs ∷ []) ms go ∙ ap (λ l. sent_for s ps [] ++ map Says l) (started_is s pairs c cs Trust ms a u)
      ∙ ap (λ l. sent_for s ps [] ++ l) (map-append Says (welcome s) (replies s.answers ms)) ∙ sym (append_assoc (sent_for s ps []) (map Says (welcome s)) (map Says (replies s.answers ms)));
  logs = λ ms. log_more s ps (first.Startup pairs ∷ []) ms go ∙ logged_is s pairs c cs Trust ms a u;
  ends = λ ms. end_more s ps (first.Startup pairs ∷ []) ms go ∙ ended_is s pairs c cs Trust ms a u;
}

-- a user is asked for a password
is_asked : (s : Script) (ps : List First) (pairs : List (List ℕ × List ℕ)) (c : ℕ) (cs : List ℕ) (auth : Auth) (expected : List ℕ) → GoOn ps → s.auth ≡ auth → user_from [] pairs ≡ c ∷ cs
    → ((ms : List FrontMessage) → by_auth auth (c ∷ cs) ms ≡ by_password expected ms) → IsAsked s (ps ++ first.Startup pairs ∷ []) expected
is_asked s ps pairs c cs auth expected go a u by = record {
  before = sent_for s ps [] ++ map Says (question auth);
  sends = λ ms. sent_more s ps (first.Startup pairs ∷ []) ms go
      ∙ ap (λ l. sent_for s ps [] ++ map Says l) (started_is s pairs c cs auth ms a u ∙ ap (λ x. question auth ++ admission_messages s x) (by ms))
      ∙ ap (λ l. sent_for s ps [] ++ l) (map-append Says (question auth) (admission_messages s (by_password expected ms)))
      ∙ sym (append_assoc (sent_for s ps []) (map Says (question auth)) (map Says (admission_messages s (by_password expected ms))));
  logs = λ ms. log_more s ps (first.Startup pairs ∷ []) ms go ∙ logged_is s pairs c cs auth ms a u ∙ ap (admission_log s) (by ms);
  ends = λ ms. end_more s ps (first.Startup pairs ∷ []) ms go ∙ ended_is s pairs c cs auth ms a u ∙ ap (admission_end s) (by ms);
}

pub greeted : (s : Script) (ps : List First) (pairs : List (List ℕ × List ℕ)) (c : ℕ) (cs : List ℕ) (auth : Auth) → GoOn ps → s.auth ≡ auth → user_from [] pairs ≡ c ∷ cs → Greeted s ps pairs (c ∷ cs) auth
greeted s ps pairs c cs Trust go a u = record {
  sends = ap (map Says) (started_is s pairs c cs Trust [] a u ∙ append-nil (welcome s));
  logs = logged_is s pairs c cs Trust [] a u;
  awaits = ([], [], refl, let_in s ps pairs c cs go a u, ([], starts s.answers));
}
greeted s ps pairs c cs (Cleartext password) go a u = record {
  sends = ap (map Says) (started_is s pairs c cs (Cleartext password) [] a u);
  logs = logged_is s pairs c cs (Cleartext password) [] a u;
  awaits = (is_asked s ps pairs c cs (Cleartext password) password go a u (λ ms. refl), refl, refl);
}
greeted s ps pairs c cs (Md5 password salt) go a u = record {
  sends = ap (map Says) (started_is s pairs c cs (Md5 password salt) [] a u);
  logs = logged_is s pairs c cs (Md5 password salt) [] a u;
  awaits = (is_asked s ps pairs c cs (Md5 password salt) (md5_text (c ∷ cs) password salt) go a u (λ ms. refl), refl, refl);
}
