-- Words of bytes that aren't UTF-8 are no verbs.
use Rattle.std.proofs.Common.{◌≡◌, ℕ, Bool, true, false, if◌then◌else◌, List, Option, None, codes, refl, ap, subst, sym, ◌∙◌}
use Rattle.std.specs.Str.{bytes_eq, IsUtf8}
use Rattle.std.proofs.lemmas.Slice.Eq.{bytes_eq-Decides}
use Rattle.pgpipe_lines.specs.Verb.{answer_verb, call_verb, script_verb, step_verb}

pub is_false : (b : Bool) → (b ≡ true → ⊥) → b ≡ false
is_false true h = absurd (h refl)
is_false false h = refl

pub differs : (word w : List ℕ) → (IsUtf8 word → ⊥) → IsUtf8 w → bytes_eq word w ≡ false
differs word w h u =
    is_false (bytes_eq word w) (λ (e : bytes_eq word w ≡ true). h (subst (λ (v : List ℕ). IsUtf8 v) (sym ((bytes_eq-Decides word w).0 e)) u))

skip : {A : Type 0} (word w : List ℕ) (a b : Option A) → (IsUtf8 word → ⊥) → IsUtf8 w → b ≡ None → (if bytes_eq word w then a else b) ≡ None
skip word w a b h u e = ap (λ (c : Bool). if c then a else b) (differs word w h u) ∙ e

pub no-call_verb : (word : List ℕ) → (IsUtf8 word → ⊥) → call_verb word ≡ None
unfolding lib.Utf8.encode
no-call_verb word h =
    skip word (codes "user") _ _ h (codes "user", (refl, refl))
    (skip word (codes "database") _ _ h (codes "database", (refl, refl))
    (skip word (codes "option") _ _ h (codes "option", (refl, refl))
    (skip word (codes "password") _ _ h (codes "password", (refl, refl))
    (skip word (codes "start") _ _ h (codes "start", (refl, refl))
    (skip word (codes "query") _ _ h (codes "query", (refl, refl))
    (skip word (codes "group") _ _ h (codes "group", (refl, refl))
    (skip word (codes "chunk") _ _ h (codes "chunk", (refl, refl))
    (skip word (codes "file") _ _ h (codes "file", (refl, refl))
    (skip word (codes "done") _ _ h (codes "done", (refl, refl))
    (skip word (codes "fail") _ _ h (codes "fail", (refl, refl))
    (skip word (codes "terminate") _ _ h (codes "terminate", (refl, refl))
    (skip word (codes "toback") _ _ h (codes "toback", (refl, refl))
    (skip word (codes "toclient") _ _ h (codes "toclient", (refl, refl))
    (skip word (codes "step") _ _ h (codes "step", (refl, refl))
    (skip word (codes "breakback") _ _ h (codes "breakback", (refl, refl))
    (skip word (codes "breakclient") _ _ h (codes "breakclient", (refl, refl))
    (skip word (codes "flow") _ _ h (codes "flow", (refl, refl)) refl)))))))))))))))))

pub no-step_verb : (word : List ℕ) → (IsUtf8 word → ⊥) → step_verb word ≡ None
unfolding lib.Utf8.encode
no-step_verb word h =
    skip word (codes "parse") _ _ h (codes "parse", (refl, refl))
    (skip word (codes "bind") _ _ h (codes "bind", (refl, refl))
    (skip word (codes "describe") _ _ h (codes "describe", (refl, refl))
    (skip word (codes "execute") _ _ h (codes "execute", (refl, refl))
    (skip word (codes "close") _ _ h (codes "close", (refl, refl)) refl))))

pub no-script_verb : (word : List ℕ) → (IsUtf8 word → ⊥) → script_verb word ≡ None
unfolding lib.Utf8.encode
no-script_verb word h =
    skip word (codes "auth") _ _ h (codes "auth", (refl, refl))
    (skip word (codes "pair") _ _ h (codes "pair", (refl, refl))
    (skip word (codes "key") _ _ h (codes "key", (refl, refl))
    (skip word (codes "answer") _ _ h (codes "answer", (refl, refl)) refl)))

pub no-answer_verb : (word : List ℕ) → (IsUtf8 word → ⊥) → answer_verb word ≡ None
unfolding lib.Utf8.encode
no-answer_verb word h =
    skip word (codes "notice") _ _ h (codes "notice", (refl, refl))
    (skip word (codes "set") _ _ h (codes "set", (refl, refl))
    (skip word (codes "notify") _ _ h (codes "notify", (refl, refl))
    (skip word (codes "rows") _ _ h (codes "rows", (refl, refl))
    (skip word (codes "row") _ _ h (codes "row", (refl, refl))
    (skip word (codes "command") _ _ h (codes "command", (refl, refl))
    (skip word (codes "empty") _ _ h (codes "empty", (refl, refl))
    (skip word (codes "copyout") _ _ h (codes "copyout", (refl, refl))
    (skip word (codes "chunk") _ _ h (codes "chunk", (refl, refl))
    (skip word (codes "copyin") _ _ h (codes "copyin", (refl, refl))
    (skip word (codes "parsed") _ _ h (codes "parsed", (refl, refl))
    (skip word (codes "bound") _ _ h (codes "bound", (refl, refl))
    (skip word (codes "paramtypes") _ _ h (codes "paramtypes", (refl, refl))
    (skip word (codes "described") _ _ h (codes "described", (refl, refl))
    (skip word (codes "executed") _ _ h (codes "executed", (refl, refl))
    (skip word (codes "shut") _ _ h (codes "shut", (refl, refl))
    (skip word (codes "error") _ _ h (codes "error", (refl, refl)) refl))))))))))))))))
