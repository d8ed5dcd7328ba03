-- Why fields aren't of their kinds, by one field more.
use Rattle.std.proofs.Common.{◌≡◌, ◌∙◌, ◌+◌, ◌<◌, ◌≤◌, ◌⊎◌, inl, inr, Bool, not, ℕ, List, ◌∷◌, length, drop, get_or, Option, Some, None, ap, sym, if◌then◌else◌}
use Rattle.std.specs.List.{slice_get}
use Rattle.std.proofs.lemmas.List.{drop_all, drop_more}
use Rattle.std.proofs.lemmas.Option.{slice_get-get_or, slice_get_cases}
use Rattle.pg_copy.specs.Row.{Row}
use Rattle.pgpipe_explain.specs.declared.fields.Tail.{Tail}
use Rattle.pgpipe_explain.specs.declared.fields.Tail.TheVariants as tail
use Rattle.pgpipe_explain.specs.declared.kind.FieldKind.{FieldKind}
use Rattle.pgpipe_explain.specs.declared.reason.LineReason.{LineReason}
use Rattle.pgpipe_explain.specs.declared.reason.LineReason.TheVariants as reason
use Rattle.pgpipe_explain.specs.Fields.{code_or_value, judge_all, judge_at, judge_codes, judge_field, judge_from, judge_tail, or_else}

-- the field in a place that there is
judged : (k : FieldKind) (n : ℕ) (fields : Row) → n < length fields → judge_field k (n + 1) (get_or fields n None) ≡ judge_at None k (n + 1) (slice_get fields n)
judged k n fields lt = ap (judge_at None k (n + 1)) (sym (slice_get-get_or fields n None lt))

-- r is the reason of the field in a place, or None: then what comes after it is judged
pub all_by : (k : FieldKind) (n : ℕ) (fields : Row) (r : Option LineReason) → n < length fields → r ≡ judge_at None k (n + 1) (slice_get fields n)
    → judge_all k n (drop n fields) ≡ or_else r (judge_all k (n + 1) (drop (n + 1) fields))
unfolding judge_all
all_by k n fields r lt e =
    ap (judge_all k n) (drop_more fields n None lt)
    ∙ ap (λ (o : Option LineReason). or_else o (judge_all k (n + 1) (drop (n + 1) fields))) (judged k n fields lt ∙ sym e)

pub all_ended : (k : FieldKind) (n : ℕ) (fields : Row) → length fields ≤ n → judge_all k n (drop n fields) ≡ None
unfolding judge_all
all_ended k n fields le = ap (judge_all k n) (drop_all n fields le)

pub codes_by : (c : Bool) (n : ℕ) (fields : Row) (r : Option LineReason) → n < length fields → r ≡ judge_at None (code_or_value c) (n + 1) (slice_get fields n)
    → judge_codes c n (drop n fields) ≡ or_else r (judge_codes (not c) (n + 1) (drop (n + 1) fields))
unfolding judge_codes
codes_by c n fields r lt e =
    ap (judge_codes c n) (drop_more fields n None lt)
    ∙ ap (λ (o : Option LineReason). or_else o (judge_codes (not c) (n + 1) (drop (n + 1) fields))) (judged (code_or_value c) n fields lt ∙ sym e)

pub codes_ended : (c : Bool) (n : ℕ) (fields : Row) → length fields ≤ n → judge_codes c n (drop n fields) ≡ (if c then None else Some (reason.NoValue n))
unfolding judge_codes
codes_ended c n fields le = ap (judge_codes c n) (drop_all n fields le)

-- one kind, and the field in its place, if there is one
one_from : (wanted : ℕ) (k : FieldKind) (kinds : List FieldKind) (t : Tail) (n : ℕ) (fields : Row)
    → ((field : Option (List ℕ)) × (n < length fields) × (slice_get fields n ≡ Some field) × (get_or fields n field ≡ field)) ⊎ ((length fields ≤ n) × (slice_get fields n ≡ None))
    → judge_from n wanted (k ∷ kinds) t (drop n fields) ≡ or_else (judge_at (Some (reason.TooFew wanted)) k (n + 1) (slice_get fields n)) (judge_from (n + 1) wanted kinds t (drop (n + 1) fields))
unfolding judge_from
one_from wanted k kinds t n fields (inl h) =
    ap (judge_from n wanted (k ∷ kinds) t) (drop_more fields n h.0 h.1)
    ∙ ap (λ (field : Option (List ℕ)). or_else (judge_field k (n + 1) field) (judge_from (n + 1) wanted kinds t (drop (n + 1) fields))) h.3
    ∙ ap (λ (o : Option (Option (List ℕ))). or_else (judge_at (Some (reason.TooFew wanted)) k (n + 1) o) (judge_from (n + 1) wanted kinds t (drop (n + 1) fields))) (sym h.2)
one_from wanted k kinds t n fields (inr h) =
    ap (judge_from n wanted (k ∷ kinds) t) (drop_all n fields h.0)
    ∙ ap (λ (o : Option (Option (List ℕ))). or_else (judge_at (Some (reason.TooFew wanted)) k (n + 1) o) (judge_from (n + 1) wanted kinds t (drop (n + 1) fields))) (sym h.1)

pub from_by : (wanted : ℕ) (kinds : List FieldKind) (t : Tail) (n i : ℕ) (d : FieldKind) (fields : Row) (r : Option LineReason) → n < length kinds → n ≡ i
    → r ≡ judge_at (Some (reason.TooFew wanted)) (get_or kinds i d) (n + 1) (slice_get fields n)
    → judge_from n wanted (drop n kinds) t (drop n fields) ≡ or_else r (judge_from (n + 1) wanted (drop (n + 1) kinds) t (drop (n + 1) fields))
unfolding judge_from
from_by wanted kinds t n i d fields r lt same e =
    ap (λ (ks : List FieldKind). judge_from n wanted ks t (drop n fields)) (drop_more kinds n d lt ∙ ap (λ (j : ℕ). get_or kinds j d ∷ drop (n + 1) kinds) same)
    ∙ one_from wanted (get_or kinds i d) (drop (n + 1) kinds) t n fields (slice_get_cases fields n).1
    ∙ ap (λ (o : Option LineReason). or_else o (judge_from (n + 1) wanted (drop (n + 1) kinds) t (drop (n + 1) fields))) (sym e)

pub from_done : (wanted : ℕ) (kinds : List FieldKind) (t : Tail) (n : ℕ) (rest : Row) → length kinds ≤ n → judge_from n wanted (drop n kinds) t rest ≡ judge_tail t n rest
unfolding judge_from
from_done wanted kinds t n rest le = ap (λ (ks : List FieldKind). judge_from n wanted ks t rest) (drop_all n kinds le)

-- what is left from a place on, where nothing may be
unfoldable too_many : ℕ → Option (Option (List ℕ)) → Option LineReason
too_many n None = None
too_many n (Some field) = Some (reason.TooMany n)

left_by : (n : ℕ) (fields : Row)
    → ((field : Option (List ℕ)) × (n < length fields) × (slice_get fields n ≡ Some field) × (get_or fields n field ≡ field)) ⊎ ((length fields ≤ n) × (slice_get fields n ≡ None))
    → judge_tail tail.Nothing n (drop n fields) ≡ too_many n (slice_get fields n)
unfolding too_many
left_by n fields (inl h) = ap (judge_tail tail.Nothing n) (drop_more fields n h.0 h.1) ∙ ap (too_many n) (sym h.2)
left_by n fields (inr h) = ap (judge_tail tail.Nothing n) (drop_all n fields h.0) ∙ ap (too_many n) (sym h.1)

pub none_left : (n : ℕ) (fields : Row) → None ≡ slice_get fields n → None ≡ judge_tail tail.Nothing n (drop n fields)
unfolding too_many
none_left n fields e = ap (too_many n) e ∙ sym (left_by n fields (slice_get_cases fields n).1)

pub some_left : (n : ℕ) (fields : Row) (field : Option (List ℕ)) → Some field ≡ slice_get fields n → Some (reason.TooMany n) ≡ judge_tail tail.Nothing n (drop n fields)
unfolding too_many
some_left n fields field e = ap (too_many n) e ∙ sym (left_by n fields (slice_get_cases fields n).1)
