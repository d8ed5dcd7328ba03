-- A segment fits a request with at most one outcome: its messages are parted into answers in one way.
use Rattle.std.proofs.Common.{◌≡◌, ℕ, List, [], ◌∷◌, ◌++◌, map, true, Option, Some, None, refl, sym, ap, subst, ◌∙◌, append_assoc, inl, inr}
use Rattle.std.specs.List.{flat_map, AllByRecursion}
use Rattle.std.proofs.lemmas.List.{append-nil}
use Rattle.pg_message.specs.declared.message.BackMessage.{BackMessage}
use Rattle.pg_message.specs.declared.message.BackMessage.TheVariants.{Ready, DataRow, CommandComplete, EmptyQuery, PortalSuspended, ErrorResponse, CopyData, CopyDone}
use Rattle.pg_codec.specs.declared.value.Column.{Column}
use Rattle.pg_codec.specs.declared.value.CopyHead.{CopyHead}
use Rattle.pg_codec.specs.declared.value.Status.{Status}
use Rattle.pg_wire.specs.declared.session.Aside.{Aside}
use Rattle.pg_codec.specs.declared.value.Target.TheVariants.{Statement, Portal}
use Rattle.pg_wire.specs.declared.session.ExecEnd.{ExecEnd}
use Rattle.pg_wire.specs.declared.session.ExecEnd.TheVariants as ends
use Rattle.pg_wire.specs.declared.session.Outcome.{Outcome}
use Rattle.pg_wire.specs.declared.session.Part.{Part}
use Rattle.pg_wire.specs.declared.session.Part.TheVariants as part
use Rattle.pg_wire.specs.declared.session.Request.{Request}
use Rattle.pg_wire.specs.declared.session.Step.{Step}
use Rattle.pg_wire.specs.declared.session.Step.TheVariants as step
use Rattle.pg_wire.specs.Segment.{Fields, asides_of, without_asides, messages_of, columns_sent, execute_end_sent, is_result, is_answer, Asked, Results, Steps, asked, Answers, IsDone, IsCutOff, Reads, Fits}

-- ---- lists

-- two lists with a last element are equal only where both parts are
pub last_same : {A : Type 0} (xs ys : List A) (x y : A) → xs ++ x ∷ [] ≡ ys ++ y ∷ [] → (xs ≡ ys) × (x ≡ y)
last_same [] [] x y e = (refl, cc)
last_same [] (b ∷ []) x y e = absurd cc
last_same [] (b ∷ c ∷ ys) x y e = absurd cc
last_same (a ∷ []) [] x y e = absurd cc
last_same (a ∷ c ∷ xs) [] x y e = absurd cc
last_same {A = A} (a ∷ xs) (b ∷ ys) x y e =
    let tail : xs ++ x ∷ [] ≡ ys ++ y ∷ [] = cc in
    let head : a ≡ b = cc in
    let r = last_same xs ys x y tail in
    (ap (λ (z : A). z ∷ xs) head ∙ ap (λ (zs : List A). b ∷ zs) r.0, r.1)

not_empty : {A : Type 0} (xs : List A) (x : A) (ys : List A) → [] ≡ xs ++ x ∷ ys → ⊥
not_empty [] x ys e = cc
not_empty (a ∷ xs) x ys e = cc

-- messages of one kind, up to one of another
module _ {A : Type 0} (f : A → BackMessage) (of : BackMessage → Option A) (is : (a : A) → of (f a) ≡ Some a) where
  run_once : (xs ys : List A) (m n : BackMessage) (x y : List BackMessage) → of m ≡ None → of n ≡ None → map f xs ++ m ∷ x ≡ map f ys ++ n ∷ y → (xs ≡ ys) × (m ≡ n) × (x ≡ y)
  run_once [] [] m n x y a b e = (refl, cc, cc)
  run_once [] (v ∷ ys) m n x y a b e =
      let head : m ≡ f v = cc in
      let k : None ≡ Some v = sym a ∙ ap of head ∙ is v in
      absurd cc
  run_once (u ∷ xs) [] m n x y a b e =
      let head : f u ≡ n = cc in
      let k : Some u ≡ None = sym (is u) ∙ ap of head ∙ b in
      absurd cc
  run_once (u ∷ xs) (v ∷ ys) m n x y a b e =
      let head : f u ≡ f v = cc in
      let tail : map f xs ++ m ∷ x ≡ map f ys ++ n ∷ y = cc in
      let same : Some u ≡ Some v = sym (is u) ∙ ap of head ∙ is v in
      let first : u ≡ v = cc in
      let r = run_once xs ys m n x y a b tail in
      (ap (λ (z : A). z ∷ xs) first ∙ ap (λ (zs : List A). v ∷ zs) r.0, r.1, r.2)

  -- the same where the other one and more stand in brackets
  run_then : (xs ys : List A) (m n : BackMessage) (ms ns x y : List BackMessage) → of m ≡ None → of n ≡ None → (map f xs ++ m ∷ ms) ++ x ≡ (map f ys ++ n ∷ ns) ++ y → (xs ≡ ys) × (m ≡ n) × (ms ++ x ≡ ns ++ y)
  run_then xs ys m n ms ns x y a b e = run_once xs ys m n (ms ++ x) (ns ++ y) a b (sym (append_assoc (map f xs) (m ∷ ms) x) ∙ e ∙ append_assoc (map f ys) (n ∷ ns) y)

abbrev row_in : BackMessage → Option (List (Option (List ℕ)))
row_in (DataRow values) = Some values
row_in _ = None

abbrev chunk_in : BackMessage → Option (List ℕ)
chunk_in (CopyData bytes) = Some bytes
chunk_in _ = None

rows_then : (xs ys : List (List (Option (List ℕ)))) (m n : BackMessage) (ms ns x y : List BackMessage) → row_in m ≡ None → row_in n ≡ None → (map DataRow xs ++ m ∷ ms) ++ x ≡ (map DataRow ys ++ n ∷ ns) ++ y → (xs ≡ ys) × (m ≡ n) × (ms ++ x ≡ ns ++ y)
rows_then = run_then DataRow row_in (λ a. refl)

chunks_then : (xs ys : List (List ℕ)) (m n : BackMessage) (ms ns x y : List BackMessage) → chunk_in m ≡ None → chunk_in n ≡ None → (map CopyData xs ++ m ∷ ms) ++ x ≡ (map CopyData ys ++ n ∷ ns) ++ y → (xs ≡ ys) × (m ≡ n) × (ms ++ x ≡ ns ++ y)
chunks_then = run_then CopyData chunk_in (λ a. refl)

-- ---- one part

abbrev Once : Part → Part → Type 0
Once p q = (x y : List BackMessage) → messages_of p ++ x ≡ messages_of q ++ y → (p ≡ q) × (x ≡ y)

rows_once : (columns columns' : List Column) (rows rows' : List (List (Option (List ℕ)))) (tag tag' : List ℕ) → Once (part.Rows columns rows tag) (part.Rows columns' rows' tag')
rows_once columns columns' rows rows' tag tag' x y e =
    let head : columns ≡ columns' = cc in
    let tail : (map DataRow rows ++ CommandComplete tag ∷ []) ++ x ≡ (map DataRow rows' ++ CommandComplete tag' ∷ []) ++ y = cc in
    let r = rows_then rows rows' (CommandComplete tag) (CommandComplete tag') [] [] x y refl refl tail in
    let same : rows ≡ rows' = r.0 in
    let tags : CommandComplete tag ≡ CommandComplete tag' = r.1 in
    (cc, r.2)

copies_once : (head head' : CopyHead) (chunks chunks' : List (List ℕ)) (tag tag' : List ℕ) → Once (part.CopyOut head chunks tag) (part.CopyOut head' chunks' tag')
copies_once head head' chunks chunks' tag tag' x y e =
    let first : head ≡ head' = cc in
    let tail : (map CopyData chunks ++ CopyDone ∷ CommandComplete tag ∷ []) ++ x ≡ (map CopyData chunks' ++ CopyDone ∷ CommandComplete tag' ∷ []) ++ y = cc in
    let r = chunks_then chunks chunks' CopyDone CopyDone (CommandComplete tag ∷ []) (CommandComplete tag' ∷ []) x y refl refl tail in
    let same : chunks ≡ chunks' = r.0 in
    let tags : CommandComplete tag ∷ x ≡ CommandComplete tag' ∷ y = r.2 in
    (cc, cc)

result_once : (p q : Part) → is_result p ≡ true → is_result q ≡ true → Once p q
result_once (part.Rows columns rows tag) (part.Rows columns' rows' tag') h k x y e = rows_once columns columns' rows rows' tag tag' x y e
result_once (part.Command tag) (part.Command tag') h k x y e = (cc, cc)
result_once part.Empty part.Empty h k x y e = (refl, cc)
result_once (part.CopyOut head chunks tag) (part.CopyOut head' chunks' tag') h k x y e = copies_once head head' chunks chunks' tag tag' x y e
result_once (part.CopyIn head tag) (part.CopyIn head' tag') h k x y e = (cc, cc)
result_once _ _ h k x y e = absurd cc

end_rows_none : (end : ExecEnd) → row_in (execute_end_sent end) ≡ None
end_rows_none (ends.Complete tag) = refl
end_rows_none ends.Empty = refl
end_rows_none ends.Suspended = refl

end_once : (end end' : ExecEnd) → execute_end_sent end ≡ execute_end_sent end' → end ≡ end'
end_once (ends.Complete tag) (ends.Complete tag') e = cc
end_once ends.Empty ends.Empty e = refl
end_once ends.Suspended ends.Suspended e = refl
end_once _ _ e = absurd cc

executed_once : (rows rows' : List (List (Option (List ℕ)))) (end end' : ExecEnd) → Once (part.Executed rows end) (part.Executed rows' end')
executed_once rows rows' end end' x y e =
    let r = rows_then rows rows' (execute_end_sent end) (execute_end_sent end') [] [] x y (end_rows_none end) (end_rows_none end') e in
    let same : rows ≡ rows' = r.0 in
    let ended : end ≡ end' = end_once end end' r.1 in
    (cc, r.2)

columns_once : (columns columns' : Option (List Column)) (x y : List BackMessage) → columns_sent columns ∷ x ≡ columns_sent columns' ∷ y → (columns ≡ columns') × (x ≡ y)
columns_once None None x y e = (refl, cc)
columns_once (Some c) (Some d) x y e = (cc, cc)
columns_once None (Some d) x y e = absurd cc
columns_once (Some c) None x y e = absurd cc

described_once : (types types' : List ℕ) (columns columns' : Option (List Column)) → Once (part.Described (Some types) columns) (part.Described (Some types') columns')
described_once types types' columns columns' x y e =
    let first : types ≡ types' = cc in
    let tail : columns_sent columns ∷ x ≡ columns_sent columns' ∷ y = cc in
    let r = columns_once columns columns' x y tail in
    let same : columns ≡ columns' = r.0 in
    (cc, r.1)

portal_once : (columns columns' : Option (List Column)) → Once (part.Described None columns) (part.Described None columns')
portal_once columns columns' x y e =
    let r = columns_once columns columns' x y e in
    let same : columns ≡ columns' = r.0 in
    (cc, r.1)

answer_once : (s : Step) (p q : Part) → is_answer s p ≡ true → is_answer s q ≡ true → Once p q
answer_once (step.Parse name text types) part.Parsed part.Parsed h k x y e = (refl, cc)
answer_once (step.Bind portal statement formats values result_formats) part.Bound part.Bound h k x y e = (refl, cc)
answer_once (step.Describe Statement name) (part.Described (Some types) columns) (part.Described (Some types') columns') h k x y e = described_once types types' columns columns' x y e
answer_once (step.Describe Portal name) (part.Described None columns) (part.Described None columns') h k x y e = portal_once columns columns' x y e
answer_once (step.Execute portal max_rows) (part.Executed rows end) (part.Executed rows' end') h k x y e = executed_once rows rows' end end' x y e
answer_once (step.Close target name) part.Shut part.Shut h k x y e = (refl, cc)
answer_once _ _ _ h k x y e = absurd cc

-- what is still asked after a next answer
abbrev after : Asked → Asked
after Results = Results
after (Steps []) = Steps []
after (Steps (s ∷ ss)) = Steps ss

-- an answer to what is asked, whatever is left then
abbrev IsNext : Asked → Part → Type 0
IsNext a p = (rest : Asked) × Answers a (p ∷ []) rest

next_once : (a : Asked) (p q : Part) → IsNext a p → IsNext a q → Once p q
next_once Results p q h k = result_once p q h.1.0 k.1.0
next_once (Steps []) p q h k = absurd h.1
next_once (Steps (s ∷ ss)) p q h k = answer_once s p q h.1.0 k.1.0

first_next : (a : Asked) (p : Part) (ps : List Part) (rest : Asked) → Answers a (p ∷ ps) rest → IsNext a p × Answers (after a) ps rest
first_next Results p ps rest h = ((Results, (h.0, refl)), h.1)
first_next (Steps []) p ps rest h = absurd h
first_next (Steps (s ∷ ss)) p ps rest h = ((Steps ss, (h.0, refl)), h.1)

-- ---- errors stand in no part

abbrev pub error_in : BackMessage → Option Fields
error_in (ErrorResponse fields) = Some fields
error_in _ = None

abbrev pub HasNone : List BackMessage → Type 0
HasNone ms = AllByRecursion (λ m. error_in m ≡ None) ms

none_append : (xs ys : List BackMessage) → HasNone xs → HasNone ys → HasNone (xs ++ ys)
none_append [] ys h k = k
none_append (x ∷ xs) ys h k = (h.0, none_append xs ys h.1 k)

none_front : (xs ys : List BackMessage) → HasNone (xs ++ ys) → HasNone xs
none_front [] ys h = tt
none_front (x ∷ xs) ys h = (h.0, none_front xs ys h.1)

rows_none : (rows : List (List (Option (List ℕ)))) → HasNone (map DataRow rows)
rows_none [] = tt
rows_none (r ∷ rs) = (refl, rows_none rs)

chunks_none : (chunks : List (List ℕ)) → HasNone (map CopyData chunks)
chunks_none [] = tt
chunks_none (c ∷ cs) = (refl, chunks_none cs)

part_none : (p : Part) → HasNone (messages_of p)
part_none (part.Rows columns rows tag) = (refl, none_append (map DataRow rows) (CommandComplete tag ∷ []) (rows_none rows) (refl, tt))
part_none (part.Command tag) = (refl, tt)
part_none part.Empty = (refl, tt)
part_none (part.CopyOut head chunks tag) = (refl, none_append (map CopyData chunks) (CopyDone ∷ CommandComplete tag ∷ []) (chunks_none chunks) (refl, (refl, tt)))
part_none (part.CopyIn head tag) = (refl, (refl, tt))
part_none part.Parsed = (refl, tt)
part_none part.Bound = (refl, tt)
part_none (part.Described (Some types) (Some columns)) = (refl, (refl, tt))
part_none (part.Described (Some types) None) = (refl, (refl, tt))
part_none (part.Described None (Some columns)) = (refl, tt)
part_none (part.Described None None) = (refl, tt)
part_none (part.Executed rows (ends.Complete tag)) = none_append (map DataRow rows) (CommandComplete tag ∷ []) (rows_none rows) (refl, tt)
part_none (part.Executed rows ends.Empty) = none_append (map DataRow rows) (EmptyQuery ∷ []) (rows_none rows) (refl, tt)
part_none (part.Executed rows ends.Suspended) = none_append (map DataRow rows) (PortalSuspended ∷ []) (rows_none rows) (refl, tt)
part_none part.Shut = (refl, tt)

cut_none : (a : Asked) (cut : List BackMessage) → IsCutOff a cut → HasNone cut
cut_none a cut (inl is) = subst HasNone (sym is) tt
cut_none a cut (inr h) = none_front cut (h.1 ∷ h.2) (subst HasNone h.5 (part_none h.0))

-- a part has a message
pub part_some : (p : Part) → messages_of p ≡ [] → ⊥
part_some (part.Executed [] (ends.Complete tag)) e = cc
part_some (part.Executed [] ends.Empty) e = cc
part_some (part.Executed [] ends.Suspended) e = cc
part_some (part.Executed (r ∷ rs) end) e = cc
part_some (part.Described (Some types) columns) e = cc
part_some (part.Described None columns) e = cc
part_some (part.Rows columns rows tag) e = cc
part_some (part.Command tag) e = cc
part_some part.Empty e = cc
part_some (part.CopyOut head chunks tag) e = cc
part_some (part.CopyIn head tag) e = cc
part_some part.Parsed e = cc
part_some part.Bound e = cc
part_some part.Shut e = cc

-- what has no error ends before the first one
none_before : (xs cut z w : List BackMessage) (fields : Fields) → HasNone xs → cut ++ ErrorResponse fields ∷ w ≡ xs ++ z → (v : List BackMessage) × (cut ≡ xs ++ v)
none_before [] cut z w fields h e = (cut, refl)
none_before (x ∷ xs) [] z w fields h e =
    let head : ErrorResponse fields ≡ x = cc in
    let k : Some fields ≡ None = ap error_in head ∙ h.0 in
    absurd cc
none_before (x ∷ xs) (c ∷ cut) z w fields h e =
    let head : c ≡ x = cc in
    let tail : cut ++ ErrorResponse fields ∷ w ≡ xs ++ z = cc in
    let r = none_before xs cut z w fields h.1 tail in
    (r.0, ap (λ (m : BackMessage). m ∷ cut) head ∙ ap (λ (ms : List BackMessage). x ∷ ms) r.1)

first_error : (cut cut' w w' : List BackMessage) (fields fields' : Fields) → HasNone cut → HasNone cut' → cut ++ ErrorResponse fields ∷ w ≡ cut' ++ ErrorResponse fields' ∷ w' → fields ≡ fields'
first_error [] [] w w' fields fields' h k e = cc
first_error [] (c ∷ cut') w w' fields fields' h k e =
    let head : ErrorResponse fields ≡ c = cc in
    let n : Some fields ≡ None = ap error_in head ∙ k.0 in
    absurd cc
first_error (c ∷ cut) [] w w' fields fields' h k e =
    let head : ErrorResponse fields' ≡ c = cc in
    let n : Some fields' ≡ None = ap error_in head ∙ h.0 in
    absurd cc
first_error (c ∷ cut) (d ∷ cut') w w' fields fields' h k e =
    let tail : cut ++ ErrorResponse fields ∷ w ≡ cut' ++ ErrorResponse fields' ∷ w' = cc in
    first_error cut cut' w w' fields fields' h.1 k.1 tail

-- ---- all parts, and what stands after them

-- what stands after the whole parts: nothing, or what is cut off and the errors
abbrev Tail : Asked → List BackMessage → Option Fields → Type 0
Tail a t None = IsDone a × (t ≡ [])
Tail a t (Some fields) = (cut : List BackMessage) × IsCutOff a cut × (more : List Fields) × (t ≡ cut ++ ErrorResponse fields ∷ map ErrorResponse more)

tail_once : (a b : Asked) (t : List BackMessage) (one other : Option Fields) → Tail a t one → Tail b t other → one ≡ other
tail_once a b t None None h k = refl
tail_once a b t None (Some fields) h k = absurd (not_empty k.0 (ErrorResponse fields) (map ErrorResponse k.2) (sym h.1 ∙ k.3))
tail_once a b t (Some fields) None h k = absurd (not_empty h.0 (ErrorResponse fields) (map ErrorResponse h.2) (sym k.1 ∙ h.3))
tail_once a b t (Some fields) (Some fields') h k = ap Some (first_error h.0 k.0 (map ErrorResponse h.2) (map ErrorResponse k.2) fields fields' (cut_none a h.0 h.1) (cut_none b k.0 k.1) (sym h.3 ∙ k.3))

-- no whole answer stands where the answers end
not_more : (a : Asked) (t : List BackMessage) (error : Option Fields) (q : Part) (z : List BackMessage) → Tail a t error → IsNext a q → t ≡ messages_of q ++ z → ⊥
not_more a t None q z h next e = part_some q (nothing (messages_of q) z (sym h.1 ∙ e))
  where
    nothing : (xs ys : List BackMessage) → [] ≡ xs ++ ys → xs ≡ []
    nothing [] ys k = refl
    nothing (x ∷ xs) ys k = absurd cc
not_more a t (Some fields) q z h next e = by h.1 (none_before (messages_of q) h.0 z (map ErrorResponse h.2) fields (part_none q) (sym h.3 ∙ e))
  where
    nothing : (xs ys : List BackMessage) → [] ≡ xs ++ ys → xs ≡ []
    nothing [] ys k = refl
    nothing (x ∷ xs) ys k = absurd cc

    by : IsCutOff a h.0 → (v : List BackMessage) × (h.0 ≡ messages_of q ++ v) → ⊥
    by (inl is) r = part_some q (nothing (messages_of q) r.0 (sym is ∙ r.1))
    by (inr c) r =
        let whole : messages_of c.0 ++ [] ≡ messages_of q ++ (r.0 ++ c.1 ∷ c.2) =
        append-nil (messages_of c.0) ∙ c.5 ∙ ap (λ (ms : List BackMessage). ms ++ c.1 ∷ c.2) r.1 ∙ append_assoc (messages_of q) r.0 (c.1 ∷ c.2) in
        not_empty r.0 c.1 c.2 ((once c.0 c.3 c.4 whole).1)
      where
        once : (p : Part) (rest : Asked) → Answers a (p ∷ []) rest → messages_of p ++ [] ≡ messages_of q ++ (r.0 ++ c.1 ∷ c.2) → (p ≡ q) × ([] ≡ r.0 ++ c.1 ∷ c.2)
        once p rest answers same = next_once a p q (rest, answers) next [] (r.0 ++ c.1 ∷ c.2) same

parts_once : (a b c : Asked) (ps qs : List Part) (t u : List BackMessage) (one other : Option Fields) → Answers a ps b → Answers a qs c → Tail b t one → Tail c u other → flat_map messages_of ps ++ t ≡ flat_map messages_of qs ++ u → (ps ≡ qs) × (one ≡ other)
parts_once a b c [] [] t u one other h k tail tail' e = (refl, tail_once b c t one other tail (subst (λ (x : List BackMessage). Tail c x other) (sym e) tail'))
parts_once a b c [] (q ∷ qs) t u one other h k tail tail' e =
    absurd (not_more a t one q (flat_map messages_of qs ++ u) (subst (λ (x : Asked). Tail x t one) h tail) (first_next a q qs c k).0 (e ∙ append_assoc (messages_of q) (flat_map messages_of qs) u))
parts_once a b c (p ∷ ps) [] t u one other h k tail tail' e =
    absurd (not_more a u other p (flat_map messages_of ps ++ t) (subst (λ (x : Asked). Tail x u other) k tail') (first_next a p ps b h).0 (sym e ∙ append_assoc (messages_of p) (flat_map messages_of ps) t))
parts_once a b c (p ∷ ps) (q ∷ qs) t u one other h k tail tail' e =
    let f = first_next a p ps b h in
    let g = first_next a q qs c k in
    let same = once (next_once a p q f.0 g.0) in
    let r = parts_once (after a) b c ps qs t u one other f.1 g.1 tail tail' same.1 in
    (ap (λ (x : Part). x ∷ ps) same.0 ∙ ap (λ (xs : List Part). q ∷ xs) r.0, r.1)
  where
    once : Once p q → (p ≡ q) × (flat_map messages_of ps ++ t ≡ flat_map messages_of qs ++ u)
    once o = o (flat_map messages_of ps ++ t) (flat_map messages_of qs ++ u) (sym (append_assoc (messages_of p) (flat_map messages_of ps) t) ∙ e ∙ append_assoc (messages_of q) (flat_map messages_of qs) u)

-- ---- segments

abbrev Parted : Asked → List BackMessage → List Part → Option Fields → Type 0
Parted a messages parts error = (rest : Asked) × Answers a parts rest × (t : List BackMessage) × Tail rest t error × (messages ≡ flat_map messages_of parts ++ t)

parted : (a : Asked) (messages : List BackMessage) (parts : List Part) (error : Option Fields) → Reads a messages parts error → Parted a messages parts error
parted a messages parts None h = (h.0, h.1, [], (h.2, refl), h.3 ∙ sym (append-nil (flat_map messages_of parts)))
parted a messages parts (Some fields) h = (h.0, h.1, h.2 ++ ErrorResponse fields ∷ map ErrorResponse h.4, (h.2, h.3, h.4, refl), h.5)

reads_once : (a : Asked) (messages : List BackMessage) (ps qs : List Part) (one other : Option Fields) → Reads a messages ps one → Reads a messages qs other → (ps ≡ qs) × (one ≡ other)
reads_once a messages ps qs one other h k =
    let p = parted a messages ps one h in
    let q = parted a messages qs other k in
    parts_once a p.0 q.0 ps qs p.2 q.2 one other p.1 q.1 p.3 q.3 (sym p.4 ∙ q.4)

pub fits_once : (request : Request) (segment : List BackMessage) (one other : Outcome) → Fits request segment one → Fits request segment other → one ≡ other
fits_once request segment one other h k =
    let s = last_same h.body k.body (Ready one.status) (Ready other.status) (sym h.closed ∙ k.closed) in
    let status : one.status ≡ other.status = (let e : Ready one.status ≡ Ready other.status = s.1 in cc) in
    let asides : one.asides ≡ other.asides = sym h.asides ∙ ap asides_of s.0 ∙ k.asides in
    let r = reads_once (asked request) (without_asides k.body) one.parts other.parts one.error other.error (subst (λ (b : List BackMessage). Reads (asked request) (without_asides b) one.parts one.error) s.0 h.reads) k.reads in
    ap (λ (x : List Part). outcome x one.error one.status one.asides) r.0
    ∙ ap (λ (x : Option Fields). outcome other.parts x one.status one.asides) r.1
    ∙ ap (λ (x : Status). outcome other.parts other.error x one.asides) status
    ∙ ap (outcome other.parts other.error other.status) asides
  where
    outcome : List Part → Option Fields → Status → List Aside → Outcome
    outcome parts error status asides = record { parts = parts; error = error; status = status; asides = asides }
