-- What holds of all messages of a direction, by its table of messages and the readings of its tags.
use Rattle.std.proofs.Common.{◌≡◌, ℕ, ◌^◌, ◌<◌, Bool, true, false, cond, eqb, List, ◌++◌, length, Option, Some, None, Result, Ok, Err, refl, sym, ap, subst, ◌∙◌, arith}
use Rattle.std.specs.Prelude.{is_some, IfSome, IsSomeAnd}
use Rattle.std.proofs.lemmas.List.{append-nil}
use Rattle.std.proofs.lemmas.Option.{none-some, same_Some}
use Rattle.pg_codec.specs.declared.fault.BodyFault.{BodyFault}
use Rattle.pg_codec.specs.declared.fault.BodyFault.TheVariants as faults
use Rattle.pg_message.specs.Direction.{TableRow, listed_in, HasSpelling}
use Rattle.pg_message.specs.Message.{IsTag, NoMessage, OneToOne, IsMessage, TellsTag, JudgesBody, ReadsBody}
use Rattle.pg_message.specs.Private.Reading.{Reading, made_of_whole, reading, bare, ends, ReadsWhole}
use Rattle.pg_codec.specs.Private.Reader.{nothing_at}
use Rattle.pg_codec.specs.Private.Lent.{left_after}
use Rattle.pg_codec.proofs.Layouts.{IsBytes, bind_some, some_is, Spelled, ReadsLast}
use Rattle.pg_message.proofs.Bodies.{IsSpelled, spelled_parts, ended}

-- ---- one tag

-- What stands after a tag is read as it is spelled, and makes messages of the table with this tag.
pub record IsRead {M : Type 0} (table : M → TableRow) (r : Reading M) : Type 0 where
  pub reads : ReadsLast r.spelled r.read
  pub whole : (bytes : List ℕ) → r.message bytes ≡ made_of_whole r.make (r.read bytes)
  pub left_is : (bytes : List ℕ) → ends (r.left bytes) ≡ is_some (r.message bytes)
  pub made : (a : r.Parts) (m : M) → Spelled (r.spelled a) → r.make a ≡ Some m → IsMessage (listed_in table) r.tag (r.spelled a).bytes m
  pub one : M
  pub one_is : (table one).tag ≡ r.tag

ends_where_read : {M A : Type 0} (make : A → M) (o : Option (A × List ℕ)) → ends (left_after o) ≡ is_some (made_of_whole (λ a. Some (make a)) o)
ends_where_read make None = refl
ends_where_read {M} {A} make (Some x) = by_end (eqb (length x.1) 0)
  where
    by_end : (b : Bool) → b ≡ is_some (cond b (Some (make x.0)) None)
    by_end true = refl
    by_end false = refl

pub is_read : {M A : Type 0} (table : M → TableRow) (t : ℕ) (read : List ℕ → Option (A × List ℕ)) (make : A → M) → ((a : A) → (table (make a)).tag ≡ t) → ((a : A) → (table (make a)).has_reserved_code ≡ false) → ReadsLast (λ a. (table (make a)).body) read → A → IsRead table (reading table t read make)
is_read {M} {A} table t read make tag_is not_reserved reads one = record {
  reads = reads;
  whole = λ _. refl;
  left_is = λ bytes. ends_where_read make (read bytes);
  made = λ a m s e. subst (IsMessage (listed_in table) t (table (make a)).body.bytes) (some_is (make a) m e) (record {
    tag_is = tag_is a;
    body_is = refl;
    of_type = s.of_type;
    no_zero = s.no_zero;
    countable = s.countable;
    not_reserved = not_reserved a;
  });
  one = make one;
  one_is = tag_is one;
}

pub bare_is_read : {M : Type 0} (table : M → TableRow) (t : ℕ) (m : M) → (table m).tag ≡ t → (table m).has_reserved_code ≡ false → ReadsLast (λ (_ : Unit {0}). (table m).body) nothing_at → IsRead table (bare table t m)
bare_is_read table t m tag_is not_reserved reads = is_read table t nothing_at (λ _. m) (λ _. tag_is) (λ _. not_reserved) reads tt

-- what is read is a message with this tag and this body
pub message_sound : {M : Type 0} (table : M → TableRow) (r : Reading M) → IsRead table r → (bytes : List ℕ) (m : M) → IsBytes bytes → r.message bytes ≡ Some m → IsMessage (listed_in table) r.tag bytes m
message_sound table r is bytes m fits e =
    let x = bind_some (r.read bytes) (λ (a : r.Parts × List ℕ). cond (eqb (length a.1) 0) (r.make a.0) None) m (sym (is.whole bytes) ∙ e) in
    let g = ended x.0.1 (r.make x.0.0) m x.2 in
    let t = is.reads.sound bytes x.0.0 x.0.1 fits x.1 in
    let body = (r.spelled x.0.0).bytes in
    let same : bytes ≡ body = t.parts ∙ ap (λ (u : List ℕ). body ++ u) g.0 ∙ append-nil body in
    subst (λ (b : List ℕ). IsMessage (listed_in table) r.tag b m) (sym same) (is.made x.0.0 m t.spelled g.1)

-- what keeps no message of a table from having a spelling
pub body_spelled : {M : Type 0} (table : M → TableRow) (m : M) → IsSpelled (listed_in table) m → Spelled (table m).body
body_spelled table m s = record { no_zero = s.no_zero; countable = s.countable; of_type = s.of_type }

-- a message that is made of these parts is read of its body
pub found : {M K : Type 0} {table : M → TableRow} {of : K → Reading M} (kind_of : ℕ → Option K) → ((k : K) → IsRead table (of k)) → (i : K) (a : (of i).Parts) (m : M) → (of i).make a ≡ Some m → kind_of (table m).tag ≡ Some i → Spelled ((of i).spelled a) → length ((of i).spelled a).bytes < 2 ^ 31
    → (k : K) × (kind_of (table m).tag ≡ Some k) × ((of k).message ((of i).spelled a).bytes ≡ Some m)
found {M} {K} {table} {of} kind_of each i a m e kind s short = (i, kind, (each i).whole ((of i).spelled a).bytes ∙ rw ((each i).reads.again a s short) e)

-- ---- all tags

-- Each message has a tag, whose reading reads it, and no two readings have one tag.
pub record IsTable {M K : Type 0} (table : M → TableRow) (of : K → Reading M) (kind_of : ℕ → Option K) : Type 0 where
  pub each : (k : K) → IsRead table (of k)
  pub own : (k : K) → kind_of (of k).tag ≡ Some k
  pub known : (m : M) → is_some (kind_of (table m).tag) ≡ true
  pub again : (m : M) → IsSpelled (listed_in table) m → length (table m).body.bytes < 2 ^ 31 → (k : K) × (kind_of (table m).tag ≡ Some k) × ((of k).message (table m).body.bytes ≡ Some m)

module _ {M K : Type 0} {table : M → TableRow} {of : K → Reading M} {kind_of : ℕ → Option K} (is : IsTable table of kind_of) where
  again : (m : M) → HasSpelling (listed_in table) m → (k : K) × (kind_of (table m).tag ≡ Some k) × ((of k).message (table m).body.bytes ≡ Some m)
  again m s = let p = spelled_parts (listed_in table) m s in is.again m p.0 (omega (arith, p.1))

  pub is_tag : (t : ℕ) (k : K) → t ≡ (of k).tag → IsTag (listed_in table) t
  is_tag t k e = ((is.each k).one, (is.each k).one_is ∙ sym e)

  pub no_tag : (t : ℕ) → kind_of t ≡ None → IsTag (listed_in table) t → ⊥
  no_tag t e (m, tag_is) = differ (sym (ap is_some (ap kind_of tag_is ∙ e)) ∙ is.known m)
    where
      differ : false ≡ true → ⊥
      differ e = cc

  pub read_none : (t : ℕ) (k : K) (bytes : List ℕ) → t ≡ (of k).tag → (of k).message bytes ≡ None → NoMessage (listed_in table) t bytes
  read_none t k bytes same none m s tag_is body_is =
      let a = again m s in
      let kind : a.0 ≡ k = same_Some a.0 k (sym a.1 ∙ ap kind_of (tag_is ∙ same) ∙ is.own k) in
      none-some m (sym none ∙ ap (of k).message (sym body_is) ∙ ap (λ (j : K). (of j).message (table m).body.bytes) (sym kind) ∙ a.2)

  pub one_to_one : OneToOne (listed_in table)
  one_to_one m n s t tags bodies =
      let a = again m s in
      let b = again n t in
      let kind : a.0 ≡ b.0 = same_Some a.0 b.0 (sym a.1 ∙ ap kind_of tags ∙ b.1) in
      same_Some m n (sym a.2 ∙ ap (λ (j : K). (of j).message (table m).body.bytes) kind ∙ ap (of b.0).message bodies ∙ b.2)

  pub tells_tag : (t : ℕ) (o : Option K) → o ≡ kind_of t → IfSome o (λ k. t ≡ (of k).tag) → TellsTag (listed_in table) t (is_some o)
  tells_tag t (Some k) e byte = is_tag t k byte
  tells_tag t None e byte = no_tag t (sym e)

  pub judges_body : (t : ℕ) (k : K) (bytes : List ℕ) (b : Bool) → t ≡ (of k).tag → IsBytes bytes → b ≡ is_some ((of k).message bytes) → JudgesBody (listed_in table) t bytes b
  judges_body t k bytes b same fits e = by_message (read_none t k bytes same) ((of k).message bytes) refl b e
    where
      by_message : ((of k).message bytes ≡ None → NoMessage (listed_in table) t bytes) → (o : Option M) → (of k).message bytes ≡ o → (b : Bool) → b ≡ is_some o → JudgesBody (listed_in table) t bytes b
      by_message none (Some m) h true e = (m, subst (λ (u : ℕ). IsMessage (listed_in table) u bytes m) (sym same) (message_sound table (of k) (is.each k) bytes m fits h))
      by_message none (Some m) h false e = absurd cc
      by_message none None h true e = absurd cc
      by_message none None h false e = none h

  pub reads_body : (t : ℕ) (k : K) (bytes : List ℕ) (r : Result M BodyFault) → t ≡ (of k).tag → IsBytes bytes → ReadsWhole (listed_in table).holds_list r ((of k).message bytes) → ReadsBody (listed_in table) t bytes r
  reads_body t k bytes (Ok m) same fits e = subst (λ (b : ℕ). IsMessage (listed_in table) b bytes m) (sym same) (message_sound table (of k) (is.each k) bytes m fits e)
  reads_body t k bytes (Err faults.Bad) same fits e = judges_body t k bytes false same fits (sym e)
  reads_body t k bytes (Err faults.Memory) same fits e = by_message ((of k).message bytes) refl e
    where
      by_message : (o : Option M) → (of k).message bytes ≡ o → IsSomeAnd o (λ m. (listed_in table).holds_list m ≡ true) → ReadsBody (listed_in table) t bytes (Err faults.Memory)
      by_message (Some m) h list = (m, subst (λ (u : ℕ). IsMessage (listed_in table) u bytes m) (sym same) (message_sound table (of k) (is.each k) bytes m fits h), list)
      by_message None h list = absurd list
