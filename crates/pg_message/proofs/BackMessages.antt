-- Reading a backend's body gives a message exactly where the body is that of a message with this tag.
use Rattle.std.proofs.Common.{◌≡◌, ℕ, ◌^◌, ◌<◌, true, false, ◌||◌, cond, eqb, List, [], ◌++◌, length, Option, Some, None, refl, sym, ap, subst, ◌∙◌, inl, inr}
use Rattle.std.specs.Prelude.{ℤ, pos, is_some}
use Rattle.std.specs.Ordering.{int_eq}
use Rattle.std.proofs.lemmas.Bool.Decides.{Decides-int_eq}
use Rattle.std.proofs.lemmas.Option.{none-some}
use Rattle.std.proofs.Math.Facts.{sfits_lit}
use Rattle.std.proofs.lemmas.Bool.{eqb-true, eq-eqb, or_parts, or_from}
use Rattle.pg_message.specs.declared.backend.kind.BackKind.{BackKind}
use Rattle.pg_message.specs.declared.backend.kind.BackKind.TheVariants as kinds
use Rattle.pg_codec.specs.declared.value.Status.TheVariants.{Idle}
use Rattle.pg_message.specs.declared.message.BackMessage.{BackMessage}
use Rattle.pg_message.specs.declared.message.BackMessage.TheVariants.{AuthOk, AuthCleartext, AuthMd5, AuthOther, KeyData, ParameterStatus, Ready, RowDescription, DataRow, CommandComplete, ParameterDescription, ErrorResponse, NoticeResponse, Notification, CopyIn, CopyOut, CopyData, CopyDone, EmptyQuery, ParseComplete, BindComplete, CloseComplete, NoData, PortalSuspended}
use Rattle.pg_codec.specs.Field.{◌⨾◌, int32, byten}
use Rattle.pg_message.specs.Backend.{backend, back_row, tag}
use Rattle.pg_message.specs.Message.{IsTag, NoMessage, IsMessage}
use Rattle.pg_message.specs.Private.BackReader.{back_reading, back_kind_of, auth_of_code, auth_message}
use Rattle.pg_message.specs.Private.Reading.{ends}
use Rattle.pg_codec.proofs.Layouts.{IsBytes, bind_some, some_is, Spelled, pair_reads, pair_last, reads_last, counted_reads, oid_reads, int32_reads, text_reads, nothing_reads, byten_reads}
use Rattle.pg_codec.proofs.Fields.{value_reads, column_reads, status_reads, copy_head_reads, error_fields_reads, chosen}
use Rattle.pg_message.proofs.Bodies.{IsSpelled, ended_some}
use Rattle.pg_message.proofs.Tables.{IsRead, is_read, bare_is_read, message_sound, found, body_spelled, IsTable}
use Rattle.pg_message.proofs.Tables as tables

-- ---- authentication requests

int_eq_true : (x y : ℤ) → int_eq x y ≡ true → x ≡ y
int_eq_true x y e = (Decides-int_eq x y).0 e

-- a message made of a code and a rest has them as its body
auth_made : (code : ℤ) (rest : List ℕ) (m : BackMessage) → Spelled (int32 code ⨾ byten rest) → auth_of_code code rest ≡ Some m → IsMessage backend 82 ((int32 code).bytes ++ rest) m
auth_made code rest m s e =
    elim (chosen (int_eq code (pos 0)) _ _ (Some m) e) [
      | inl p ↦
          let g = ended_some rest AuthOk m p.1 in
          of AuthOk m (record { tag_is = refl; body_is = rw (int_eq_true code (pos 0) p.0, g.0) refl; of_type = sfits_lit tt; no_zero = refl; countable = refl; not_reserved = refl }) g.1
      | inr not0 ↦ elim (chosen (int_eq code (pos 3)) _ _ (Some m) not0.1) [
        | inl p ↦
            let g = ended_some rest AuthCleartext m p.1 in
            of AuthCleartext m (record { tag_is = refl; body_is = rw (int_eq_true code (pos 3) p.0, g.0) refl; of_type = sfits_lit tt; no_zero = refl; countable = refl; not_reserved = refl }) g.1
        | inr not3 ↦ elim (chosen (int_eq code (pos 5)) _ _ (Some m) not3.1) [
          | inl p ↦ elim (chosen (eqb (length rest) 4) (Some (AuthMd5 rest)) None (Some m) p.1) [
            | inl q ↦ of (AuthMd5 rest) m (record { tag_is = refl; body_is = rw (int_eq_true code (pos 5) p.0) refl; of_type = (sfits_lit tt, eqb-true _ _ q.0); no_zero = refl; countable = refl; not_reserved = refl }) (some_is (AuthMd5 rest) m q.1)
            | inr q ↦ absurd (none-some m q.1)
          ]
          | inr not5 ↦ of (AuthOther code rest) m (record { tag_is = refl; body_is = refl; of_type = s.of_type; no_zero = refl; countable = refl; not_reserved = or_from _ _ (or_from _ _ not0.0 not3.0) not5.0 }) (some_is (AuthOther code rest) m not5.1)
        ]
      ]
    ]
  where
    of : (n o : BackMessage) → IsMessage backend 82 ((int32 code).bytes ++ rest) n → n ≡ o → IsMessage backend 82 ((int32 code).bytes ++ rest) o
    of n o found same = subst (IsMessage backend 82 ((int32 code).bytes ++ rest)) same found

auth_left : (o : Option BackMessage) → ends (cond (is_some o) (Some []) None) ≡ is_some o
auth_left None = refl
auth_left (Some m) = refl

-- ---- each kind

each : (k : BackKind) → IsRead back_row (back_reading k)
each kinds.Auth = record { reads = pair_last _ _ _ _ int32_reads byten_reads; whole = λ _. refl; left_is = λ bytes. auth_left (auth_message bytes); made = λ a m s e. auth_made a.0 a.1 m s e; one = AuthOk; one_is = refl }
each kinds.KeyData = is_read back_row 75 _ (λ (p : ℤ × ℤ). KeyData p.0 p.1) (λ _. refl) (λ _. refl) (reads_last _ _ (pair_reads _ _ _ _ int32_reads int32_reads)) (pos 0, pos 0)
each kinds.ParameterStatus = is_read back_row 83 _ (λ (p : List ℕ × List ℕ). ParameterStatus p.0 p.1) (λ _. refl) (λ _. refl) (reads_last _ _ (pair_reads _ _ _ _ text_reads text_reads)) ([], [])
each kinds.Ready = is_read back_row 90 _ Ready (λ _. refl) (λ _. refl) (reads_last _ _ status_reads) Idle
each kinds.RowDescription = is_read back_row 84 _ RowDescription (λ _. refl) (λ _. refl) (reads_last _ _ (counted_reads _ _ (λ _. refl) column_reads)) []
each kinds.DataRow = is_read back_row 68 _ DataRow (λ _. refl) (λ _. refl) (reads_last _ _ (counted_reads _ _ (λ _. refl) value_reads)) []
each kinds.CommandComplete = is_read back_row 67 _ CommandComplete (λ _. refl) (λ _. refl) (reads_last _ _ text_reads) []
each kinds.ParameterDescription = is_read back_row 116 _ ParameterDescription (λ _. refl) (λ _. refl) (reads_last _ _ (counted_reads _ _ (λ _. refl) oid_reads)) []
each kinds.ErrorResponse = is_read back_row 69 _ ErrorResponse (λ _. refl) (λ _. refl) (reads_last _ _ error_fields_reads) []
each kinds.NoticeResponse = is_read back_row 78 _ NoticeResponse (λ _. refl) (λ _. refl) (reads_last _ _ error_fields_reads) []
each kinds.Notification = is_read back_row 65 _ (λ (p : (ℤ × List ℕ) × List ℕ). Notification p.0.0 p.0.1 p.1) (λ _. refl) (λ _. refl) (reads_last _ _ (pair_reads _ _ _ _ (pair_reads _ _ _ _ int32_reads text_reads) text_reads)) ((pos 0, []), [])
each kinds.CopyIn = is_read back_row 71 _ CopyIn (λ _. refl) (λ _. refl) (reads_last _ _ copy_head_reads) (record { binary = false; formats = [] })
each kinds.CopyOut = is_read back_row 72 _ CopyOut (λ _. refl) (λ _. refl) (reads_last _ _ copy_head_reads) (record { binary = false; formats = [] })
each kinds.CopyData = is_read back_row 100 _ CopyData (λ _. refl) (λ _. refl) byten_reads []
each kinds.EmptyQuery = bare_is_read back_row 73 EmptyQuery refl refl nothing_reads
each kinds.ParseComplete = bare_is_read back_row 49 ParseComplete refl refl nothing_reads
each kinds.BindComplete = bare_is_read back_row 50 BindComplete refl refl nothing_reads
each kinds.CloseComplete = bare_is_read back_row 51 CloseComplete refl refl nothing_reads
each kinds.NoData = bare_is_read back_row 110 NoData refl refl nothing_reads
each kinds.PortalSuspended = bare_is_read back_row 115 PortalSuspended refl refl nothing_reads
each kinds.CopyDone = bare_is_read back_row 99 CopyDone refl refl nothing_reads

pub ends_is : (k : BackKind) (bytes : List ℕ) (left : Option (List ℕ)) → left ≡ (back_reading k).left bytes → ends left ≡ is_some ((back_reading k).message bytes)
ends_is k bytes left e = ap ends e ∙ (each k).left_is bytes

-- ---- each message

-- what is read of a message's body is the message
again : (m : BackMessage) → IsSpelled backend m → length (back_row m).body.bytes < 2 ^ 31 → (k : BackKind) × (back_kind_of (tag m) ≡ Some k) × ((back_reading k).message (back_row m).body.bytes ≡ Some m)
again (AuthMd5 salt) s short = found back_kind_of each kinds.Auth (pos 5, salt) (AuthMd5 salt) (rw (eq-eqb _ _ s.of_type.1) refl) refl (record { no_zero = refl; countable = refl; of_type = (sfits_lit tt, tt) }) short
again (AuthOther code rest) s short =
    let p = or_parts (int_eq code (pos 0) || int_eq code (pos 3)) (int_eq code (pos 5)) s.not_reserved in
    let q = or_parts (int_eq code (pos 0)) (int_eq code (pos 3)) p.0 in
    found back_kind_of each kinds.Auth (code, rest) (AuthOther code rest) (rw (q.0, q.1, p.1) refl) refl (body_spelled back_row (AuthOther code rest) s) short
again (KeyData process secret) s short = found back_kind_of each kinds.KeyData (process, secret) _ refl refl (body_spelled back_row _ s) short
again (ParameterStatus name text) s short = found back_kind_of each kinds.ParameterStatus (name, text) _ refl refl (body_spelled back_row _ s) short
again (Ready status) s short = found back_kind_of each kinds.Ready status _ refl refl (body_spelled back_row _ s) short
again (RowDescription columns) s short = found back_kind_of each kinds.RowDescription columns _ refl refl (body_spelled back_row _ s) short
again (DataRow values) s short = found back_kind_of each kinds.DataRow values _ refl refl (body_spelled back_row _ s) short
again (CommandComplete text) s short = found back_kind_of each kinds.CommandComplete text _ refl refl (body_spelled back_row _ s) short
again (ParameterDescription types) s short = found back_kind_of each kinds.ParameterDescription types _ refl refl (body_spelled back_row _ s) short
again (ErrorResponse fields) s short = found back_kind_of each kinds.ErrorResponse fields _ refl refl (body_spelled back_row _ s) short
again (NoticeResponse fields) s short = found back_kind_of each kinds.NoticeResponse fields _ refl refl (body_spelled back_row _ s) short
again (Notification process channel payload) s short = found back_kind_of each kinds.Notification ((process, channel), payload) _ refl refl (body_spelled back_row _ s) short
again (CopyIn head) s short = found back_kind_of each kinds.CopyIn head _ refl refl (body_spelled back_row _ s) short
again (CopyOut head) s short = found back_kind_of each kinds.CopyOut head _ refl refl (body_spelled back_row _ s) short
again m s short = bind_some (back_kind_of (tag m)) (λ (k : BackKind). (back_reading k).message (back_row m).body.bytes) m refl

known : (m : BackMessage) → is_some (back_kind_of (tag m)) ≡ true
known AuthOk = refl
known m = refl

own : (k : BackKind) → back_kind_of (back_reading k).tag ≡ Some k
own kinds.Auth = refl
own k = refl

pub table : IsTable back_row back_reading back_kind_of
table = record { each = each; own = own; known = known; again = again }

-- ---- what the code and the crates above need of them

pub is_tag : (t : ℕ) (k : BackKind) → t ≡ (back_reading k).tag → IsTag backend t
is_tag t k e = tables.is_tag table t k e

pub no_tag : (t : ℕ) → back_kind_of t ≡ None → IsTag backend t → ⊥
no_tag t e = tables.no_tag table t e

pub read_some : (t : ℕ) (k : BackKind) (bytes : List ℕ) (m : BackMessage) → t ≡ (back_reading k).tag → IsBytes bytes → (back_reading k).message bytes ≡ Some m → IsMessage backend t bytes m
read_some t k bytes m is fits e = subst (λ (b : ℕ). IsMessage backend b bytes m) (sym is) (message_sound back_row (back_reading k) (each k) bytes m fits e)

pub read_none : (t : ℕ) (k : BackKind) (bytes : List ℕ) → t ≡ (back_reading k).tag → (back_reading k).message bytes ≡ None → NoMessage backend t bytes
read_none t k bytes is none = tables.read_none table t k bytes is none
