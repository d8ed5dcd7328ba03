-- Reading a frontend's body gives a message exactly where the body is that of a message with this tag.
use Rattle.std.proofs.Common.{◌≡◌, ℕ, ◌^◌, ◌<◌, true, cond, eqb, List, [], length, Option, Some, None, refl, sym, ap, ◌∙◌}
use Rattle.std.specs.Prelude.{ℤ, pos, is_some}
use Rattle.std.specs.Int.{w16}
use Rattle.pg_message.specs.declared.frontend.kind.FrontKind.{FrontKind}
use Rattle.pg_message.specs.declared.frontend.kind.FrontKind.TheVariants as kinds
use Rattle.pg_codec.specs.declared.value.Target.{Target}
use Rattle.pg_codec.specs.declared.value.Target.TheVariants.{Statement, Portal}
use Rattle.pg_message.specs.declared.message.FrontMessage.{FrontMessage}
use Rattle.pg_message.specs.declared.message.FrontMessage.TheVariants.{Query, Parse, Bind, Describe, Close, Execute, Sync, Flush, Terminate, CopyData, CopyDone, CopyFail, Password}
use Rattle.pg_codec.specs.Field.{byte1, int16, counted}
use Rattle.pg_message.specs.Frontend.{frontend, front_row, tag, target_byte}
use Rattle.pg_codec.specs.Private.Reader.{choice_at, counted_at, signed_at}
use Rattle.pg_message.specs.Private.Reading.{ends}
use Rattle.pg_message.specs.Private.FrontReader.{BindParts, front_reading, front_kind_of, target_of_byte}
use Rattle.pg_codec.proofs.Layouts.{bind_some, some_is, Reads, pair_reads, reads_last, counted_reads, oid_reads, int16_reads, int32_reads, text_reads, nothing_reads, byten_reads}
use Rattle.pg_codec.proofs.Fields.{value_reads, choice_reads, try_next}
use Rattle.pg_message.proofs.Bodies.{IsSpelled}
use Rattle.pg_message.proofs.Tables.{IsRead, is_read, bare_is_read, found, body_spelled, IsTable}

-- ---- the byte of a target

target_back : (b : ℕ) (s : Target) → target_of_byte b ≡ Some s → target_byte s ≡ b
target_back b s e =
    let P : Type 0 = target_byte s ≡ b in
    try_next b 83 (Some Statement) (cond (eqb b 80) (Some Portal) None) s P e (λ is o. ap target_byte (sym (some_is Statement s o)) ∙ sym is) (λ e2.
    try_next b 80 (Some Portal) None s P e2 (λ is o. ap target_byte (sym (some_is Portal s o)) ∙ sym is) (λ none. absurd cc))

target_there : (s : Target) → target_of_byte (target_byte s) ≡ Some s
target_there Statement = refl
target_there Portal = refl

target_reads : Reads (λ a. byte1 (target_byte a)) (choice_at target_of_byte)
target_reads = choice_reads target_byte target_of_byte target_back target_there

-- ---- each kind

each : (k : FrontKind) → IsRead front_row (front_reading k)
each kinds.Query = is_read front_row 81 _ Query (λ _. refl) (λ _. refl) (reads_last _ _ text_reads) []
each kinds.Parse = is_read front_row 80 _ (λ (p : (List ℕ × List ℕ) × List ℕ). Parse p.0.0 p.0.1 p.1) (λ _. refl) (λ _. refl) (reads_last _ _ (pair_reads _ _ _ _ (pair_reads _ _ _ _ text_reads text_reads) (counted_reads _ _ (λ _. refl) oid_reads))) (([], []), [])
each kinds.Bind = is_read front_row 66 _ (λ (p : BindParts). Bind p.0.0.0.0 p.0.0.0.1 p.0.0.1 p.0.1 p.1) (λ _. refl) (λ _. refl)
    (reads_last _ _ (pair_reads _ _ _ _ (pair_reads _ _ _ _ (pair_reads _ _ _ _ (pair_reads _ _ _ _ text_reads text_reads) formats) (counted_reads _ _ (λ _. refl) value_reads)) formats))
    (((([], []), []), []), [])
  where
    formats : Reads (counted int16) (counted_at (signed_at w16))
    formats = counted_reads _ _ (λ _. refl) int16_reads
each kinds.Describe = is_read front_row 68 _ (λ (p : Target × List ℕ). Describe p.0 p.1) (λ _. refl) (λ _. refl) (reads_last _ _ (pair_reads _ _ _ _ target_reads text_reads)) (Statement, [])
each kinds.Close = is_read front_row 67 _ (λ (p : Target × List ℕ). Close p.0 p.1) (λ _. refl) (λ _. refl) (reads_last _ _ (pair_reads _ _ _ _ target_reads text_reads)) (Statement, [])
each kinds.Execute = is_read front_row 69 _ (λ (p : List ℕ × ℤ). Execute p.0 p.1) (λ _. refl) (λ _. refl) (reads_last _ _ (pair_reads _ _ _ _ text_reads int32_reads)) ([], pos 0)
each kinds.CopyFail = is_read front_row 102 _ CopyFail (λ _. refl) (λ _. refl) (reads_last _ _ text_reads) []
each kinds.Password = is_read front_row 112 _ Password (λ _. refl) (λ _. refl) (reads_last _ _ text_reads) []
each kinds.CopyData = is_read front_row 100 _ CopyData (λ _. refl) (λ _. refl) byten_reads []
each kinds.Sync = bare_is_read front_row 83 Sync refl refl nothing_reads
each kinds.Flush = bare_is_read front_row 72 Flush refl refl nothing_reads
each kinds.Terminate = bare_is_read front_row 88 Terminate refl refl nothing_reads
each kinds.CopyDone = bare_is_read front_row 99 CopyDone refl refl nothing_reads

pub ends_is : (k : FrontKind) (bytes : List ℕ) (left : Option (List ℕ)) → left ≡ (front_reading k).left bytes → ends left ≡ is_some ((front_reading k).message bytes)
ends_is k bytes left e = ap ends e ∙ (each k).left_is bytes

-- ---- each message

-- what is read of a message's body is the message
again : (m : FrontMessage) → IsSpelled frontend m → length (front_row m).body.bytes < 2 ^ 31 → (k : FrontKind) × (front_kind_of (tag m) ≡ Some k) × ((front_reading k).message (front_row m).body.bytes ≡ Some m)
again (Query text) s short = found front_kind_of each kinds.Query text _ refl refl (body_spelled front_row _ s) short
again (Parse name text types) s short = found front_kind_of each kinds.Parse ((name, text), types) _ refl refl (body_spelled front_row _ s) short
again (Bind portal statement formats values result_formats) s short = found front_kind_of each kinds.Bind ((((portal, statement), formats), values), result_formats) _ refl refl (body_spelled front_row _ s) short
again (Describe target name) s short = found front_kind_of each kinds.Describe (target, name) _ refl refl (body_spelled front_row _ s) short
again (Close target name) s short = found front_kind_of each kinds.Close (target, name) _ refl refl (body_spelled front_row _ s) short
again (Execute portal max_rows) s short = found front_kind_of each kinds.Execute (portal, max_rows) _ refl refl (body_spelled front_row _ s) short
again (CopyFail reason) s short = found front_kind_of each kinds.CopyFail reason _ refl refl (body_spelled front_row _ s) short
again (Password password) s short = found front_kind_of each kinds.Password password _ refl refl (body_spelled front_row _ s) short
again m s short = bind_some (front_kind_of (tag m)) (λ (k : FrontKind). (front_reading k).message (front_row m).body.bytes) m refl

known : (m : FrontMessage) → is_some (front_kind_of (tag m)) ≡ true
known (Query text) = refl
known m = refl

own : (k : FrontKind) → front_kind_of (front_reading k).tag ≡ Some k
own kinds.Query = refl
own k = refl

pub table : IsTable front_row front_reading front_kind_of
table = record { each = each; own = own; known = known; again = again }
