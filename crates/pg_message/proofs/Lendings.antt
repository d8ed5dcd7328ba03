-- What is lent is what reading a body finds.
use Rattle.std.proofs.Common.{◌≡◌, ℕ, Bool, true, false, ◌||◌, cond, eqb, List, length, Option, Some, None, refl, sym, ap, subst, ◌∙◌, inl, inr}
use Rattle.std.proofs.lemmas.Bool.{eqb-true}
use Rattle.std.specs.Option.{option_map}
use Rattle.pg_message.specs.declared.backend.kind.BackKind.TheVariants as kinds
use Rattle.pg_message.specs.declared.lent.Lent.TheVariants.{Row, Error, Notice}
use Rattle.pg_message.specs.declared.message.BackMessage.{BackMessage}
use Rattle.pg_message.specs.declared.message.BackMessage.TheVariants.{DataRow, ErrorResponse, NoticeResponse}
use Rattle.pg_codec.specs.declared.value.ErrorField.{ErrorField}
use Rattle.pg_codec.specs.Private.Reader.{value_at, counted_at, error_field_at, terminated_at, whole}
use Rattle.pg_values.specs.Private.View.{row_of, fields_of}
use Rattle.pg_codec.proofs.Layouts.{IsBytes}
use Rattle.pg_codec.proofs.Fields.{chosen}
use Rattle.pg_message.specs.Private.BackReader.{back_reading}
use Rattle.pg_message.specs.Private.LentReader.{has_lent, lent_body, LendsBody}
use Rattle.pg_message.specs.Private.Reading.{made_of_whole}
use Rattle.pg_message.proofs.BackMessages.{read_some, read_none}

-- what a whole body makes, and the message that is made of it
made_of : {A : Type 0} (make : A → BackMessage) (o : Option (A × List ℕ)) → made_of_whole (λ a. Some (make a)) o ≡ option_map make (whole (λ x. x) o)
made_of make None = refl
made_of {A} make (Some x) = by_end (eqb (length x.1) 0)
  where
    by_end : (b : Bool) → cond b (Some (make x.0)) None ≡ option_map make (cond b (Some x.0) None)
    by_end true = refl
    by_end false = refl

row_reads : (bytes : List ℕ) → (back_reading kinds.DataRow).message bytes ≡ option_map DataRow (row_of bytes)
row_reads bytes = made_of DataRow (counted_at value_at bytes)

error_reads : (bytes : List ℕ) → (back_reading kinds.ErrorResponse).message bytes ≡ option_map ErrorResponse (fields_of bytes)
error_reads bytes = made_of ErrorResponse (terminated_at error_field_at bytes)

notice_reads : (bytes : List ℕ) → (back_reading kinds.NoticeResponse).message bytes ≡ option_map NoticeResponse (fields_of bytes)
notice_reads bytes = made_of NoticeResponse (terminated_at error_field_at bytes)

pub row_lends : (t : ℕ) (bytes : List ℕ) (o : Option (List (Option (List ℕ)))) → t ≡ 68 → IsBytes bytes → o ≡ row_of bytes → LendsBody t bytes (option_map Row o)
row_lends t bytes None is fits e = read_none t kinds.DataRow bytes is (row_reads bytes ∙ ap (option_map DataRow) (sym e))
row_lends t bytes (Some values) is fits e = read_some t kinds.DataRow bytes (DataRow values) is fits (row_reads bytes ∙ ap (option_map DataRow) (sym e))

pub error_lends : (t : ℕ) (bytes : List ℕ) (o : Option (List ErrorField)) → t ≡ 69 → IsBytes bytes → o ≡ fields_of bytes → LendsBody t bytes (option_map Error o)
error_lends t bytes None is fits e = read_none t kinds.ErrorResponse bytes is (error_reads bytes ∙ ap (option_map ErrorResponse) (sym e))
error_lends t bytes (Some fields) is fits e = read_some t kinds.ErrorResponse bytes (ErrorResponse fields) is fits (error_reads bytes ∙ ap (option_map ErrorResponse) (sym e))

pub notice_lends : (t : ℕ) (bytes : List ℕ) (o : Option (List ErrorField)) → t ≡ 78 → IsBytes bytes → o ≡ fields_of bytes → LendsBody t bytes (option_map Notice o)
notice_lends t bytes None is fits e = read_none t kinds.NoticeResponse bytes is (notice_reads bytes ∙ ap (option_map NoticeResponse) (sym e))
notice_lends t bytes (Some fields) is fits e = read_some t kinds.NoticeResponse bytes (NoticeResponse fields) is fits (notice_reads bytes ∙ ap (option_map NoticeResponse) (sym e))

none_of_them : (a b c : Bool) → a ≡ false → b ≡ false → c ≡ false → (a || b || c) ≡ true → ⊥
none_of_them true b c p q r e = cc
none_of_them false true c p q r e = cc
none_of_them false false true p q r e = cc
none_of_them false false false p q r e = cc

-- what is lent of a tag of these is the message, or there is none
pub lends : (t : ℕ) (bytes : List ℕ) → has_lent t ≡ true → IsBytes bytes → LendsBody t bytes (lent_body t bytes)
lends t bytes known fits =
    elim (chosen (eqb t 68) _ _ (lent_body t bytes) refl) [
      | inl p ↦ subst (LendsBody t bytes) p.1 (row_lends t bytes (row_of bytes) (eqb-true _ _ p.0) fits refl)
      | inr p ↦ elim (chosen (eqb t 69) _ _ (lent_body t bytes) p.1) [
        | inl q ↦ subst (LendsBody t bytes) q.1 (error_lends t bytes (fields_of bytes) (eqb-true _ _ q.0) fits refl)
        | inr q ↦ elim (chosen (eqb t 78) _ _ (lent_body t bytes) q.1) [
          | inl r ↦ subst (LendsBody t bytes) r.1 (notice_lends t bytes (fields_of bytes) (eqb-true _ _ r.0) fits refl)
          | inr r ↦ absurd (none_of_them (eqb t 68) (eqb t 69) (eqb t 78) p.0 q.0 r.0 known)
        ]
      ]
    ]
