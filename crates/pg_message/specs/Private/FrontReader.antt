-- Reading the body of a frontend's message, after its tag.
use Rattle.std.specs.Prelude.{ℕ, ℤ, ◌==◌, if◌then◌else◌, List, [], ◌∷◌, Option, Some, None}
use Rattle.std.specs.Int.{w16, w32}
use Rattle.pg_message.specs.declared.frontend.kind.FrontKind.{FrontKind}
use Rattle.pg_message.specs.declared.frontend.kind.FrontKind.TheVariants as kinds
use Rattle.pg_codec.specs.declared.value.Target.{Target}
use Rattle.pg_codec.specs.declared.value.Target.TheVariants.{Statement, Portal}
use Rattle.pg_message.specs.declared.message.FrontMessage.{FrontMessage}
use Rattle.pg_message.specs.declared.message.FrontMessage.TheVariants.{Query, Parse, Bind, Describe, Close, Execute, Sync, Flush, Terminate, CopyData, CopyDone, CopyFail, Password}
use Rattle.pg_codec.specs.Private.Reader.{pair_at, byten_at, number_at, signed_at, string_at, value_at, counted_at, choice_at}
use Rattle.pg_message.specs.Frontend.{front_row}
use Rattle.pg_message.specs.Private.Reading.{Reading, reading, bare, with_tag}

-- what a Describe or a Close names, by its byte
abbrev pub target_of_byte : ℕ → Option Target
target_of_byte b = if b == 83 then Some Statement else if b == 80 then Some Portal else None

-- what stands in a Bind
abbrev pub BindParts : Type 0
BindParts = (((List ℕ × List ℕ) × List ℤ) × List (Option (List ℕ))) × List ℤ

-- each kind of message
abbrev pub front_reading : FrontKind → Reading FrontMessage
front_reading kinds.Query = reading front_row 81 string_at Query
front_reading kinds.Parse = reading front_row 80
    (pair_at (pair_at string_at string_at) (counted_at (number_at w32)))
    (λ (p : (List ℕ × List ℕ) × List ℕ). Parse p.0.0 p.0.1 p.1)
front_reading kinds.Bind = reading front_row 66
    (pair_at (pair_at (pair_at (pair_at string_at string_at) (counted_at (signed_at w16)))
    (counted_at value_at)) (counted_at (signed_at w16)))
    (λ (p : BindParts). Bind p.0.0.0.0 p.0.0.0.1 p.0.0.1 p.0.1 p.1)
front_reading kinds.Describe = reading front_row 68 (pair_at (choice_at target_of_byte) string_at)
    (λ (p : Target × List ℕ). Describe p.0 p.1)
front_reading kinds.Close = reading front_row 67 (pair_at (choice_at target_of_byte) string_at)
    (λ (p : Target × List ℕ). Close p.0 p.1)
front_reading kinds.Execute = reading front_row 69 (pair_at string_at (signed_at w32))
    (λ (p : List ℕ × ℤ). Execute p.0 p.1)
front_reading kinds.Sync = bare front_row 83 Sync
front_reading kinds.Flush = bare front_row 72 Flush
front_reading kinds.Terminate = bare front_row 88 Terminate
front_reading kinds.CopyData = reading front_row 100 byten_at CopyData
front_reading kinds.CopyDone = bare front_row 99 CopyDone
front_reading kinds.CopyFail = reading front_row 102 string_at CopyFail
front_reading kinds.Password = reading front_row 112 string_at Password

-- what a tag stands for
abbrev pub front_kind_of : ℕ → Option FrontKind
front_kind_of t = with_tag front_reading t
    (kinds.Query ∷ kinds.Parse ∷ kinds.Bind ∷ kinds.Describe ∷ kinds.Close ∷ kinds.Execute
    ∷ kinds.Sync ∷ kinds.Flush ∷ kinds.Terminate ∷ kinds.CopyData ∷ kinds.CopyDone ∷ kinds.CopyFail
    ∷ kinds.Password ∷ [])
