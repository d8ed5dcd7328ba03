-- What is said of texts that are UTF-8, or aren't.
use Rattle.std.proofs.Common.{◌≡◌, ℕ, Bool, true, false, List, Some, None, refl, sym, ap, ◌∙◌}
use Rattle.std.specs.Prelude.{if◌then◌else◌}
use Rattle.std.specs.Str.{IsUtf8, is_utf8}
use Rattle.std.proofs.lemmas.Str.{IsUtf8-from_is_utf8, is_utf8-from_IsUtf8}
use Rattle.pgpipe_texts.specs.Json.Values.{utf8_text}

-- bytes that are UTF-8, and bytes that aren't
pub of_utf8 : (bytes text : List ℕ) → text ≡ bytes → IsUtf8 bytes → Some text ≡ utf8_text bytes
of_utf8 bytes text same is = ap Some same ∙ sym (by_test (is_utf8 bytes) (is_utf8-from_IsUtf8 bytes is))
  where
    by_test : (b : Bool) → b ≡ true → (if b then Some bytes else None) ≡ Some bytes
    by_test true e = refl
    by_test false e = absurd cc

pub not_utf8 : (bytes : List ℕ) → (IsUtf8 bytes → ⊥) → None ≡ utf8_text bytes
not_utf8 bytes fails = by_test (is_utf8 bytes) refl
  where
    by_test : (b : Bool) → is_utf8 bytes ≡ b → None ≡ (if b then Some bytes else None)
    by_test true e = absurd (fails (IsUtf8-from_is_utf8 bytes e))
    by_test false e = refl
