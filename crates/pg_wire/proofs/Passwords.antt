-- The answer to an AuthMd5 is a String of 35 bytes.
use Rattle.std.proofs.Common.{◌≡◌, ℕ, zero, suc, ◌/◌, ◌%◌, ◌<◌, ◌==◌, Bool, false, List, [], ◌∷◌, ◌++◌, length, slice_index, Some, None, refl, subst, arith, length-append}
use Rattle.std.specs.List.{AllByRecursion}
use Rattle.std.specs.Int.{w32, to_le_bytes}
use Rattle.hex.specs.Hex.{encode_with, lower_digits, hex_digit_value}
use Rattle.hex.proofs.HexLemmas.{IsDigits-lower_digits, length-encode_with}
use Rattle.md5.specs.Md5.{digest_bytes, md5}
use Rattle.md5.proofs.StandardFacts.{length-md5}
use Rattle.pg_message.specs.declared.message.FrontMessage.TheVariants.{Password}
use Rattle.pg_message.specs.Direction.{fault_of, HasSpelling}
use Rattle.pg_codec.specs.Field.{contains_zero, string}
use Rattle.pg_message.specs.Frontend.{frontend}
use Rattle.pg_wire.specs.Password.{hex_digest, md5_text}
use Rattle.pg_codec.proofs.Layouts.{not_zero}

-- ---- a digest is bytes

abbrev AreBytes : List ℕ → Type 0
AreBytes xs = AllByRecursion (λ b. b < 256) xs

bytes-append : (xs ys : List ℕ) → AreBytes xs → AreBytes ys → AreBytes (xs ++ ys)
bytes-append [] ys h k = k
bytes-append (x ∷ xs) ys h k = (h.0, bytes-append xs ys h.1 k)

word_bytes : (n : ℕ) → AreBytes (to_le_bytes w32 n)
word_bytes n = (omega arith, (omega arith, (omega arith, (omega arith, tt))))

digest_is_bytes : (h : List ℕ) (n : ℕ) → AreBytes (digest_bytes h n)
unfolding digest_bytes
digest_is_bytes h zero = tt
digest_is_bytes h (suc n) = bytes-append (digest_bytes h n) (to_le_bytes w32 (slice_index h n)) (digest_is_bytes h n) (word_bytes (slice_index h n))

md5_is_bytes : (m : List ℕ) → AreBytes (md5 m)
unfolding md5
md5_is_bytes m = digest_is_bytes _ 4

-- ---- its digits have no zero byte

digit_not_zero : (d : ℕ) → d < 16 → (slice_index lower_digits d == 0) ≡ false
digit_not_zero d lt = by (slice_index lower_digits d) refl
  where
    by : (c : ℕ) → slice_index lower_digits d ≡ c → (c == 0) ≡ false
    by zero e = absurd (let k : hex_digit_value 0 ≡ Some d = subst (λ (x : ℕ). hex_digit_value x ≡ Some d) e (IsDigits-lower_digits d lt) in cc)
    by (suc c) e = not_zero c

digits_not_zero : (xs : List ℕ) → AreBytes xs → contains_zero (encode_with lower_digits xs) ≡ false
unfolding encode_with
digits_not_zero [] h = refl
digits_not_zero (b ∷ rest) h =
    let high : b / 16 < 16 = omega (arith, h.0) in
    let low : b % 16 < 16 = omega arith in
    rw (digit_not_zero (b / 16) high, digit_not_zero (b % 16) low) (digits_not_zero rest h.1)

-- ---- the answer

no_fault_of : (has_zero : Bool) (size : ℕ) → has_zero ≡ false → size ≡ 36 → fault_of has_zero false false size ≡ None
no_fault_of has_zero size no_zero short = rw (no_zero, short) refl

pub length-md5_text : (user password salt : List ℕ) → length (md5_text user password salt) ≡ 35
unfolding md5_text
length-md5_text user password salt =
    let message = hex_digest (password ++ user) ++ salt in
    omega (arith, length-encode_with lower_digits (md5 message), length-md5 message)

pub answer_spelled : (user password salt : List ℕ) → HasSpelling frontend (Password (md5_text user password salt))
unfolding md5_text
answer_spelled user password salt =
    let message = hex_digest (password ++ user) ++ salt in
    record {
      of_type = tt;
      no_fault = no_fault_of (contains_zero (md5_text user password salt)) (length (string (md5_text user password salt)).bytes) (digits_not_zero (md5 message) (md5_is_bytes message))
          (omega (arith, length-append (md5_text user password salt) (0 ∷ []), length-md5_text user password salt));
    }
