-- Values of text fields.
use Rattle.std.proofs.Common.{◌≡◌, ◌≢◌, ℕ, zero, suc, ◌+◌, ◌*◌, ◌%◌, ◌<◌, ◌≤◌, Bool, true, false, eqb, ltb, List, [], ◌∷◌, length, take, drop, get_or, Option, Some, None, refl, sym, ap, ◌∙◌, arith}
use Rattle.std.specs.List.{prefix_len}
use Rattle.std.specs.Char.{digit_value}
use Rattle.std.specs.Prelude.{MatchOption}
use Rattle.std.specs.Option.{SomeIff}
use Rattle.std.proofs.lemmas.Bool.{lt-ltb, le-ltb, cond-true, cond-false, ne_eqb, eq-eqb}
use Rattle.std.proofs.lemmas.List.{drop_more, drop-drop, length-take}
use Rattle.std.proofs.lemmas.List.Sums.{take_while-cons}
use Rattle.std.specs.Str.{bytes_eq}
use Rattle.pg_copy_text.specs.Private.Units.{LeadsWith, NoBackslash, IsPlain}
use Rattle.pg_copy_text.specs.Text.{Options, field_value, digits_at, text_after, escape_at, digits_value, octal_escape, hex_escape}

-- ---- digits

pub digits-none : (base n c : ℕ) (bs : List ℕ) → base ≤ digit_value c → digits_at base n (c ∷ bs) ≡ []
digits-none base zero c bs le = refl
digits-none base (suc n) c bs le = take_while-cons (λ x. ltb (digit_value x) base) c (take n bs) ∙ cond-false _ _ _ (le-ltb (digit_value c) base le)

pub digits-some : (base n c : ℕ) (bs : List ℕ) → digit_value c < base → digits_at base (suc n) (c ∷ bs) ≡ c ∷ digits_at base n bs
digits-some base n c bs lt = take_while-cons (λ x. ltb (digit_value x) base) c (take n bs) ∙ cond-true _ _ _ (lt-ltb (digit_value c) base lt)

not_below : (a b : ℕ) → (a < b → ⊥) → b ≤ a
not_below a b h = omega arith

lengths : (m n : ℕ) (xs : List ℕ) → length (take m (take n xs)) ≤ length xs
lengths m n xs = omega (arith, length-take m (take n xs), length-take n xs)

pub leading : (base : ℕ) (bytes : List ℕ) (r : Option ℕ) → 0 < length bytes → SomeIff r (digit_value (get_or bytes 0 0) < base) (digit_value (get_or bytes 0 0))
    → MatchOption r ((n : ℕ) → digits_at base n bytes ≡ []) (LeadsWith base bytes)
leading base [] r lt h = absurd (omega arith)
leading base (c ∷ bs) None lt h = λ n. digits-none base n c bs (not_below (digit_value c) base h)
leading base (c ∷ bs) (Some d) lt h = record { below = rw h.1 h.0; some = omega arith; digits = λ n. digits-some base n c bs h.0; value = sym h.1 }

pub digits_len : (base n : ℕ) (bytes : List ℕ) → length (digits_at base n bytes) ≤ length bytes
digits_len base n bytes =
    let p : ℕ → Bool = λ c. ltb (digit_value c) base in
    lengths (prefix_len p (take n bytes)) n bytes

pub digits-one : (base n : ℕ) (bytes : List ℕ) (a : ℕ) → LeadsWith base bytes a → digits_at base n (drop 1 bytes) ≡ [] → digits_at base (suc n) bytes ≡ get_or bytes 0 0 ∷ []
digits-one base n bytes a h none = h.digits n ∙ ap (λ (x : List ℕ). get_or bytes 0 0 ∷ x) none

-- ---- escapes

-- the contract of reading octal digits, at what was found
pub record IsOctal (bytes : List ℕ) (value n : ℕ) : Type 0 where
  pub some : 0 < n
  pub len : n ≡ length (digits_at 8 3 bytes)
  pub is : (value, n) ≡ octal_escape (digits_at 8 3 bytes)

pub same_pair : (a b m n : ℕ) → a ≡ b → m ≡ n → ◌≡◌ {A = ℕ × ℕ} (a, m) (b, n)
same_pair a b m n e f = cc

octal_from : (bytes digits : List ℕ) (value n : ℕ) → digits_at 8 3 bytes ≡ digits → 0 < n → n ≡ length digits → value ≡ digits_value 8 digits % 256 → (0 < n) × (n ≡ length (digits_at 8 3 bytes)) × ◌≡◌ {A = ℕ × ℕ} (value, n) (octal_escape (digits_at 8 3 bytes))
octal_from bytes digits value n e some len is = rw e (some, len, same_pair value (digits_value 8 digits % 256) n (length digits) is len)

pub octal-one : (bytes : List ℕ) (a : ℕ) → LeadsWith 8 bytes a → ((n : ℕ) → digits_at 8 n (drop 1 bytes) ≡ []) → (0 < 1) × (1 ≡ length (digits_at 8 3 bytes)) × ◌≡◌ {A = ℕ × ℕ} (a, 1) (octal_escape (digits_at 8 3 bytes))
octal-one bytes a h none =
    octal_from bytes (get_or bytes 0 0 ∷ []) a 1 (digits-one 8 2 bytes a h (none 2)) (omega arith) refl (number a (digit_value (get_or bytes 0 0)) h.below h.value)
  where
    number : (a x : ℕ) → a < 8 → x ≡ a → a ≡ (0 * 8 + x) % 256
    number a x lt e = omega arith

pub octal-two : (bytes : List ℕ) (a b : ℕ) → LeadsWith 8 bytes a → LeadsWith 8 (drop 1 bytes) b → ((n : ℕ) → digits_at 8 n (drop 2 bytes) ≡ []) → (0 < 2) × (2 ≡ length (digits_at 8 3 bytes)) × ◌≡◌ {A = ℕ × ℕ} (a * 8 + b, 2) (octal_escape (digits_at 8 3 bytes))
octal-two bytes a b h k none =
    let rest : (n : ℕ) → digits_at 8 n (drop 1 (drop 1 bytes)) ≡ [] = λ n. ap (digits_at 8 n) (drop-drop 1 1 bytes) ∙ none n in
    let digits = h.digits 2 ∙ ap (λ (x : List ℕ). get_or bytes 0 0 ∷ x) (digits-one 8 1 (drop 1 bytes) b k (rest 1)) in
    octal_from bytes (get_or bytes 0 0 ∷ get_or (drop 1 bytes) 0 0 ∷ []) (a * 8 + b) 2 digits (omega arith) refl (number a b (digit_value (get_or bytes 0 0)) (digit_value (get_or (drop 1 bytes) 0 0)) h.below k.below h.value k.value)
  where
    number : (a b x y : ℕ) → a < 8 → b < 8 → x ≡ a → y ≡ b → a * 8 + b ≡ ((0 * 8 + x) * 8 + y) % 256
    number a b x y la lb e f = omega arith

pub octal-three : (bytes : List ℕ) (a b c : ℕ) → LeadsWith 8 bytes a → LeadsWith 8 (drop 1 bytes) b → LeadsWith 8 (drop 2 bytes) c → (0 < 3) × (3 ≡ length (digits_at 8 3 bytes)) × ◌≡◌ {A = ℕ × ℕ} (((a * 8 + b) * 8 + c) % 256, 3) (octal_escape (digits_at 8 3 bytes))
octal-three bytes a b c h k l =
    let rest : digits_at 8 1 (drop 1 (drop 1 bytes)) ≡ get_or (drop 2 bytes) 0 0 ∷ [] = ap (digits_at 8 1) (drop-drop 1 1 bytes) ∙ digits-one 8 0 (drop 2 bytes) c l refl in
    let digits = h.digits 2 ∙ ap (λ (x : List ℕ). get_or bytes 0 0 ∷ x) (k.digits 1 ∙ ap (λ (x : List ℕ). get_or (drop 1 bytes) 0 0 ∷ x) rest) in
    octal_from bytes (get_or bytes 0 0 ∷ get_or (drop 1 bytes) 0 0 ∷ get_or (drop 2 bytes) 0 0 ∷ []) (((a * 8 + b) * 8 + c) % 256) 3 digits (omega arith) refl
    (number a b c (digit_value (get_or bytes 0 0)) (digit_value (get_or (drop 1 bytes) 0 0)) (digit_value (get_or (drop 2 bytes) 0 0)) h.value k.value l.value)
  where
    number : (a b c x y z : ℕ) → x ≡ a → y ≡ b → z ≡ c → ((a * 8 + b) * 8 + c) % 256 ≡ (((0 * 8 + x) * 8 + y) * 8 + z) % 256
    number a b c x y z e f g = let h : (a * 8 + b) * 8 + c ≡ ((0 * 8 + x) * 8 + y) * 8 + z = omega arith in ap (λ (n : ℕ). n % 256) h

pub hex_len : (digits : List ℕ) → (hex_escape digits).1 ≤ 1 + length digits
hex_len [] = omega arith
hex_len (d ∷ ds) = omega arith

pub hex_escape-len : (bytes : List ℕ) (value n : ℕ) → ◌≡◌ {A = ℕ × ℕ} (value, n) (hex_escape (digits_at 16 2 bytes)) → n ≤ 1 + length bytes
hex_escape-len bytes value n e =
    let is : n ≡ (hex_escape (digits_at 16 2 bytes)).1 = ap (λ (x : ℕ × ℕ). x.1) e in
    trans_le n (hex_escape (digits_at 16 2 bytes)).1 (length (digits_at 16 2 bytes)) (length bytes) is (hex_len (digits_at 16 2 bytes)) (digits_len 16 2 bytes)
  where
    trans_le : (a b c d : ℕ) → a ≡ b → b ≤ 1 + c → c ≤ d → a ≤ 1 + d
    trans_le a b c d e f g = omega arith

pub text_after-drop : (n : ℕ) (bytes : List ℕ) → text_after n bytes ≡ text_after 0 (drop n bytes)
text_after-drop zero bytes = refl
text_after-drop (suc n) [] = refl
text_after-drop (suc n) (b ∷ bs) = text_after-drop n bs

-- where the text goes on, at a byte that stands for itself and at an escape
pub text-plain : (bytes : List ℕ) (at : ℕ) → at < length bytes → (get_or bytes at 0 ≡ 92 → ⊥) → text_after 0 (drop at bytes) ≡ get_or bytes at 0 ∷ text_after 0 (drop (at + 1) bytes)
text-plain bytes at lt plain = ap (text_after 0) (drop_more bytes at 0 lt) ∙ cond-false (eqb (get_or bytes at 0) 92) _ _ (ne_eqb (get_or bytes at 0) 92 plain)

pub text-escape : (bytes : List ℕ) (at byte len : ℕ) → at < length bytes → get_or bytes at 0 ≡ 92 → (byte, len) ≡ escape_at (drop (at + 1) bytes) → text_after 0 (drop at bytes) ≡ byte ∷ text_after 0 (drop (at + (1 + len)) bytes)
text-escape bytes at byte len lt is value =
    let bs = drop (at + 1) bytes in
    let place : (at + 1) + len ≡ at + (1 + len) = omega arith in
    let after : text_after (escape_at bs).1 bs ≡ text_after 0 (drop (at + (1 + len)) bytes) =
    ap (λ (x : ℕ × ℕ). text_after x.1 bs) (sym value) ∙ text_after-drop len bs ∙ ap (text_after 0) (drop-drop len (at + 1) bytes ∙ ap (λ (n : ℕ). drop n bytes) place) in
    ap (text_after 0) (drop_more bytes at 0 lt) ∙ cond-true (eqb (get_or bytes at 0) 92) _ _ (eq-eqb (get_or bytes at 0) 92 is) ∙ ap (λ (x : ℕ). x ∷ text_after (escape_at bs).1 bs) (ap (λ (x : ℕ × ℕ). x.0) (sym value)) ∙ ap (λ (x : List ℕ). byte ∷ x) after

pub not-backslash : (b : ℕ) → IsPlain 92 b → b ≢ 92
not-backslash b p e = clash (sym (eq-eqb b 92 e) ∙ p.no_backslash)
  where
    clash : true ≡ false → ⊥
    clash e = cc

-- ---- a field without a backslash

plain-text : (bytes : List ℕ) → NoBackslash bytes → text_after 0 bytes ≡ bytes
plain-text [] h = refl
plain-text (b ∷ bs) h = rw h.0 (ap (λ (x : List ℕ). b ∷ x) (plain-text bs h.1))

pub plain-field : (o : Options) (bytes : List ℕ) → NoBackslash bytes → bytes_eq bytes o.null_mark ≡ false → field_value o bytes ≡ Some bytes
plain-field o bytes h other = cond-false _ _ _ other ∙ ap (λ (x : List ℕ). Some x) (plain-text bytes h)
