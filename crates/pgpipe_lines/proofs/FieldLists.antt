-- Lists of fields, read one after the other.
use Rattle.std.proofs.Common.{◌≡◌, ℕ, List, [], ◌∷◌, ◌++◌, Option, Some, None, refl, sym, ap, ◌∙◌, append_assoc}
use Rattle.pg_copy.specs.Row.{Row}
use Rattle.pg_wire.specs.value.ErrorField.{ErrorField}
use Rattle.pgpipe_lines.specs.Arguments.{◌>>=◌, byte_of, error_fields_of, number, numbers_of, read_at, text_at, texts_of}

-- what is read so far stands in front of what is read of the rest
abbrev pub onto : {A : Type 0} → List A → Option (List A) → Option (List A)
onto done rest = rest >>= λ xs. Some (done ++ xs)

pub onto-nil : {A : Type 0} (o : Option (List A)) → o ≡ onto [] o
onto-nil None = refl
onto-nil (Some xs) = refl

onto-more : {A : Type 0} (done : List A) (x : A) (o : Option (List A)) → onto done (o >>= λ xs. Some (x ∷ xs)) ≡ onto (done ++ x ∷ []) o
onto-more {A = A} done x None = refl
onto-more {A = A} done x (Some xs) = ap (λ (ys : List A). Some ys) (sym (append_assoc done (x ∷ []) xs))

text_is : (fields rest : Row) (text : List ℕ) → text_at fields ≡ Some (text, rest) → fields ≡ Some text ∷ rest
text_is [] rest text h = cc
text_is (None ∷ fields) rest text h = cc
text_is (Some t ∷ fields) rest text h =
    let same : (t, fields) ≡ (text, rest) = cc in
    ap (λ (p : List ℕ × Row). Some p.0 ∷ p.1) same

-- ---- texts

pub texts-more : (done : List (List ℕ)) (fields rest : Row) (text : List ℕ) → text_at fields ≡ Some (text, rest) → onto done (texts_of fields) ≡ onto (done ++ text ∷ []) (texts_of rest)
unfolding texts_of
texts-more done fields rest text h = ap (λ (f : Row). onto done (texts_of f)) (text_is fields rest text h) ∙ onto-more done text (texts_of rest)

pub texts-none : (done : List (List ℕ)) (fields : Row) → text_at fields ≡ None → (fields ≡ [] → ⊥) → onto done (texts_of fields) ≡ None
unfolding texts_of
texts-none done [] h some = absurd (some refl)
texts-none done (None ∷ fields) h some = refl
texts-none done (Some t ∷ fields) h some = cc

-- ---- numbers

abbrev before : Row → ℕ → Option (ℕ × Row)
before rest n = Some (n, rest)

number_more : (done : List ℕ) (fields rest : Row) (n : ℕ) (o : Option ℕ) → (o >>= before fields) ≡ Some (n, rest)
    → onto done (o >>= λ x. numbers_of fields >>= λ xs. Some (x ∷ xs)) ≡ onto (done ++ n ∷ []) (numbers_of rest)
number_more done fields rest n None h = cc
number_more done fields rest n (Some m) h =
    let same : (m, fields) ≡ (n, rest) = cc in
    onto-more done m (numbers_of fields) ∙ ap (λ (p : ℕ × Row). onto (done ++ p.0 ∷ []) (numbers_of p.1)) same

pub numbers-more : (done : List ℕ) (fields rest : Row) (n : ℕ) → read_at number fields ≡ Some (n, rest) → onto done (numbers_of fields) ≡ onto (done ++ n ∷ []) (numbers_of rest)
unfolding numbers_of
numbers-more done [] rest n h = cc
numbers-more done (None ∷ fields) rest n h = cc
numbers-more done (Some t ∷ fields) rest n h = number_more done fields rest n (number t) h

number_none : (done : List ℕ) (fields : Row) (o : Option ℕ) → (o >>= before fields) ≡ None → onto done (o >>= λ x. numbers_of fields >>= λ xs. Some (x ∷ xs)) ≡ None
number_none done fields None h = refl
number_none done fields (Some m) h = cc

pub numbers-none : (done : List ℕ) (fields : Row) → read_at number fields ≡ None → (fields ≡ [] → ⊥) → onto done (numbers_of fields) ≡ None
unfolding numbers_of
numbers-none done [] h some = absurd (some refl)
numbers-none done (None ∷ fields) h some = refl
numbers-none done (Some t ∷ fields) h some = number_none done fields (number t) h

-- ---- the fields of an error or a notice

pub fields-more : (done : List ErrorField) (fields middle rest : Row) (text value : List ℕ) (code : ℕ) → text_at fields ≡ Some (text, middle) → byte_of text ≡ Some code → text_at middle ≡ Some (value, rest)
    → onto done (error_fields_of fields) ≡ onto (done ++ record { code = code; value = value } ∷ []) (error_fields_of rest)
unfolding error_fields_of
fields-more done fields middle rest text value code h b k =
    let all : fields ≡ Some text ∷ Some value ∷ rest = text_is fields middle text h ∙ ap (λ (f : Row). Some text ∷ f) (text_is middle rest value k) in
    ap (λ (f : Row). onto done (error_fields_of f)) all
    ∙ ap (λ (o : Option ℕ). onto done (o >>= λ c. error_fields_of rest >>= λ others. Some (record { code = c; value = value } ∷ others))) b
    ∙ onto-more done (record { code = code; value = value }) (error_fields_of rest)

pub fields-none : (done : List ErrorField) (fields : Row) → text_at fields ≡ None → (fields ≡ [] → ⊥) → onto done (error_fields_of fields) ≡ None
unfolding error_fields_of
fields-none done [] h some = absurd (some refl)
fields-none done (None ∷ fields) h some = refl
fields-none done (Some t ∷ fields) h some = cc

no_code : (done : List ErrorField) (text : List ℕ) (rest : Row) → byte_of text ≡ None → onto done (error_fields_of (Some text ∷ rest)) ≡ None
unfolding error_fields_of
no_code done text [] b = refl
no_code done text (None ∷ rest) b = refl
no_code done text (Some value ∷ rest) b =
    ap (λ (o : Option ℕ). onto done (o >>= λ c. error_fields_of rest >>= λ others. Some (record { code = c; value = value } ∷ others))) b

pub code-none : (done : List ErrorField) (fields middle : Row) (text : List ℕ) → text_at fields ≡ Some (text, middle) → byte_of text ≡ None → onto done (error_fields_of fields) ≡ None
code-none done fields middle text h b = ap (λ (f : Row). onto done (error_fields_of f)) (text_is fields middle text h) ∙ no_code done text middle b

no_value : (done : List ErrorField) (text : List ℕ) (rest : Row) → text_at rest ≡ None → onto done (error_fields_of (Some text ∷ rest)) ≡ None
unfolding error_fields_of
no_value done text [] h = refl
no_value done text (None ∷ rest) h = refl
no_value done text (Some value ∷ rest) h = cc

pub value-none : (done : List ErrorField) (fields middle : Row) (text : List ℕ) → text_at fields ≡ Some (text, middle) → text_at middle ≡ None → onto done (error_fields_of fields) ≡ None
value-none done fields middle text h k = ap (λ (f : Row). onto done (error_fields_of f)) (text_is fields middle text h) ∙ no_value done text middle k
