-- The errors that a backend sends on its own account, which no script says ("PostgreSQL Error
-- Codes").
use Rattle.std.specs.Prelude.{ℕ, List, [], ◌∷◌, ◌++◌, Some, take, codes}
use Rattle.pg_wire.specs.value.ErrorField.{ErrorField}
use Rattle.pg_wire.specs.value.Status.TheVariants.{Idle}
use Rattle.pg_backend.specs.declared.script.Answer.{Answer}

-- the fields of an error of the backend's own: severity (S and V), code (C) and message (M)
abbrev pub own_error : List ℕ → List ℕ → List ℕ → List ErrorField
own_error severity code text =
    record { code = 83; value = severity } ∷ record { code = 86; value = severity }
    ∷ record { code = 67; value = code } ∷ record { code = 77; value = text } ∷ []

-- ---- errors of a request, which leave the session open

-- the answer to a request for which the script has none that fits: an internal_error
abbrev pub no_answer : Answer
no_answer = record {
  before = [];
  parts = [];
  error = Some (own_error (codes "ERROR") (codes "XX000") (codes "script has no fitting answer"));
  status = Idle;
}

-- the error of a copy that the client ends by a CopyFail: a query_canceled, with the first 200
-- bytes of the client's reason
abbrev pub canceled : List ℕ → List ErrorField
canceled reason =
    own_error (codes "ERROR") (codes "57014") (codes "COPY failed: " ++ take 200 reason)

-- the error of a copy that is ended by a message which may not stand in one: a protocol_violation
abbrev pub out_of_copy : List ErrorField
out_of_copy = own_error (codes "ERROR") (codes "08P01") (codes "unexpected message in COPY")

-- ---- errors that end the session

-- the error of a Startup that names no user: an invalid_authorization_specification
abbrev pub no_user : List ErrorField
no_user = own_error (codes "FATAL") (codes "28000") (codes "no user in startup")

-- the error of a wrong password: an invalid_password
abbrev pub wrong_password : List ErrorField
wrong_password =
    own_error (codes "FATAL") (codes "28P01") (codes "password authentication failed")

-- the error of a message that may not stand in its place: a protocol_violation
abbrev pub fatal_unexpected : List ErrorField
fatal_unexpected = own_error (codes "FATAL") (codes "08P01") (codes "unexpected message")

-- the error of a faulty rest: a protocol_violation
abbrev pub fatal_bad : List ErrorField
fatal_bad = own_error (codes "FATAL") (codes "08P01") (codes "bad message")
