-- What calls in a row do, each of them interrupted but the last, one call does.
use Rattle.std.proofs.Common.{◌≡◌, ℕ, zero, suc, List, length, Option, None, Some, Result, Ok, Err, refl, sym, subst, ◌∙◌}
use Rattle.std.proofs.KnownBytes.{Keeps-refl, Keeps-trans}
use Rattle.std.specs.Io.{WritesAtMost}
use Rattle.std.specs.Io.KnownBytes.{Keeps, Consumes, Appends, ReadConsumes, WriteAppends}
use Rattle.std.specs.declared.io.Error.{Error}
use Rattle.pg_wire.specs.declared.patient.ReadAttempt.{ReadAttempt}
use Rattle.pg_wire.specs.declared.patient.WriteAttempt.{WriteAttempt}
use Rattle.pg_wire.specs.Private.Patience.{Interruptions, Patiently, ReadGives, WriteGives}

-- ---- known bytes that were kept before

kept_consumes : (a b c : Option (List ℕ)) (bytes : List ℕ) → Keeps a b → Consumes b c bytes → Consumes a c bytes
kept_consumes None b c bytes p q = tt
kept_consumes (Some x) None c bytes p q = absurd p
kept_consumes (Some x) (Some y) None bytes p q = absurd q
kept_consumes (Some x) (Some y) (Some z) bytes p q = sym p ∙ q

kept_appends : (a b c : Option (List ℕ)) (bytes : List ℕ) → Keeps a b → Appends b c bytes → Appends a c bytes
kept_appends None b c bytes p q = tt
kept_appends (Some x) None c bytes p q = absurd p
kept_appends (Some x) (Some y) None bytes p q = absurd q
kept_appends (Some x) (Some y) (Some z) bytes p q = rw p at q

kept_reads : (a b c : Option (List ℕ)) (result : Result ℕ Error) (into : List ℕ) → Keeps a b → ReadConsumes b c result into → ReadConsumes a c result into
kept_reads a b c (Ok n) into p q = (kept_consumes a b c _ p q.0, q.1)
kept_reads a b c (Err error) into p q = Keeps-trans a b c p q

kept_writes : (a b c : Option (List ℕ)) (result : Result ℕ Error) (piece : List ℕ) → Keeps a b → WriteAppends b c result piece → WriteAppends a c result piece
kept_writes a b c (Ok n) piece p q = kept_appends a b c _ p q
kept_writes a b c (Err error) piece p q = Keeps-trans a b c p q

-- ---- calls in a row

reads_keep : {R : Type 0} (remaining : R → Option (List ℕ)) (again : ℕ) (old new : ReadAttempt R) → Interruptions (ReadGives remaining) again old new
    → (new.reader.ghost_name ≡ old.reader.ghost_name) × (new.into.ghost_name ≡ old.into.ghost_name)
    × (length new.into.now ≡ length old.into.now) × Keeps (remaining old.reader.now) (remaining new.reader.now)
reads_keep remaining zero old new same = rw same (refl, refl, refl, Keeps-refl _)
reads_keep remaining (suc again) old new (between, error, before, gives, said) =
    let (reader, into, room, kept) = reads_keep remaining again old between before in
    (gives.reader ∙ reader, gives.into ∙ into, gives.room ∙ room, Keeps-trans _ _ _ kept gives.bytes)

pub reads_as_one : {R : Type 0} (remaining : R → Option (List ℕ)) (most : ℕ) (old new : ReadAttempt R) (result : Result ℕ Error)
    → Patiently (ReadGives remaining) most old result new → ReadGives remaining old result new
reads_as_one remaining most old new result (again, between, before, gives, within, given_up) =
    let (reader, into, room, kept) = reads_keep remaining again old between before in
    record {
      reader = gives.reader ∙ reader;
      into = gives.into ∙ into;
      room = gives.room ∙ room;
      bound = gives.bound;
      bytes = kept_reads _ _ _ result _ kept gives.bytes;
    }

writes_keep : {W : Type 0} (contents : W → Option (List ℕ)) (again : ℕ) (old new : WriteAttempt W) → Interruptions (WriteGives contents) again old new
    → (new.writer.ghost_name ≡ old.writer.ghost_name) × (new.piece.now ≡ old.piece.now) × Keeps (contents old.writer.now) (contents new.writer.now)
writes_keep contents zero old new same = rw same (refl, refl, Keeps-refl _)
writes_keep contents (suc again) old new (between, error, before, gives, said) =
    let (writer, piece, kept) = writes_keep contents again old between before in
    (gives.writer ∙ writer, gives.piece ∙ piece, Keeps-trans _ _ _ kept gives.bytes)

pub writes_as_one : {W : Type 0} (contents : W → Option (List ℕ)) (most : ℕ) (old new : WriteAttempt W) (result : Result ℕ Error)
    → Patiently (WriteGives contents) most old result new → WriteGives contents old result new
writes_as_one contents most old new result (again, between, before, gives, within, given_up) =
    let (writer, piece, kept) = writes_keep contents again old between before in
    record {
      writer = gives.writer ∙ writer;
      piece = gives.piece ∙ piece;
      bound = subst (WritesAtMost result) piece gives.bound;
      bytes = kept_writes _ _ _ result _ kept (subst (WriteAppends (contents between.writer.now) (contents new.writer.now) result) piece gives.bytes);
    }
