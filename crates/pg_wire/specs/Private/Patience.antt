-- What patience is, where a read or a write is interrupted.
use Rattle.std.specs.Prelude.{ℕ, zero, suc, ◌≡◌, ◌≤◌, List, length, Option, Result, Ok, Err}
use Rattle.std.specs.Io.{ReadsAtMost, WritesAtMost}
use Rattle.std.specs.Io.KnownBytes.{ReadConsumes, WriteAppends}
use Rattle.std.specs.IoError.{error_kind}
use Rattle.std.specs.declared.io.ErrorKind.TheVariants.{Interrupted}
use Rattle.std.specs.declared.io.Error.{Error}
use Rattle.pg_wire.specs.declared.patient.ReadAttempt.{ReadAttempt}
use Rattle.pg_wire.specs.declared.patient.WriteAttempt.{WriteAttempt}

-- the attempt was interrupted
abbrev pub IsInterrupted : Result ℕ Error → Type 0
IsInterrupted (Ok n) = ⊥
IsInterrupted (Err error) = error_kind error ≡ Interrupted

-- So many attempts in a row, each of them interrupted, lead from the old state to the new one.
abbrev pub Interruptions : {S : Type 0} → (S → Result ℕ Error → S → Type 0) → ℕ → S → S → Type 0
Interruptions gives zero old new = new ≡ old
Interruptions {S} gives (suc count) old new = (between : S) × (error : Error)
    × Interruptions gives count old between × gives between (Err error) new
    × (error_kind error ≡ Interrupted)

-- An attempt was made, and made again as long as it was interrupted, at most so many times. The
-- result is what the last one answered, which was interrupted only where no more were left.
abbrev pub Patiently : {S : Type 0} → (S → Result ℕ Error → S → Type 0)
    → ℕ → S → Result ℕ Error → S → Type 0
Patiently {S} gives most old result new = (again : ℕ) × (between : S)
    × Interruptions gives again old between × gives between result new
    × (again ≤ most) × (IsInterrupted result → again ≡ most)

-- what std says of one read, which goes on with the same reader and the same buffer
pub record ReadGives {R : Type 0} (remaining : R → Option (List ℕ))
    (old : ReadAttempt R) (result : Result ℕ Error) (new : ReadAttempt R) : Type 0 where
  pub reader : new.reader.ghost_name ≡ old.reader.ghost_name
  pub into : new.into.ghost_name ≡ old.into.ghost_name
  pub room : length new.into.now ≡ length old.into.now
  pub bound : ReadsAtMost result new.into.now
  pub bytes : ReadConsumes (remaining old.reader.now) (remaining new.reader.now) result new.into.now

-- what std says of one write, which goes on with the same writer and the same piece
pub record WriteGives {W : Type 0} (contents : W → Option (List ℕ))
    (old : WriteAttempt W) (result : Result ℕ Error) (new : WriteAttempt W) : Type 0 where
  pub writer : new.writer.ghost_name ≡ old.writer.ghost_name
  pub piece : new.piece.now ≡ old.piece.now
  pub bound : WritesAtMost result old.piece.now
  pub bytes : WriteAppends (contents old.writer.now) (contents new.writer.now) result old.piece.now
