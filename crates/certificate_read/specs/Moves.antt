-- How a cursor moves on. Assumes nothing.
use Rattle.std.specs.Prelude.{◌≡◌, ℕ, List, Option}
use Rattle.certificate_theory.specs.declared.refusal.Refusal.{Refusal}
use Rattle.certificate_theory.specs.Fields.{Field}
use Rattle.certificate_theory.specs.Reading.{first_fault}
use Rattle.certificate_read.specs.declared.cursor.Cursor.{Cursor}

-- The cursor reads the same bytes by the same limits, and is now at the index n.
pub record Moved (old new : Cursor) (n : ℕ) : Type 0 where
  pub same_bytes : new.bytes.now ≡ old.bytes.now
  pub same_limits : new.limits ≡ old.limits
  pub place : new.at ≡ n

-- The fault of the first field that is not right, the first field beginning where the cursor is.
abbrev pub fault_at : Cursor → List Field → Option Refusal
fault_at c fs = first_fault c.limits c.bytes.now c.at fs
