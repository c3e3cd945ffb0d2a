-- Words for reading a certificate. Assumes nothing.
use Rattle.std.specs.Prelude.{◌≡◌, ℕ, ◌<◌, List, Some, None, Ok, Err, Option, Result, slice_index}
use Rattle.certificate_theory.specs.declared.refusal.Refusal.{Refusal}
use Rattle.certificate_theory.specs.declared.limits.Limits.{Limits}
use Rattle.certificate_theory.specs.Reading.{Reads, ReadingRefused}
use Rattle.certificate_theory.specs.Content.{rows_start}

-- The refusal in a result, if it is one.
abbrev pub refusal_in : {X : Type 0} → Result X Refusal → Option Refusal
refusal_in (Ok x) = None
refusal_in (Err e) = Some e

-- Where the bytes are not refused, the rows of each process begin where it is told.
abbrev pub Begins : Limits → List ℕ → Result (List ℕ) Refusal → Type 0
Begins L bytes (Ok starts) = (p : ℕ) → p < L.processes → slice_index starts p ≡ rows_start L.numbers bytes p
Begins L bytes (Err e) = Unit {0}

-- The bytes read as a certificate, or they are refused by the one right refusal.
abbrev pub ReadRightly : {X : Type 0} → Limits → List ℕ → Result X Refusal → Type 0
ReadRightly L bytes (Ok x) = Reads L bytes
ReadRightly L bytes (Err e) = ReadingRefused L bytes e
