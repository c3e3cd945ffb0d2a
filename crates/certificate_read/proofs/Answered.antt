-- What the answer of reading says. Assumes nothing.
use Rattle.std.proofs.Common.{◌≡◌, ℕ, List, Ok, Err, Result, sym}
use Rattle.certificate_theory.specs.declared.limits.Limits.{Limits}
use Rattle.certificate_theory.specs.declared.refusal.Refusal.{Refusal}
use Rattle.certificate_theory.specs.Reading.{reading_fault}
use Rattle.certificate_theory.proofs.Scans.{fault_none, fault_some}
use Rattle.certificate_read.specs.Views.{refusal_in, ReadRightly}

pub read_rightly : {X : Type 0} (L : Limits) (bytes : List ℕ) (r : Result X Refusal) → refusal_in r ≡ reading_fault L bytes → ReadRightly L bytes r
read_rightly L bytes (Ok x) e = fault_none L bytes (sym e)
read_rightly L bytes (Err d) e = fault_some L bytes d (sym e)
