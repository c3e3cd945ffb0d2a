-- What a cursor finds after it has moved on. Assumes nothing.
use Rattle.std.proofs.Common.{◌≡◌, ℕ, ◌+◌, ◌*◌, List, [], ◌∷◌, Some, None, Option, Ok, Err, Result, OnOk, ap, ◌∙◌, subst, arith}
use Rattle.certificate_theory.specs.declared.limits.Limits.{Limits}
use Rattle.certificate_theory.specs.declared.refusal.Refusal.{Refusal}
use Rattle.certificate_theory.specs.Fields.{Field, kind, widths, row_tail, row_lists}
use Rattle.certificate_theory.specs.Reading.{first_of, field_fault, first_fault}
use Rattle.certificate_theory.specs.Content.{list_start}
use Rattle.std.specs.Option.{option_copied}
use Rattle.std.specs.List.{slice_get}
use Rattle.std.specs.Borrow.{Bor}
use Rattle.certificate_theory.proofs.Loops.{kind_right}
use Rattle.certificate_theory.proofs.Entries.{widths_rank}
use Rattle.certificate_theory.proofs.Scans.{first_of_none}
use Rattle.certificate_read.specs.declared.cursor.Cursor.{Cursor}
use Rattle.certificate_read.specs.Moves.{Moved, fault_at}

pub moved_on : (a b c : Cursor) (m n : ℕ) → Moved a b m → Moved b c n → Moved a c n
moved_on a b c m n p q = record {
  same_bytes = q.same_bytes ∙ p.same_bytes;
  same_limits = q.same_limits ∙ p.same_limits;
  place = q.place;
}

-- it reads the same bytes from its new place
pub fault_there : (a b : Cursor) (n : ℕ) → Moved a b n → (fs : List Field) → fault_at b fs ≡ first_fault a.limits a.bytes.now n fs
fault_there a b n m fs =
    let e = m.same_bytes in
    let f = m.same_limits in
    let g = m.place in
    cc

-- where the fields before it are right, the fault is among those behind
pub fault_behind : (a b : Cursor) (n : ℕ) → Moved a b n → (fs : List Field) (here whole : Option Refusal) → None ≡ here
    → whole ≡ first_of here (first_fault a.limits a.bytes.now n fs) → whole ≡ fault_at b fs
fault_behind a b n m fs here whole none is =
    let e = fault_there a b n m fs in
    let f = first_of_none here (first_fault a.limits a.bytes.now n fs) in
    let g : first_of here (first_fault a.limits a.bytes.now n fs) ≡ first_fault a.limits a.bytes.now n fs = f cc in
    cc

-- a class byte, and the numbers of a rank if they are there
pub row_tail_moved : (a b c : Cursor) (r : Result (Unit {0}) Refusal) → Moved a b (a.at + 1) → OnOk r (Moved b c (b.at + 4 * b.limits.numbers))
    → OnOk r (Moved a c (a.at + widths (row_tail a.limits.numbers)))
row_tail_moved a b c (Ok x) p q =
    let n = ap (λ (L : Limits). L.numbers) p.same_limits in
    let w = widths_rank a.limits.numbers in
    let k = p.place in
    let l = q.place in
    record { same_bytes = q.same_bytes ∙ p.same_bytes; same_limits = q.same_limits ∙ p.same_limits; place = omega arith }
row_tail_moved a b c (Err e) p q = q

-- the lists of rows, behind the state list
pub rows_there : (a b : Cursor) (n : ℕ) → Moved a b n
    → fault_at b (row_lists b.limits.numbers b.bytes.now b.at b.limits.processes)
    ≡ first_fault a.limits a.bytes.now n (row_lists a.limits.numbers a.bytes.now n a.limits.processes)
rows_there a b n m =
    ap (λ (L : Limits). first_fault L b.bytes.now b.at (row_lists L.numbers b.bytes.now b.at L.processes)) m.same_limits
    ∙ ap (λ bs. first_fault a.limits bs b.at (row_lists a.limits.numbers bs b.at a.limits.processes)) m.same_bytes
    ∙ ap (λ x. first_fault a.limits a.bytes.now x (row_lists a.limits.numbers a.bytes.now x a.limits.processes)) m.place

pub rows_end : (a b c : Cursor) (n : ℕ) → Moved a b n → Moved b c (list_start b.limits.numbers b.bytes.now b.at b.limits.processes)
    → c.at ≡ list_start a.limits.numbers a.bytes.now n a.limits.processes
rows_end a b c n m k =
    k.place
    ∙ ap (λ (L : Limits). list_start L.numbers b.bytes.now b.at L.processes) m.same_limits
    ∙ ap (λ bs. list_start a.limits.numbers bs b.at a.limits.processes) m.same_bytes
    ∙ ap (λ x. list_start a.limits.numbers a.bytes.now x a.limits.processes) m.place

-- the kind byte is there, and the one that is wanted
pub kind_there : (L : Limits) (bytes : List ℕ) (o : Option (Bor ℕ)) (b : Bor ℕ) → o ≡ Some b → option_copied o ≡ slice_get bytes 0 → b.now ≡ L.kind
    → field_fault L bytes 0 kind ≡ None
kind_there L [] o b is e same =
    let f : option_copied (Some b) ≡ slice_get [] 0 = subst (λ x. option_copied x ≡ slice_get [] 0) is e in
    let z : ◌≡◌ {A = ℕ} 0 1 = cc in absurd (let q : ⊥ = omega arith in q)
kind_there L (x ∷ xs) o b is e same =
    let f : Some b.now ≡ Some x = subst (λ y. option_copied y ≡ Some x) is e in
    let g : x ≡ L.kind = cc in
    kind_right L (x ∷ xs) (omega arith) g
