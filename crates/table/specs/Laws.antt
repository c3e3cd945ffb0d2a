-- The system of a table is lawful. Assumes nothing.
use Rattle.std.specs.Prelude.{◌≡◌, ℕ, ◌+◌, ◌*◌, ◌<◌, ◌≤◌, Bool, true, false, cond, ◌&&◌, ◌⊎◌, List, Some, None, Option, nat_lt, slice_index_or, refl}
use Rattle.std.proofs.Common.{inl, inr, arith}
use Rattle.std.proofs.lemmas.Bool.{ltb-true, le-ltb, and_parts, and_left, and_right}
use Rattle.system.specs.Justice.{Lawful}
use Rattle.system.specs.declared.Region.{Region}
use Rattle.system.specs.declared.Region.TheVariants.{Idle}
use Rattle.table.specs.declared.shape.Shape.{Shape}
use Rattle.table.specs.Tables.{cell, if_below, table_system}

if_below_some : (n : ℕ) (o : Option ℕ) (t : ℕ) → if_below n o ≡ Some t → (o ≡ Some t) × (t < n)
if_below_some n (Some u) t e = by (nat_lt u n) refl e
  where
    by : (b : Bool) → nat_lt u n ≡ b → cond b (Some u) None ≡ Some t → (Some u ≡ Some t) × (t < n)
    by true l f = let same : u ≡ t = cc in let below = ltb-true u n l in (f, omega arith)
    by false l f = let z : ◌≡◌ {A = ℕ} 0 1 = cc in absurd (let g : ⊥ = omega arith in g)
if_below_some n None t e = let z : ◌≡◌ {A = ℕ} 0 1 = cc in absurd (let f : ⊥ = omega arith in f)

-- An entry of a table stands in a row and a column of it.
cell_some : {A : Type 0} (xs : List (Option A)) (row rows column columns : ℕ) (a : A)
    → cell xs row rows column columns None ≡ Some a → (row < rows) × (column < columns)
cell_some xs row rows column columns a e = by (nat_lt row rows && nat_lt column columns) refl e
  where
    by : (b : Bool) → (nat_lt row rows && nat_lt column columns) ≡ b → cond b (slice_index_or xs (row * columns + column) None) None ≡ Some a
        → (row < rows) × (column < columns)
    by true l f = let c = and_parts (nat_lt row rows) (nat_lt column columns) l in (ltb-true row rows c.0, ltb-true column columns c.1)
    by false l f = let z : ◌≡◌ {A = ℕ} 0 1 = cc in absurd (let g : ⊥ = omega arith in g)

cond_idle : (b : Bool) (r : Region) → b ≡ false → cond b r Idle ≡ Idle
cond_idle true r e = let z : ◌≡◌ {A = ℕ} 0 1 = cc in absurd (let f : ⊥ = omega arith in f)
cond_idle false r e = refl

outside : (s n p m : ℕ) → (n ≤ s) ⊎ (m ≤ p) → (nat_lt s n && nat_lt p m) ≡ false
outside s n p m (inl h) = and_left (nat_lt s n) (nat_lt p m) (le-ltb s n h)
outside s n p m (inr h) = and_right (nat_lt s n) (nat_lt p m) (le-ltb p m h)

pub table_lawful : (h : Shape) (successors classed : List (Option ℕ)) (regions : List Region) → Lawful (table_system h successors classed regions)
table_lawful h successors classed regions = record {
  steps = record {
    some_process = h.few.0;
    few_processes = h.few.1;
    few_commands = h.few.3;
    few_states = h.starts.0;
    start_below = h.starts.1;
    next_below = λ s k t e.
        let b = if_below_some h.states _ t e in
        let c = cell_some successors s h.states k h.commands t b.0 in
        (c.0, c.1, b.1);
    region_outside = λ s p o. cond_idle _ _ (outside s h.states p h.processes o);
  };
  few_classes = h.few.2;
  class_below = λ k j e.
      let b = if_below_some h.classes _ j e in
      ((cell_some classed 0 1 k h.commands j b.0).1, b.1);
}
