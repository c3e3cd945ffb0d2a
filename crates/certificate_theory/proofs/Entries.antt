-- What right entries are: a list of states that lies within the bytes and ascends. Assumes nothing.
use Rattle.std.proofs.Common.{◌≡◌, ℕ, zero, suc, ◌+◌, ◌*◌, ◌<◌, List, [], get_or, Some, None, Option, sym, refl, ap, ◌∙◌, subst, mul-suc, arith}
use Rattle.byte_numbers.specs.Numbers.{number_at}
use Rattle.certificate_theory.specs.declared.limits.Limits.{Limits}
use Rattle.certificate_theory.specs.Fields.{Field, state, widths, rank_fields, row_tail, entries, list_fields, list_end, row_lists}
use Rattle.certificate_theory.specs.Reading.{Right, AllRight, Reads}
use Rattle.certificate_theory.specs.Content.{list_start, rows_start}
use Rattle.certificate_theory.specs.Lists.{StateList}
use Rattle.certificate_theory.proofs.Scans.{widths_append, right_within, right_append}

pub entry_after : (w at i : ℕ) → (at + w) + w * i ≡ at + w * suc i
entry_after w at i = let h = mul-suc w i in omega arith

pub widths_rank : (n : ℕ) → widths (rank_fields n) ≡ 4 * n
widths_rank zero = omega arith
widths_rank (suc n) = let h = widths_rank n in omega arith

pub widths_row : (n : ℕ) → 4 + widths (row_tail n) ≡ 5 + 4 * n
widths_row n = let h = widths_rank n in omega arith

pub widths_entries : (bytes : List ℕ) (tail : List Field) (m at : ℕ) (before : Option ℕ)
    → widths (entries bytes at tail before m) ≡ (4 + widths tail) * m
widths_entries bytes tail zero at before = omega arith
widths_entries bytes tail (suc m) at before =
    let w = 4 + widths tail in
    let h = widths_entries bytes tail m (at + w) (Some (number_at bytes at)) in
    let a = widths_append tail (entries bytes (at + w) tail (Some (number_at bytes at)) m) in
    let k = mul-suc (4 + widths tail) m in
    omega arith

pub widths_list : (bytes : List ℕ) (tail : List Field) (at : ℕ)
    → at + widths (list_fields bytes at tail) ≡ list_end bytes at (4 + widths tail)
widths_list bytes tail at = let h = widths_entries bytes tail (number_at bytes at) (at + 4) None in omega arith

module _ (L : Limits) (bytes : List ℕ) (tail : List Field) where
  -- the first entry, and the others
  pub right_entry : (m at : ℕ) (before : Option ℕ) → AllRight L bytes at (entries bytes at tail before (suc m))
      → Right L bytes at (state before) × AllRight L bytes (at + 4) tail
      × AllRight L bytes (at + (4 + widths tail)) (entries bytes (at + (4 + widths tail)) tail (Some (number_at bytes at)) m)
  right_entry m at before (r, rs) =
      let rest = entries bytes (at + (4 + widths tail)) tail (Some (number_at bytes at)) m in
      let (p, q) = right_append L bytes tail rest (at + 4) rs in
      (r, p, subst (λ n. AllRight L bytes n rest) (let e : (at + 4) + widths tail ≡ at + (4 + widths tail) = omega arith in e) q)

  entry_below : (m at : ℕ) (before : Option ℕ) → AllRight L bytes at (entries bytes at tail before m)
      → (i : ℕ) → i < m → number_at bytes (at + (4 + widths tail) * i) < L.states
  entry_below zero at before r i h = absurd (omega arith)
  entry_below (suc m) at before r zero h =
      let e : at + (4 + widths tail) * zero ≡ at = omega arith in
      subst (λ n. number_at bytes n < L.states) (sym e) (right_entry m at before r).0.1.0
  entry_below (suc m) at before r (suc i) h =
      subst (λ n. number_at bytes n < L.states) (entry_after (4 + widths tail) at i)
      (entry_below m (at + (4 + widths tail)) (Some (number_at bytes at)) (right_entry m at before r).2 i (omega arith))

  entry_above : (m at b : ℕ) → AllRight L bytes at (entries bytes at tail (Some b) m)
      → (j : ℕ) → j < m → b < number_at bytes (at + (4 + widths tail) * j)
  entry_above zero at b r j h = absurd (omega arith)
  entry_above (suc m) at b r zero h =
      let e : at + (4 + widths tail) * zero ≡ at = omega arith in
      subst (λ n. b < number_at bytes n) (sym e) (right_entry m at (Some b) r).0.1.1
  entry_above (suc m) at b r (suc j) h =
      let here = (right_entry m at (Some b) r).0.1.1 in
      let there = entry_above m (at + (4 + widths tail)) (number_at bytes at) (right_entry m at (Some b) r).2 j (omega arith) in
      subst (λ n. b < number_at bytes n) (entry_after (4 + widths tail) at j) (omega arith)

  entry_ascend : (m at : ℕ) (before : Option ℕ) → AllRight L bytes at (entries bytes at tail before m)
      → (i j : ℕ) → i < j → j < m → number_at bytes (at + (4 + widths tail) * i) < number_at bytes (at + (4 + widths tail) * j)
  entry_ascend zero at before r i j l h = absurd (omega arith)
  entry_ascend (suc m) at before r i zero l h = absurd (omega arith)
  entry_ascend (suc m) at before r zero (suc j) l h =
      let e : at + (4 + widths tail) * zero ≡ at = omega arith in
      let above = entry_above m (at + (4 + widths tail)) (number_at bytes at) (right_entry m at before r).2 j (omega arith) in
      subst (λ n. number_at bytes n < number_at bytes (at + (4 + widths tail) * suc j)) (sym e)
      (subst (λ n. number_at bytes at < number_at bytes n) (entry_after (4 + widths tail) at j) above)
  entry_ascend (suc m) at before r (suc i) (suc j) l h =
      let on = entry_ascend m (at + (4 + widths tail)) (Some (number_at bytes at)) (right_entry m at before r).2 i j (omega arith) (omega arith) in
      subst (λ n. n < number_at bytes (at + (4 + widths tail) * suc j)) (ap (number_at bytes) (entry_after (4 + widths tail) at i))
      (subst (λ n. number_at bytes ((at + (4 + widths tail)) + (4 + widths tail) * i) < number_at bytes n) (entry_after (4 + widths tail) at j) on)

  pub entry_tail : (m at : ℕ) (before : Option ℕ) → AllRight L bytes at (entries bytes at tail before m)
      → (i : ℕ) → i < m → AllRight L bytes (at + (4 + widths tail) * i + 4) tail
  entry_tail zero at before r i h = absurd (omega arith)
  entry_tail (suc m) at before r zero h =
      subst (λ n. AllRight L bytes n tail) (let e : at + 4 ≡ at + (4 + widths tail) * zero + 4 = omega arith in e) (right_entry m at before r).1
  entry_tail (suc m) at before r (suc i) h =
      subst (λ n. AllRight L bytes (n + 4) tail) (entry_after (4 + widths tail) at i)
      (entry_tail m (at + (4 + widths tail)) (Some (number_at bytes at)) (right_entry m at before r).2 i (omega arith))

  -- a right list
  pub right_list : (at w : ℕ) → 4 + widths tail ≡ w → AllRight L bytes at (list_fields bytes at tail)
      → StateList bytes (at + 4) w (number_at bytes at) L.states
  right_list at w e r =
      let m = number_at bytes at in
      let es = r.1 in
      let long = widths_entries bytes tail m (at + 4) None in
      let in_bytes = right_within L bytes (entries bytes (at + 4) tail None m) (at + 4) r.0.0 es in
      subst (λ v. StateList bytes (at + 4) v m L.states) e (record {
        within = omega arith;
        below = entry_below m (at + 4) None es;
        ascend = entry_ascend m (at + 4) None es;
      })

-- the lists of rows
pub start_after : (bytes : List ℕ) (n at p : ℕ) → list_start n bytes (list_end bytes at (5 + 4 * n)) p ≡ list_start n bytes at (suc p)
start_after bytes n at zero = refl
start_after bytes n at (suc p) = ap (λ x. list_end bytes x (5 + 4 * n)) (start_after bytes n at p)

module _ (L : Limits) (bytes : List ℕ) where
  right_rows : (n m at : ℕ) → AllRight L bytes at (row_lists n bytes at m)
      → (p : ℕ) → p < m → AllRight L bytes (list_start n bytes at p) (list_fields bytes (list_start n bytes at p) (row_tail n))
  right_rows n zero at r p h = absurd (omega arith)
  right_rows n (suc m) at r zero h =
      (right_append L bytes (list_fields bytes at (row_tail n)) (row_lists n bytes (list_end bytes at (5 + 4 * n)) m) at r).0
  right_rows n (suc m) at r (suc p) h =
      let next = list_end bytes at (5 + 4 * n) in
      let after = (right_append L bytes (list_fields bytes at (row_tail n)) (row_lists n bytes next m) at r).1 in
      let e : at + widths (list_fields bytes at (row_tail n)) ≡ next =
      widths_list bytes (row_tail n) at ∙ ap (list_end bytes at) (widths_row n) in
      subst (λ x. AllRight L bytes x (list_fields bytes x (row_tail n))) (start_after bytes n at p)
      (right_rows n m next (subst (λ x. AllRight L bytes x (row_lists n bytes next m)) e after) p (omega arith))

  module _ (reads : Reads L bytes) where
    parts : AllRight L bytes 1 (list_fields bytes 1 []) × AllRight L bytes (list_end bytes 1 4) (row_lists L.numbers bytes (list_end bytes 1 4) L.processes)
    parts =
        let p = right_append L bytes (list_fields bytes 1 []) (row_lists L.numbers bytes (list_end bytes 1 4) L.processes) 1 reads.fields_right.1 in
        (p.0, subst (λ x. AllRight L bytes x (row_lists L.numbers bytes (list_end bytes 1 4) L.processes)) (widths_list bytes [] 1) p.1)

    pub listed_list : StateList bytes 5 4 (number_at bytes 1) L.states
    listed_list = right_list L bytes [] 1 4 refl parts.0

    rows_right : (p : ℕ) → p < L.processes → AllRight L bytes (rows_start L.numbers bytes p) (list_fields bytes (rows_start L.numbers bytes p) (row_tail L.numbers))
    rows_right = right_rows L.numbers L.processes (list_end bytes 1 4) parts.1

    pub rows_list : (p : ℕ) → p < L.processes
        → StateList bytes (rows_start L.numbers bytes p + 4) (5 + 4 * L.numbers) (number_at bytes (rows_start L.numbers bytes p)) L.states
    rows_list p h = right_list L bytes (row_tail L.numbers) (rows_start L.numbers bytes p) (5 + 4 * L.numbers) (widths_row L.numbers) (rows_right p h)

    -- the class byte of each row
    pub row_class : (p i : ℕ) → p < L.processes → i < number_at bytes (rows_start L.numbers bytes p)
        → get_or bytes ((rows_start L.numbers bytes p + 4) + (5 + 4 * L.numbers) * i + 4) 0 < L.classes
    row_class p i h l =
        let at = rows_start L.numbers bytes p in
        let t = entry_tail L bytes (row_tail L.numbers) (number_at bytes at) (at + 4) None (rows_right p h).1 i l in
        subst (λ w. get_or bytes ((at + 4) + w * i + 4) 0 < L.classes) (widths_row L.numbers) t.0.1
