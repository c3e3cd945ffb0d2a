-- What the bytes say, read by places. Assumes nothing.
use Rattle.std.proofs.Common.{◌≡◌, ℕ, zero, suc, ◌+◌, ◌*◌, ◌<◌, ◌≤◌, List, [], length, get_or, sym, refl, ap, ◌∙◌, subst, arith}
use Rattle.std.specs.List.{ContainsAt as Has}
use Rattle.byte_numbers.specs.Numbers.{number_at}
use Rattle.rank.specs.declared.Row.{Row}
use Rattle.rank.specs.Kinds.{numbers_at}
use Rattle.rank_rule.specs.Certificate.{Listed, rows_of, RowAt}
use Rattle.certificate_theory.specs.declared.limits.Limits.{Limits}
use Rattle.certificate_theory.specs.Fields.{list_end}
use Rattle.certificate_theory.specs.Content.{row_at, rows_at, row_lists_at, content, list_start, rows_start}
use Rattle.certificate_theory.proofs.Entries.{entry_after, start_after}

pub length_numbers : (bytes : List ℕ) (n at : ℕ) → length (numbers_at bytes at n) ≡ n
length_numbers bytes zero at = refl
length_numbers bytes (suc n) at = let h = length_numbers bytes n (at + 4) in omega arith

number_of : (bytes : List ℕ) (n at i d : ℕ) → i < n → get_or (numbers_at bytes at n) i d ≡ number_at bytes (at + 4 * i)
number_of bytes zero at i d h = absurd (omega arith)
number_of bytes (suc n) at zero d h = ap (number_at bytes) (let e : at ≡ at + 4 * zero = omega arith in e)
number_of bytes (suc n) at (suc i) d h = number_of bytes n (at + 4) i d (omega arith) ∙ ap (number_at bytes) (entry_after 4 at i)

pub length_rows : (n : ℕ) (bytes : List ℕ) (m at : ℕ) → length (rows_at n bytes at m) ≡ m
length_rows n bytes zero at = refl
length_rows n bytes (suc m) at = let h = length_rows n bytes m (at + (5 + 4 * n)) in omega arith

row_of : (n : ℕ) (bytes : List ℕ) (m at i : ℕ) (d : Row (List ℕ)) → i < m → get_or (rows_at n bytes at m) i d ≡ row_at n bytes (at + (5 + 4 * n) * i)
row_of n bytes zero at i d h = absurd (omega arith)
row_of n bytes (suc m) at zero d h = ap (row_at n bytes) (let e : at ≡ at + (5 + 4 * n) * zero = omega arith in e)
row_of n bytes (suc m) at (suc i) d h = row_of n bytes m (at + (5 + 4 * n)) i d (omega arith) ∙ ap (row_at n bytes) (entry_after (5 + 4 * n) at i)

lists_of : (n : ℕ) (bytes : List ℕ) (m at p : ℕ) → p < m
    → get_or (row_lists_at n bytes at m) p [] ≡ rows_at n bytes (list_start n bytes at p + 4) (number_at bytes (list_start n bytes at p))
lists_of n bytes zero at p h = absurd (omega arith)
lists_of n bytes (suc m) at zero h = refl
lists_of n bytes (suc m) at (suc p) h =
    lists_of n bytes m (list_end bytes at (5 + 4 * n)) p (omega arith)
    ∙ ap (λ x. rows_at n bytes (x + 4) (number_at bytes x)) (start_after bytes n at p)

pub lists_past : (n : ℕ) (bytes : List ℕ) (m at p : ℕ) → m ≤ p → get_or (row_lists_at n bytes at m) p [] ≡ []
lists_past n bytes zero at zero h = refl
lists_past n bytes zero at (suc p) h = refl
lists_past n bytes (suc m) at zero h = absurd (omega arith)
lists_past n bytes (suc m) at (suc p) h = lists_past n bytes m (list_end bytes at (5 + 4 * n)) p (omega arith)

module _ (L : Limits) (bytes : List ℕ) where
  pub place_listed : (i : ℕ) → i < number_at bytes 1 → Listed (content L bytes) (number_at bytes (5 + 4 * i))
  place_listed i h =
      let m = number_at bytes 1 in
      let long = length_numbers bytes m 5 in
      (i, omega arith, λ d. number_of bytes m 5 i d h)

  pub listed_place : (s : ℕ) → Listed (content L bytes) s → (i : ℕ) × (i < number_at bytes 1) × (number_at bytes (5 + 4 * i) ≡ s)
  listed_place s (i, h, at) =
      let m = number_at bytes 1 in
      let long = length_numbers bytes m 5 in
      let below : i < m = omega arith in
      (i, below, sym (number_of bytes m 5 i 0 below) ∙ at 0)

  -- where the row i of the process p begins
  abbrev pub row_place : ℕ → ℕ → ℕ
  row_place p i = (rows_start L.numbers bytes p + 4) + (5 + 4 * L.numbers) * i

  rows_are : (p : ℕ) → p < L.processes
      → rows_of (content L bytes) p ≡ rows_at L.numbers bytes (rows_start L.numbers bytes p + 4) (number_at bytes (rows_start L.numbers bytes p))
  rows_are p h = lists_of L.numbers bytes L.processes (list_end bytes 1 4) p h

  pub place_row : (p i : ℕ) → p < L.processes → i < number_at bytes (rows_start L.numbers bytes p)
      → RowAt (content L bytes) p (number_at bytes (row_place p i)) (row_at L.numbers bytes (row_place p i))
  place_row p i h l =
      let n = L.numbers in
      let at = rows_start n bytes p in
      let m = number_at bytes at in
      let long = length_rows n bytes m (at + 4) in
      let has : Has (rows_at n bytes (at + 4) m) (row_at n bytes (row_place p i)) = (i, omega arith, λ d. row_of n bytes m (at + 4) i d l) in
      (subst (λ rows. Has rows (row_at n bytes (row_place p i))) (sym (rows_are p h)) has, refl)

  pub row_place_of : (p s : ℕ) (row : Row (List ℕ)) → p < L.processes → RowAt (content L bytes) p s row
      → (i : ℕ) × (i < number_at bytes (rows_start L.numbers bytes p)) × (row ≡ row_at L.numbers bytes (row_place p i)) × (number_at bytes (row_place p i) ≡ s)
  row_place_of p s row h (has, at) =
      let n = L.numbers in
      let start = rows_start n bytes p in
      let m = number_at bytes start in
      let long = length_rows n bytes m (start + 4) in
      let (i, l, read) = subst (λ rows. Has rows row) (rows_are p h) has in
      let below : i < m = omega arith in
      let e : row ≡ row_at n bytes (row_place p i) = sym (read row) ∙ row_of n bytes m (start + 4) i row below in
      (i, below, e, sym (ap (λ (r : Row (List ℕ)). r.state) e) ∙ at)
