-- A mask with two ones is two holders. Assumes nothing.
use Rattle.std.proofs.Common.{◌≡◌, ℕ, zero, suc, ◌+◌, ◌^◌, ◌<◌, ◌≤◌, ◌⊎◌, refl, ap, ◌∙◌, ap₂, inl, inr, arith}
use native.Mathlib.Decide.{dec_lt}
use lib.Count.{ones, ones_cat}
use Rattle.system.specs.declared.Region.{Region}
use Rattle.system.specs.declared.Region.TheVariants.{Idle, Try, Crit, Exit}
use Rattle.system.specs.Transitions.{Transitions, holder_bit, holders_below, Holds}
use Rattle.system_laws.specs.Holding.{ClashIsTwoHolders}

-- A region is crit, with bit 1, or its bit is 0.
bits : (g : Region) → ((g ≡ Crit) × (holder_bit g ≡ 1)) ⊎ (holder_bit g ≡ 0)
bits Idle = inr refl
bits Try = inr refl
bits Crit = inl (refl, refl)
bits Exit = inr refl

ones_of_bit : (g : Region) → ones (holder_bit g) ≡ holder_bit g
unfolding ones
ones_of_bit Idle = refl
ones_of_bit Try = refl
ones_of_bit Crit = refl
ones_of_bit Exit = refl

ones_of_zero : ones 0 ≡ 0
unfolding ones
ones_of_zero = refl

module _ (T : Transitions) (s : ℕ) where
  -- How many of the first n processes hold.
  abbrev count : ℕ → ℕ
  count zero = 0
  count (suc n) = holder_bit (T.region s n) + count n

  below : (n : ℕ) → holders_below T s n < 2 ^ n
  below zero = omega arith
  below (suc n) = by (below n) (bits (T.region s n))
    where
      by : holders_below T s n < 2 ^ n → ((T.region s n ≡ Crit) × (holder_bit (T.region s n) ≡ 1)) ⊎ (holder_bit (T.region s n) ≡ 0)
          → holders_below T s (suc n) < 2 ^ suc n
      by h (inl (_, b)) = rw b (omega arith)
      by h (inr b) = rw b (omega arith)

  ones_count : (n : ℕ) → ones (holders_below T s n) ≡ count n
  ones_count zero = ones_of_zero
  ones_count (suc n) =
      ones_cat n (holder_bit (T.region s n)) (holders_below T s n) (below n)
      ∙ ap₂ (λ a b. a + b) (ones_of_bit (T.region s n)) (ones_count n)

  Found : ℕ → Type 0
  Found n = (q : ℕ) × (q < n) × Holds T q s

  Two : ℕ → Type 0
  Two n = (p q : ℕ) × (p < q) × (q < n) × Holds T p s × Holds T q s

  finds_one : (n : ℕ) → 1 ≤ count n → Found n
  unfolding Found
  finds_one zero h = absurd (omega arith)
  finds_one (suc n) h = by (λ g. finds_one n g) (bits (T.region s n))
    where
      by : (1 ≤ count n → Found n) → ((T.region s n ≡ Crit) × (holder_bit (T.region s n) ≡ 1)) ⊎ (holder_bit (T.region s n) ≡ 0) → Found (suc n)
      by on (inl (e, _)) = (n, omega arith, e)
      by on (inr b) = let (q, low, e) = on (omega arith) in (q, omega arith, e)

  finds_two : (n : ℕ) → 2 ≤ count n → Two n
  unfolding Found Two
  finds_two zero h = absurd (omega arith)
  finds_two (suc n) h = by (λ g. finds_two n g) (bits (T.region s n))
    where
      by : (2 ≤ count n → Two n) → ((T.region s n ≡ Crit) × (holder_bit (T.region s n) ≡ 1)) ⊎ (holder_bit (T.region s n) ≡ 0) → Two (suc n)
      by on (inl (e, b)) = let (q, low, f) = finds_one n (omega arith) in (q, n, low, omega arith, f, e)
      by on (inr b) = let (p, q, order, low, e, f) = on (omega arith) in (p, q, order, omega arith, e, f)

  counts_one : (n q : ℕ) → q < n → Holds T q s → 1 ≤ count n
  counts_one zero q low e = absurd (omega arith)
  counts_one (suc n) q low e = by (λ g. counts_one n q g e) (dec_lt q n)
    where
      by : (q < n → 1 ≤ count n) → Dec (q < n) → 1 ≤ count (suc n)
      by on (yes lower) = let h = on lower in omega arith
      by on (no high) = let e' : q ≡ n = omega arith in let b : holder_bit (T.region s n) ≡ 1 = ap holder_bit (rw e' at e) in omega arith

  counts_two : (n p q : ℕ) → p < q → q < n → Holds T p s → Holds T q s → 2 ≤ count n
  counts_two zero p q order low e f = absurd (omega arith)
  counts_two (suc n) p q order low e f = by (λ g. counts_two n p q order g e f) (dec_lt q n)
    where
      by : (q < n → 2 ≤ count n) → Dec (q < n) → 2 ≤ count (suc n)
      by on (yes lower) = let h = on lower in omega arith
      by on (no high) =
          let e' : q ≡ n = omega arith in
          let b : holder_bit (T.region s n) ≡ 1 = ap holder_bit (rw e' at f) in
          let c = counts_one n p (omega arith) e in
          omega arith

pub clash_is_two_holders_lem : ClashIsTwoHolders
unfolding Two
clash_is_two_holders_lem T s = (
  (λ clash. finds_two T s T.processes (rw (ones_count T s T.processes) at clash)),
  (λ two. rw (ones_count T s T.processes) (counts_two T s T.processes two.0 two.1 two.2 two.3 two.4 two.5)),
)
