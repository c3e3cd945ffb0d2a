-- Entries within a list, and which of them a look at the middle one rules out. Assumes nothing.
use Rattle.std.proofs.Common.{◌≡◌, ℕ, ◌+◌, ◌*◌, ◌<◌, ◌≤◌, ◌⊎◌, List, inl, inr, mul-le-mul_left, mul-add, arith}
use Rattle.certificate_theory.specs.Lists.{state_of, Ascends}

pub entry_within : (w n i : ℕ) → i < n → w * i + w ≤ w * n
entry_within w n i l =
    let q : i + 1 ≤ n = omega arith in
    let a = mul-le-mul_left w q in
    let b = mul-add w i 1 in
    omega arith

module _ (bytes : List ℕ) (at w n : ℕ) (up : Ascends bytes at w n) (m s : ℕ) (h : m < n) where
  which : (a b : ℕ) → (a < b) ⊎ (b ≤ a)
  which a b = grind arith

  pub all_below : state_of bytes at w m < s → (i : ℕ) → i < m + 1 → state_of bytes at w i < s
  all_below l i k = side (which i m)
    where
      side : (i < m) ⊎ (m ≤ i) → state_of bytes at w i < s
      side (inl q) = let u = up i m q h in omega arith
      side (inr q) = let e : i ≡ m = omega arith in rw e l

  pub all_above : s < state_of bytes at w m → (i : ℕ) → m ≤ i → i < n → s < state_of bytes at w i
  all_above l i k j = side (which m i)
    where
      side : (m < i) ⊎ (i ≤ m) → s < state_of bytes at w i
      side (inl q) = let u = up m i q j in omega arith
      side (inr q) = let e : i ≡ m = omega arith in rw e l
