-- The lowest number that passes a test.
use Rattle.std.proofs.Common.{◌≡◌, ℕ, ◌<◌, Bool, ◌⊎◌, Some, None, Option, inl, inr, refl, ap, arith}
use Rattle.std.proofs.lemmas.Bool.{cases_order}
use Rattle.class_set.specs.Sets.{IsLowest}
use Rattle.run_rules.specs.Judging.{least}
use Rattle.run_rules.proofs.Paths.{LeastTold, least_told}

-- Two lowest numbers of tests that agree are the same.
pub lowest_same : (f g : ℕ → Bool) (n : ℕ) → ((j : ℕ) → j < n → f j ≡ g j) → (o : Option ℕ) → IsLowest f n o → o ≡ least g 0 n
lowest_same f g n same o low = by_both o (least g 0 n) low (least_told g 0 n)
  where
    by_both : (o q : Option ℕ) → IsLowest f n o → LeastTold g 0 n q → o ≡ q
    by_both None None l t = refl
    by_both None (Some j) l t = let e = l j (omega arith) in let d = same j (omega arith) in grind arith
    by_both (Some i) None l t = let e = t i (omega arith) (omega arith) in let d = same i (omega arith) in grind arith
    by_both (Some i) (Some j) l t = ap Some (same_place (cases_order i j))
      where
        same_place : (i ≡ j) ⊎ ((i < j) ⊎ (j < i)) → i ≡ j
        same_place (inl e) = e
        same_place (inr (inl h)) = let d = same i l.0 in grind arith
        same_place (inr (inr h)) = let d = same j (omega arith) in grind arith
