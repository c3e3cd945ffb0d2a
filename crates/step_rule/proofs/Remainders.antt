-- The remainder by one more than a maximum.
use Rattle.std.proofs.Common.{◌≡◌, ℕ, suc, ◌+◌, ◌-◌, ◌*◌, ◌/◌, ◌%◌, ◌<◌, ◌≤◌, ℤ, pos, negsuc, ◌+ℤ◌, ◌*ℤ◌, sym, ap, ◌∙◌, mod-lt, suc-mul, arith}
use native.Mathlib.Nat.{mod-add-div'}
use lib.Arith.{digits_mod}
use Rattle.std.proofs.lemmas.Int.{ints}
use Rattle.step_rule.specs.Rule.{remainder}
use Rattle.step_rule.specs.Claims.{IsRemainder, RemaindersAreLeast}

pub remainder_small : (z : ℤ) (maximum : ℕ) → remainder z maximum ≤ maximum
remainder_small (pos n) m = let l : n % (m + 1) < m + 1 = mod-lt n (omega arith) in omega arith
remainder_small (negsuc n) m = omega arith

is_remainder : (z : ℤ) (m : ℕ) → IsRemainder z m (remainder z m)
is_remainder (pos n) m = record { small = remainder_small (pos n) m; multiples = pos (n / (m + 1)); apart = ap pos (sym (mod-add-div' n (m + 1))) }
is_remainder (negsuc n) m =
    let e : n % (m + 1) + n / (m + 1) * (m + 1) ≡ n = mod-add-div' n (m + 1) in
    let l : n % (m + 1) < m + 1 = mod-lt n (omega arith) in
    let s : suc (n / (m + 1)) * (m + 1) ≡ n / (m + 1) * (m + 1) + (m + 1) = suc-mul (n / (m + 1)) (m + 1) in
    record { small = omega arith; multiples = negsuc (n / (m + 1)); apart = omega (arith, ints) }

only : (z : ℤ) (m r : ℕ) → r ≤ m → (k : ℤ) → z ≡ pos r +ℤ (k *ℤ pos (m + 1)) → r ≡ remainder z m
only (pos n) m r l (pos j) e =
    let f : n ≡ j * (m + 1) + r = omega (arith, ints) in
    sym (ap (λ x. x % (m + 1)) f ∙ digits_mod j (omega arith))
only (pos n) m r l (negsuc j) e =
    let s : suc j * (m + 1) ≡ j * (m + 1) + (m + 1) = suc-mul j (m + 1) in
    absurd (let f : ⊥ = omega (arith, ints) in f)
only (negsuc n) m r l (pos j) e = absurd (let f : ⊥ = omega (arith, ints) in f)
only (negsuc n) m r l (negsuc j) e =
    let s : suc j * (m + 1) ≡ j * (m + 1) + (m + 1) = suc-mul j (m + 1) in
    let f : n ≡ j * (m + 1) + (m - r) = omega (arith, ints) in
    let g : n % (m + 1) ≡ m - r = ap (λ x. x % (m + 1)) f ∙ digits_mod j (omega arith) in
    omega arith

pub remainders : RemaindersAreLeast
remainders z m = (is_remainder z m, λ r is. only z m r is.small is.multiples is.apart)
