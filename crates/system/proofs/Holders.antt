-- The holder mask, one process more.
use Rattle.std.proofs.Common.{◌≡◌, ℕ, ◌+◌, ◌*◌, ◌%◌, ◌^◌, ◌<◌, refl, ap, ◌∙◌, mod-eq_of_lt, pow-suc, add-one, arith}
use lib.Pow.{pow-lt}
use lib.Bits.{bit_or, or_shifted_r}
use Rattle.system.specs.declared.Region.{Region}
use Rattle.system.specs.declared.Region.TheVariants.{Idle, Try, Crit, Exit}
use Rattle.system.specs.Transitions.{Transitions, holder_bit, holders_below}

pub or_place : (p m : ℕ) → p < 8 → m < 2 ^ p → bit_or m ((1 * 2 ^ p) % 256) ≡ 2 ^ p + m
or_place p m h k =
    let lt : 2 ^ p < 2 ^ 8 = pow-lt h in
    let e : (1 * 2 ^ p) % 256 ≡ 1 * 2 ^ p = mod-eq_of_lt (omega arith) in
    ap (bit_or m) e ∙ or_shifted_r 1 p m k ∙ omega arith

pub doubled : (p : ℕ) → 2 ^ (p + 1) ≡ 2 * 2 ^ p
doubled p = rw add-one (pow-suc 2 p ∙ omega arith)

pub holders_more : (T : Transitions) (s p : ℕ) → holders_below T s (p + 1) ≡ holder_bit (T.region s p) * 2 ^ p + holders_below T s p
holders_more T s p = rw add-one

pub holder_bit_one : (r : Region) → r ≡ Crit → holder_bit r ≡ 1
holder_bit_one r e = ap holder_bit e

pub holder_bit_zero : (r : Region) → (r ≡ Crit → ⊥) → holder_bit r ≡ 0
holder_bit_zero Idle n = refl
holder_bit_zero Try n = refl
holder_bit_zero Crit n = absurd (n refl)
holder_bit_zero Exit n = refl
