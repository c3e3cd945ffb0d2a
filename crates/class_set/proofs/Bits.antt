-- Masks of sixteen bits, bit by bit.
use Rattle.std.proofs.Common.{◌≡◌, ℕ, zero, suc, ◌+◌, ◌-◌, ◌*◌, ◌/◌, ◌%◌, ◌^◌, ◌<◌, ◌≤◌, Bool, true, false, not, ◌&&◌, eqb, ltb, ◌⊎◌, sym, refl, ap, ◌∙◌, inl, inr, mod-lt, pow-suc, arith}
use native.Mathlib.Nat.{div-eq_of_lt, zero-div}
use lib.Bits.{bit_and, bit_xor}
use lib.Pow.{pow-lt}
use Rattle.std.proofs.lemmas.Nat.{and_shr, and_mod, xor_shr, xor_mod, xor_lt, pow-add, shl-shr, one_shl, mod-mul-add}
use Rattle.std.proofs.lemmas.Bool.{cases_order, cases_lt, eq-eqb, ne_eqb, eqb-true, lt-ltb, le-ltb}
use Rattle.std.proofs.lemmas.Bool.Decides.{Decides-below_and}
use Rattle.system.specs.Masks.{bit}
use Rattle.system.proofs.Masks.{bit_beyond}

digit_and : (x y : ℕ) → x < 2 → y < 2 → eqb (bit_and x y) 1 ≡ (eqb x 1 && eqb y 1)
digit_and zero zero hx hy = refl
digit_and zero (suc zero) hx hy = refl
digit_and zero (suc (suc y)) hx hy = absurd (let f : ⊥ = omega arith in f)
digit_and (suc zero) zero hx hy = refl
digit_and (suc zero) (suc zero) hx hy = refl
digit_and (suc zero) (suc (suc y)) hx hy = absurd (let f : ⊥ = omega arith in f)
digit_and (suc (suc x)) y hx hy = absurd (let f : ⊥ = omega arith in f)

-- A bit of the intersection is one when it is one in both masks.
pub bit_and_lem : (a b k : ℕ) → bit (bit_and a b) k ≡ (bit a k && bit b k)
bit_and_lem a b k =
    ap (λ n. eqb (n % 2) 1) (and_shr a b k) ∙ ap (λ n. eqb n 1) (and_mod (a / 2 ^ k) (b / 2 ^ k) 1)
    ∙ digit_and ((a / 2 ^ k) % 2) ((b / 2 ^ k) % 2) (mod-lt (a / 2 ^ k) (omega arith)) (mod-lt (b / 2 ^ k) (omega arith))

-- The only bit of a power of two.
bit_power : (c j : ℕ) → bit (2 ^ c) j ≡ eqb c j
bit_power c j = by_order (cases_order c j)
  where
    by_order : (c ≡ j) ⊎ ((c < j) ⊎ (j < c)) → bit (2 ^ c) j ≡ eqb c j
    by_order (inl e) =
        let one : 2 ^ c ≡ 1 * 2 ^ j = ap (λ k. 2 ^ k) e ∙ omega arith in
        ap (λ n. eqb (n % 2) 1) (ap (λ n. n / 2 ^ j) one ∙ shl-shr 1 j) ∙ sym (eq-eqb c j e)
    by_order (inr (inl h)) =
        ap (λ n. eqb (n % 2) 1) (div-eq_of_lt (pow-lt h)) ∙ sym (ne_eqb c j (λ e. omega arith))
    by_order (inr (inr h)) =
        let d = c - suc j in
        let split : c ≡ suc d + j = omega arith in
        let shifted : 2 ^ c / 2 ^ j ≡ 2 ^ suc d =
        ap (λ k. 2 ^ k / 2 ^ j) split ∙ ap (λ n. n / 2 ^ j) (pow-add 2 (suc d) j) ∙ shl-shr (2 ^ suc d) j in
        let twice : 2 ^ suc d ≡ 2 ^ d * 2 + 0 = pow-suc 2 d ∙ omega arith in
        ap (λ n. eqb (n % 2) 1) (shifted ∙ twice) ∙ ap (λ n. eqb n 1) (mod-mul-add (2 ^ d) 2 0 (omega arith))
        ∙ sym (ne_eqb c j (λ e. omega arith))

-- The bit of a class below 16.
pub bit_shl : (c j : ℕ) → c < 16 → bit ((1 * 2 ^ c) % 65536) j ≡ eqb c j
bit_shl c j h = ap (λ x. bit x j) (one_shl c 16 h) ∙ bit_power c j

pub bit_none : (j : ℕ) → bit 0 j ≡ false
bit_none j = ap (λ n. eqb (n % 2) 1) (zero-div (2 ^ j))

and_true : (b : Bool) → (b && true) ≡ b
and_true true = refl
and_true false = refl

every : (ℕ → Bool) → ℕ → Bool
every f zero = true
every f (suc n) = f n && every f n

bit_full : (j : ℕ) → j < 16 → bit 65535 j ≡ true
unfolding every
bit_full j h = (Decides-below_and (bit 65535) (λ k. bit 65535 k ≡ true) (every (bit 65535)) (λ k. ((λ e. e), (λ e. e))) refl (λ _. refl) 16).0 refl j h

-- All sixteen bits.
pub bit_all : (j : ℕ) → bit 65535 j ≡ ltb j 16
bit_all j = by (cases_lt j 16)
  where
    by : (j < 16) ⊎ (16 ≤ j) → bit 65535 j ≡ ltb j 16
    by (inl l) = bit_full j l ∙ sym (lt-ltb j 16 l)
    by (inr g) = bit_beyond 16 65535 j (omega arith) g ∙ sym (le-ltb j 16 g)

digit_flip : (x : ℕ) → x < 2 → eqb (bit_xor x 1) 1 ≡ not (eqb x 1)
digit_flip zero h = refl
digit_flip (suc zero) h = refl
digit_flip (suc (suc x)) h = absurd (let f : ⊥ = omega arith in f)

digit_one : (x : ℕ) → eqb x 1 ≡ true → x ≡ 1
digit_one x e = eqb-true x 1 e

-- A bit of the other ones of sixteen.
pub bit_flip : (m j : ℕ) → j < 16 → bit (bit_xor m 65535) j ≡ not (bit m j)
bit_flip m j h =
    ap (λ n. eqb (n % 2) 1) (xor_shr m 65535 j) ∙ ap (λ n. eqb n 1) (xor_mod (m / 2 ^ j) (65535 / 2 ^ j) 1)
    ∙ ap (λ n. eqb (bit_xor ((m / 2 ^ j) % 2) n) 1) (digit_one (65535 / 2 ^ j % 2) (bit_full j h))
    ∙ digit_flip ((m / 2 ^ j) % 2) (mod-lt (m / 2 ^ j) (omega arith))

-- The other bits of sixteen. The result has sixteen bits too, as each 16-bit number.
pub bit_other : (m j : ℕ) → bit_xor m 65535 < 2 ^ 16 → bit (bit_xor m 65535) j ≡ (ltb j 16 && not (bit m j))
bit_other m j few = by (cases_lt j 16)
  where
    by : (j < 16) ⊎ (16 ≤ j) → bit (bit_xor m 65535) j ≡ (ltb j 16 && not (bit m j))
    by (inl l) = bit_flip m j l ∙ sym (ap (λ b. b && not (bit m j)) (lt-ltb j 16 l))
    by (inr g) = bit_beyond 16 (bit_xor m 65535) j few g ∙ sym (ap (λ b. b && not (bit m j)) (le-ltb j 16 g))

-- The classes that are not told by the test f.
pub bit_out : (m x j : ℕ) (f : ℕ → Bool) → m < 2 ^ 16 → x < 2 ^ 16 → ((i : ℕ) → bit x i ≡ (f i && ltb i 16)) →
    bit (bit_and m (bit_xor x 65535)) j ≡ (bit m j && not (f j))
bit_out m x j f few small told =
    bit_and_lem m (bit_xor x 65535) j ∙ ap (λ b. bit m j && b) (bit_other x j (xor_lt 16 x 65535 small (omega arith))) ∙ by (cases_lt j 16)
  where
    by : (j < 16) ⊎ (16 ≤ j) → (bit m j && (ltb j 16 && not (bit x j))) ≡ (bit m j && not (f j))
    by (inl l) =
        let h : bit x j ≡ f j = told j ∙ ap (λ b. f j && b) (lt-ltb j 16 l) ∙ and_true (f j) in
        ap (λ b. bit m j && (b && not (bit x j))) (lt-ltb j 16 l) ∙ ap (λ b. bit m j && not b) h
    by (inr g) =
        let h = bit_beyond 16 m j few g in
        ap (λ b. b && (ltb j 16 && not (bit x j))) h ∙ sym (ap (λ b. b && not (f j)) h)

-- The bit of a class is that of the class, where it is below 16.
pub class_here : (c j : ℕ) → c < 16 → bit ((1 * 2 ^ c) % 65536) j ≡ (eqb c j && ltb j 16)
class_here c j h = bit_shl c j h ∙ by (eqb c j) refl
  where
    by : (b : Bool) → eqb c j ≡ b → eqb c j ≡ (eqb c j && ltb j 16)
    by true e = e ∙ sym (ap (λ b. b && ltb j 16) e ∙ lt-ltb j 16 (let p = eqb-true c j e in omega arith))
    by false e = e ∙ sym (ap (λ b. b && ltb j 16) e)

pub class_beyond : (c j : ℕ) → 16 ≤ c → false ≡ (eqb c j && ltb j 16)
class_beyond c j h = by (eqb c j) refl
  where
    by : (b : Bool) → eqb c j ≡ b → false ≡ (eqb c j && ltb j 16)
    by true e = sym (ap (λ b. b && ltb j 16) e ∙ le-ltb j 16 (let p = eqb-true c j e in omega arith))
    by false e = sym (ap (λ b. b && ltb j 16) e)
