-- The computed tests decide what they are about.
use Rattle.std.proofs.Common.{◌≡◌, ℕ, ◌<◌, Bool, true, is_some, Some, None, Decides, Option, refl, ap, arith}
use lib.Count.{ones}
use Rattle.std.proofs.lemmas.Bool.{eqb-true, eq-eqb, leb-true, le-leb}
use Rattle.std.proofs.lemmas.Bool.Decides.{Decides-at, Decides-and, Decides-below_or}
use Rattle.system.specs.Transitions.{Transitions, Enabled, Clash, holder_mask_lem}
use Rattle.system.specs.Justice.{FairSystem, Lawful, ClassEnabled}
use Rattle.system.specs.Tests.{some_below, is_class, enables, class_enabled_lem, is_clash_lem}

unequal : {A : Type 0} → ◌≡◌ {A = ℕ} 0 1 → A
unequal z = absurd (let f : ⊥ = omega arith in f)

pub is_class_decides : (o : Option ℕ) (j : ℕ) → Decides (is_class o j) (o ≡ Some j)
is_class_decides (Some c) j = (λ e. ap Some (eqb-true c j e), λ e. eq-eqb c j (cc))
is_class_decides None j = (λ e. unequal (cc), λ e. unequal (cc))

pub is_some_decides : (o : Option ℕ) → Decides (is_some o) ((t : ℕ) × (o ≡ Some t))
is_some_decides (Some t) = (λ _. (t, refl), λ _. refl)
is_some_decides None = (λ e. unequal (cc), λ h. let e = h.1 in unequal (cc))

pub enables_decides : (S : FairSystem) (s j k : ℕ) → Decides (enables S s j k) (Enabled S.steps s k × (S.class k ≡ Some j))
enables_decides S s j k = Decides-and (is_some (S.steps.next s k)) (is_class (S.class k) j) (is_some_decides _) (is_class_decides _ j)

-- Commands from K upward are not asked: they have no successor.
pub class_enabled_decides : (S : FairSystem) → Lawful S → (s j : ℕ) → Decides (class_enabled_lem S s j) (ClassEnabled S s j)
class_enabled_decides S l s j =
    let d = Decides-below_or (enables S s j) (λ k. Enabled S.steps s k × (S.class k ≡ Some j)) (some_below (enables S s j))
    (enables_decides S s j) refl (λ _. refl) S.steps.commands in (
      (λ e. let h = d.0 e in (h.0, h.2.1, h.2.0)),
      (λ h. d.1 (h.0, (l.steps.next_below s h.0 h.2.0 h.2.1).1, (h.2, h.1))),
    )

-- So does whatever has the same value.
pub class_enabled_told : (S : FairSystem) → Lawful S → (s j : ℕ) (r : Bool) → r ≡ class_enabled_lem S s j → Decides r (ClassEnabled S s j)
class_enabled_told S l s j r e = Decides-at r (class_enabled_lem S s j) e (class_enabled_decides S l s j)

pub is_clash_decides : (T : Transitions) (s : ℕ) → Decides (is_clash_lem T s) (Clash T s)
is_clash_decides T s = (leb-true 2 (ones (holder_mask_lem T s)), le-leb 2 (ones (holder_mask_lem T s)))

-- A number that passes a test is found below each greater one.
pub some_here : (f : ℕ → Bool) (k n : ℕ) → k < n → f k ≡ true → some_below f n ≡ true
some_here f k n l e = (Decides-below_or f (λ k. f k ≡ true) (some_below f) (λ k. (λ h. h, λ h. h)) refl (λ _. refl) n).1 (k, l, e)
