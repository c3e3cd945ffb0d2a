-- A lock of one process that a mask spoils. Assumes nothing.
use Rattle.std.proofs.Common.{◌≡◌, ℕ, zero, suc, ◌<◌, ◌≤◌, ◌⊎◌, Some, None, Option, sym, refl, inl, inr, arith}
use Rattle.system.specs.declared.Region.{Region}
use Rattle.system.specs.declared.Region.TheVariants.{Idle, Try, Crit}
use Rattle.system.specs.Transitions.{Transitions}
use Rattle.system.specs.Runs.{Step, command, rest, Leads, Run}
use Rattle.system.specs.Justice.{FairSystem, Lawful, ClassEnabled, ClassDisabled, OfClass, Just, CorrectLock}
use Rattle.system.specs.Masks.{bit, masked_steps, masked}
use Rattle.system.specs.MaskLaws.{unless_some}
use Rattle.system_laws.specs.Masking.{JustOnlyUnderMask, MaskSpoils}
use Rattle.system_laws.proofs.Holders.{clash_is_two_holders_lem}

unequal : {A : Type 0} → ◌≡◌ {A = ℕ} 0 1 → A
unequal z = absurd (let f : ⊥ = omega arith in f)

-- Two states: trying, and in. The one command leads from the first to the second.
abbrev goes_in : ℕ → ℕ → Option ℕ
goes_in zero zero = Some 1
goes_in zero (suc k) = None
goes_in (suc s) k = None

abbrev stands : ℕ → ℕ → Region
stands zero zero = Try
stands zero (suc p) = Idle
stands (suc zero) zero = Crit
stands (suc zero) (suc p) = Idle
stands (suc (suc s)) p = Idle

abbrev sorted : ℕ → Option ℕ
sorted zero = Some 0
sorted (suc k) = None

abbrev lock : FairSystem
lock = record {
  steps = record { processes = 1; commands = 1; states = 2; start = 0; next = goes_in; region = stands };
  classes = 1;
  class = sorted;
}

goes_in_below : (s k t : ℕ) → goes_in s k ≡ Some t → (s < 2) × (k < 1) × (t < 2)
goes_in_below zero zero t e = let u : 1 ≡ t = cc in (omega arith, omega arith, omega arith)
goes_in_below zero (suc k) t e = unequal (cc)
goes_in_below (suc s) k t e = unequal (cc)

stands_outside : (s p : ℕ) → (2 ≤ s) ⊎ (1 ≤ p) → stands s p ≡ Idle
stands_outside zero zero (inl h) = absurd (let f : ⊥ = omega arith in f)
stands_outside zero zero (inr h) = absurd (let f : ⊥ = omega arith in f)
stands_outside zero (suc p) h = refl
stands_outside (suc zero) zero (inl h) = absurd (let f : ⊥ = omega arith in f)
stands_outside (suc zero) zero (inr h) = absurd (let f : ⊥ = omega arith in f)
stands_outside (suc zero) (suc p) h = refl
stands_outside (suc (suc s)) p h = refl

sorted_below : (k j : ℕ) → sorted k ≡ Some j → (k < 1) × (j < 1)
sorted_below zero j e = let u : 0 ≡ j = cc in (omega arith, omega arith)
sorted_below (suc k) j e = unequal (cc)

lock_lawful : Lawful lock
lock_lawful = record {
  steps = record {
    some_process = omega arith;
    few_processes = omega arith;
    few_commands = omega arith;
    few_states = omega arith;
    start_below = omega arith;
    next_below = goes_in_below;
    region_outside = stands_outside;
  };
  few_classes = omega arith;
  class_below = sorted_below;
}

-- Who waits is in the first state, where the command leads away.
waits_at_zero : (s p : ℕ) → stands s p ≡ Try → s ≡ 0
waits_at_zero zero p e = refl
waits_at_zero (suc zero) zero e = unequal (cc)
waits_at_zero (suc zero) (suc p) e = unequal (cc)
waits_at_zero (suc (suc s)) p e = unequal (cc)

leads_away : (a : Step) (s t : ℕ) → s ≡ 0 → t ≡ 0 → OfClass lock a 0 → Leads lock.steps s a t → ⊥
leads_away (command zero) zero t es et c l = let u : ◌≡◌ {A = ℕ} 1 t = cc in omega arith
leads_away (command (suc k)) zero t es et c l = let z : ◌≡◌ {A = ℕ} 0 1 = cc in omega arith
leads_away (command k) (suc s) t es et c l = omega arith
leads_away rest s t es et c l = absurd c

enabled_at_zero : (s : ℕ) → s ≡ 0 → ClassEnabled lock s 0
enabled_at_zero zero e = (0, refl, (1, refl))
enabled_at_zero (suc s) e = absurd (let f : ⊥ = omega arith in f)

lock_correct : CorrectLock lock
lock_correct = record {
  no_clash = λ r (i, clash). let (p, q, order, below, hp, hq) = (clash_is_two_holders_lem lock.steps (r.state i)).0 clash in omega arith;
  no_lockout = λ r just p below (n, waits).
      let at_zero : (i : ℕ) → n ≤ i → r.state i ≡ 0 = λ i l. waits_at_zero (r.state i) p (waits i l) in
      elim (just 0 (omega arith)) [
        | inl disabled ↦ (let (i, l, d) = disabled n in d (enabled_at_zero (r.state i) (at_zero i l)))
        | inr taken ↦ (let (i, l, c) = taken n in leads_away (r.step i) (r.state i) (r.state (suc i)) (at_zero i l) (at_zero (suc i) (omega arith)) c (r.goes i))
      ];
}

-- To rest in the first state for ever is a run, with the mask and without.
abbrev rests : (T : Transitions) → T.start ≡ 0 → Run T
rests T e = record { state = λ i. 0; step = λ i. rest; starts = sym e; goes = λ i. refl }

-- Under the mask the class is disabled there.
hidden : (j : ℕ) → ClassDisabled (masked 1 lock) 0 j
hidden j (zero, c, (t, e)) = unequal (cc)
hidden j (suc k, c, (t, e)) = let u = (unless_some (bit 1 (suc k)) None t e).1 in unequal (cc)

rests_justly : Just (masked 1 lock) (rests (masked_steps 1 lock.steps) refl)
rests_justly j below = inl (λ n. (n, omega arith, hidden j))

pub mask_spoils : MaskSpoils
mask_spoils = record {
  system = lock;
  lawful = lock_lawful;
  correct = lock_correct;
  mask = 1;
  spoilt = λ c. c.no_lockout (rests (masked_steps 1 lock.steps) refl) rests_justly 0 (omega arith) (0, λ i l. refl);
}

pub just_only_under_mask : JustOnlyUnderMask
just_only_under_mask = record {
  system = lock;
  lawful = lock_lawful;
  mask = 1;
  above = rests (masked_steps 1 lock.steps) refl;
  below = rests lock.steps refl;
  same = record { states = λ i. refl; steps = λ i. refl };
  just_above = rests_justly;
  not_below = λ just. lock_correct.no_lockout (rests lock.steps refl) just 0 (omega arith) (0, λ i l. refl);
}
