-- Runs and justice under a mask. Assumes nothing.
use Rattle.std.proofs.Common.{◌≡◌, ℕ, suc, Bool, true, false, ◌⊎◌, Some, None, Option, sym, refl, ap, ◌∙◌, subst, inl, inr, arith}
use Rattle.std.proofs.lemmas.Bool.{cases_Bool}
use Rattle.system.specs.Transitions.{Transitions}
use Rattle.system.specs.Runs.{Step, command, rest, Leads, Run}
use Rattle.system.specs.Justice.{FairSystem, ClassDisabled, OfClass, InfinitelyOften}
use Rattle.system.specs.Masks.{bit, unless, masked_steps, masked}
use Rattle.system.specs.MaskLaws.{unless_some}
use Rattle.system_laws.specs.Masking.{SameCourse, MaskedRunsTakeNoMaskedCommand, MaskedClasses, JusticeCarriesUp, ClasslessMasksKeepJustice, MasksBringNoClash}

unless_false : {A : Type 0} (b : Bool) (o : Option A) → b ≡ false → unless b o ≡ o
unless_false b o e = ap (λ z. unless z o) e

module _ (m : ℕ) (T : Transitions) where
  leads_down : (s t : ℕ) (a : Step) → Leads (masked_steps m T) s a t → Leads T s a t
  leads_down s t (command k) l = (unless_some (bit m k) (T.next s k) t l).1
  leads_down s t rest l = l

  not_hidden : (s t k : ℕ) (a : Step) → Leads (masked_steps m T) s a t → a ≡ command k → bit m k ≡ false
  not_hidden s t k a l e = (unless_some (bit m k) (T.next s k) t (subst (λ b. Leads (masked_steps m T) s b t) e l)).0

  leads_up : (s t : ℕ) (a : Step) → ((k : ℕ) → a ≡ command k → bit m k ≡ false) → Leads T s a t → Leads (masked_steps m T) s a t
  leads_up s t (command k) left l = unless_false (bit m k) (T.next s k) (left k refl) ∙ l
  leads_up s t rest left l = l

  -- The same course, without the mask.
  pub unmasked : Run (masked_steps m T) → Run T
  unmasked r = record {
    state = r.state;
    step = r.step;
    starts = r.starts;
    goes = λ i. leads_down (r.state i) (r.state (suc i)) (r.step i) (r.goes i);
  }

pub masked_runs : MaskedRunsTakeNoMaskedCommand
unfolding unmasked
masked_runs m T = record {
  are_below = λ r. (
    unmasked m T r,
    record { states = λ i. refl; steps = λ i. refl },
    (λ i k e. not_hidden m T (r.state i) (r.state (suc i)) k (r.step i) (r.goes i) e),
  );
  are_all = λ q none. (
    record {
      state = q.state;
      step = q.step;
      starts = q.starts;
      goes = λ i. leads_up m T (q.state i) (q.state (suc i)) (q.step i) (none i) (q.goes i);
    },
    record { states = λ i. refl; steps = λ i. refl },
  );
}

pub masked_classes_lem : MaskedClasses
masked_classes_lem m S s j = (
  (λ (k, c, (t, e)). let u = unless_some (bit m k) (S.steps.next s k) t e in (k, u.0, c, (t, u.1))),
  (λ (k, b, c, (t, e)). (k, c, (t, unless_false (bit m k) (S.steps.next s k) b ∙ e))),
)

module _ (m : ℕ) (S : FairSystem) (r : Run (masked_steps m S.steps)) (q : Run S.steps) (same : SameCourse r q) where
  of_class_up : (a : Step) (j : ℕ) → OfClass S a j → OfClass (masked m S) a j
  of_class_up (command k) j h = h
  of_class_up rest j h = h

  of_class_down : (a : Step) (j : ℕ) → OfClass (masked m S) a j → OfClass S a j
  of_class_down (command k) j h = h
  of_class_down rest j h = h

  -- What is disabled below is disabled above.
  disabled_up : (i j : ℕ) → ClassDisabled S (q.state i) j → ClassDisabled (masked m S) (r.state i) j
  disabled_up i j d h =
      let (k, b, c, e) = (masked_classes_lem m S (r.state i) j).0 h in
      d (k, c, subst (λ s. (t : ℕ) × (S.steps.next s k ≡ Some t)) (same.states i) e)

  taken_up : (i j : ℕ) → OfClass S (q.step i) j → OfClass (masked m S) (r.step i) j
  taken_up i j h = subst (λ a. OfClass (masked m S) a j) (sym (same.steps i)) (of_class_up (q.step i) j h)

  taken_down : (i j : ℕ) → OfClass (masked m S) (r.step i) j → OfClass S (q.step i) j
  taken_down i j h = subst (λ a. OfClass S a j) (same.steps i) (of_class_down (r.step i) j h)

  -- Where no masked command has a class, what is disabled above is disabled below.
  disabled_down : ((k : ℕ) → bit m k ≡ true → S.class k ≡ None) → (i j : ℕ) → ClassDisabled (masked m S) (r.state i) j → ClassDisabled S (q.state i) j
  disabled_down classless i j d (k, c, e) = by (cases_Bool (bit m k))
    where
      by : (bit m k ≡ true) ⊎ (bit m k ≡ false) → ⊥
      by (inl hidden) = let n = classless k hidden in let z : ◌≡◌ {A = ℕ} 0 1 = cc in omega arith
      by (inr left) = d ((masked_classes_lem m S (r.state i) j).1 (k, left, c, subst (λ s. (t : ℕ) × (S.steps.next s k ≡ Some t)) (sym (same.states i)) e))

-- What happens again and again, and brings another thing with it, brings that again and again.
often : (P Q : ℕ → Type 0) → ((i : ℕ) → P i → Q i) → InfinitelyOften P → InfinitelyOften Q
often P Q f h n = let (i, l, p) = h n in (i, l, f i p)

pub justice_carries_up_lem : JusticeCarriesUp
justice_carries_up_lem m S r q same just j below = elim (just j below) [
  | inl d ↦ inl (often _ _ (λ i. disabled_up m S r q same i j) d)
  | inr t ↦ inr (often _ _ (λ i. taken_up m S r q same i j) t)
]

pub classless_masks_keep_justice_lem : ClasslessMasksKeepJustice
classless_masks_keep_justice_lem m S classless r q same = (
  justice_carries_up_lem m S r q same,
  (λ just j below. elim (just j below) [
    | inl d ↦ inl (often _ _ (λ i. disabled_down m S r q same classless i j) d)
    | inr t ↦ inr (often _ _ (λ i. taken_down m S r q same i j) t)
  ]),
)

pub masks_bring_no_clash_lem : MasksBringNoClash
unfolding unmasked
masks_bring_no_clash_lem m T free r (i, clash) = free (unmasked m T r) (i, clash)
