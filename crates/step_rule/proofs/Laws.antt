-- The system of a well-formed program is lawful.
use Rattle.std.proofs.Common.{◌≡◌, ℕ, zero, suc, ◌<◌, ◌≤◌, false, ◌&&◌, ltb, ◌⊎◌, length, replicate, Some, None, Option, refl, subst, inl, inr, arith}
use Rattle.std.proofs.lemmas.Bool.{le-ltb, and_left, and_right, cond-false}
use Rattle.std.proofs.lemmas.Option.{slice_get_within}
use Rattle.std.specs.List.{slice_get}
use Rattle.system.specs.Justice.{Lawful}
use Rattle.step_rule.specs.Programs.{Program, Command, DigitsBelow, GoodClass}
use Rattle.step_rule.specs.Codes.{IsState, WellFormed, state_count, state_of}
use Rattle.step_rule.specs.Rule.{start_state, after}
use Rattle.step_rule.specs.Meaning.{meaning_of, class_by}
use Rattle.step_rule.proofs.Digits.{code_below, state_there}
use Rattle.step_rule.proofs.Rules.{good_at, after_is_state, some_inside}

zeros_below : (n l : ℕ) → 0 < l → DigitsBelow (replicate n l) (replicate n 0)
zeros_below zero l h = tt
zeros_below (suc n) l h = (h, zeros_below n l h)

pub start_is_state : (p : Program) → WellFormed p → IsState p (start_state p)
start_is_state p wf = record { values_below = wf.initials_below; places_below = zeros_below p.processes (length p.locations) wf.some_location }

outside : (s n q m : ℕ) → (n ≤ s) ⊎ (m ≤ q) → (ltb s n && ltb q m) ≡ false
outside s n q m (inl h) = and_left (ltb s n) (ltb q m) (le-ltb s n h)
outside s n q m (inr h) = and_right (ltb s n) (ltb q m) (le-ltb q m h)

class_good : (j c : ℕ) (o : Option ℕ) → GoodClass j o → o ≡ Some c → c < j
class_good j c None g e = absurd (let z : ◌≡◌ {A = ℕ} 0 1 = cc in let b : ⊥ = omega arith in b)
class_good j c (Some d) g e = let same : d ≡ c = cc in omega arith

class_there : (p : Program) → WellFormed p → (k j : ℕ) → class_by (slice_get p.commands k) ≡ Some j → (k < length p.commands) × (j < p.classes)
class_there p wf k j e = go (slice_get p.commands k) refl e
  where
    go : (o : Option Command) → slice_get p.commands k ≡ o → class_by o ≡ Some j → (k < length p.commands) × (j < p.classes)
    go None f g = absurd (let z : ◌≡◌ {A = ℕ} 0 1 = cc in let b : ⊥ = omega arith in b)
    go (Some c) f g = (slice_get_within p.commands k c f, class_good p.classes j c.class (good_at p wf k c f).class_below g)

pub meaning_lawful : (p : Program) → WellFormed p → Lawful (meaning_of p)
meaning_lawful p wf = record {
  steps = record {
    some_process = wf.some_process;
    few_processes = wf.few_processes;
    few_commands = wf.few_commands;
    few_states = wf.few_states;
    start_below = code_below p (start_state p) (start_is_state p wf);
    next_below = λ s k t e.
        let w = some_inside p s k t e in
        let c = w.1.0 in
        (w.0, slice_get_within p.commands k c w.1.1, subst (λ n. n < state_count p) w.1.3 (code_below p (after p c (state_of p s)) (after_is_state p c (good_at p wf k c w.1.1) (state_of p s) (state_there p s w.0))));
    region_outside = λ s q o. cond-false _ _ _ (outside s (state_count p) q p.processes o);
  };
  few_classes = wf.few_classes;
  class_below = class_there p wf;
}
