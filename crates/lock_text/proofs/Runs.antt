-- Where a run of bytes ends, by the bytes in front that pass. Assumes nothing.
use Rattle.std.proofs.Common.{◌≡◌, ℕ, ◌+◌, ◌-◌, ◌<◌, ◌≤◌, Bool, ◌⊎◌, List, length, get_or, drop, sym, ap, ◌∙◌, inl, inr, arith}
use Rattle.std.specs.List.{prefix_len}
use Rattle.std.proofs.lemmas.List.{get_or-drop, length-drop}
use Rattle.std.proofs.lemmas.List.Sums.{prefix_len-le-length, prefix_len_passes, prefix_len_stops}
use Rattle.std.proofs.lemmas.Bool.{cases_lt}
use Rattle.lock_text.specs.Lexing.{RunTo}

run_inside : (f : ℕ → Bool) (t : List ℕ) (a r : ℕ) → a ≤ length t → r ≡ prefix_len f (drop a t) → RunTo f t a (a + r)
run_inside f t a r h e =
    let len = length-drop a t in
    let few = prefix_len-le-length f (drop a t) in
    record {
      after = omega arith;
      within = λ h2. omega arith;
      beyond = λ past. omega arith;
      each = λ i ai ie.
          let s : a + (i - a) ≡ i = omega arith in
          sym (ap f (get_or-drop a t (i - a) 0 ∙ ap (λ j. get_or t j 0) s)) ∙ prefix_len_passes f (drop a t) (i - a) 0 (omega arith);
      stops = λ less. sym (ap f (get_or-drop a t r 0)) ∙ ap (λ n. f (get_or (drop a t) n 0)) e ∙ prefix_len_stops f (drop a t) 0 (omega arith);
    }

-- the bytes that pass in front of the place m, which is a, or the end where a is past it
pub run_from : (f : ℕ → Bool) (t : List ℕ) (a m r : ℕ) → (a ≤ length t → m ≡ a) → (length t ≤ a → length t ≤ m) → r ≡ prefix_len f (drop m t) → RunTo f t a (a + r)
run_from f t a m r inside past e = by (cases_lt a (length t))
  where
    by : (a < length t) ⊎ (length t ≤ a) → RunTo f t a (a + r)
    by (inl h) = run_inside f t a r (omega arith) (e ∙ ap (λ n. prefix_len f (drop n t)) (inside (omega arith)))
    by (inr h) =
        let len = length-drop m t in
        let few = prefix_len-le-length f (drop m t) in
        let all : length t ≤ m = past h in
        let none : r ≡ 0 = omega arith in
        record {
          after = omega arith;
          within = λ h2. omega arith;
          beyond = λ h2. omega arith;
          each = λ i ai ie. absurd (let z : ⊥ = omega arith in z);
          stops = λ less. absurd (let z : ⊥ = omega arith in z);
        }
