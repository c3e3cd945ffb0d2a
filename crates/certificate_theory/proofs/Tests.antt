-- The tests of reading say what they stand for. Assumes nothing.
use Rattle.std.proofs.Common.{◌≡◌, ℕ, Bool, true, false, ◌&&◌, ltb, ◌⊎◌, List, get_or, Some, None, Option, refl, inl, inr, arith}
use Rattle.std.proofs.lemmas.Bool.{ltb-true, eqb-true, lt-ltb, eq-eqb, and_parts}
use Rattle.byte_numbers.specs.Numbers.{number_at}
use Rattle.certificate_theory.specs.declared.limits.Limits.{Limits}
use Rattle.certificate_theory.specs.Fields.{Field, kind, count, state, class, number}
use Rattle.certificate_theory.specs.Reading.{Above, RightContent, is_above_lem, is_right}

pub true_or_false : (b : Bool) → (b ≡ true) ⊎ (b ≡ false)
true_or_false true = inl refl
true_or_false false = inr refl

pub not_both : (b : Bool) → b ≡ true → b ≡ false → ⊥
not_both b t f = let z : ◌≡◌ {A = ℕ} 0 1 = cc in omega arith

both : (a b : Bool) → a ≡ true → b ≡ true → (a && b) ≡ true
both true b h k = k
both false b h k = h

above_means : (o : Option ℕ) (s : ℕ) → is_above_lem o s ≡ true → Above o s
above_means None s e = tt
above_means (Some b) s e = ltb-true b s e

means_above : (o : Option ℕ) (s : ℕ) → Above o s → is_above_lem o s ≡ true
means_above None s h = refl
means_above (Some b) s h = lt-ltb b s h

module _ (L : Limits) (bytes : List ℕ) (at : ℕ) where
  pub right_means : (f : Field) → is_right L bytes at f ≡ true → RightContent L bytes at f
  right_means kind e = eqb-true (get_or bytes at 0) L.kind e
  right_means count e = tt
  right_means (state before) e =
      let p = and_parts (ltb (number_at bytes at) L.states) (is_above_lem before (number_at bytes at)) e in
      (ltb-true (number_at bytes at) L.states p.0, above_means before (number_at bytes at) p.1)
  right_means class e = ltb-true (get_or bytes at 0) L.classes e
  right_means number e = tt

  pub means_right : (f : Field) → RightContent L bytes at f → is_right L bytes at f ≡ true
  means_right kind h = eq-eqb (get_or bytes at 0) L.kind h
  means_right count h = refl
  means_right (state before) h =
      both (ltb (number_at bytes at) L.states) (is_above_lem before (number_at bytes at))
      (lt-ltb (number_at bytes at) L.states h.0) (means_above before (number_at bytes at) h.1)
  means_right class h = lt-ltb (get_or bytes at 0) L.classes h
  means_right number h = refl
