-- The laws of the two kinds. Assumes nothing.
use Rattle.std.specs.Prelude.{◌≡◌, ℕ, suc, Bool, true, false, ◌&&◌, ◌||◌, ◌⊎◌, List, ◌==◌, nat_lt, slice_index, refl}
use Rattle.std.proofs.Common.{sym, ◌∙◌, inl, inr, arith}
use Rattle.std.proofs.lemmas.Bool.{ltb-true, eqb-true, lt-ltb, eq-eqb, or_cases, and_parts}
use Rattle.rank.specs.Kinds.{Below, Same, single_kind, pair_kind}
use Rattle.rank.specs.Laws.{LawfulKind}
use Rattle.rank.specs.Falling.{Lower, numbers_never_fall, pairs_never_fall}

abbrev first : List ℕ → ℕ
first a = slice_index a 0

abbrev second : List ℕ → ℕ
second a = slice_index a 1

pub single_lawful : LawfulKind single_kind
single_lawful = record {
  same_refl = λ a. eq-eqb (first a) (first a) refl;
  same_sym = λ a b e. eq-eqb (first b) (first a) (sym (eqb-true (first a) (first b) e));
  same_trans = λ a b c e f. eq-eqb (first a) (first c) (eqb-true (first a) (first b) e ∙ eqb-true (first b) (first c) f);
  below_left = λ a b c e h.
      let s = eqb-true (first a) (first b) e in
      let l = ltb-true (first b) (first c) h in
      lt-ltb (first a) (first c) (omega arith);
  below_right = λ a b c h e.
      let l = ltb-true (first a) (first b) h in
      let s = eqb-true (first b) (first c) e in
      lt-ltb (first a) (first c) (omega arith);
  no_falling = λ f falls. numbers_never_fall (λ i. first (f i)) (λ i. ltb-true (first (f (suc i))) (first (f i)) (falls i));
}

either : (a b : Bool) → (a ≡ true) ⊎ (b ≡ true) → (a || b) ≡ true
either true b h = refl
either false b (inl h) = let z : ◌≡◌ {A = ℕ} 0 1 = cc in absurd (let f : ⊥ = omega arith in f)
either false b (inr h) = h

both : (a b : Bool) → a ≡ true → b ≡ true → (a && b) ≡ true
both true b h k = k
both false b h k = h

abbrev PairBelow : List ℕ → List ℕ → Type 0
PairBelow a b = Lower (first a) (second a) (first b) (second b)

abbrev PairSame : List ℕ → List ℕ → Type 0
PairSame a b = (first a ≡ first b) × (second a ≡ second b)

below_means : (a b : List ℕ) → Below pair_kind a b → PairBelow a b
below_means a b e = elim (or_cases (nat_lt (first a) (first b)) (first a == first b && nat_lt (second a) (second b)) e) [
  | inl l ↦ inl (ltb-true (first a) (first b) l)
  | inr r ↦ (let p = and_parts (first a == first b) (nat_lt (second a) (second b)) r in
      inr (eqb-true (first a) (first b) p.0, ltb-true (second a) (second b) p.1))
]

means_below : (a b : List ℕ) → PairBelow a b → Below pair_kind a b
means_below a b (inl h) = either (nat_lt (first a) (first b)) _ (inl (lt-ltb (first a) (first b) h))
means_below a b (inr (e, h)) =
    either (nat_lt (first a) (first b)) _
    (inr (both (first a == first b) (nat_lt (second a) (second b)) (eq-eqb _ _ e) (lt-ltb _ _ h)))

same_means : (a b : List ℕ) → Same pair_kind a b → PairSame a b
same_means a b e =
    let p = and_parts (first a == first b) (second a == second b) e in
    (eqb-true (first a) (first b) p.0, eqb-true (second a) (second b) p.1)

means_same : (a b : List ℕ) → PairSame a b → Same pair_kind a b
means_same a b (e, f) = both (first a == first b) (second a == second b) (eq-eqb _ _ e) (eq-eqb _ _ f)

left : (a b c : List ℕ) → PairSame a b → PairBelow b c → PairBelow a c
left a b c e (inl h) = inl (omega arith)
left a b c e (inr h) = inr (omega arith)

right : (a b c : List ℕ) → PairBelow a b → PairSame b c → PairBelow a c
right a b c (inl h) e = inl (omega arith)
right a b c (inr h) e = inr (omega arith)

pub pair_lawful : LawfulKind pair_kind
pair_lawful = record {
  same_refl = λ a. means_same a a (refl, refl);
  same_sym = λ a b e. let s = same_means a b e in means_same b a (sym s.0, sym s.1);
  same_trans = λ a b c e f.
      let s = same_means a b e in
      let t = same_means b c f in
      means_same a c (s.0 ∙ t.0, s.1 ∙ t.1);
  below_left = λ a b c e h. means_below a c (left a b c (same_means a b e) (below_means b c h));
  below_right = λ a b c h e. means_below a c (right a b c (below_means a b h) (same_means b c e));
  no_falling = λ f falls.
      pairs_never_fall (λ i. first (f i)) (λ i. second (f i)) (λ i. below_means (f (suc i)) (f i) (falls i));
}
