-- The first fault of reading decides, and it is one. Assumes nothing.
use Rattle.std.proofs.Common.{◌≡◌, ℕ, ◌+◌, ◌≤◌, Bool, true, false, cond, ltb, leb, ◌⊎◌, List, [], ◌∷◌, ◌++◌, length, Some, None, Option, sym, refl, ap, ◌∙◌, subst, inl, inr, arith}
use Rattle.std.proofs.lemmas.Bool.{ltb-true, ltb-false, lt-ltb, le-ltb, leb-true, leb-false, le-leb, lt-leb}
use Rattle.certificate_theory.specs.declared.limits.Limits.{Limits}
use Rattle.certificate_theory.specs.declared.refusal.Refusal.{Refusal}
use Rattle.certificate_theory.specs.declared.refusal.Refusal.TheVariants.{Length}
use Rattle.certificate_theory.specs.Fields.{Field, width, widths, fields}
use Rattle.certificate_theory.specs.Reading.{Right, AllRight, Reads, Fault, ReadingRefused, is_right, first_of, fault, field_fault, first_fault, reading_fault, is_none, reads_whole}
use Rattle.certificate_theory.proofs.Tests.{true_or_false, not_both, right_means, means_right}

-- Answers of two tests in a row.
both_none : {A : Type 0} (a b : Bool) (x y : A) → cond a (cond b None (Some x)) (Some y) ≡ None → (a ≡ true) × (b ≡ true)
both_none true true x y e = (refl, refl)
both_none true false x y e = let z : ◌≡◌ {A = ℕ} 0 1 = cc in absurd (let f : ⊥ = omega arith in f)
both_none false b x y e = let z : ◌≡◌ {A = ℕ} 0 1 = cc in absurd (let f : ⊥ = omega arith in f)

one_some : {A : Type 0} (a b : Bool) (x y z : A) → cond a (cond b None (Some x)) (Some y) ≡ Some z
    → ((a ≡ false) × (z ≡ y)) ⊎ ((a ≡ true) × (b ≡ false) × (z ≡ x))
one_some true true x y z e = let n : ◌≡◌ {A = ℕ} 0 1 = cc in absurd (let f : ⊥ = omega arith in f)
one_some true false x y z e = inr (refl, refl, cc)
one_some false b x y z e = inl (refl, cc)

passed : {A : Type 0} (a b : Bool) (x y : A) → a ≡ true → b ≡ true → cond a (cond b None (Some x)) (Some y) ≡ None
passed true true x y ea eb = refl
passed true false x y ea eb = let z : ◌≡◌ {A = ℕ} 0 1 = cc in absurd (let f : ⊥ = omega arith in f)
passed false b x y ea eb = let z : ◌≡◌ {A = ℕ} 0 1 = cc in absurd (let f : ⊥ = omega arith in f)

cut : {A : Type 0} (a b : Bool) (x y : A) → a ≡ false → cond a (cond b None (Some x)) (Some y) ≡ Some y
cut false b x y e = refl
cut true b x y e = let z : ◌≡◌ {A = ℕ} 0 1 = cc in absurd (let f : ⊥ = omega arith in f)

wrong : {A : Type 0} (a b : Bool) (x y : A) → a ≡ true → b ≡ false → cond a (cond b None (Some x)) (Some y) ≡ Some x
wrong true false x y ea eb = refl
wrong true true x y ea eb = let z : ◌≡◌ {A = ℕ} 0 1 = cc in absurd (let f : ⊥ = omega arith in f)
wrong false b x y ea eb = let z : ◌≡◌ {A = ℕ} 0 1 = cc in absurd (let f : ⊥ = omega arith in f)

none_of : (a b : Option Refusal) → first_of a b ≡ None → (a ≡ None) × (b ≡ None)
none_of (Some x) b e = let z : ◌≡◌ {A = ℕ} 0 1 = cc in absurd (let f : ⊥ = omega arith in f)
none_of None b e = (refl, e)

some_of : (a b : Option Refusal) (e : Refusal) → first_of a b ≡ Some e → (a ≡ Some e) ⊎ ((a ≡ None) × (b ≡ Some e))
some_of (Some x) b e h = inl h
some_of None b e h = inr (refl, h)

pub first_of_none : (a b : Option Refusal) → a ≡ None → first_of a b ≡ b
first_of_none a b e = ap (λ o. first_of o b) e

pub first_of_some : (a b : Option Refusal) (e : Refusal) → a ≡ Some e → first_of a b ≡ Some e
first_of_some a b e h = ap (λ o. first_of o b) h

pub first_of_assoc : (a b c : Option Refusal) → first_of (first_of a b) c ≡ first_of a (first_of b c)
first_of_assoc (Some x) b c = refl
first_of_assoc None b c = refl

pub widths_append : (fs gs : List Field) → widths (fs ++ gs) ≡ widths fs + widths gs
widths_append [] gs = omega arith
widths_append (f ∷ fs) gs = let h = widths_append fs gs in omega arith

module _ (L : Limits) (bytes : List ℕ) where
  field_right : (at : ℕ) (f : Field) → field_fault L bytes at f ≡ None → Right L bytes at f
  field_right at f e =
      let p = both_none (leb (at + width f) (length bytes)) (is_right L bytes at f) (fault at f) (Length at) e in
      (leb-true (at + width f) (length bytes) p.0, right_means L bytes at f p.1)

  right_field : (at : ℕ) (f : Field) → Right L bytes at f → field_fault L bytes at f ≡ None
  right_field at f r =
      passed (leb (at + width f) (length bytes)) (is_right L bytes at f) (fault at f) (Length at)
      (le-leb (at + width f) (length bytes) r.0) (means_right L bytes at f r.1)

  field_wrong : (at : ℕ) (f : Field) (e : Refusal) → field_fault L bytes at f ≡ Some e → Fault L bytes at f e
  field_wrong at f e h = elim (one_some (leb (at + width f) (length bytes)) (is_right L bytes at f) (fault at f) (Length at) e h) [
    | inl p ↦ inl (leb-false (at + width f) (length bytes) p.0, p.1)
    | inr p ↦ inr (
      leb-true (at + width f) (length bytes) p.0,
      (λ r. not_both (is_right L bytes at f) (means_right L bytes at f r) p.1),
      p.2,
    )
  ]

  wrong_field : (at : ℕ) (f : Field) (e : Refusal) → Fault L bytes at f e → field_fault L bytes at f ≡ Some e
  wrong_field at f e (inl (l, h)) =
      cut (leb (at + width f) (length bytes)) (is_right L bytes at f) (fault at f) (Length at) (lt-leb (at + width f) (length bytes) l)
      ∙ ap Some (sym h)
  wrong_field at f e (inr (l, n, h)) = by (true_or_false (is_right L bytes at f))
    where
      by : (is_right L bytes at f ≡ true) ⊎ (is_right L bytes at f ≡ false) → field_fault L bytes at f ≡ Some e
      by (inl t) = absurd (n (right_means L bytes at f t))
      by (inr w) =
          wrong (leb (at + width f) (length bytes)) (is_right L bytes at f) (fault at f) (Length at) (le-leb (at + width f) (length bytes) l) w
          ∙ ap Some (sym h)

  pub none_right : (fs : List Field) (at : ℕ) → first_fault L bytes at fs ≡ None → AllRight L bytes at fs
  none_right [] at e = tt
  none_right (f ∷ fs) at e =
      let p = none_of (field_fault L bytes at f) (first_fault L bytes (at + width f) fs) e in
      (field_right at f p.0, none_right fs (at + width f) p.1)

  pub right_none : (fs : List Field) (at : ℕ) → AllRight L bytes at fs → first_fault L bytes at fs ≡ None
  right_none [] at r = refl
  right_none (f ∷ fs) at (r, rs) =
      first_of_none (field_fault L bytes at f) (first_fault L bytes (at + width f) fs) (right_field at f r) ∙ right_none fs (at + width f) rs

  -- the fields before the first fault, and that fault
  record Split (at : ℕ) (fs : List Field) (e : Refusal) : Type 0 where
    before : List Field
    field : Field
    after : List Field
    in_order : fs ≡ before ++ (field ∷ after)
    right_before : AllRight L bytes at before
    refused : Fault L bytes (at + widths before) field e

  some_split : (fs : List Field) (at : ℕ) (e : Refusal) → first_fault L bytes at fs ≡ Some e → Split at fs e
  some_split [] at e h = let z : ◌≡◌ {A = ℕ} 0 1 = cc in absurd (let f : ⊥ = omega arith in f)
  some_split (f ∷ fs) at e h = by (λ g. some_split fs (at + width f) e g) (some_of (field_fault L bytes at f) (first_fault L bytes (at + width f) fs) e h)
    where
      by : (first_fault L bytes (at + width f) fs ≡ Some e → Split (at + width f) fs e)
          → (field_fault L bytes at f ≡ Some e) ⊎ ((field_fault L bytes at f ≡ None) × (first_fault L bytes (at + width f) fs ≡ Some e)) → Split at (f ∷ fs) e
      by on (inl g) = record {
        before = [];
        field = f;
        after = fs;
        in_order = refl;
        right_before = tt;
        refused = subst (λ n. Fault L bytes n f e) (let q : at ≡ at + 0 = omega arith in q) (field_wrong at f e g);
      }
      by on (inr (n, g)) =
          let s = on g in
          record {
            before = f ∷ s.before;
            field = s.field;
            after = s.after;
            in_order = ap (λ l. f ∷ l) s.in_order;
            right_before = (field_right at f n, s.right_before);
            refused = subst (λ n. Fault L bytes n s.field e) (let q : (at + width f) + widths s.before ≡ at + (width f + widths s.before) = omega arith in q) s.refused;
          }

  split_some : (before : List Field) (f : Field) (after : List Field) (at : ℕ) (e : Refusal)
      → AllRight L bytes at before → Fault L bytes (at + widths before) f e → first_fault L bytes at (before ++ (f ∷ after)) ≡ Some e
  split_some [] f after at e r w =
      first_of_some (field_fault L bytes at f) (first_fault L bytes (at + width f) after) e
      (wrong_field at f e (subst (λ n. Fault L bytes n f e) (let q : at + 0 ≡ at = omega arith in q) w))
  split_some (g ∷ before) f after at e (r, rs) w =
      first_of_none (field_fault L bytes at g) (first_fault L bytes (at + width g) (before ++ (f ∷ after))) (right_field at g r)
      ∙ split_some before f after (at + width g) e rs
      (subst (λ n. Fault L bytes n f e) (let q : at + (width g + widths before) ≡ (at + width g) + widths before = omega arith in q) w)

  -- what is right lies within the bytes
  pub right_within : (fs : List Field) (at : ℕ) → at ≤ length bytes → AllRight L bytes at fs → at + widths fs ≤ length bytes
  right_within [] at h r = omega arith
  right_within (f ∷ fs) at h (r, rs) = let w = r.0 in let k = right_within fs (at + width f) w rs in omega arith

  pub right_append : (fs gs : List Field) (at : ℕ) → AllRight L bytes at (fs ++ gs) → AllRight L bytes at fs × AllRight L bytes (at + widths fs) gs
  right_append [] gs at r = (tt, subst (λ n. AllRight L bytes n gs) (let q : at ≡ at + 0 = omega arith in q) r)
  right_append (f ∷ fs) gs at (r, rs) =
      let (p, q) = right_append fs gs (at + width f) rs in
      ((r, p), subst (λ n. AllRight L bytes n gs) (let e : (at + width f) + widths fs ≡ at + (width f + widths fs) = omega arith in e) q)

  pub fault_append : (fs gs : List Field) (at : ℕ)
      → first_fault L bytes at (fs ++ gs) ≡ first_of (first_fault L bytes at fs) (first_fault L bytes (at + widths fs) gs)
  fault_append [] gs at = ap (λ n. first_fault L bytes n gs) (let q : at ≡ at + 0 = omega arith in q)
  fault_append (f ∷ fs) gs at =
      ap (first_of (field_fault L bytes at f)) (fault_append fs gs (at + width f)
      ∙ ap (λ n. first_of (first_fault L bytes (at + width f) fs) (first_fault L bytes n gs)) (let q : (at + width f) + widths fs ≡ at + (width f + widths fs) = omega arith in q))
      ∙ sym (first_of_assoc (field_fault L bytes at f) (first_fault L bytes (at + width f) fs) (first_fault L bytes (at + (width f + widths fs)) gs))

  surplus_fault : Option Refusal
  surplus_fault = cond (ltb (widths (fields L bytes)) (length bytes)) (Some (Length (widths (fields L bytes)))) None

  surplus_none : (b : Bool) (e : Refusal) → cond b (Some e) None ≡ None → b ≡ false
  surplus_none true e h = let z : ◌≡◌ {A = ℕ} 0 1 = cc in absurd (let f : ⊥ = omega arith in f)
  surplus_none false e h = refl

  surplus_some : (b : Bool) (e d : Refusal) → cond b (Some e) None ≡ Some d → (b ≡ true) × (d ≡ e)
  surplus_some true e d h = (refl, cc)
  surplus_some false e d h = let z : ◌≡◌ {A = ℕ} 0 1 = cc in absurd (let f : ⊥ = omega arith in f)

  pub fault_none : reading_fault L bytes ≡ None → Reads L bytes
  fault_none h =
      let p = none_of (first_fault L bytes 0 (fields L bytes)) _ h in
      let r = none_right (fields L bytes) 0 p.0 in
      let w = right_within (fields L bytes) 0 (omega arith) r in
      let s = ltb-false (widths (fields L bytes)) (length bytes) (surplus_none _ (Length (widths (fields L bytes))) p.1) in
      record { fields_right = r; no_surplus = omega arith }

  pub none_fault : Reads L bytes → reading_fault L bytes ≡ None
  none_fault r =
      let n = r.no_surplus in
      first_of_none (first_fault L bytes 0 (fields L bytes)) _ (right_none (fields L bytes) 0 r.fields_right)
      ∙ ap (λ b. cond b (Some (Length (widths (fields L bytes)))) None) (le-ltb (widths (fields L bytes)) (length bytes) (omega arith))

  pub fault_some : (e : Refusal) → reading_fault L bytes ≡ Some e → ReadingRefused L bytes e
  fault_some e h = by (some_of (first_fault L bytes 0 (fields L bytes)) _ e h)
    where
      by : (first_fault L bytes 0 (fields L bytes) ≡ Some e)
          ⊎ ((first_fault L bytes 0 (fields L bytes) ≡ None) × (cond (ltb (widths (fields L bytes)) (length bytes)) (Some (Length (widths (fields L bytes)))) None ≡ Some e))
          → ReadingRefused L bytes e
      by (inl g) =
          let s = some_split (fields L bytes) 0 e g in
          inl (record {
            before = s.before;
            field = s.field;
            after = s.after;
            in_order = s.in_order;
            right_before = s.right_before;
            refused = subst (λ n. Fault L bytes n s.field e) (let q : 0 + widths s.before ≡ widths s.before = omega arith in q) s.refused;
          })
      by (inr (n, g)) =
          let p = surplus_some _ (Length (widths (fields L bytes))) e g in
          inr (record {
            fields_right = none_right (fields L bytes) 0 n;
            surplus = ltb-true (widths (fields L bytes)) (length bytes) p.0;
            refused = p.1;
          })

  pub some_fault : (e : Refusal) → ReadingRefused L bytes e → reading_fault L bytes ≡ Some e
  some_fault e (inl r) =
      first_of_some (first_fault L bytes 0 (fields L bytes)) _ e
      (ap (first_fault L bytes 0) r.in_order
      ∙ split_some r.before r.field r.after 0 e r.right_before
      (subst (λ n. Fault L bytes n r.field e) (let q : widths r.before ≡ 0 + widths r.before = omega arith in q) r.refused))
  some_fault e (inr r) =
      first_of_none (first_fault L bytes 0 (fields L bytes)) _ (right_none (fields L bytes) 0 r.fields_right)
      ∙ ap (λ b. cond b (Some (Length (widths (fields L bytes)))) None) (lt-ltb (widths (fields L bytes)) (length bytes) r.surplus)
      ∙ ap Some (sym r.refused)

-- a test that reading finds no fault
pub whole_reads : (L : Limits) (bytes : List ℕ) → reads_whole L bytes ≡ true → Reads L bytes
whole_reads L bytes h = by (reading_fault L bytes) refl h
  where
    by : (o : Option Refusal) → reading_fault L bytes ≡ o → is_none o ≡ true → Reads L bytes
    by (Some e) is w = let z : ◌≡◌ {A = ℕ} 0 1 = cc in absurd (let f : ⊥ = omega arith in f)
    by None is w = fault_none L bytes is

pub reads_are_whole : (L : Limits) (bytes : List ℕ) → Reads L bytes → reads_whole L bytes ≡ true
reads_are_whole L bytes r = ap is_none (none_fault L bytes r)
