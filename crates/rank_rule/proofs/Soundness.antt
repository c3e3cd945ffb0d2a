-- A certificate that meets the rank rule shows the lock correct. Assumes nothing.
-- Along a just run on which p waits for ever, follow the rows of p at its states. From each row the rank falls or it is
-- kept with its class, which is enabled and not taken; justice ends that. So the rank falls again and again, for ever.
use Rattle.std.proofs.Common.{◌≡◌, ℕ, zero, suc, ◌<◌, ◌≤◌, ◌⊎◌, List, sym, refl, ◌∙◌, subst, inl, inr, arith}
use native.Mathlib.Decide.{le_ind}
use Rattle.system.specs.Transitions.{Waits}
use Rattle.system.specs.Runs.{Step, command, rest, Leads, Run}
use Rattle.system.specs.Justice.{FairSystem, Lawful, ClassEnabled, OfClass, InfinitelyOften, Just}
use Rattle.rank.specs.declared.Row.{Row}
use Rattle.rank.specs.Kinds.{Kind, Below, Same}
use Rattle.rank.specs.Laws.{LawfulKind}
use Rattle.rank.specs.Rows.{Falls}
use Rattle.rank_rule.specs.Certificate.{Certificate, Listed, RowAt}
use Rattle.rank_rule.specs.Rule.{StartListed, SuccessorsListed, RowsExact, ClassesEnabled, RanksFall}
use Rattle.rank_rule.specs.Claims.{RankRuleIsSound, RowsKeepOutLockout}

module _ (S : FairSystem) (C : Certificate) (start : StartListed S C) (closed : SuccessorsListed S C) where
  leads_listed : (s t : ℕ) (a : Step) → Listed C s → Leads S.steps s a t → Listed C t
  leads_listed s t (command k) h l = closed s k t h l
  leads_listed s t rest h e = subst (Listed C) e h

  -- a run visits listed states only
  visits_listed : (r : Run S.steps) (i : ℕ) → Listed C (r.state i)
  visits_listed r zero = subst (Listed C) (sym r.starts) start
  visits_listed r (suc i) = leads_listed (r.state i) (r.state (suc i)) (r.step i) (visits_listed r i) (r.goes i)

  module _ (K : Kind) (laws : LawfulKind K) (law : Lawful S) (p : ℕ)
      (exact : RowsExact S C p) (enabled : ClassesEnabled S C p) (falling : RanksFall K S C p) where
    -- what a step to t does to the row in which it is taken
    After : ℕ → Step → Row (List ℕ) → Type 0
    After t a row = (after : Row (List ℕ)) × RowAt C p t after × Falls K row after (OfClass S a row.class)

    advance : (s t : ℕ) (a : Step) (row : Row (List ℕ)) → RowAt C p s row → Leads S.steps s a t → Waits S.steps p t → After t a row
    unfolding After
    advance s t (command k) row at leads waits = falling s k row t at leads waits
    advance s t rest row at leads waits =
        (row, (at.0, at.1 ∙ leads), inr (laws.same_refl row.rank, refl, λ no_class. no_class))

    module _ (r : Run S.steps) (n : ℕ) (trying : (i : ℕ) → n ≤ i → Waits S.steps p (r.state i)) where
      -- a row of p at a moment of the run
      record Point : Type 0 where
        moment : ℕ
        late : n ≤ moment
        row : Row (List ℕ)
        at : RowAt C p (r.state moment) row

      onward : (x : Point) → After (r.state (suc x.moment)) (r.step x.moment) x.row
      onward x =
          advance (r.state x.moment) (r.state (suc x.moment)) (r.step x.moment) x.row x.at
          (r.goes x.moment) (trying (suc x.moment) (omega arith))

      Fell : Point → Type 0
      Fell x = (y : Point) × Below K y.row.rank x.row.rank

      Kept : Point → ℕ → Type 0
      Kept x m = (y : Point) × (y.moment ≡ m) × Same K y.row.rank x.row.rank × (y.row.class ≡ x.row.class)

      -- the point one moment after x
      next_point : (x : Point) (after : Row (List ℕ)) → RowAt C p (r.state (suc x.moment)) after → Point
      next_point x after at = record { moment = suc x.moment; late = omega arith; row = after; at = at }

      grow : (x y : Point) → Same K y.row.rank x.row.rank → y.row.class ≡ x.row.class
          → After (r.state (suc y.moment)) (r.step y.moment) y.row → Fell x ⊎ Kept x (suc y.moment)
      unfolding Fell Kept After next_point
      grow x y same one (after, at, inl below) = inl (next_point y after at, laws.below_right _ _ _ below same)
      grow x y same one (after, at, inr (same', one', _)) = inr (next_point y after at, refl, laws.same_trans _ _ _ same' same, one' ∙ one)

      -- up to each later moment the rank has fallen, or rank and class are kept
      until : (x : Point) (m : ℕ) → x.moment ≤ m → Fell x ⊎ Kept x m
      unfolding Kept
      until x = le_ind (λ m. Fell x ⊎ Kept x m) (inr (x, refl, laws.same_refl x.row.rank, refl)) further
        where
          further : (m : ℕ) → x.moment ≤ m → Fell x ⊎ Kept x m → Fell x ⊎ Kept x (suc m)
          further m _ (inl fell) = inl fell
          further m _ (inr (y, e, same, one)) = rw e at (grow x y same one (onward y))

      -- the class of a row is below the count of classes, so justice speaks of it
      known_class : (x : Point) → x.row.class < S.classes
      known_class x =
          let e = enabled (r.state x.moment) x.row x.at in
          (law.class_below e.0 x.row.class e.1).1

      when_disabled : (x : Point) (m : ℕ) → ¬ ClassEnabled S (r.state m) x.row.class → Fell x ⊎ Kept x m → Fell x
      unfolding Kept
      when_disabled x m disabled (inl fell) = fell
      when_disabled x m disabled (inr (y, e, _, one)) =
          absurd (disabled (rw (e, one) at (enabled (r.state y.moment) y.row y.at)))

      taken_now : (x y : Point) → OfClass S (r.step y.moment) x.row.class → Same K y.row.rank x.row.rank → y.row.class ≡ x.row.class
          → After (r.state (suc y.moment)) (r.step y.moment) y.row → Fell x
      unfolding Fell After next_point
      taken_now x y taken same one (after, at, inl below) = (next_point y after at, laws.below_right _ _ _ below same)
      taken_now x y taken same one (after, at, inr (_, _, free)) = absurd (free (rw one taken))

      when_taken : (x : Point) (m : ℕ) → OfClass S (r.step m) x.row.class → Fell x ⊎ Kept x m → Fell x
      unfolding Kept
      when_taken x m taken (inl fell) = fell
      when_taken x m taken (inr (y, e, same, one)) = taken_now x y (rw e taken) same one (onward y)

      first : Point
      first =
          let found = (exact (r.state n)).1 (visits_listed r n, trying n (omega arith)) in
          record { moment = n; late = omega arith; row = found.0; at = found.1 }

      module _ (just : Just S r) where
        must_fall : (x : Point) → Fell x
        must_fall x = by (just x.row.class (known_class x))
          where
            by : InfinitelyOften (λ i. ¬ ClassEnabled S (r.state i) x.row.class) ⊎ InfinitelyOften (λ i. OfClass S (r.step i) x.row.class) → Fell x
            by (inl often) = let (m, later, disabled) = often x.moment in when_disabled x m disabled (until x m later)
            by (inr often) = let (m, later, taken) = often x.moment in when_taken x m taken (until x m later)

        chain : ℕ → Point
        unfolding Fell
        chain zero = first
        chain (suc i) = (must_fall (chain i)).0

        contradiction : ⊥
        unfolding chain Fell
        contradiction = laws.no_falling (λ i. (chain i).row.rank) (λ i. (must_fall (chain i)).1)

pub rows_keep_out_lockout_lem : (K : Kind) → LawfulKind K → RowsKeepOutLockout K
rows_keep_out_lockout_lem K laws S law C start closed p exact enabled falling r just leaves =
    contradiction S C start closed K laws law p exact enabled falling r leaves.0 leaves.1 just

pub rank_rule_is_sound_lem : RankRuleIsSound
rank_rule_is_sound_lem K laws S law C rule = record {
  no_clash = λ r c.
      rule.no_listed_clash (r.state c.0) (visits_listed S C rule.start_listed rule.successors_listed r c.0) c.1;
  no_lockout = λ r just p process.
      rows_keep_out_lockout_lem K laws S law C rule.start_listed rule.successors_listed p
      (rule.rows_exact p process) (rule.classes_enabled p process) (rule.ranks_fall p process) r just;
}
