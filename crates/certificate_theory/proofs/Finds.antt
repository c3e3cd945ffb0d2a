-- A state found in a list is what the certificate says; and states out of range have no part in the rule. Assumes nothing.
use Rattle.std.proofs.Common.{◌≡◌, ℕ, ◌+◌, ◌*◌, ◌<◌, ◌≤◌, ◌⊎◌, List, length, Some, None, sym, refl, ap, ◌∙◌, subst, inl, inr, mul-le-mul_left, mul-add, arith}
use Rattle.byte_numbers.specs.Numbers.{number_at}
use Rattle.system.specs.Justice.{FairSystem, Lawful}
use Rattle.rank.specs.declared.Row.{Row}
use Rattle.rank.specs.Kinds.{Kind}
use Rattle.rank_rule.specs.Certificate.{Certificate, Listed, rows_of, RowAt, HasRow}
use Rattle.rank_rule.specs.Rule.{MeetsRule}
use Rattle.certificate_theory.specs.declared.clause.Clause.{Clause}
use Rattle.certificate_theory.specs.declared.clause.Clause.TheVariants.{StartListed, NoListedClash, SuccessorsListed, RowsExact, ClassesEnabled, RanksFall}
use Rattle.certificate_theory.specs.declared.limits.Limits.{Limits}
use Rattle.certificate_theory.specs.Fields.{list_end}
use Rattle.certificate_theory.specs.Reading.{Reads}
use Rattle.certificate_theory.specs.Content.{limits_of_lem, row_at, content, rows_start}
use Rattle.certificate_theory.specs.Lists.{state_of, Ascends, Found}
use Rattle.certificate_theory.specs.Judging.{HoldsAt, Holds}
use Rattle.certificate_theory.specs.Points.{OnlyRow}
use Rattle.certificate_theory.proofs.Entries.{listed_list, rows_list}
use Rattle.certificate_theory.proofs.Contents.{lists_past, place_listed, listed_place, row_place, place_row, row_place_of}

-- which of two numbers is below the other
compared : (i j : ℕ) → (i < j) ⊎ ((i ≡ j) ⊎ (j < i))
compared i j = grind arith

-- one entry for each state
one_entry : (bytes : List ℕ) (at w m : ℕ) → Ascends bytes at w m → (i j : ℕ) → i < m → j < m → state_of bytes at w i ≡ state_of bytes at w j → i ≡ j
one_entry bytes at w m up i j hi hj e = by (compared i j)
  where
    by : (i < j) ⊎ ((i ≡ j) ⊎ (j < i)) → i ≡ j
    by (inl l) = let u = up i j l hj in absurd (omega arith)
    by (inr (inl q)) = q
    by (inr (inr l)) = let u = up j i l hi in absurd (omega arith)

module _ (L : Limits) (bytes : List ℕ) where
  abbrev rows_at_of : ℕ → ℕ
  rows_at_of p = rows_start L.numbers bytes p

  pub found_listed : (s i : ℕ) → Found bytes 5 4 (number_at bytes 1) s (Some i) → Listed (content L bytes) s
  found_listed s i (h, e) = subst (Listed (content L bytes)) e (place_listed L bytes i h)

  pub found_unlisted : (s : ℕ) → Found bytes 5 4 (number_at bytes 1) s None → ¬ Listed (content L bytes) s
  found_unlisted s none has = let (i, h, e) = listed_place L bytes s has in none i h e

  pub no_row : (p s : ℕ) → p < L.processes → Found bytes (rows_at_of p + 4) (5 + 4 * L.numbers) (number_at bytes (rows_at_of p)) s None → ¬ HasRow (content L bytes) p s
  no_row p s below none (row, has) = let (i, h, _, e) = row_place_of L bytes p s row below has in none i h e

  -- a process that the system has not has no rows
  pub no_process : (p s : ℕ) → L.processes ≤ p → ¬ HasRow (content L bytes) p s
  no_process p s h (row, ((k, inside, _), _)) =
      let none = lists_past L.numbers bytes L.processes (list_end bytes 1 4) p h in
      let short : length (rows_of (content L bytes) p) ≡ 0 = ap length none in
      omega arith

  module _ (reads : Reads L bytes) where
    pub listed_below : (s : ℕ) → Listed (content L bytes) s → s < L.states
    listed_below s has =
        let (i, h, e) = listed_place L bytes s has in
        let b = (listed_list L bytes reads).below i h in
        omega arith

    pub row_below : (p s : ℕ) (row : Row (List ℕ)) → p < L.processes → RowAt (content L bytes) p s row → s < L.states
    row_below p s row below has =
        let (i, h, _, e) = row_place_of L bytes p s row below has in
        let b = (rows_list L bytes reads p below).below i h in
        omega arith

    -- the bytes of a row are there
    pub row_within : (p i : ℕ) → p < L.processes → i < number_at bytes (rows_at_of p) → row_place L bytes p i + (5 + 4 * L.numbers) ≤ length bytes
    row_within p i below h =
        let w = 5 + 4 * L.numbers in
        let m = number_at bytes (rows_at_of p) in
        let q : i + 1 ≤ m = omega arith in
        let a = mul-le-mul_left w q in
        let b = mul-add w i 1 in
        let c = (rows_list L bytes reads p below).within in
        omega arith

    pub only_row : (p s i : ℕ) → p < L.processes → Found bytes (rows_at_of p + 4) (5 + 4 * L.numbers) (number_at bytes (rows_at_of p)) s (Some i)
        → OnlyRow (content L bytes) p s (row_at L.numbers bytes (row_place L bytes p i))
    only_row p s i below (h, e) =
        (subst (λ t. RowAt (content L bytes) p t (row_at L.numbers bytes (row_place L bytes p i))) e (place_row L bytes p i below h), only)
      where
        only : (other : Row (List ℕ)) → RowAt (content L bytes) p s other → other ≡ row_at L.numbers bytes (row_place L bytes p i)
        only other has =
            let (j, l, o, f) = row_place_of L bytes p s other below has in
            let same = one_entry bytes (rows_at_of p + 4) (5 + 4 * L.numbers) (number_at bytes (rows_at_of p)) (rows_list L bytes reads p below).ascend j i l h (f ∙ sym e) in
            o ∙ ap (λ x. row_at L.numbers bytes (row_place L bytes p x)) same

module _ (K : Kind) (S : FairSystem) (law : Lawful S) (bytes : List ℕ) (reads : Reads (limits_of_lem K S) bytes) where
  abbrev C : Certificate
  C = content (limits_of_lem K S) bytes

  none_listed : (s : ℕ) → S.steps.states ≤ s → ¬ Listed C s
  none_listed s h has = let b = listed_below (limits_of_lem K S) bytes reads s has in omega arith

  none_row : (p s : ℕ) (row : Row (List ℕ)) → p < S.steps.processes → S.steps.states ≤ s → ¬ RowAt C p s row
  none_row p s row below h has = let b = row_below (limits_of_lem K S) bytes reads p s row below has in omega arith

  -- out of range each clause holds
  pub outside : (clause : Clause) (p s k : ℕ) → p < S.steps.processes → S.steps.states ≤ s → HoldsAt K S C clause p s k
  outside StartListed p s k below h = λ e. let b = law.steps.start_below in absurd (omega arith)
  outside NoListedClash p s k below h = λ has clash. none_listed s h has
  outside SuccessorsListed p s k below h = λ t has e. absurd (none_listed s h has)
  outside RowsExact p s k below h = ((λ has. absurd (none_row p s has.0 below h has.1)), (λ both. absurd (none_listed s h both.0)))
  outside ClassesEnabled p s k below h = λ row has. absurd (none_row p s row below h has)
  outside RanksFall p s k below h = λ row t has e waits. absurd (none_row p s row below h has)

module _ (K : Kind) (S : FairSystem) (law : Lawful S) (C : Certificate) where
  -- the rule is its clauses
  pub rule_from_clauses : ((clause : Clause) → Holds K S C clause) → MeetsRule K S C
  rule_from_clauses all =
      let one : 0 < S.steps.processes = omega (arith, law.steps.some_process) in
      record {
        start_listed = all StartListed 0 S.steps.start 0 one refl;
        no_listed_clash = λ s. all NoListedClash 0 s 0 one;
        successors_listed = λ s k. all SuccessorsListed 0 s k one;
        rows_exact = λ p below s. all RowsExact p s 0 below;
        classes_enabled = λ p below s. all ClassesEnabled p s 0 below;
        ranks_fall = λ p below s k. all RanksFall p s k below;
      }

  pub clauses_from_rule : MeetsRule K S C → (clause : Clause) → Holds K S C clause
  clauses_from_rule rule StartListed = λ p s k below e. subst (Listed C) (sym e) rule.start_listed
  clauses_from_rule rule NoListedClash = λ p s k below. rule.no_listed_clash s
  clauses_from_rule rule SuccessorsListed = λ p s k below. rule.successors_listed s k
  clauses_from_rule rule RowsExact = λ p s k below. rule.rows_exact p below s
  clauses_from_rule rule ClassesEnabled = λ p s k below. rule.classes_enabled p below s
  clauses_from_rule rule RanksFall = λ p s k below. rule.ranks_fall p below s k
