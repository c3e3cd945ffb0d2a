-- Facts for code that reads assignments without counting them. Assumes nothing.
use Rattle.std.proofs.Common.{◌≡◌, ℕ, zero, ◌<◌, ◌≤◌, Bool, true, false, List, [], ◌∷◌, ◌++◌, length, sym, refl, ap, ◌∙◌, arith, length-append}
use Rattle.lock_text.specs.Spelling.{Lexeme}
use Rattle.token_stream.specs.Streams.{Stream, token, fault, end}
use Rattle.expression.specs.Tree.{number}
use Rattle.step_rule.specs.Programs.{Assignment}
use Rattle.lock_grammar.specs.Names.{Name}
use Rattle.lock_grammar.specs.Combinators.{Position, Reader, then, next, Verdict, takes, refuses, taken_if, judged, by_verdict, one}
use Rattle.lock_grammar.specs.Tests.{declared, spared, target_by, unassigned, all_assigned, none_left}
use Rattle.lock_grammar.specs.Reading.{assigned_to, assigning}
use Rattle.lock_grammar.proofs.Telling.{known_told, spared_told}
use Rattle.lock_grammar.proofs.Good.{SoundList, known_below, list_push, no_more_than_variables, all_below}

-- where every variable is assigned, a variable is assigned already
full_spared : (n v : ℕ) (before : List Assignment) → v < n → SoundList n before → n ≤ length before → (b : Bool) → spared v before ≡ b → b ≡ false
full_spared n v before small good full false e = refl
full_spared n v before small good full true e =
    let a : Assignment = record { target = v; source = number 0 } in
    let g = list_push n before a good (small, (omega arith, omega arith)) (spared_told v before e) in
    let few = no_more_than_variables n (before ++ (a ∷ [])) (all_below n (before ++ (a ∷ [])) g.0) g.1 in
    absurd (omega (arith, length-append before (a ∷ [])))

module _ (variables : List Name) (before : List Assignment) (good : SoundList (length variables) before) (full : length variables ≤ length before) where
  -- the same verdict, but for what it would have taken
  abbrev Alike : Verdict (List Assignment) → Verdict ℕ → Type 0
  Alike u v = (n : ℕ) × (u ≡ refuses n) × (v ≡ refuses n)

  alike_by : (l : Lexeme) (d : Verdict ℕ) → declared variables l ≡ d → Alike (all_assigned d) (target_by before d)
  alike_by l (takes v) e = (7, refl, ap (λ b. taken_if b 7 v) (full_spared (length variables) v before (known_below (known_told variables l v e)) good full (spared v before) refl))
  alike_by l (refuses n) e = (n, refl, refl)

  alike : (x : Stream) → Alike (judged (none_left variables) x) (judged (unassigned variables before) x)
  unfolding none_left unassigned
  alike (token l i x) = alike_by l (declared variables l) refl
  alike (fault i) = (2, refl, refl)
  alike (end i) = (3, refl, refl)

  -- a reader that asks for a variable not assigned before comes to the same
  pub none_left_is : (k : ℕ → Reader (List Assignment)) (s : Position) → one (none_left variables) s ≡ next (one (unassigned variables before)) k s
  unfolding one next
  none_left_is k s =
      let a = alike s.rest in
      ap (λ v. by_verdict v s) a.1 ∙ sym (ap (λ v. then (by_verdict v s) k) a.2)

  -- so the count may be left out
  pub assigning_is : (n : ℕ) (s : Position) → assigning variables zero before s ≡ next (one (unassigned variables before)) (assigned_to variables (assigning variables n) before) s
  unfolding assigning
  assigning_is n s = none_left_is (assigned_to variables (assigning variables n) before) s
