-- The answer is right, and what acceptance proves.
use Rattle.std.proofs.Common.{◌≡◌, ℕ, List, get_or, Ok, Err, Result, sym, ap, ◌∙◌, subst, inl, inr, MatchResult, OnOk}
use Rattle.byte_numbers.specs.Numbers.{Bytes}
use Rattle.system.specs.Runs.{Run, LeavesTrying}
use Rattle.system.specs.Justice.{FairSystem, Lawful, Just}
use Rattle.lasso.proofs.Lasso.{clash_run_reaches_clash_lem, lockout_leaves_trying_lem}
use Rattle.run_refusal.specs.declared.RunRefusal.{RunRefusal}
use Rattle.run_rules.specs.Layout.{BadBytes, clash_bytes, lockout_bytes}
use Rattle.run_rules.specs.Judging.{run_answer}
use Rattle.run_rules.specs.Causes.{RightRefusal}
use Rattle.run_rules.specs.Claims.{Condemned, BadBytesAreNotRefused, BadBytesCondemn}
use Rattle.run_rules.proofs.Judged.{Answered, answered, bad_none, fields_accepted}
use Rattle.run_rules.proofs.Encoding.{bad_bytes, bad_fields}

pub bad_bytes_are_not_refused_lem : BadBytesAreNotRefused
bad_bytes_are_not_refused_lem S law bs bad e right = bad_none S law bs (bad_fields S law bs bad) e right.holds

pub bad_bytes_condemn_lem : BadBytesCondemn
bad_bytes_condemn_lem S bs (clash_bytes stem few c e) =
    inl (ap (λ l. get_or l 0 0) e, clash_run_reaches_clash_lem S.steps stem c)
bad_bytes_condemn_lem S bs (lockout_bytes p stem loop few few' c e) =
    let q : get_or bs 1 0 ≡ p = ap (λ l. get_or l 1 0) e in
    let P : ℕ → Type 0 = λ k. (r : Run S.steps) × Just S r × LeavesTrying r k in
    let (r, _, just, leaves) = lockout_leaves_trying_lem S p stem loop c in
    inr (ap (λ l. get_or l 0 0) e, subst P (sym q) (r, just, leaves))

module _ (S : FairSystem) (law : Lawful S) (bs : List ℕ) where
  abbrev pub Right : Result (Unit {0}) RunRefusal → Type 0
  Right r = MatchResult r (λ _. BadBytes S bs) (λ e. RightRefusal S bs e)

  pub right : Bytes bs → (r : Result (Unit {0}) RunRefusal) → r ≡ run_answer S bs → Right r
  right bytes r e = by_answer r (let P : Result (Unit {0}) RunRefusal → Type 0 = λ r. Answered S law bs r in subst P (sym e) (answered S law bs))
    where
      by_answer : (r : Result (Unit {0}) RunRefusal) → Answered S law bs r → Right r
      by_answer (Ok x) a = bad_bytes S bs bytes a
      by_answer (Err d) a = a

  pub all : BadBytes S bs → (r : Result (Unit {0}) RunRefusal) → r ≡ run_answer S bs → r ≡ Ok tt
  all bad r e = e ∙ fields_accepted S law bs (bad_fields S law bs bad) (run_answer S bs) (answered S law bs)

  -- What acceptance proves.
  abbrev pub Proves : Result (Unit {0}) RunRefusal → Type 0
  Proves r = OnOk r (Condemned S bs)

  pub proves : (r : Result (Unit {0}) RunRefusal) → Right r → Proves r
  proves (Ok x) bad = bad_bytes_condemn_lem S bs bad
  proves (Err e) right = tt
