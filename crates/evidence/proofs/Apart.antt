-- A correct lock has no bad run. Assumes nothing.
use Rattle.std.proofs.Common.{◌≡◌, ℕ, List, Ok, Result, subst, MatchResult}
use Rattle.system.specs.Justice.{FairSystem, CorrectLock}
use Rattle.lasso.specs.BadRuns.{clash, lockout}
use Rattle.lasso.proofs.Lasso.{bad_run_breaks_lock_lem}
use Rattle.run_refusal.specs.declared.RunRefusal.{RunRefusal}
use Rattle.run_rules.specs.Layout.{BadBytes, clash_bytes, lockout_bytes}
use Rattle.run_rules.specs.Causes.{RightRefusal}

no_bad_bytes : (S : FairSystem) → CorrectLock S → (bytes : List ℕ) → ¬ BadBytes S bytes
no_bad_bytes S correct bytes (clash_bytes stem few run e) = bad_run_breaks_lock_lem S (clash stem run) correct
no_bad_bytes S correct bytes (lockout_bytes p stem loop few few' run e) = bad_run_breaks_lock_lem S (lockout p stem loop run) correct

pub apart : (S : FairSystem) → CorrectLock S → (bytes : List ℕ) (r : Result (Unit {0}) RunRefusal)
    → MatchResult r (λ _. BadBytes S bytes) (RightRefusal S bytes) → ¬ (r ≡ Ok tt)
apart S correct bytes r right e =
    no_bad_bytes S correct bytes (subst (λ (x : Result (Unit {0}) RunRefusal). MatchResult x (λ _. BadBytes S bytes) (RightRefusal S bytes)) e right)
