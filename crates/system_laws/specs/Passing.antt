-- Walks, runs and reachable states. Nothing here knows of classes. Assumes nothing.
use Rattle.std.specs.Prelude.{◌≡◌, ℕ, ◌<◌, ◌≤◌, ◌↔◌, List, length, slice_index_or}
use Rattle.system.specs.Transitions.{Transitions, Clash}
use Rattle.system.specs.Runs.{Step, rest, Walk, Reachable, Run, PassesThrough, ReachesClash}

-- The run begins with the steps of w, comes to t by them, and rests from there on.
pub record RestsAfter {T : Transitions} (r : Run T) (w : List Step) (t : ℕ) : Type 0 where
  pub begins : (i : ℕ) → i < length w → r.step i ≡ slice_index_or w i rest
  pub comes : r.state (length w) ≡ t
  pub rests : (i : ℕ) → length w ≤ i → r.step i ≡ rest

-- Every walk from the start is the beginning of a run: the one that rests after it.
abbrev pub WalksExtendToRuns : Type 0
WalksExtendToRuns =
    (T : Transitions) (w : List Step) (t : ℕ) → Walk T T.start w t → (r : Run T) × RestsAfter r w t

-- A state is reachable exactly when some run passes through it.
abbrev pub ReachableIsPassedThrough : Type 0
ReachableIsPassedThrough = (T : Transitions) (s : ℕ) → Reachable T s ↔ ((r : Run T) × PassesThrough r s)

-- No run reaches a clash exactly when no reachable state is one.
abbrev pub ClashFreeByStates : Type 0
ClashFreeByStates = (T : Transitions) → ((r : Run T) → ¬ ReachesClash r) ↔ ((s : ℕ) → Reachable T s → ¬ Clash T s)
