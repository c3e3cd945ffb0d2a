-- Steps, walks and runs of a transition system. Nothing here knows of classes. Assumes nothing.
use Rattle.std.specs.Prelude.{◌≡◌, ℕ, suc, ◌≤◌, List, [], ◌∷◌, Some}
use Rattle.system.specs.Transitions.{Transitions, Waits, Clash}

-- A step is a command, or the rest step.
pub data Step : Type 0 where
  command : ℕ → Step
  rest : Step

-- From s the step leads to t: an enabled command to its successor; rest is always possible and keeps the state.
abbrev pub Leads : Transitions → ℕ → Step → ℕ → Type 0
Leads T s (command k) t = T.next s k ≡ Some t
Leads T s rest t = s ≡ t

-- The steps of w, each possible where it is taken, lead from s to t.
abbrev pub Walk : Transitions → ℕ → List Step → ℕ → Type 0
Walk T s [] t = s ≡ t
Walk T s (a ∷ w) t = (u : ℕ) × Leads T s a u × Walk T u w t

-- Some walk leads from the start to s.
abbrev pub Reachable : Transitions → ℕ → Type 0
Reachable T s = (w : List Step) × Walk T T.start w s

-- A run is an endless list of steps from the start, with the states that they go through.
pub record Run (T : Transitions) : Type 0 where
  pub state : ℕ → ℕ
  pub step : ℕ → Step
  pub starts : state 0 ≡ T.start
  pub goes : (i : ℕ) → Leads T (state i) (step i) (state (suc i))

-- The run passes through s.
abbrev pub PassesThrough : {T : Transitions} → Run T → ℕ → Type 0
PassesThrough r s = (i : ℕ) × (r.state i ≡ s)

-- The run comes to a state that is a clash.
abbrev pub ReachesClash : {T : Transitions} → Run T → Type 0
ReachesClash {T = T} r = (i : ℕ) × Clash T (r.state i)

-- From some moment on the process p always waits.
abbrev pub LeavesTrying : {T : Transitions} → Run T → ℕ → Type 0
LeavesTrying {T = T} r p = (n : ℕ) × ((i : ℕ) → n ≤ i → Waits T p (r.state i))
