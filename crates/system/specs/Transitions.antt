-- A transition system, and what its processes do in a state. Nothing here knows of classes. Assumes nothing.
use Rattle.std.specs.Prelude.{◌≡◌, ℕ, zero, suc, ◌+◌, ◌*◌, ◌^◌, ◌<◌, ◌≤◌, ◌⊎◌, Some, Option, count_ones}
use Rattle.system.specs.declared.Region.{Region}
use Rattle.system.specs.declared.Region.TheVariants.{Idle, Try, Crit, Exit}

-- The number of each region.
abbrev pub region_number : Region → ℕ
region_number Idle = 0
region_number Try = 1
region_number Crit = 2
region_number Exit = 3

-- Processes, commands and states are numbered from 0. `next s k` is the successor of the state s by the
-- command k, or none: then k is disabled at s. `region s p` is where the process p stands in the state s.
pub record Transitions : Type 0 where
  pub processes : ℕ
  pub commands : ℕ
  pub states : ℕ
  pub start : ℕ
  pub next : ℕ → ℕ → Option ℕ
  pub region : ℕ → ℕ → Region

-- One to eight processes, at most 64 commands, one to 65,536 states. Start and successors are states; out of
-- range there is no successor, and the region is idle.
pub record LawfulTransitions (T : Transitions) : Type 0 where
  pub some_process : 1 ≤ T.processes
  pub few_processes : T.processes ≤ 8
  pub few_commands : T.commands ≤ 64
  pub few_states : T.states ≤ 65536
  pub start_below : T.start < T.states
  pub next_below : (s k t : ℕ) → T.next s k ≡ Some t → (s < T.states) × (k < T.commands) × (t < T.states)
  pub region_outside : (s p : ℕ) → (T.states ≤ s) ⊎ (T.processes ≤ p) → T.region s p ≡ Idle

-- The command k is enabled at s: it has a successor there.
abbrev pub Enabled : Transitions → ℕ → ℕ → Type 0
Enabled T s k = (t : ℕ) × (T.next s k ≡ Some t)

-- The process p waits exactly in the states where its region is try.
abbrev pub Waits : Transitions → ℕ → ℕ → Type 0
Waits T p s = T.region s p ≡ Try

-- A holder is a process in region crit.
abbrev pub Holds : Transitions → ℕ → ℕ → Type 0
Holds T p s = T.region s p ≡ Crit

-- One for a holder, else zero.
abbrev pub holder_bit : Region → ℕ
holder_bit Idle = 0
holder_bit Try = 0
holder_bit Crit = 1
holder_bit Exit = 0

-- The mask of the holders among the first n processes: bit p is one when p holds.
abbrev pub holders_below : Transitions → ℕ → ℕ → ℕ
holders_below T s zero = 0
holders_below T s (suc n) = holder_bit (T.region s n) * 2 ^ n + holders_below T s n

-- The mask of the holders among all processes.
abbrev pub holder_mask_lem : Transitions → ℕ → ℕ
holder_mask_lem T s = holders_below T s T.processes

-- A clash: the mask of processes in region crit has two or more ones.
abbrev pub Clash : Transitions → ℕ → Type 0
Clash T s = 2 ≤ count_ones (holder_mask_lem T s)

-- Two different processes hold at once.
abbrev pub TwoHolders : Transitions → ℕ → Type 0
TwoHolders T s = (p q : ℕ) × (p < q) × (q < T.processes) × Holds T p s × Holds T q s
