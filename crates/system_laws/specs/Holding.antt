-- What a clash is. Assumes nothing.
use Rattle.std.specs.Prelude.{ℕ, ◌↔◌}
use Rattle.system.specs.Transitions.{Transitions, Clash, TwoHolders}

-- A state is a clash exactly when two different processes hold in it.
abbrev pub ClashIsTwoHolders : Type 0
ClashIsTwoHolders = (T : Transitions) (s : ℕ) → Clash T s ↔ TwoHolders T s
