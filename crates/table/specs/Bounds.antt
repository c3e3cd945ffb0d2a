-- The bounds of a system. Assumes nothing.
use Rattle.std.specs.Prelude.{ℕ, ◌<◌, ◌≤◌}

-- One to eight processes, at most sixteen classes and sixty-four commands.
abbrev pub FewEnough : ℕ → ℕ → ℕ → Type 0
FewEnough processes classes commands = (1 ≤ processes) × (processes ≤ 8) × (classes ≤ 16) × (commands ≤ 64)

-- At most 65,536 states, and the start is one of them.
abbrev pub GoodStart : ℕ → ℕ → Type 0
GoodStart states start = (states ≤ 65536) × (start < states)
