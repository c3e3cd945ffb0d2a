-- The questions of a system as tests that compute. Assumes nothing.
use Rattle.std.specs.Prelude.{ℕ, zero, suc, Bool, false, ◌&&◌, ◌||◌, is_some, Some, None, Option, ◌==◌, count_ones, nat_le}
use Rattle.system.specs.Transitions.{Transitions, holder_mask_lem}
use Rattle.system.specs.Justice.{FairSystem}

-- The test passes at some number below n.
abbrev pub some_below : (ℕ → Bool) → ℕ → Bool
some_below f zero = false
some_below f (suc n) = f n || some_below f n

-- The class o is j.
abbrev pub is_class : Option ℕ → ℕ → Bool
is_class (Some c) j = c == j
is_class None j = false

-- The command k is enabled at s, and of the class j.
abbrev pub enables : FairSystem → ℕ → ℕ → ℕ → Bool
enables S s j k = is_some (S.steps.next s k) && is_class (S.class k) j

-- Some command of the class j is enabled at s.
abbrev pub class_enabled_lem : FairSystem → ℕ → ℕ → Bool
class_enabled_lem S s j = some_below (enables S s j) S.steps.commands

-- The mask of processes in region crit has two or more ones.
abbrev pub is_clash_lem : Transitions → ℕ → Bool
is_clash_lem T s = nat_le 2 (count_ones (holder_mask_lem T s))
