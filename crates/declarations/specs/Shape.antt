-- What the fields of declarations hold. Assumes nothing.
use Rattle.std.specs.Prelude.{◌≡◌, ℕ, ◌≤◌, List, length, take}
use Rattle.system.specs.declared.Region.{Region}
use Rattle.step_rule.specs.Programs.{Program, declared}

-- The program that the first variables and the first regions declare.
abbrev pub frame_of : ℕ → ℕ → List ℕ → List ℕ → ℕ → List Region → Program
frame_of processes variables maxima initials locations regions =
    declared processes (take variables maxima) (take variables initials) (take locations regions)

-- The arrays are as long as the limits.
abbrev pub Roomy : List ℕ → List ℕ → List Region → Type 0
Roomy maxima initials regions = (length maxima ≡ 12) × (length initials ≡ 12) × (length regions ≡ 16)

-- The counts lie within the limits, and there is a location.
abbrev pub FewEnough : ℕ → ℕ → ℕ → Type 0
FewEnough processes variables locations = (processes ≤ 8) × (variables ≤ 12) × (locations ≤ 16) × (1 ≤ locations)
