-- What declarations declare. Assumes nothing.
use Rattle.std.specs.Prelude.{◌≡◌, ℕ, ◌+◌, ◌-◌, cond, List, ◌++◌, length, replicate, nat_lt, slice_index}
use Rattle.system.specs.declared.Region.{Region}
use Rattle.system.specs.declared.Region.TheVariants.{Idle}
use Rattle.step_rule.specs.Programs.{Program, declared}
use Rattle.declarations.specs.declared.record.Declarations.{Declarations}
use Rattle.declarations.specs.Shape.{frame_of}

-- The program that is declared, without classes and commands.
abbrev pub frame : Declarations → Program
frame d = frame_of d.processes d.variables d.maxima d.initials d.locations d.regions

-- How many digits a state's code has: one for each variable, and one for each process.
abbrev pub width : Declarations → ℕ
width d = d.variables + d.processes

-- The radix of the digit at place i: one more than the variable's maximum, or the count of locations.
abbrev pub radix_at : ℕ → List ℕ → ℕ → ℕ → ℕ
radix_at variables maxima locations i = cond (nat_lt i variables) (slice_index maxima i + 1) locations

-- The list, and blank entries after it up to the given length.
abbrev pub padded : {X : Type 0} → ℕ → X → List X → List X
padded n blank list = list ++ replicate (n - length list) blank

-- The declarations hold these counts and lists, and blank entries past them.
pub record Holds (processes : ℕ) (maxima initials : List ℕ) (regions : List Region) (d : Declarations) : Type 0 where
  pub declares : frame d ≡ declared processes maxima initials regions
  pub maxima_padded : d.maxima ≡ padded 12 0 maxima
  pub initials_padded : d.initials ≡ padded 12 0 initials
  pub regions_padded : d.regions ≡ padded 16 Idle regions
