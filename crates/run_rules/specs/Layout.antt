-- Runs as bytes: kind, process, a count and the stem's steps, a count and the loop's. Assumes nothing.
use Rattle.std.specs.Prelude.{◌≡◌, ℕ, ◌+◌, ◌^◌, ◌<◌, cond, List, [], ◌∷◌, ◌++◌, map, length, take, drop, ◌==◌, slice_index}
use Rattle.byte_numbers.specs.Numbers.{encoded, number_at}
use Rattle.lasso.specs.BadRuns.{ClashRun, LockoutRun}
use Rattle.system.specs.Runs.{Step, command, rest}
use Rattle.system.specs.Justice.{FairSystem}

-- A step's byte is the command's number, or FF for rest.
abbrev pub step_byte : Step → ℕ
step_byte (command k) = k
step_byte rest = 255

-- The bytes of a run.
abbrev pub run_bytes : ℕ → ℕ → List Step → List Step → List ℕ
run_bytes kind p stem loop =
    kind ∷ p ∷ (encoded (length stem) ++ (map step_byte stem ++ (encoded (length loop) ++ map step_byte loop)))

-- The bytes are those of a bad run of S: of kind 1, a clash, or of kind 2, a lockout. A count has four bytes.
pub data BadBytes (S : FairSystem) (bytes : List ℕ) : Type 0 where
  clash_bytes : (stem : List Step) → length stem < 2 ^ 32 → ClashRun S.steps stem →
      bytes ≡ run_bytes 1 0 stem [] → BadBytes S bytes
  lockout_bytes : (p : ℕ) (stem loop : List Step) → length stem < 2 ^ 32 → length loop < 2 ^ 32 → LockoutRun S p stem loop →
      bytes ≡ run_bytes 2 p stem loop → BadBytes S bytes

-- Where the fields lie in any bytes: kind at 0, process at 1, stem count at 2, stem from 6 on, then loop count and loop.
abbrev pub kind_byte : List ℕ → ℕ
kind_byte bytes = slice_index bytes 0

abbrev pub process_byte : List ℕ → ℕ
process_byte bytes = slice_index bytes 1

abbrev pub stem_length : List ℕ → ℕ
stem_length bytes = number_at bytes 2

abbrev pub loop_length : List ℕ → ℕ
loop_length bytes = number_at bytes (6 + stem_length bytes)

-- The index behind the last field.
abbrev pub end : List ℕ → ℕ
end bytes = 10 + stem_length bytes + loop_length bytes

abbrev pub step_of : ℕ → Step
step_of b = cond (b == 255) rest (command b)

-- The steps of the stem, and of the loop.
abbrev pub stem : List ℕ → List Step
stem bytes = map step_of (take (stem_length bytes) (drop 6 bytes))

abbrev pub cycle : List ℕ → List Step
cycle bytes = map step_of (take (loop_length bytes) (drop (10 + stem_length bytes) bytes))
