-- The fields of a run's bytes, read from the front, as a function that computes. Assumes nothing.
use Rattle.std.specs.Prelude.{ℕ, ◌+◌, Bool, cond, not, ◌||◌, List, length, take, drop, Some, None, Ok, Err, Option, Result, ◌==◌, nat_le, nat_lt, slice_index}
use Rattle.std.specs.List.{position_from}
use Rattle.byte_numbers.specs.Numbers.{number_at}
use Rattle.system.specs.Transitions.{Transitions}
use Rattle.run_rules.specs.declared.Kind.{Kind}
use Rattle.run_rules.specs.declared.Kind.TheVariants.{Clash, Lockout}
use Rattle.run_refusal.specs.declared.RunRefusal.{RunRefusal}
use Rattle.run_refusal.specs.declared.RunRefusal.TheVariants.{WrongLength, WrongKind, WrongProcess, WrongStep, WrongLoopCount}

-- One check after another: the first that refuses decides.
abbrev pub and_then : {X Y : Type 0} → Result X RunRefusal → (X → Result Y RunRefusal) → Result Y RunRefusal
and_then (Ok x) f = f x
and_then (Err e) f = Err e

-- FF for rest, or a command's number.
abbrev pub is_step_lem : ℕ → ℕ → Bool
is_step_lem K b = b == 255 || nat_lt b K

-- The byte at an index.
abbrev pub byte_at : List ℕ → ℕ → Result ℕ RunRefusal
byte_at bytes at = cond (nat_lt at (length bytes)) (Ok (slice_index bytes at)) (Err (WrongLength at))

-- The kind of a kind byte.
abbrev pub kind_of : ℕ → Result Kind RunRefusal
kind_of b = cond (b == 1) (Ok Clash) (cond (b == 2) (Ok Lockout) (Err WrongKind))

abbrev pub kind_at : List ℕ → Result Kind RunRefusal
kind_at bytes = cond (length bytes == 0) (Err (WrongLength 0)) (kind_of (slice_index bytes 0))

-- A clash has process 0, a lockout one below P.
abbrev pub is_process_lem : ℕ → Kind → ℕ → Bool
is_process_lem P Clash p = p == 0
is_process_lem P Lockout p = nat_lt p P

abbrev pub process_at_lem : ℕ → Kind → List ℕ → Result ℕ RunRefusal
process_at_lem P kind bytes =
    cond (nat_lt (length bytes) 2) (Err (WrongLength 1))
    (cond (is_process_lem P kind (slice_index bytes 1)) (Ok (slice_index bytes 1)) (Err WrongProcess))

abbrev pub count_at : List ℕ → ℕ → Result ℕ RunRefusal
count_at bytes at = cond (nat_le (at + 4) (length bytes)) (Ok (number_at bytes at)) (Err (WrongLength at))

-- A clash has an empty loop, a lockout has not.
abbrev pub is_loop_count_lem : Kind → ℕ → Bool
is_loop_count_lem Clash n = n == 0
is_loop_count_lem Lockout n = nat_lt 0 n

abbrev pub loop_count_at_lem : Kind → List ℕ → ℕ → Result ℕ RunRefusal
loop_count_at_lem kind bytes at =
    and_then (count_at bytes at) (λ n. cond (is_loop_count_lem kind n) (Ok n) (Err (WrongLoopCount at)))

-- The index of the first byte that is no step, the list beginning at index i.
abbrev pub no_step : ℕ → ℕ → List ℕ → Option ℕ
no_step K i bytes = position_from (λ b. not (is_step_lem K b)) i bytes

abbrev pub steps_or : Option ℕ → List ℕ → ℕ → ℕ → Result (List ℕ) RunRefusal
steps_or (Some i) bytes at n = Err (WrongStep (at + i))
steps_or None bytes at n =
    cond (nat_lt (length bytes) (at + n)) (Err (WrongLength (length bytes))) (Ok (take n (drop at bytes)))

-- The n step bytes from `at` on.
abbrev pub steps_at_lem : ℕ → List ℕ → ℕ → ℕ → Result (List ℕ) RunRefusal
steps_at_lem K bytes at n = steps_or (no_step K 0 (take n (drop at bytes))) bytes at n

-- What is read: the steps as their bytes.
pub record Fields : Type 0 where
  pub kind : Kind
  pub process : ℕ
  pub stem : List ℕ
  pub cycle : List ℕ

abbrev pub fields : Kind → ℕ → List ℕ → List ℕ → Fields
fields k p stem cycle = record { kind = k; process = p; stem = stem; cycle = cycle }

abbrev pub ended : List ℕ → ℕ → Fields → Result Fields RunRefusal
ended bytes end f = cond (nat_lt end (length bytes)) (Err (WrongLength end)) (Ok f)

abbrev pub read_run_lem : Transitions → List ℕ → Result Fields RunRefusal
read_run_lem T bytes =
    and_then (kind_at bytes) (λ kind.
    and_then (process_at_lem T.processes kind bytes) (λ p.
    and_then (count_at bytes 2) (λ n.
    and_then (steps_at_lem T.commands bytes 6 n) (λ stem.
    and_then (loop_count_at_lem kind bytes (6 + n)) (λ m.
    and_then (steps_at_lem T.commands bytes (10 + n) m) (λ cycle.
    ended bytes (10 + n + m) (fields kind p stem cycle)))))))
