-- The numbers that the language takes. Assumes nothing.
use Rattle.std.specs.Prelude.{ℕ, cond, Some, None, Option, nat_lt}

-- A number, if it is at most 255.
abbrev pub up_to_255 : ℕ → Option ℕ
up_to_255 n = cond (nat_lt n 256) (Some n) None
