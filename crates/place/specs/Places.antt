-- Places by their parts. Assumes nothing.
use Rattle.std.specs.Prelude.{ℕ}
use Rattle.place.specs.declared.Place.{Place}

-- A process, a byte or a state, and a command; 0 for what is not named.
abbrev pub place : ℕ → ℕ → ℕ → Place
place p i k = record { process = p; index = i; command = k }
