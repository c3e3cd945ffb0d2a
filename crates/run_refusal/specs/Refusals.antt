-- What each refusal of a run says: its number and its place; and the order of the causes. Assumes nothing.
use Rattle.std.specs.Prelude.{cond, List, [], ◌∷◌, ℕ, suc, ◌<◌, eqb}
use Rattle.place.specs.declared.Place.{Place}
use Rattle.place.specs.Places.{place}
use Rattle.run_refusal.specs.declared.RunRefusal.{RunRefusal}
use Rattle.run_refusal.specs.declared.RunRefusal.TheVariants.{WrongLength, WrongKind, WrongProcess, WrongStep, WrongLoopCount, StepDisabled, NoClash, LoopOpen, NotWaiting, ClassNeglected}

abbrev pub number : RunRefusal → ℕ
number (WrongLength i) = 31
number WrongKind = 32
number WrongProcess = 33
number (WrongStep i) = 34
number (WrongLoopCount i) = 35
number (StepDisabled i k) = 36
number (NoClash s) = 37
number (LoopOpen s) = 38
number (NotWaiting p s) = 39
number (ClassNeglected j) = 40

-- Up to 35 the index is that of a byte, at 36 that of a step, and then the number of a state.
abbrev pub placed : RunRefusal → Place
placed (WrongLength i) = place 0 i 0
placed WrongKind = place 0 0 0
placed WrongProcess = place 0 1 0
placed (WrongStep i) = place 0 i 0
placed (WrongLoopCount i) = place 0 i 0
placed (StepDisabled i k) = place 0 i k
placed (NoClash s) = place 0 s 0
placed (LoopOpen s) = place 0 s 0
placed (NotWaiting p s) = place p s 0
placed (ClassNeglected j) = place 0 0 j

-- The causes in the order in which they are tried.
abbrev pub order_of_causes : List ℕ
order_of_causes = 31 ∷ 32 ∷ 33 ∷ 34 ∷ 35 ∷ 36 ∷ 37 ∷ 38 ∷ 39 ∷ 40 ∷ []

-- How many numbers of the list stand before n.
abbrev pub before : List ℕ → ℕ → ℕ
before [] n = 0
before (m ∷ ms) n = cond (eqb m n) 0 (suc (before ms n))

-- The cause m is earlier in the order of causes than n.
abbrev pub Earlier : ℕ → ℕ → Type 0
Earlier m n = before order_of_causes m < before order_of_causes n
