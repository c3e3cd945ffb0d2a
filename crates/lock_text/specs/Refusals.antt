-- Why a lock text is refused: each cause has a number and a place, an index into the text. Assumes nothing.
use Rattle.std.specs.Prelude.{ℕ}
use Rattle.lock_text.specs.declared.refusal.TextRefusal.{TextRefusal}
use Rattle.lock_text.specs.declared.refusal.TextRefusal.TheVariants.{TooLong, Spelling, Unwanted, OutOfRange, Declared, Unknown, AssignedTwice, PastLimit, TooManyStates}

abbrev pub refusal_number : TextRefusal → ℕ
refusal_number TooLong = 1
refusal_number (Spelling i) = 2
refusal_number (Unwanted i) = 3
refusal_number (OutOfRange i) = 4
refusal_number (Declared i) = 5
refusal_number (Unknown i) = 6
refusal_number (AssignedTwice i) = 7
refusal_number (PastLimit i) = 8
refusal_number (TooManyStates i) = 9

abbrev pub refusal_index : TextRefusal → ℕ
refusal_index TooLong = 0
refusal_index (Spelling i) = i
refusal_index (Unwanted i) = i
refusal_index (OutOfRange i) = i
refusal_index (Declared i) = i
refusal_index (Unknown i) = i
refusal_index (AssignedTwice i) = i
refusal_index (PastLimit i) = i
refusal_index (TooManyStates i) = i
