-- What each refusal of a certificate says: its number and its place. Assumes nothing.
use Rattle.std.specs.Prelude.{ℕ, List, [], ◌∷◌}
use Rattle.place.specs.declared.Place.{Place}
use Rattle.place.specs.Places.{place}
use Rattle.certificate_theory.specs.declared.clause.Clause.{Clause}
use Rattle.certificate_theory.specs.declared.clause.Clause.TheVariants.{StartListed, NoListedClash, SuccessorsListed, RowsExact, ClassesEnabled, RanksFall}
use Rattle.certificate_theory.specs.declared.refusal.Refusal.{Refusal}
use Rattle.certificate_theory.specs.declared.refusal.Refusal.TheVariants.{Length, KindByte, State, Class, StartUnlisted, ListedClash, SuccessorUnlisted, RowsDiffer, ClassDisabled, RankRule}

abbrev pub number : Refusal → ℕ
number (Length i) = 21
number KindByte = 22
number (State i) = 23
number (Class i) = 24
number (StartUnlisted s) = 25
number (ListedClash s) = 26
number (SuccessorUnlisted s k) = 27
number (RowsDiffer p s) = 28
number (ClassDisabled p s) = 29
number (RankRule p s k) = 30

-- The index is a byte's while reading, and after it a state.
abbrev pub placed : Refusal → Place
placed (Length i) = place 0 i 0
placed KindByte = place 0 0 0
placed (State i) = place 0 i 0
placed (Class i) = place 0 i 0
placed (StartUnlisted s) = place 0 s 0
placed (ListedClash s) = place 0 s 0
placed (SuccessorUnlisted s k) = place 0 s k
placed (RowsDiffer p s) = place p s 0
placed (ClassDisabled p s) = place p s 0
placed (RankRule p s k) = place p s k

-- The refusal when a clause of the rule fails at the process p, the state s and the command k.
abbrev pub broken : Clause → ℕ → ℕ → ℕ → Refusal
broken StartListed p s k = StartUnlisted s
broken NoListedClash p s k = ListedClash s
broken SuccessorsListed p s k = SuccessorUnlisted s k
broken RowsExact p s k = RowsDiffer p s
broken ClassesEnabled p s k = ClassDisabled p s
broken RanksFall p s k = RankRule p s k

-- The order in which the clauses are tried.
abbrev pub order : List Clause
order = StartListed ∷ NoListedClash ∷ SuccessorsListed ∷ RowsExact ∷ ClassesEnabled ∷ RanksFall ∷ []
