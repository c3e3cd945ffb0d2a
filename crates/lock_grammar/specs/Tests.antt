-- What each place of a lock text makes of the token that stands there. Assumes nothing.
use Rattle.std.specs.Prelude.{ℕ, Bool, true, false, not, ◌&&◌, List, [], ◌∷◌, Some, None, Option, ◌==◌, nat_le, nat_lt}
use Rattle.system.specs.declared.Region.{Region}
use Rattle.system.specs.declared.Region.TheVariants as Regions
use Rattle.lock_text.specs.Spelling.{Lexeme, name, number, word, mark}
use Rattle.lock_text.specs.declared.token.Word.{Word}
use Rattle.lock_text.specs.declared.token.Word.TheVariants as Words
use Rattle.lock_text.specs.declared.token.Mark.{Mark}
use Rattle.lock_text.specs.declared.token.Mark.TheVariants as Marks
use Rattle.expression_grammar.specs.Kinds.{decimal}
use Rattle.step_rule.specs.Programs.{Assignment}
use Rattle.lock_grammar.specs.Names.{Name, index_of}
use Rattle.lock_grammar.specs.Combinators.{Verdict, takes, refuses, taken_if}

-- Words and marks by a number each, to tell them apart.
abbrev pub word_number : Word → ℕ
word_number Words.Procs = 0
word_number Words.Vars = 1
word_number Words.Locs = 2
word_number Words.Classes = 3
word_number Words.Cmds = 4
word_number Words.Idle = 5
word_number Words.Try = 6
word_number Words.Crit = 7
word_number Words.Exit = 8
word_number Words.None = 9
word_number Words.And = 10
word_number Words.Or = 11
word_number Words.Not = 12

abbrev pub mark_number : Mark → ℕ
mark_number Marks.Open = 0
mark_number Marks.Close = 1
mark_number Marks.Plus = 2
mark_number Marks.Minus = 3
mark_number Marks.Assign = 4
mark_number Marks.Equal = 5
mark_number Marks.NotEqual = 6
mark_number Marks.Less = 7
mark_number Marks.LessEqual = 8
mark_number Marks.Colon = 9
mark_number Marks.Semicolon = 10
mark_number Marks.Comma = 11

-- This word, and nothing else.
unfoldable pub this_word : Word → Lexeme → Verdict (Unit {0})
this_word k (name w) = refuses 3
this_word k (number w) = refuses 3
this_word k (word j) = taken_if (word_number j == word_number k) 3 tt
this_word k (mark m) = refuses 3

-- This mark, and nothing else.
unfoldable pub this_mark : Mark → Lexeme → Verdict (Unit {0})
this_mark k (name w) = refuses 3
this_mark k (number w) = refuses 3
this_mark k (word j) = refuses 3
this_mark k (mark m) = taken_if (mark_number m == mark_number k) 3 tt

-- A number from `low` up to but not including `bound`.
unfoldable pub number_within : ℕ → ℕ → Lexeme → Verdict ℕ
number_within low bound (name w) = refuses 3
number_within low bound (number w) = taken_if (nat_le low (decimal w) && nat_lt (decimal w) bound) 4 (decimal w)
number_within low bound (word j) = refuses 3
number_within low bound (mark m) = refuses 3

abbrev pub new_by : Name → Option ℕ → Verdict Name
new_by w (Some i) = refuses 5
new_by w None = takes w

-- A name that is not among those declared before.
unfoldable pub undeclared : List Name → Lexeme → Verdict Name
undeclared before (name w) = new_by w (index_of before w)
undeclared before (number w) = refuses 3
undeclared before (word j) = refuses 3
undeclared before (mark m) = refuses 3

abbrev pub known_by : Option ℕ → Verdict ℕ
known_by (Some i) = takes i
known_by None = refuses 6

-- One of these names, by its number.
unfoldable pub declared : List Name → Lexeme → Verdict ℕ
declared names (name w) = known_by (index_of names w)
declared names (number w) = refuses 3
declared names (word j) = refuses 3
declared names (mark m) = refuses 3

abbrev pub region_of : Word → Option Region
region_of Words.Procs = None
region_of Words.Vars = None
region_of Words.Locs = None
region_of Words.Classes = None
region_of Words.Cmds = None
region_of Words.Idle = Some Regions.Idle
region_of Words.Try = Some Regions.Try
region_of Words.Crit = Some Regions.Crit
region_of Words.Exit = Some Regions.Exit
region_of Words.None = None
region_of Words.And = None
region_of Words.Or = None
region_of Words.Not = None

abbrev pub region_by : Bool → Option Region → Verdict Region
region_by few (Some r) = taken_if few 9 r
region_by few None = refuses 3

-- A region word, where the states are few enough.
unfoldable pub region_word : Bool → Lexeme → Verdict Region
region_word few (name w) = refuses 3
region_word few (number w) = refuses 3
region_word few (word j) = region_by few (region_of j)
region_word few (mark m) = refuses 3

-- A class below `classes`, or `none`.
unfoldable pub class_or_none : ℕ → Lexeme → Verdict (Option ℕ)
class_or_none classes (name w) = refuses 3
class_or_none classes (number w) = taken_if (nat_lt (decimal w) classes) 4 (Some (decimal w))
class_or_none classes (word j) = taken_if (word_number j == word_number Words.None) 3 None
class_or_none classes (mark m) = refuses 3

-- Whether none of these assignments is to the variable v.
abbrev pub spared : ℕ → List Assignment → Bool
spared v [] = true
spared v (a ∷ rest) = not (a.target == v) && spared v rest

abbrev pub target_by : List Assignment → Verdict ℕ → Verdict ℕ
target_by before (takes v) = taken_if (spared v before) 7 v
target_by before (refuses n) = refuses n

-- A variable that is not assigned before.
unfoldable pub unassigned : List Name → List Assignment → Lexeme → Verdict ℕ
unassigned variables before l = target_by before (declared variables l)

abbrev pub all_assigned : Verdict ℕ → Verdict (List Assignment)
all_assigned (takes v) = refuses 7
all_assigned (refuses n) = refuses n

-- A variable, where each is assigned already.
unfoldable pub none_left : List Name → Lexeme → Verdict (List Assignment)
none_left variables l = all_assigned (declared variables l)

abbrev pub some_target : Verdict ℕ → Verdict (Option ℕ)
some_target (takes v) = takes (Some v)
some_target (refuses n) = refuses n

abbrev pub ends_or : Bool → Verdict (Option ℕ)
ends_or true = takes None
ends_or false = refuses 3

-- A variable, or the `;` where there are no assignments.
unfoldable pub target_or_end : List Name → Lexeme → Verdict (Option ℕ)
target_or_end variables (name w) = some_target (declared variables (name w))
target_or_end variables (number w) = refuses 3
target_or_end variables (word j) = refuses 3
target_or_end variables (mark m) = ends_or (mark_number m == mark_number Marks.Semicolon)

abbrev pub comma_by : Bool → Bool → Verdict Bool
comma_by true ends = takes true
comma_by false true = takes false
comma_by false false = refuses 3

-- A `,`, which is true, or a `;`, which is false.
unfoldable pub comma_or_end : Lexeme → Verdict Bool
comma_or_end (name w) = refuses 3
comma_or_end (number w) = refuses 3
comma_or_end (word j) = refuses 3
comma_or_end (mark m) = comma_by (mark_number m == mark_number Marks.Comma) (mark_number m == mark_number Marks.Semicolon)
