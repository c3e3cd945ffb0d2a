-- How each token of a lock text is spelt. Assumes nothing.
use Rattle.std.specs.Prelude.{◌≡◌, ℕ, ◌<◌, ◌≤◌, Bool, true, ◌⊎◌, List, length, codes, slice_index}
use Rattle.lock_text.specs.Characters.{is_letter, is_digit, is_name_byte}
use Rattle.lock_text.specs.declared.token.Word.{Word}
use Rattle.lock_text.specs.declared.token.Word.TheVariants.{Procs, Vars, Locs, Classes, Cmds, Idle, Try, Crit, Exit, None, And, Or, Not}
use Rattle.lock_text.specs.declared.token.Mark.{Mark}
use Rattle.lock_text.specs.declared.token.Mark.TheVariants.{Open, Close, Plus, Minus, Assign, Equal, NotEqual, Less, LessEqual, Colon, Semicolon, Comma}

-- A token by its content: a name or a number by its bytes, a reserved word, or a mark.
pub data Lexeme : Type 0 where
  name : List ℕ → Lexeme
  number : List ℕ → Lexeme
  word : Word → Lexeme
  mark : Mark → Lexeme

abbrev pub word_spelling : Word → List ℕ
word_spelling Procs = codes "procs"
word_spelling Vars = codes "vars"
word_spelling Locs = codes "locs"
word_spelling Classes = codes "classes"
word_spelling Cmds = codes "cmds"
word_spelling Idle = codes "idle"
word_spelling Try = codes "try"
word_spelling Crit = codes "crit"
word_spelling Exit = codes "exit"
word_spelling None = codes "none"
word_spelling And = codes "and"
word_spelling Or = codes "or"
word_spelling Not = codes "not"

abbrev pub mark_spelling : Mark → List ℕ
mark_spelling Open = codes "("
mark_spelling Close = codes ")"
mark_spelling Plus = codes "+"
mark_spelling Minus = codes "-"
mark_spelling Assign = codes "="
mark_spelling Equal = codes "=="
mark_spelling NotEqual = codes "!="
mark_spelling Less = codes "<"
mark_spelling LessEqual = codes "<="
mark_spelling Colon = codes ":"
mark_spelling Semicolon = codes ";"
mark_spelling Comma = codes ","

-- The bytes that a token is written with.
abbrev pub spelling : Lexeme → List ℕ
spelling (name w) = w
spelling (number w) = w
spelling (word k) = word_spelling k
spelling (mark m) = mark_spelling m

-- The test passes at each byte of w.
abbrev pub Each : (ℕ → Bool) → List ℕ → Type 0
Each f w = (i : ℕ) → i < length w → f (slice_index w i) ≡ true

-- A letter, then letters, digits or underscores, however many.
abbrev pub NameShape : List ℕ → Type 0
NameShape w = (is_letter (slice_index w 0) ≡ true) × Each is_name_byte w

-- One digit or more, however many.
abbrev pub NumberShape : List ℕ → Type 0
NumberShape w = (0 < length w) × Each is_digit w

abbrev pub MarkShape : List ℕ → Type 0
MarkShape w = (m : Mark) × (w ≡ mark_spelling m)

-- What a token looks like when its limit of length is left aside. Reserved words look like names.
abbrev pub Shape : List ℕ → Type 0
Shape w = NameShape w ⊎ (NumberShape w ⊎ MarkShape w)

abbrev pub Reserved : List ℕ → Type 0
Reserved w = (k : Word) × (w ≡ word_spelling k)

-- The most bytes of a name and the most digits of a number.
abbrev pub max_name : ℕ
max_name = 16

abbrev pub max_digits : ℕ
max_digits = 5

-- A token within its limit; a name is no reserved word.
abbrev pub WellFormed : Lexeme → Type 0
WellFormed (name w) = NameShape w × (length w ≤ max_name) × ¬ Reserved w
WellFormed (number w) = NumberShape w × (length w ≤ max_digits)
WellFormed (word k) = Unit {0}
WellFormed (mark m) = Unit {0}
