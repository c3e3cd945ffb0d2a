-- The tokens of a lock text. Assumes nothing.
use Rattle.std.specs.Prelude.{◌≡◌, ℕ, ◌<◌, ◌≤◌, true, false, List, [], ◌∷◌, length, slice_index, slice_range}
use Rattle.lock_text.specs.Characters.{is_blank}
use Rattle.lock_text.specs.Spelling.{Lexeme, name, number, word, mark, spelling, Shape, WellFormed}
use Rattle.lock_text.specs.declared.token.Token.{Token}
use Rattle.lock_text.specs.declared.token.Token.TheVariants.{Name, Number, Word, Mark}

-- The most bytes of a lock text.
abbrev pub max_text : ℕ
max_text = 16384

-- The bytes of the text t from a up to e.
abbrev pub part : List ℕ → ℕ → ℕ → List ℕ
part t a e = slice_range t a e

-- The bytes of t from a up to e, as far as t goes, are blanks.
abbrev pub Blanks : List ℕ → ℕ → ℕ → Type 0
Blanks t a e = (i : ℕ) → a ≤ i → i < e → i < length t → is_blank (slice_index t i) ≡ true

-- The token l stands in t from a up to e: it is spelt by these very bytes, and no token could be longer.
pub record TokenAt (t : List ℕ) (a : ℕ) (l : Lexeme) (e : ℕ) : Type 0 where
  pub some_bytes : a < e
  pub within : e ≤ length t
  pub spelt : spelling l ≡ part t a e
  pub well_formed : WellFormed l
  pub longest : (f : ℕ) → e < f → f ≤ length t → ¬ Shape (part t a f)

-- From a on, the first token of t is l, from s up to e: only blanks stand before it.
pub record NextToken (t : List ℕ) (a : ℕ) (l : Lexeme) (s e : ℕ) : Type 0 where
  pub after : a ≤ s
  pub blanks : Blanks t a s
  pub token : TokenAt t s l e

-- From a on, t has only blanks.
abbrev pub NoToken : List ℕ → ℕ → Type 0
NoToken t a = Blanks t a (length t)

-- From a on, the first byte of t that is no blank stands at s, and no token stands there.
pub record Misspelt (t : List ℕ) (a s : ℕ) : Type 0 where
  pub after : a ≤ s
  pub blanks : Blanks t a s
  pub within : s < length t
  pub no_blank : is_blank (slice_index t s) ≡ false
  pub no_token : (l : Lexeme) (e : ℕ) → ¬ TokenAt t s l e

-- The tokens ls stand one after another in t from a up to e, with only blanks between them.
abbrev pub TokensTo : List ℕ → ℕ → List Lexeme → ℕ → Type 0
TokensTo t a [] e = a ≡ e
TokensTo t a (l ∷ ls) e = (s m : ℕ) × NextToken t a l s m × TokensTo t m ls e

-- The tokens of t are ls: every byte belongs to one of them or is a blank.
abbrev pub TokensOf : List ℕ → List Lexeme → Type 0
TokensOf t ls = (e : ℕ) × TokensTo t 0 ls e × NoToken t e

-- The first fault of spelling in t stands at s: before it there are only tokens and blanks.
abbrev pub FirstMisspelt : List ℕ → ℕ → Type 0
FirstMisspelt t s = (ls : List Lexeme) × (e : ℕ) × TokensTo t 0 ls e × Misspelt t e s

-- The content of a token that borrows its bytes from the text.
abbrev pub content : Token → Lexeme
content (Name p) = name p.now
content (Number p) = number p.now
content (Word k) = word k
content (Mark m) = mark m

-- A text has at most one list of tokens.
abbrev pub TokensAreOne : Type 0
TokensAreOne = (t : List ℕ) (ls ms : List Lexeme) → TokensOf t ls → TokensOf t ms → ls ≡ ms

-- A text has at most one first fault of spelling, and none if it has tokens throughout.
abbrev pub FirstFaultIsOne : Type 0
FirstFaultIsOne = (t : List ℕ) (s u : ℕ) → FirstMisspelt t s → FirstMisspelt t u → s ≡ u

abbrev pub NoFaultAmongTokens : Type 0
NoFaultAmongTokens = (t : List ℕ) (ls : List Lexeme) (s : ℕ) → TokensOf t ls → ¬ FirstMisspelt t s
