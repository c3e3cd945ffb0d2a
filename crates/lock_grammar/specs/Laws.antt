-- What the grammar of lock texts and their reading have to do with each other. Assumes nothing.
use Rattle.std.specs.Prelude.{◌≡◌, ℕ, ◌+◌, ◌<◌, List, take, Some, None}
use Rattle.std.specs.List.{slice_get}
use Rattle.lock_text.specs.Spelling.{Lexeme}
use Rattle.lock_text.specs.Tokens.{TokensOf}
use Rattle.token_stream.specs.Streams.{Stream, end, Streams}
use Rattle.token_stream.specs.Computed.{stream_of}
use Rattle.expression_grammar.specs.Kinds.{place}
use Rattle.expression_grammar.specs.Laws.{Begins, front}
use Rattle.step_rule.specs.Programs.{Program}
use Rattle.step_rule.specs.Codes.{WellFormed}
use Rattle.step_rule.specs.Meaning.{meaning_of}
use Rattle.system.specs.Justice.{Lawful}
use Rattle.lock_grammar.specs.Names.{Name, index_of}
use Rattle.lock_grammar.specs.Grammar.{LockText}
use Rattle.lock_grammar.specs.Combinators.{Position, refused, read}
use Rattle.lock_grammar.specs.Reading.{text_read}

-- A name is found at the first place where it stands among the names, and not found where it is none of them.
pub record NamesAreFound : Type 0 where
  pub there : (names : List Name) (w : Name) (i : ℕ) → index_of names w ≡ Some i → slice_get names i ≡ Some w
  pub first : (names : List Name) (w : Name) (i j : ℕ) → index_of names w ≡ Some i → j < i → ¬ (slice_get names j ≡ Some w)
  pub nowhere : (names : List Name) (w : Name) → index_of names w ≡ None → (j : ℕ) → ¬ (slice_get names j ≡ Some w)

-- The stream is the text of this program: its tokens up to its end are in the grammar.
abbrev pub Means : Stream → Program → Type 0
Means x p = (ls : List Lexeme) × (n : ℕ) × Begins x ls (end n) × LockText p ls

-- The stream is read as this program.
abbrev pub ReadAs : Stream → Program → Type 0
ReadAs x p = (s : Position) × (text_read x ≡ read p s)

-- The text, by its bytes, means this program.
abbrev pub TextMeans : List ℕ → Program → Type 0
TextMeans t p = (ls : List Lexeme) × TokensOf t ls × LockText p ls

-- A text is read as a program exactly when it means it.
abbrev pub ReadExactly : Type 0
ReadExactly = (t : List ℕ) (p : Program) → (ReadAs (stream_of t) p → TextMeans t p) × (TextMeans t p → ReadAs (stream_of t) p)

-- What is read as a program means it.
abbrev pub SoundTexts : Type 0
SoundTexts = (x : Stream) (p : Program) → ReadAs x p → Means x p

-- What means a program is read as it.
abbrev pub CompleteTexts : Type 0
CompleteTexts = (x : Stream) (p : Program) → Means x p → ReadAs x p

-- The same tokens are one program.
abbrev pub OneProgram : Type 0
OneProgram = (ls : List Lexeme) (p q : Program) → LockText p ls → LockText q ls → p ≡ q

-- The program of a text is well formed.
abbrev pub WellFormedPrograms : Type 0
WellFormedPrograms = (p : Program) (ls : List Lexeme) → LockText p ls → WellFormed p

-- It means a lawful system.
abbrev pub LawfulSystems : Type 0
LawfulSystems = (p : Program) (ls : List Lexeme) → LockText p ls → Lawful (meaning_of p)

-- Where a text is refused at a token, every text with the same tokens up to and through that one is refused there by
-- the same number, and means no program.
abbrev pub FirstFaultOfTexts : Type 0
FirstFaultOfTexts =
    (x : Stream) (m : ℕ) (r : Stream) → text_read x ≡ refused m r →
    (before : List Lexeme) × Begins x before r × ((y q : Stream) → Begins y before q → front q ≡ front r → (text_read y ≡ refused m q) × ((p : Program) → ¬ Means y p))

-- Where a text is refused, every text with the same bytes up to and with the first one of the refused token, and with
-- the same token there, is refused there by the same number, and means no program.
abbrev pub FirstFaultByBytes : Type 0
FirstFaultByBytes =
    (t : List ℕ) (m : ℕ) (r : Stream) → text_read (stream_of t) ≡ refused m r →
    (u : List ℕ) (q : Stream) → take (place r + 1) t ≡ take (place r + 1) u → Streams u (place r) q → front q ≡ front r →
    (text_read (stream_of u) ≡ refused m q) × ((p : Program) → ¬ TextMeans u p)
