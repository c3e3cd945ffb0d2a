-- The tests that the lexer makes, as computed answers. Assumes nothing.
use Rattle.std.specs.Prelude.{◌≡◌, ℕ, ◌<◌, ◌≤◌, Bool, true, false, cond, ◌⊎◌, List, [], ◌∷◌, length, Some, None, Ok, Err, Option, Result, ◌==◌, slice_index}
use Rattle.lock_text.specs.declared.refusal.TextRefusal.{TextRefusal}
use Rattle.lock_text.specs.declared.refusal.TextRefusal.TheVariants.{TooLong, Spelling, Unwanted, OutOfRange, Declared, Unknown, AssignedTwice, PastLimit, TooManyStates}
use Rattle.lock_text.specs.Characters.{is_blank, is_digit, is_name_byte}
use Rattle.lock_text.specs.Spelling.{Lexeme, mark_spelling}
use Rattle.lock_text.specs.Tokens.{TokenAt, NextToken, NoToken, Misspelt, TokensOf, FirstMisspelt, content, max_text}
use Rattle.lock_text.specs.declared.lexer.Run.{Run}
use Rattle.lock_text.specs.declared.lexer.Run.TheVariants.{Blanks, Digits, Name}
use Rattle.lock_text.specs.declared.token.Mark.{Mark}
use Rattle.lock_text.specs.declared.token.Placed.{Placed}
use Rattle.lock_text.specs.declared.token.Token.{Token}
use Rattle.lock_text.specs.declared.token.Mark.TheVariants.{Open, Close, Plus, Minus, Assign, Equal, NotEqual, Less, LessEqual, Colon, Semicolon, Comma}

-- The byte belongs to such a run of bytes.
abbrev pub in_run : Run → ℕ → Bool
in_run Blanks b = is_blank b
in_run Digits b = is_digit b
in_run Name b = is_name_byte b

-- The longest mark that begins with the byte b, where `followed` says whether = stands behind it.
abbrev pub longest_mark : ℕ → Bool → Option Mark
longest_mark b followed =
    cond (b == 0x28) (Some Open) (cond (b == 0x29) (Some Close) (cond (b == 0x2b) (Some Plus) (cond (b == 0x2d) (Some Minus)
    (cond (b == 0x3d) (Some (cond followed Equal Assign)) (cond (b == 0x21) (cond followed (Some NotEqual) None)
    (cond (b == 0x3c) (Some (cond followed LessEqual Less)) (cond (b == 0x3a) (Some Colon) (cond (b == 0x3b) (Some Semicolon)
    (cond (b == 0x2c) (Some Comma) None)))))))))

-- The mark m begins with the byte b, and has no other byte unless = is behind it.
abbrev pub BeginsMark : ℕ → Bool → Mark → Type 0
BeginsMark b followed m = (mark_spelling m ≡ b ∷ []) ⊎ ((mark_spelling m ≡ b ∷ 0x3d ∷ []) × (followed ≡ true))

-- The bytes of t from a up to e, and no further one, pass the test.
pub record RunTo (f : ℕ → Bool) (t : List ℕ) (a e : ℕ) : Type 0 where
  pub after : a ≤ e
  pub within : a ≤ length t → e ≤ length t
  pub beyond : length t ≤ a → e ≡ a
  pub each : (i : ℕ) → a ≤ i → i < e → f (slice_index t i) ≡ true
  pub stops : e < length t → f (slice_index t e) ≡ false

-- The token that stands in t at a, or that none does.
abbrev pub TokenFrom : List ℕ → ℕ → Option (Placed Token) → Type 0
TokenFrom t a (Some p) = (p.start ≡ a) × TokenAt t a (content p.token) p.end
TokenFrom t a None = (l : Lexeme) (e : ℕ) → ¬ TokenAt t a l e

-- What the lexer answers from the place a on: a text that is too long is refused before anything is looked at;
-- else the next token with its place, or that only blanks are left, or the first byte where no token stands. The
-- lexer has no other refusal.
abbrev pub Lexes : List ℕ → ℕ → Result (Option (Placed Token)) TextRefusal → Type 0
Lexes t a (Err TooLong) = max_text < length t
Lexes t a (Err (Spelling s)) = (length t ≤ max_text) × Misspelt t a s
Lexes t a (Err (Unwanted s)) = ⊥
Lexes t a (Err (OutOfRange s)) = ⊥
Lexes t a (Err (Declared s)) = ⊥
Lexes t a (Err (Unknown s)) = ⊥
Lexes t a (Err (AssignedTwice s)) = ⊥
Lexes t a (Err (PastLimit s)) = ⊥
Lexes t a (Err (TooManyStates s)) = ⊥
Lexes t a (Ok None) = (length t ≤ max_text) × NoToken t a
Lexes t a (Ok (Some p)) = (length t ≤ max_text) × NextToken t a (content p.token) p.start p.end

-- How many tokens a text has, or why it is refused.
abbrev pub CountsTokens : List ℕ → Result ℕ TextRefusal → Type 0
CountsTokens t (Err TooLong) = max_text < length t
CountsTokens t (Err (Spelling s)) = (length t ≤ max_text) × FirstMisspelt t s
CountsTokens t (Err (Unwanted s)) = ⊥
CountsTokens t (Err (OutOfRange s)) = ⊥
CountsTokens t (Err (Declared s)) = ⊥
CountsTokens t (Err (Unknown s)) = ⊥
CountsTokens t (Err (AssignedTwice s)) = ⊥
CountsTokens t (Err (PastLimit s)) = ⊥
CountsTokens t (Err (TooManyStates s)) = ⊥
CountsTokens t (Ok n) = (length t ≤ max_text) × ((ls : List Lexeme) × TokensOf t ls × (length ls ≡ n))
