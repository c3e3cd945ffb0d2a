-- The tokens of a text, computed. Assumes nothing.
use Rattle.std.specs.Prelude.{ℕ, zero, suc, ◌+◌, Bool, cond, List, [], ◌∷◌, length, take, drop, Some, None, Option, ◌==◌, nat_le, slice_index}
use Rattle.std.specs.Str.{bytes_eq}
use Rattle.lock_text.specs.Characters.{is_blank, is_letter, is_digit, is_name_byte}
use Rattle.lock_text.specs.Spelling.{Lexeme, name, number, word, mark, word_spelling, mark_spelling, max_name, max_digits}
use Rattle.lock_text.specs.Lexing.{longest_mark}
use Rattle.lock_text.specs.declared.token.Word.{Word}
use Rattle.lock_text.specs.declared.token.Word.TheVariants.{Procs, Vars, Locs, Classes, Cmds, Idle, Try, Crit, Exit, And, Or, Not}
use Rattle.lock_text.specs.declared.token.Word.TheVariants as Words
use Rattle.lock_text.specs.declared.token.Mark.{Mark}
use Rattle.token_stream.specs.Streams.{Stream, token, fault, end, Streams}

abbrev pub all_words : List Word
all_words = Procs ∷ Vars ∷ Locs ∷ Classes ∷ Cmds ∷ Idle ∷ Try ∷ Crit ∷ Exit ∷ Words.None ∷ And ∷ Or ∷ Not ∷ []

abbrev pub named_among : List Word → List ℕ → Option Word
named_among [] w = None
named_among (k ∷ ks) w = cond (bytes_eq w (word_spelling k)) (Some k) (named_among ks w)

-- The reserved word with these bytes.
abbrev pub word_named : List ℕ → Option Word
word_named = named_among all_words

-- How many bytes in front pass the test.
unfoldable pub run_length : (ℕ → Bool) → List ℕ → ℕ
run_length f [] = 0
run_length f (b ∷ w) = cond (f b) (run_length f w + 1) 0

abbrev pub name_or_word : List ℕ → Option Word → Lexeme
name_or_word w (Some k) = word k
name_or_word w None = name w

abbrev pub name_front : List ℕ → ℕ → Option (Lexeme × ℕ)
name_front w n = cond (nat_le n max_name) (Some (name_or_word (take n w) (word_named (take n w)), n)) None

abbrev pub number_front : List ℕ → ℕ → Option (Lexeme × ℕ)
number_front w n = cond (nat_le n max_digits) (Some (number (take n w), n)) None

abbrev pub mark_front : Option Mark → Option (Lexeme × ℕ)
mark_front (Some m) = Some (mark m, length (mark_spelling m))
mark_front None = None

-- The token in front of the bytes w, which begin with b, and its length.
abbrev pub front : ℕ → List ℕ → Option (Lexeme × ℕ)
front b w =
    cond (is_letter b) (name_front w (run_length is_name_byte w))
    (cond (is_digit b) (number_front w (run_length is_digit w)) (mark_front (longest_mark b (slice_index w 1 == 0x3d))))

-- The stream of the bytes w that stand from s on, where no blank is, by the stream of what is left after a token.
abbrev pub stream_after : ℕ → Option (Lexeme × ℕ) → List ℕ → (ℕ → List ℕ → Stream) → Stream
stream_after s None w rest = fault s
stream_after s (Some (l, n)) w rest = token l s (rest (s + n) (drop n w))

abbrev pub stream_at : ℕ → List ℕ → (ℕ → List ℕ → Stream) → Stream
stream_at s [] rest = end s
stream_at s (b ∷ w) rest = stream_after s (front b (b ∷ w)) (b ∷ w) rest

-- The stream of the bytes w that stand from a on; the first number bounds how many tokens there are.
unfoldable pub stream_from : ℕ → ℕ → List ℕ → Stream
stream_from zero a w = end a
stream_from (suc f) a w = stream_at (a + run_length is_blank w) (drop (run_length is_blank w) w) (stream_from f)

-- The tokens of a text.
abbrev pub stream_of : List ℕ → Stream
stream_of t = stream_from (length t + 1) 0 t

-- It is the stream that the text is.
abbrev pub StreamOfText : Type 0
StreamOfText = (t : List ℕ) → Streams t 0 (stream_of t)
