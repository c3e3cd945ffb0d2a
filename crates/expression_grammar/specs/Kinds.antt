-- What a token is to an expression. Assumes nothing.
use Rattle.std.specs.Prelude.{ℕ, ◌+◌, ◌-◌, ◌*◌, Bool, true, false, List, Some, None, fold, Option, nat_lt}
use Rattle.lock_text.specs.Spelling.{Lexeme, name, number, word, mark}
use Rattle.lock_text.specs.declared.token.Word.{Word}
use Rattle.lock_text.specs.declared.token.Word.TheVariants as Words
use Rattle.lock_text.specs.declared.token.Mark.{Mark}
use Rattle.lock_text.specs.declared.token.Mark.TheVariants as Marks
use Rattle.token_stream.specs.Streams.{Stream, token, fault, end}
use Rattle.expression.specs.declared.Operator.{Operator}
use Rattle.expression.specs.declared.Operator.TheVariants as Operators
use Rattle.expression_grammar.specs.declared.kind.Kind.{Kind}
use Rattle.expression_grammar.specs.declared.kind.Kind.TheVariants.{Number, Large, Variable, Unknown, Operator as Joins, Not, Open, Close, Other, Misspelt}

-- A number in base ten, by one more digit.
abbrev pub one_digit_more : ℕ → ℕ → ℕ
one_digit_more n b = n * 10 + (b - 0x30)

-- The value of digits, in base ten.
abbrev pub decimal : List ℕ → ℕ
decimal w = fold one_digit_more 0 w

-- The number of the variable with this name, if there is one. A location's name is no variable's.
abbrev pub Scope : Type 0
Scope = List ℕ → Option ℕ

abbrev pub kind_of_number : Bool → ℕ → Kind
kind_of_number true n = Number n
kind_of_number false n = Large

abbrev pub kind_of_name : Option ℕ → Kind
kind_of_name (Some v) = Variable v
kind_of_name None = Unknown

abbrev pub kind_of_word : Word → Kind
kind_of_word Words.Procs = Other
kind_of_word Words.Vars = Other
kind_of_word Words.Locs = Other
kind_of_word Words.Classes = Other
kind_of_word Words.Cmds = Other
kind_of_word Words.Idle = Other
kind_of_word Words.Try = Other
kind_of_word Words.Crit = Other
kind_of_word Words.Exit = Other
kind_of_word Words.None = Other
kind_of_word Words.And = Joins Operators.And
kind_of_word Words.Or = Joins Operators.Or
kind_of_word Words.Not = Not

abbrev pub kind_of_mark : Mark → Kind
kind_of_mark Marks.Open = Open
kind_of_mark Marks.Close = Close
kind_of_mark Marks.Plus = Joins Operators.Plus
kind_of_mark Marks.Minus = Joins Operators.Minus
kind_of_mark Marks.Assign = Other
kind_of_mark Marks.Equal = Joins Operators.Equal
kind_of_mark Marks.NotEqual = Joins Operators.NotEqual
kind_of_mark Marks.Less = Joins Operators.Less
kind_of_mark Marks.LessEqual = Joins Operators.LessEqual
kind_of_mark Marks.Colon = Other
kind_of_mark Marks.Semicolon = Other
kind_of_mark Marks.Comma = Other

-- What a token is to an expression.
abbrev pub kind : Scope → Lexeme → Kind
kind scope (name w) = kind_of_name (scope w)
kind scope (number w) = kind_of_number (nat_lt (decimal w) 256) (decimal w)
kind scope (word k) = kind_of_word k
kind scope (mark m) = kind_of_mark m

-- The token that an operator is written with.
abbrev pub sign : Operator → Lexeme
sign Operators.Or = word Words.Or
sign Operators.And = word Words.And
sign Operators.Equal = mark Marks.Equal
sign Operators.NotEqual = mark Marks.NotEqual
sign Operators.Less = mark Marks.Less
sign Operators.LessEqual = mark Marks.LessEqual
sign Operators.Plus = mark Marks.Plus
sign Operators.Minus = mark Marks.Minus

-- How tightly an operator binds: `or` least, then `and`, then the tests, then + and -.
abbrev pub rank : Operator → ℕ
rank Operators.Or = 0
rank Operators.And = 1
rank Operators.Equal = 2
rank Operators.NotEqual = 2
rank Operators.Less = 2
rank Operators.LessEqual = 2
rank Operators.Plus = 3
rank Operators.Minus = 3

-- What stands in front of a stream.
abbrev pub seen : Scope → Stream → Kind
seen scope (token l s x) = kind scope l
seen scope (fault s) = Misspelt
seen scope (end n) = Other

-- Where that stands: a token's first byte, a fault's first byte, or the text's length.
abbrev pub place : Stream → ℕ
place (token l s x) = s
place (fault s) = s
place (end n) = n

-- The stream after its first token.
abbrev pub behind : Stream → Stream
behind (token l s x) = x
behind (fault s) = fault s
behind (end n) = end n

-- How many tokens a stream has.
abbrev pub size : Stream → ℕ
size (token l s x) = size x + 1
size (fault s) = 0
size (end n) = 0
