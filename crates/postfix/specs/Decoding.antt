-- Postfix items and the expression that they are of. Assumes nothing.
use Rattle.std.specs.Prelude.{◌≡◌, ℕ, ◌+◌, ◌-◌, Bool, ◌&&◌, List, [], ◌∷◌, ◌==◌, nat_lt}
use Rattle.expression.specs.Tree.{Tree, number, variable, denial, joined, items}
use Rattle.expression.specs.declared.Item.{Item}
use Rattle.expression.specs.declared.Item.TheVariants.{Number, Variable, Not, Operator as Joins}
use Rattle.step_rule.specs.Programs.{GoodTree}

-- The expressions read so far, the last one first, after one item more. An item without its parts leaves none.
abbrev pub grown : Item → List Tree → List Tree
grown (Number n) ts = number n ∷ ts
grown (Variable v) ts = variable v ∷ ts
grown Not [] = []
grown Not (a ∷ ts) = denial a ∷ ts
grown (Joins o) [] = []
grown (Joins o) (b ∷ []) = []
grown (Joins o) (b ∷ a ∷ ts) = joined o a b ∷ ts

abbrev pub trees : List Item → List Tree → List Tree
trees [] ts = ts
trees (x ∷ xs) ts = trees xs (grown x ts)

-- The last expression of a list, or the number 0 where there is none.
abbrev pub first_of : List Tree → Tree
first_of [] = number 0
first_of (t ∷ ts) = t

-- The expression whose items these are.
abbrev pub tree_of : List Item → Tree
tree_of xs = first_of (trees xs [])

-- Whether the items go on as those of one expression over the first n variables, where so many expressions stand
-- open and so many operands were read.
abbrev pub goes_on : ℕ → List Item → ℕ → ℕ → Bool
goes_on n [] depth count = depth == 1
goes_on n (Number k ∷ xs) depth count = nat_lt k 256 && (nat_lt count 32 && goes_on n xs (depth + 1) (count + 1))
goes_on n (Variable v ∷ xs) depth count = nat_lt v n && (nat_lt count 32 && goes_on n xs (depth + 1) (count + 1))
goes_on n (Not ∷ xs) depth count = nat_lt 0 depth && goes_on n xs depth count
goes_on n (Joins o ∷ xs) depth count = nat_lt 1 depth && goes_on n xs (depth - 1) count

-- Whether the items are those of an expression within the limits.
abbrev pub admitted : ℕ → List Item → Bool
admitted n xs = goes_on n xs 0 0

-- The items are those of their expression, which is over the first n variables and within the limit on operands.
pub record IsExpression (n : ℕ) (xs : List Item) (t : Tree) : Type 0 where
  pub written : xs ≡ items t
  pub good : GoodTree n t
