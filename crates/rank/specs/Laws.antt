-- What each kind of rank proves. Assumes nothing.
use Rattle.std.specs.Prelude.{ℕ, suc, List}
use Rattle.rank.specs.Kinds.{Kind, Below, Same}

-- Same is an equivalence, same ranks stand alike on both sides of below, and no chain falls for ever.
pub record LawfulKind (K : Kind) : Type 0 where
  pub same_refl : (a : List ℕ) → Same K a a
  pub same_sym : (a b : List ℕ) → Same K a b → Same K b a
  pub same_trans : (a b c : List ℕ) → Same K a b → Same K b c → Same K a c
  pub below_left : (a b c : List ℕ) → Same K a b → Below K b c → Below K a c
  pub below_right : (a b c : List ℕ) → Below K a b → Same K b c → Below K a c
  pub no_falling : (f : ℕ → List ℕ) → ¬ ((i : ℕ) → Below K (f (suc i)) (f i))
