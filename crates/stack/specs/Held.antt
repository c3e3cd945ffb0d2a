-- What a stack holds. Assumes nothing.
use Rattle.std.specs.Prelude.{ℕ, List, [], ◌∷◌, reverse, length, take, Some, None, Option}
use Rattle.stack.specs.declared.room.Stack.{Stack}

module _ {T : Type 0} where
  -- The first n places of a room, last first.
  unfoldable pub stacked : List T → ℕ → List T
  stacked room n = reverse (take n room)

  -- What the stack holds, top first.
  abbrev pub held : Stack T → List T
  held s = stacked s.room.now s.len

  -- How many elements it has room for.
  abbrev pub places : Stack T → ℕ
  places s = length s.room.now

  -- The top of a list that is a stack.
  abbrev pub top_of : List T → Option T
  top_of [] = None
  top_of (x ∷ xs) = Some x

  -- The list with another top; one that is empty stays so.
  abbrev pub with_top : T → List T → List T
  with_top y [] = []
  with_top y (x ∷ xs) = y ∷ xs
