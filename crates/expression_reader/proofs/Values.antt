-- A number of more digits is no smaller. Assumes nothing.
use Rattle.std.proofs.Common.{◌≡◌, ℕ, ◌+◌, ◌-◌, ◌*◌, ◌<◌, ◌≤◌, List, [], ◌∷◌, length, get_or, take, drop, None, sym, ap, ◌∙◌, arith, le-ltb, lt-ltb, take-append-drop}
use Rattle.std.proofs.lemmas.List.Sums.{fold-append, fold_more}
use Rattle.std.proofs.lemmas.List.{take_all}
use Rattle.std.specs.Prelude.{cond, Some, fold}
use Rattle.expression_grammar.specs.Kinds.{one_digit_more, decimal}
use Rattle.expression_reader.specs.Numbers.{up_to_255}

grows : (w : List ℕ) (a : ℕ) → a ≤ fold one_digit_more a w
grows [] a = omega arith
grows (b ∷ w) a = let more = grows w (one_digit_more a b) in omega arith

front : (w : List ℕ) (i : ℕ) → decimal (take i w) ≤ decimal w
front w i =
    let more = grows (drop i w) (decimal (take i w)) in
    let whole : decimal w ≡ fold one_digit_more (decimal (take i w)) (drop i w) = ap decimal (sym (take-append-drop i w)) ∙ fold-append one_digit_more 0 (take i w) (drop i w) in
    omega arith

-- one digit more is past 255
pub too_large : (w : List ℕ) (i v : ℕ) → i < length w → v ≡ decimal (take i w) → 255 < v * 10 + (get_or w i 0 - 48) → None ≡ up_to_255 (decimal w)
too_large w i v h e large =
    let more : decimal (take (i + 1) w) ≡ decimal (take i w) * 10 + (get_or w i 0 - 48) = fold_more one_digit_more 0 w i 0 h in
    let few = front w (i + 1) in
    sym (ap (λ b. cond b (Some (decimal w)) None) (le-ltb (decimal w) 256 (omega arith)))

pub small : (w : List ℕ) (i v : ℕ) → length w ≤ i → v ≡ decimal (take i w) → v < 256 → Some v ≡ up_to_255 (decimal w)
small w i v h e few =
    let same : v ≡ decimal w = e ∙ ap decimal (take_all i w h) in
    rw (← same) (sym (ap (λ b. cond b (Some v) None) (lt-ltb v 256 few)))
