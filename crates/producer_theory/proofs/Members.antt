-- Membership by a list's parts, and lists of numbers that climb. Assumes nothing.
use Rattle.std.proofs.Common.{◌≡◌, ℕ, zero, suc, ◌<◌, ◌≤◌, ◌⊎◌, ◌↔◌, List, [], ◌∷◌, map, length, get_or, sym, refl, subst, ap₂, inl, inr, add-one, arith}
use Rattle.std.specs.List.{ContainsAt as Has}
use Rattle.std.specs.List.Sorted.{IsStrictlyIncreasing}

pub has_head : {X : Type 0} (x : X) (xs : List X) → Has (x ∷ xs) x
has_head x xs = (0, omega arith, λ d. refl)

pub has_tail : {X : Type 0} (x y : X) (xs : List X) → Has xs y → Has (x ∷ xs) y
has_tail x y xs (k, within, read) = (suc k, omega arith, read)

pub has_nil : {X : Type 0} (y : X) → Has [] y → ⊥
has_nil y (k, within, read) = omega arith

pub has_cases : {X : Type 0} (x y : X) (xs : List X) → Has (x ∷ xs) y → (x ≡ y) ⊎ Has xs y
has_cases x y xs (zero, within, read) = inl (read x)
has_cases x y xs (suc k, within, read) = inr (k, omega arith, read)

pub has_map : {X Y : Type 0} (f : X → Y) (xs : List X) (x : X) → Has xs x → Has (map f xs) (f x)
has_map f [] x h = absurd (has_nil x h)
has_map f (y ∷ xs) x h = by (λ g. has_map f xs x g) (has_cases y x xs h)
  where
    by : (Has xs x → Has (map f xs) (f x)) → (y ≡ x) ⊎ Has xs x → Has (map f (y ∷ xs)) (f x)
    by on (inl e) = subst (λ z. Has (f z ∷ map f xs) (f x)) (sym e) (has_head (f x) (map f xs))
    by on (inr g) = has_tail (f y) (f x) (map f xs) (on g)

pub has_unmap : {X Y : Type 0} (f : X → Y) (xs : List X) (y : Y) → Has (map f xs) y → (x : X) × Has xs x × (f x ≡ y)
has_unmap f [] y h = absurd (has_nil y h)
has_unmap {X} f (x ∷ xs) y h = by (λ g. has_unmap f xs y g) (has_cases (f x) y (map f xs) h)
  where
    by : (Has (map f xs) y → (z : X) × Has xs z × (f z ≡ y)) → (f x ≡ y) ⊎ Has (map f xs) y → (z : X) × Has (x ∷ xs) z × (f z ≡ y)
    by on (inl e) = (x, has_head x xs, e)
    by on (inr g) = let (z, has, e) = on g in (z, has_tail x z xs has, e)

climbs_tail : (x : ℕ) (xs : List ℕ) → IsStrictlyIncreasing (x ∷ xs) → IsStrictlyIncreasing xs
climbs_tail x xs c k within = simp add-one (simp add-one at (c (suc k) (omega arith)))

pub climbs_above : (x : ℕ) (xs : List ℕ) → IsStrictlyIncreasing (x ∷ xs) → (y : ℕ) → Has xs y → x < y
climbs_above x [] c y h = absurd (has_nil y h)
climbs_above x (z ∷ xs) c y h = by (λ g. climbs_above z xs (climbs_tail x (z ∷ xs) c) y g) (has_cases z y xs h)
  where
    step : x < z
    step = c 0 (omega arith)

    by : (Has xs y → z < y) → (z ≡ y) ⊎ Has xs y → x < y
    by on (inl e) = omega (arith, step)
    by on (inr g) = let h' = on g in omega (arith, step)

-- two lists that climb and have the same members are one
pub climb_one : (xs ys : List ℕ) → IsStrictlyIncreasing xs → IsStrictlyIncreasing ys → ((x : ℕ) → Has xs x ↔ Has ys x) → xs ≡ ys
climb_one [] [] c d same = refl
climb_one [] (y ∷ ys) c d same = absurd (has_nil y ((same y).1 (has_head y ys)))
climb_one (x ∷ xs) [] c d same = absurd (has_nil x ((same x).0 (has_head x xs)))
climb_one (x ∷ xs) (y ∷ ys) c d same = ap₂ (λ a l. a ∷ l) heads (climb_one xs ys (climbs_tail x xs c) (climbs_tail y ys d) tails)
  where
    below : (a b : ℕ) (l l' : List ℕ) → IsStrictlyIncreasing (b ∷ l') → Has (b ∷ l') a → b ≤ a
    below a b l l' climbs h = by (has_cases b a l' h)
      where
        by : (b ≡ a) ⊎ Has l' a → b ≤ a
        by (inl e) = omega arith
        by (inr g) = let lt = climbs_above b l' climbs a g in omega arith

    heads : x ≡ y
    heads =
        let one = below x y xs ys d ((same x).0 (has_head x xs)) in
        let two = below y x ys xs c ((same y).1 (has_head y ys)) in
        omega arith

    rest_of : (a b z : ℕ) (l l' : List ℕ) → a ≡ b → IsStrictlyIncreasing (a ∷ l) → Has l z → Has (b ∷ l') z → Has l' z
    rest_of a b z l l' e climbs h g = by (has_cases b z l' g)
      where
        by : (b ≡ z) ⊎ Has l' z → Has l' z
        by (inl f) = let lt = climbs_above a l climbs z h in absurd (omega arith)
        by (inr g') = g'

    tails : (z : ℕ) → Has xs z ↔ Has ys z
    tails z = (
      (λ h. rest_of x y z xs ys heads c h ((same z).0 (has_tail x z xs h))),
      (λ h. rest_of y x z ys xs (sym heads) d h ((same z).1 (has_tail y z ys h))),
    )

-- lists of one length whose elements are the same are one
pub lists_one : {X : Type 0} (d : X) (xs ys : List X) → length xs ≡ length ys → ((i : ℕ) → i < length xs → get_or xs i d ≡ get_or ys i d) → xs ≡ ys
lists_one d [] [] l e = refl
lists_one d [] (y ∷ ys) l e = absurd (let f : ⊥ = omega arith in f)
lists_one d (x ∷ xs) [] l e = absurd (let f : ⊥ = omega arith in f)
lists_one d (x ∷ xs) (y ∷ ys) l e =
    ap₂ (λ a r. a ∷ r) (e 0 (omega arith)) (lists_one d xs ys (omega arith) (λ i h. e (suc i) (omega arith)))
