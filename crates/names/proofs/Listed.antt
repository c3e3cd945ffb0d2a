-- A name is found at its first place. Assumes nothing.
use Rattle.std.proofs.Common.{◌≡◌, ℕ, suc, ◌+◌, ◌<◌, ◌≤◌, true, false, cond, ◌⊎◌, List, [], ◌∷◌, map, length, take, Some, None, refl, ap, ◌∙◌, inl, inr, arith, Bor, lt-ltb, le-ltb}
use Rattle.std.specs.Prelude.{nat_lt}
use Rattle.std.specs.List.{position_or_len}
use Rattle.std.specs.Str.{bytes_eq}
use Rattle.std.proofs.lemmas.Bool.{cases_Bool, cases_lt}
use Rattle.std.proofs.lemmas.List.{length-map, length-take-le}
use Rattle.names.specs.Listed.{listed, index_of, one_further}
use Rattle.names.specs.declared.list.NameList.{NameList}

one_later : (q n : ℕ) → cond (nat_lt (1 + q) (suc n)) (Some (1 + q)) None ≡ one_further (cond (nat_lt q n) (Some q) None)
one_later q n = by (cases_lt q n)
  where
    by : (q < n) ⊎ (n ≤ q) → cond (nat_lt (1 + q) (suc n)) (Some (1 + q)) None ≡ one_further (cond (nat_lt q n) (Some q) None)
    by (inl h) = rw (lt-ltb (1 + q) (suc n) (omega arith)) (rw (lt-ltb q n h) (let e : 1 + q ≡ q + 1 = omega arith in rw e refl))
    by (inr h) = rw (le-ltb (1 + q) (suc n) (omega arith)) (rw (le-ltb q n h) refl)

-- the first of the names that is w
pub index_is_position : (ps : List (Bor (List ℕ))) (w : List ℕ) →
    cond (nat_lt (position_or_len (λ p. bytes_eq p.now w) ps) (length ps)) (Some (position_or_len (λ p. bytes_eq p.now w) ps)) None ≡ index_of (map (λ p. p.now) ps) w
index_is_position [] w = refl
index_is_position (p ∷ ps) w = by (index_is_position ps w) (cases_Bool (bytes_eq p.now w))
  where
    by : cond (nat_lt (position_or_len (λ o. bytes_eq o.now w) ps) (length ps)) (Some (position_or_len (λ o. bytes_eq o.now w) ps)) None ≡ index_of (map (λ o. o.now) ps) w →
        (bytes_eq p.now w ≡ true) ⊎ (bytes_eq p.now w ≡ false) →
        cond (nat_lt (position_or_len (λ o. bytes_eq o.now w) (p ∷ ps)) (length (p ∷ ps))) (Some (position_or_len (λ o. bytes_eq o.now w) (p ∷ ps))) None ≡ index_of (map (λ o. o.now) (p ∷ ps)) w
    by rest (inl e) = rw e (ap (λ b. cond b (Some 0) None) (lt-ltb 0 (suc (length ps)) (omega arith)))
    by rest (inr e) = rw (e, ← rest) (one_later (position_or_len (λ o. bytes_eq o.now w) ps) (length ps))

pub listed_length : (t : NameList) → length (listed t) ≡ t.count
listed_length t =
    let few = t.few in
    let long = t.long in
    length-map (take t.count t.names) (λ p. p.now) ∙ length-take-le t.count t.names (omega arith)
