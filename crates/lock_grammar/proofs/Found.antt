-- Names are found where they stand. Assumes nothing.
use Rattle.std.proofs.Common.{◌≡◌, ℕ, zero, suc, ◌+◌, ◌<◌, Bool, true, false, cond, List, [], ◌∷◌, Some, None, Decides, Option, sym, refl, ap, subst, add-one, arith}
use borrow.Author.Tests.{clash}
use Rattle.std.specs.List.{slice_get}
use Rattle.std.specs.Str.{bytes_eq}
use Rattle.std.proofs.lemmas.Slice.Eq.{bytes_eq-Decides}
use Rattle.lock_grammar.specs.Names.{Name, one_later, index_of}
use Rattle.lock_grammar.specs.Laws.{NamesAreFound}

-- what the answer says of the place where w stands among the names
abbrev Finds : List Name → Name → Option ℕ → Type 0
Finds names w (Some i) = (slice_get names i ≡ Some w) × ((j : ℕ) → j < i → ¬ (slice_get names j ≡ Some w))
Finds names w None = (j : ℕ) → ¬ (slice_get names j ≡ Some w)

none_some : {A : Type 0} {w : Name} → ◌≡◌ {A = Option Name} None (Some w) → A
none_some h = let z : ◌≡◌ {A = ℕ} 0 1 = cc in absurd (omega arith)

later : (n : Name) (ns : List Name) (w : Name) → ¬ (w ≡ n) → (o : Option ℕ) → Finds ns w o → Finds (n ∷ ns) w (one_later o)
later n ns w other None f = λ j. elsewhere j
  where
    elsewhere : (j : ℕ) → ¬ (slice_get (n ∷ ns) j ≡ Some w)
    elsewhere zero h = other (cc)
    elsewhere (suc j) h = f j h
later n ns w other (Some i) (p, f) = (subst (λ (k : ℕ). slice_get (n ∷ ns) k ≡ Some w) (sym (add-one i)) p, λ j. elsewhere j)
  where
    elsewhere : (j : ℕ) → j < i + 1 → ¬ (slice_get (n ∷ ns) j ≡ Some w)
    elsewhere zero l h = other (cc)
    elsewhere (suc j) l h = f j (omega arith) h

found_by : (n : Name) (ns : List Name) (w : Name) (b : Bool) (o : Option ℕ) → Decides b (w ≡ n) → Finds ns w o → Finds (n ∷ ns) w (cond b (Some 0) (one_later o))
found_by n ns w true o d f = (ap (λ (m : Name). Some m) (sym (d.0 refl)), λ j l h. omega arith)
found_by n ns w false o d f = later n ns w (λ e. clash (d.1 e)) o f

finds : (names : List Name) (w : Name) → Finds names w (index_of names w)
unfolding index_of
finds [] w = λ j h. none_some h
finds (n ∷ ns) w = found_by n ns w (bytes_eq w n) (index_of ns w) (bytes_eq-Decides w n) (finds ns w)

pub names_are_found_lem : NamesAreFound
names_are_found_lem = record {
  there = λ names w i e. (subst (λ (o : Option ℕ). Finds names w o) e (finds names w)).0;
  first = λ names w i j e. (subst (λ (o : Option ℕ). Finds names w o) e (finds names w)).1 j;
  nowhere = λ names w e. subst (λ (o : Option ℕ). Finds names w o) e (finds names w);
}
