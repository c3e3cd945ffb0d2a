-- The lists of a view, where it says that they begin. Assumes nothing.
use Rattle.std.proofs.Common.{◌≡◌, ℕ, ◌+◌, ◌*◌, ◌<◌, ◌≤◌, Bool, List, length, get_or, is_some, Some, None, Decides, Option, sym, ap, ◌∙◌, subst, ap₂, arith}
use Rattle.byte_numbers.specs.Numbers.{number_at}
use Rattle.rank.specs.Kinds.{numbers_at}
use Rattle.rank_rule.specs.Certificate.{Listed, HasRow}
use Rattle.certificate_theory.specs.declared.limits.Limits.{Limits}
use Rattle.certificate_theory.specs.Reading.{Reads}
use Rattle.certificate_theory.specs.Content.{content, row_at, rows_start}
use Rattle.certificate_theory.specs.Lists.{StateList, Found}
use Rattle.certificate_theory.specs.Points.{OnlyRow}
use Rattle.certificate_theory.proofs.Entries.{listed_list, rows_list}
use Rattle.certificate_theory.proofs.Scans.{whole_reads}
use Rattle.certificate_theory.proofs.Finds.{found_listed, found_unlisted, no_row, row_within, only_row}
use Rattle.certificate_view.specs.declared.view.View.{View}
use Rattle.certificate_view.specs.Held.{certificate_of, RowPlace}

module _ (L : Limits) (bytes : List ℕ) (p at : ℕ) (below : p < L.processes) (e : at ≡ rows_start L.numbers bytes p) where
  pub none_here : (s : ℕ) → Found bytes (at + 4) (5 + 4 * L.numbers) (number_at bytes at) s None → ¬ HasRow (content L bytes) p s
  none_here s none =
      no_row L bytes p s below (subst (λ (x : ℕ). Found bytes (x + 4) (5 + 4 * L.numbers) (number_at bytes x) s None) e none)

  module _ (reads : Reads L bytes) where
    pub list_here : StateList bytes (at + 4) (5 + 4 * L.numbers) (number_at bytes at) L.states
    list_here =
        subst (λ (x : ℕ). StateList bytes (x + 4) (5 + 4 * L.numbers) (number_at bytes x) L.states) (sym e) (rows_list L bytes reads p below)

    pub count_here : at + 4 ≤ length bytes
    count_here = let w = list_here.within in omega arith

    -- the row i of the list
    pub row_here : (s i : ℕ) → Found bytes (at + 4) (5 + 4 * L.numbers) (number_at bytes at) s (Some i)
        → (((at + 4) + (5 + 4 * L.numbers) * i) + (5 + 4 * L.numbers) ≤ length bytes)
        × OnlyRow (content L bytes) p s (row_at L.numbers bytes ((at + 4) + (5 + 4 * L.numbers) * i))
    row_here s i found =
        let f = subst (λ (x : ℕ). Found bytes (x + 4) (5 + 4 * L.numbers) (number_at bytes x) s (Some i)) e found in
        subst (λ (x : ℕ).
        (((x + 4) + (5 + 4 * L.numbers) * i) + (5 + 4 * L.numbers) ≤ length bytes)
        × OnlyRow (content L bytes) p s (row_at L.numbers bytes ((x + 4) + (5 + 4 * L.numbers) * i)))
        (sym e) (row_within L bytes reads p i below f.0, only_row L bytes reads p s i below f)

-- the same of a view
pub view_reads : (v : View) → Reads v.limits v.bytes.now
view_reads v = whole_reads v.limits v.bytes.now v.reads

module _ (v : View) (p : ℕ) (below : p < v.limits.processes) where
  abbrev at_start : ℕ
  at_start = get_or v.starts p 0

  abbrev row_width : ℕ
  row_width = 5 + 4 * v.limits.numbers

  pub view_list : StateList v.bytes.now (at_start + 4) row_width (number_at v.bytes.now at_start) v.limits.states
  view_list = list_here v.limits v.bytes.now p at_start below (v.begins p below) (view_reads v)

  pub view_count : at_start + 4 ≤ length v.bytes.now
  view_count = count_here v.limits v.bytes.now p at_start below (v.begins p below) (view_reads v)

  pub view_row : (s m i : ℕ) → m ≡ number_at v.bytes.now at_start → Found v.bytes.now (at_start + 4) row_width m s (Some i)
      → RowPlace v p s (Some ((at_start + 4) + row_width * i))
  view_row s m i e f =
      row_here v.limits v.bytes.now p at_start below (v.begins p below) (view_reads v) s i
      (subst (λ (x : ℕ). Found v.bytes.now (at_start + 4) row_width x s (Some i)) e f)

  pub view_no_row : (s m : ℕ) → m ≡ number_at v.bytes.now at_start → Found v.bytes.now (at_start + 4) row_width m s None → RowPlace v p s None
  view_no_row s m e f =
      none_here v.limits v.bytes.now p at_start below (v.begins p below) s
      (subst (λ (x : ℕ). Found v.bytes.now (at_start + 4) row_width x s None) e f)

-- the state list of a view
module _ (v : View) where
  pub view_listed : StateList v.bytes.now 5 4 (number_at v.bytes.now 1) v.limits.states
  view_listed = listed_list v.limits v.bytes.now (view_reads v)

  pub found_decides : (s m : ℕ) (o : Option ℕ) (r : Bool) → m ≡ number_at v.bytes.now 1 → r ≡ is_some o
      → Found v.bytes.now 5 4 m s o → Decides r (Listed (certificate_of v) s)
  found_decides s m (Some i) r e is f =
      ((λ _. found_listed v.limits v.bytes.now s i (subst (λ (x : ℕ). Found v.bytes.now 5 4 x s (Some i)) e f)), (λ _. is))
  found_decides s m None r e is f = (
    (λ yes. let z : ◌≡◌ {A = ℕ} 0 1 = cc in absurd (let q : ⊥ = omega arith in q)),
    (λ has. absurd (found_unlisted v.limits v.bytes.now s (subst (λ (x : ℕ). Found v.bytes.now 5 4 x s None) e f) has)),
  )

-- a row that is read from its place
pub read_row : (v : View) (p s at n : ℕ) (rank : List ℕ) → v.limits.numbers ≡ n → rank ≡ numbers_at v.bytes.now (at + 5) n
    → RowPlace v p s (Some at) → OnlyRow (certificate_of v) p s (record { state = s; class = get_or v.bytes.now (at + 4) 0; rank = rank })
read_row v p s at n rank e is (_, only) =
    let bs = v.bytes.now in
    let same : row_at v.limits.numbers bs at ≡ record { state = s; class = get_or bs (at + 4) 0; rank = rank } =
    ap₂ (λ (a : ℕ) (b : List ℕ). record { state = a; class = get_or bs (at + 4) 0; rank = b }) only.0.1 (ap (numbers_at bs (at + 5)) e ∙ sym is) in
    subst (OnlyRow (certificate_of v) p s) same only

pub place_decides : (v : View) (p s : ℕ) (o : Option ℕ) (r : Bool) → r ≡ is_some o → RowPlace v p s o → Decides r (HasRow (certificate_of v) p s)
place_decides v p s (Some at) r is (_, only) = ((λ _. (row_at v.limits.numbers v.bytes.now at, only.0)), (λ _. is))
place_decides v p s None r is none =
    ((λ yes. let z : ◌≡◌ {A = ℕ} 0 1 = cc in absurd (let q : ⊥ = omega arith in q)), (λ has. absurd (none has)))
