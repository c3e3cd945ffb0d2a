-- One turn of each loop that reads. Assumes nothing.
use Rattle.std.proofs.Common.{◌≡◌, ℕ, zero, suc, ◌+◌, ◌-◌, ◌*◌, ◌<◌, ◌≤◌, Bool, true, false, cond, ltb, leb, List, [], ◌∷◌, ◌++◌, length, get_or, is_some, Some, None, Option, refl, ap, ◌∙◌, subst, arith}
use Rattle.std.proofs.lemmas.Bool.{eq-eqb, lt-ltb, le-ltb, le-leb}
use Rattle.byte_numbers.specs.Numbers.{number_at}
use Rattle.certificate_theory.specs.declared.limits.Limits.{Limits}
use Rattle.certificate_theory.specs.declared.refusal.Refusal.{Refusal}
use Rattle.certificate_theory.specs.declared.refusal.Refusal.TheVariants.{Length, KindByte}
use Rattle.certificate_theory.specs.Fields.{Field, kind, state, number, width, widths, rank_fields, row_tail, entries, list_fields, list_end, row_lists, fields}
use Rattle.certificate_theory.specs.Reading.{is_right, fault, first_of, field_fault, first_fault, reading_fault}
use Rattle.certificate_theory.specs.Content.{list_start, rows_start}
use Rattle.certificate_theory.proofs.Scans.{fault_append, widths_append, first_of_assoc, first_of_none, first_of_some}
use Rattle.certificate_theory.proofs.Entries.{widths_list, widths_row, start_after}

pub one_less : (n i : ℕ) → i < n → n - i ≡ suc (n - (i + 1))
one_less n i h = omega arith

pub none_left : (n i : ℕ) → n ≤ i → n - i ≡ zero
none_left n i h = omega arith

module _ (L : Limits) (bytes : List ℕ) where
  -- numbers of a rank
  pub numbers_turn : (n i at : ℕ) → i < n
      → first_fault L bytes at (rank_fields (n - i)) ≡ first_of (field_fault L bytes at number) (first_fault L bytes (at + 4) (rank_fields (n - (i + 1))))
  numbers_turn n i at h = ap (λ m. first_fault L bytes at (rank_fields m)) (one_less n i h)

  pub numbers_over : (n i at : ℕ) → n ≤ i → first_fault L bytes at (rank_fields (n - i)) ≡ None
  numbers_over n i at h = ap (λ m. first_fault L bytes at (rank_fields m)) (none_left n i h)

  -- entries of a list
  pub entries_turn : (tail : List Field) (n i at : ℕ) (before : Option ℕ) → i < n
      → first_fault L bytes at (entries bytes at tail before (n - i))
      ≡ first_of (first_fault L bytes at (state before ∷ tail))
      (first_fault L bytes (at + (4 + widths tail)) (entries bytes (at + (4 + widths tail)) tail (Some (number_at bytes at)) (n - (i + 1))))
  entries_turn tail n i at before h =
      ap (λ m. first_fault L bytes at (entries bytes at tail before m)) (one_less n i h)
      ∙ fault_append L bytes (state before ∷ tail) (entries bytes (at + (4 + widths tail)) tail (Some (number_at bytes at)) (n - (i + 1))) at

  pub entries_over : (tail : List Field) (n i at : ℕ) (before : Option ℕ) → n ≤ i
      → first_fault L bytes at (entries bytes at tail before (n - i)) ≡ None
  entries_over tail n i at before h = ap (λ m. first_fault L bytes at (entries bytes at tail before m)) (none_left n i h)

  -- lists of rows
  pub lists_turn : (numbers n i at : ℕ) → i < n
      → first_fault L bytes at (row_lists numbers bytes at (n - i))
      ≡ first_of (first_fault L bytes at (list_fields bytes at (row_tail numbers)))
      (first_fault L bytes (list_end bytes at (5 + 4 * numbers)) (row_lists numbers bytes (list_end bytes at (5 + 4 * numbers)) (n - (i + 1))))
  lists_turn numbers n i at h =
      let next = list_end bytes at (5 + 4 * numbers) in
      let e : at + widths (list_fields bytes at (row_tail numbers)) ≡ next =
      widths_list bytes (row_tail numbers) at ∙ ap (list_end bytes at) (widths_row numbers) in
      ap (λ m. first_fault L bytes at (row_lists numbers bytes at m)) (one_less n i h)
      ∙ fault_append L bytes (list_fields bytes at (row_tail numbers)) (row_lists numbers bytes next (n - (i + 1))) at
      ∙ ap (λ x. first_of (first_fault L bytes at (list_fields bytes at (row_tail numbers))) (first_fault L bytes x (row_lists numbers bytes next (n - (i + 1))))) e

  pub lists_over : (numbers n i at : ℕ) → n ≤ i → first_fault L bytes at (row_lists numbers bytes at (n - i)) ≡ None
  lists_over numbers n i at h = ap (λ m. first_fault L bytes at (row_lists numbers bytes at m)) (none_left n i h)

pub widths_row_lists : (bytes : List ℕ) (numbers m at : ℕ) → at + widths (row_lists numbers bytes at m) ≡ list_start numbers bytes at m
widths_row_lists bytes numbers zero at = omega arith
widths_row_lists bytes numbers (suc m) at =
    let next = list_end bytes at (5 + 4 * numbers) in
    let h = widths_row_lists bytes numbers m next in
    let a = widths_append (list_fields bytes at (row_tail numbers)) (row_lists numbers bytes next m) in
    let e : at + widths (list_fields bytes at (row_tail numbers)) ≡ next =
    widths_list bytes (row_tail numbers) at ∙ ap (list_end bytes at) (widths_row numbers) in
    let q : at + widths (row_lists numbers bytes at (suc m)) ≡ list_start numbers bytes next m = omega arith in
    q ∙ start_after bytes numbers at m

module _ (L : Limits) (bytes : List ℕ) (at : ℕ) where
  -- a field that is cut, and a number that is whole
  pub field_cut : (f : Field) → leb (at + width f) (length bytes) ≡ false → field_fault L bytes at f ≡ Some (Length at)
  field_cut f e = ap (λ b. cond b (cond (is_right L bytes at f) None (Some (fault at f))) (Some (Length at))) e

  pub field_whole : (f : Field) → leb (at + width f) (length bytes) ≡ true
      → field_fault L bytes at f ≡ cond (is_right L bytes at f) None (Some (fault at f))
  field_whole f e = ap (λ b. cond b (cond (is_right L bytes at f) None (Some (fault at f))) (Some (Length at))) e

-- whether a number is there
pub number_there : (b : Bool) (x : ℕ) (o : Option ℕ) → o ≡ cond b (Some x) None → is_some o ≡ true → b ≡ true
number_there true x o e h = refl
number_there false x o e h =
    let g : false ≡ true = subst (λ (p : Option ℕ). is_some p ≡ true) e h in
    let z : ◌≡◌ {A = ℕ} 0 1 = cc in absurd (let f : ⊥ = omega arith in f)

pub number_gone : (b : Bool) (x : ℕ) (o : Option ℕ) → o ≡ cond b (Some x) None → is_some o ≡ false → b ≡ false
number_gone false x o e h = refl
number_gone true x o e h =
    let g : true ≡ false = subst (λ (p : Option ℕ). is_some p ≡ false) e h in
    let z : ◌≡◌ {A = ℕ} 0 1 = cc in absurd (let f : ⊥ = omega arith in f)

-- the whole of a certificate: its kind byte, its state list, its rows, and what is behind them
pub widths_fields : (L : Limits) (bytes : List ℕ) → widths (fields L bytes) ≡ rows_start L.numbers bytes L.processes
widths_fields L bytes =
    let listed = list_fields bytes 1 [] in
    let rows = row_lists L.numbers bytes (list_end bytes 1 4) L.processes in
    let a = widths_append listed rows in
    let b : 1 + widths listed ≡ list_end bytes 1 4 = widths_list bytes [] 1 in
    let c = widths_row_lists bytes L.numbers L.processes (list_end bytes 1 4) in
    omega arith

pub reading_parts : (L : Limits) (bytes : List ℕ)
    → reading_fault L bytes
    ≡ first_of (field_fault L bytes 0 kind) (first_of (first_fault L bytes 1 (list_fields bytes 1 []))
    (first_of (first_fault L bytes (list_end bytes 1 4) (row_lists L.numbers bytes (list_end bytes 1 4) L.processes))
    (cond (ltb (rows_start L.numbers bytes L.processes) (length bytes)) (Some (Length (rows_start L.numbers bytes L.processes))) None)))
reading_parts L bytes =
    let listed = list_fields bytes 1 [] in
    let rows = row_lists L.numbers bytes (list_end bytes 1 4) L.processes in
    let over : ℕ → Option Refusal = λ n. cond (ltb n (length bytes)) (Some (Length n)) None in
    let k = field_fault L bytes 0 kind in
    ap (λ n. first_of (first_fault L bytes 0 (fields L bytes)) (over n)) (widths_fields L bytes)
    ∙ first_of_assoc k (first_fault L bytes 1 (listed ++ rows)) (over (rows_start L.numbers bytes L.processes))
    ∙ ap (λ o. first_of k (first_of o (over (rows_start L.numbers bytes L.processes))))
    (fault_append L bytes listed rows 1 ∙ ap (λ n. first_of (first_fault L bytes 1 listed) (first_fault L bytes n rows)) (widths_list bytes [] 1))
    ∙ ap (first_of k) (first_of_assoc (first_fault L bytes 1 listed) (first_fault L bytes (list_end bytes 1 4) rows) (over (rows_start L.numbers bytes L.processes)))

-- where reading ends
module _ (L : Limits) (bytes : List ℕ) where
  abbrev listed_fault : Option Refusal
  listed_fault = first_fault L bytes 1 (list_fields bytes 1 [])

  abbrev rows_fault : Option Refusal
  rows_fault = first_fault L bytes (list_end bytes 1 4) (row_lists L.numbers bytes (list_end bytes 1 4) L.processes)

  abbrev end : ℕ
  end = rows_start L.numbers bytes L.processes

  abbrev over : Option Refusal
  over = cond (ltb end (length bytes)) (Some (Length end)) None

  pub kind_right : 0 < length bytes → get_or bytes 0 0 ≡ L.kind → field_fault L bytes 0 kind ≡ None
  kind_right h e =
      field_whole L bytes 0 kind (le-leb (0 + 1) (length bytes) (omega arith))
      ∙ ap (λ b. cond b None (Some KindByte)) (eq-eqb (get_or bytes 0 0) L.kind e)

  module _ (Kind-ok : field_fault L bytes 0 kind ≡ None) where
    pub at_listed : (e : Refusal) → listed_fault ≡ Some e → reading_fault L bytes ≡ Some e
    at_listed e h =
        reading_parts L bytes ∙ first_of_none _ (first_of listed_fault (first_of rows_fault over)) Kind-ok ∙ first_of_some _ (first_of rows_fault over) e h

    module _ (listed_ok : listed_fault ≡ None) where
      behind : reading_fault L bytes ≡ first_of rows_fault over
      behind =
          reading_parts L bytes ∙ first_of_none _ (first_of listed_fault (first_of rows_fault over)) Kind-ok
          ∙ first_of_none _ (first_of rows_fault over) listed_ok

      pub at_rows : (e : Refusal) → rows_fault ≡ Some e → reading_fault L bytes ≡ Some e
      at_rows e h = behind ∙ first_of_some _ over e h

      pub at_surplus : rows_fault ≡ None → end < length bytes → reading_fault L bytes ≡ Some (Length end)
      at_surplus n h = behind ∙ first_of_none _ over n ∙ ap (λ b. cond b (Some (Length end)) None) (lt-ltb end (length bytes) h)

      pub at_end : rows_fault ≡ None → length bytes ≤ end → reading_fault L bytes ≡ None
      at_end n h = behind ∙ first_of_none _ over n ∙ ap (λ b. cond b (Some (Length end)) None) (le-ltb end (length bytes) h)
