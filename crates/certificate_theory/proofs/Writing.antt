-- What is read, written again, is the bytes. Assumes nothing.
use Rattle.std.proofs.Common.{◌≡◌, ℕ, zero, suc, ◌+◌, ◌*◌, ◌<◌, ◌≤◌, List, [], ◌∷◌, ◌++◌, length, get_or, take, drop, sym, refl, ap, ◌∙◌, subst, append_assoc, append-nil, mul-suc, arith, take-append-drop, drop-drop}
use Rattle.std.proofs.lemmas.List.{drop_more, drop_all}
use Rattle.byte_numbers.specs.Numbers.{number_at, encoded, Bytes}
use Rattle.byte_numbers.proofs.Numbers.{read_is_written_lem}
use Rattle.rank.specs.Kinds.{numbers_at}
use Rattle.certificate_theory.specs.declared.limits.Limits.{Limits}
use Rattle.certificate_theory.specs.Claims.{ReadIsWritten}
use Rattle.certificate_theory.specs.Fields.{list_end}
use Rattle.certificate_theory.specs.Reading.{Reads}
use Rattle.certificate_theory.specs.Content.{row_at, rows_at, row_lists_at, content, list_start, rows_start}
use Rattle.certificate_theory.specs.Encoding.{numbers_bytes, row_bytes, rows_bytes, row_lists_bytes, certificate_bytes}
use Rattle.certificate_theory.proofs.Entries.{entry_after, start_after, listed_list, rows_list}
use Rattle.certificate_theory.proofs.Contents.{length_numbers, length_rows}
use Rattle.certificate_theory.proofs.Loops.{widths_fields}

module _ (bytes : List ℕ) (small : Bytes bytes) where
  -- the bytes from x to y are those of the piece
  abbrev Spans : ℕ → ℕ → List ℕ → Type 0
  Spans x y piece = piece ++ drop y bytes ≡ drop x bytes

  join : (x y z : ℕ) (p q : List ℕ) → Spans x y p → Spans y z q → Spans x z (p ++ q)
  join x y z p q f g = append_assoc p q (drop z bytes) ∙ ap (λ l. p ++ l) g ∙ f

  to : (x y z : ℕ) (p : List ℕ) → y ≡ z → Spans x y p → Spans x z p
  to x y z p e f = subst (λ (n : ℕ). Spans x n p) e f

  one_number : (x : ℕ) → x + 4 ≤ length bytes → Spans x (x + 4) (encoded (number_at bytes x))
  one_number x h =
      ap (λ l. l ++ drop (x + 4) bytes) (read_is_written_lem bytes small x h)
      ∙ ap (λ l. take 4 (drop x bytes) ++ l) (sym (drop-drop 4 x bytes))
      ∙ take-append-drop 4 (drop x bytes)

  one_byte : (x : ℕ) → x < length bytes → Spans x (x + 1) (get_or bytes x 0 ∷ [])
  one_byte x h = sym (drop_more bytes x 0 h)

  numbers : (n x : ℕ) → x + 4 * n ≤ length bytes → Spans x (x + 4 * n) (numbers_bytes (numbers_at bytes x n))
  numbers zero x h = ap (λ k. drop k bytes) (let q : x + 4 * zero ≡ x = omega arith in q)
  numbers (suc n) x h =
      to x ((x + 4) + 4 * n) (x + 4 * suc n) (numbers_bytes (numbers_at bytes x (suc n))) (entry_after 4 x n)
      (join x (x + 4) ((x + 4) + 4 * n) (encoded (number_at bytes x)) (numbers_bytes (numbers_at bytes (x + 4) n))
      (one_number x (omega arith)) (numbers n (x + 4) (omega arith)))

  row : (n x : ℕ) → x + (5 + 4 * n) ≤ length bytes → Spans x (x + (5 + 4 * n)) (row_bytes (row_at n bytes x))
  row n x h =
      to x ((x + 5) + 4 * n) (x + (5 + 4 * n)) (row_bytes (row_at n bytes x)) (let q : (x + 5) + 4 * n ≡ x + (5 + 4 * n) = omega arith in q)
      (join x (x + 4) ((x + 5) + 4 * n) (encoded (number_at bytes x)) ((get_or bytes (x + 4) 0 ∷ []) ++ numbers_bytes (numbers_at bytes (x + 5) n)) (one_number x (omega arith))
      (join (x + 4) (x + 5) ((x + 5) + 4 * n) (get_or bytes (x + 4) 0 ∷ []) (numbers_bytes (numbers_at bytes (x + 5) n))
      (to (x + 4) ((x + 4) + 1) (x + 5) (get_or bytes (x + 4) 0 ∷ []) (let q : (x + 4) + 1 ≡ x + 5 = omega arith in q) (one_byte (x + 4) (omega arith)))
      (numbers n (x + 5) (omega arith))))

  rows : (n m x : ℕ) → x + (5 + 4 * n) * m ≤ length bytes → Spans x (x + (5 + 4 * n) * m) (rows_bytes (rows_at n bytes x m))
  rows n zero x h = ap (λ k. drop k bytes) (let q : x + (5 + 4 * n) * zero ≡ x = omega arith in q)
  rows n (suc m) x h =
      let e = mul-suc (5 + 4 * n) m in
      let w = 5 + 4 * n in
      to x ((x + w) + w * m) (x + w * suc m) (rows_bytes (rows_at n bytes x (suc m))) (entry_after w x m)
      (join x (x + w) ((x + w) + w * m) (row_bytes (row_at n bytes x)) (rows_bytes (rows_at n bytes (x + w) m))
      (row n x (omega arith)) (rows n m (x + w) (omega arith)))

  one_list : (n x : ℕ) → list_end bytes x (5 + 4 * n) ≤ length bytes
      → Spans x (list_end bytes x (5 + 4 * n)) (encoded (length (rows_at n bytes (x + 4) (number_at bytes x))) ++ rows_bytes (rows_at n bytes (x + 4) (number_at bytes x)))
  one_list n x h =
      join x (x + 4) (list_end bytes x (5 + 4 * n)) (encoded (length (rows_at n bytes (x + 4) (number_at bytes x)))) (rows_bytes (rows_at n bytes (x + 4) (number_at bytes x)))
      (subst (λ (k : ℕ). Spans x (x + 4) (encoded k)) (sym (length_rows n bytes (number_at bytes x) (x + 4))) (one_number x (omega arith)))
      (rows n (number_at bytes x) (x + 4) h)

  lists : (n m x : ℕ) → ((p : ℕ) → p < m → list_end bytes (list_start n bytes x p) (5 + 4 * n) ≤ length bytes)
      → Spans x (list_start n bytes x m) (row_lists_bytes (row_lists_at n bytes x m))
  lists n zero x fits = refl
  lists n (suc m) x fits =
      let next = list_end bytes x (5 + 4 * n) in
      to x (list_start n bytes next m) (list_start n bytes x (suc m)) (row_lists_bytes (row_lists_at n bytes x (suc m))) (start_after bytes n x m)
      (join x next (list_start n bytes next m)
      (encoded (length (rows_at n bytes (x + 4) (number_at bytes x))) ++ rows_bytes (rows_at n bytes (x + 4) (number_at bytes x)))
      (row_lists_bytes (row_lists_at n bytes next m))
      (one_list n x (fits 0 (omega arith)))
      (lists n m next (λ p h. subst (λ (k : ℕ). list_end bytes k (5 + 4 * n) ≤ length bytes) (sym (start_after bytes n x p)) (fits (suc p) (omega arith)))))

  module _ (L : Limits) (reads : Reads L bytes) where
    state_list : Spans 1 (list_end bytes 1 4) (encoded (length (numbers_at bytes 5 (number_at bytes 1))) ++ numbers_bytes (numbers_at bytes 5 (number_at bytes 1)))
    state_list =
        let l = (listed_list L bytes reads).within in
        join 1 5 (list_end bytes 1 4) (encoded (length (numbers_at bytes 5 (number_at bytes 1)))) (numbers_bytes (numbers_at bytes 5 (number_at bytes 1)))
        (subst (λ (k : ℕ). Spans 1 5 (encoded k)) (sym (length_numbers bytes (number_at bytes 1) 5)) (one_number 1 (omega arith)))
        (numbers (number_at bytes 1) 5 l)

    kind_byte : Spans 0 1 (L.kind ∷ [])
    kind_byte =
        let r = reads.fields_right.0 in
        subst (λ (k : ℕ). Spans 0 1 (k ∷ [])) r.1 (one_byte 0 (omega (arith, r.0)))

    whole : Spans 0 (rows_start L.numbers bytes L.processes) (certificate_bytes L.kind (content L bytes))
    whole =
        join 0 1 (rows_start L.numbers bytes L.processes) (L.kind ∷ [])
        ((encoded (length (numbers_at bytes 5 (number_at bytes 1))) ++ numbers_bytes (numbers_at bytes 5 (number_at bytes 1)))
        ++ row_lists_bytes (row_lists_at L.numbers bytes (list_end bytes 1 4) L.processes))
        kind_byte
        (join 1 (list_end bytes 1 4) (rows_start L.numbers bytes L.processes)
        (encoded (length (numbers_at bytes 5 (number_at bytes 1))) ++ numbers_bytes (numbers_at bytes 5 (number_at bytes 1)))
        (row_lists_bytes (row_lists_at L.numbers bytes (list_end bytes 1 4) L.processes))
        state_list
        (lists L.numbers L.processes (list_end bytes 1 4) (λ p h. (rows_list L bytes reads p h).within)))

pub read_again : ReadIsWritten
read_again L bytes small reads =
    let e = reads.no_surplus in
    let f = widths_fields L bytes in
    let past : length bytes ≤ rows_start L.numbers bytes L.processes = omega arith in
    sym (append-nil (certificate_bytes L.kind (content L bytes)))
    ∙ ap (λ l. certificate_bytes L.kind (content L bytes) ++ l) (sym (drop_all (rows_start L.numbers bytes L.processes) bytes past))
    ∙ whole bytes small L reads
