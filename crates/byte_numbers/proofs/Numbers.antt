-- The proofs about numbers of four bytes: those of the library's, wherever the bytes stand.
use Rattle.std.proofs.Common.{◌≡◌, ℕ, ◌+◌, ◌/◌, ◌%◌, ◌<◌, ◌≤◌, List, ◌++◌, length, get_or, lit<, take, drop, refl, arith, ap, ◌∙◌}
use Rattle.std.proofs.lemmas.List.{get_or_at, get_or-append-add, get_or-take, get_or-drop, get_or_past, length-take-le, length-drop}
use Rattle.std.proofs.lemmas.Nat.{from_le_bytes-to_le_bytes_4, le_bytes_4}
use Rattle.byte_numbers.specs.Numbers.{number_at, encoded, WrittenIsRead, ReadIsWritten}

pub written_is_read_lem : WrittenIsRead
written_is_read_lem n h before after =
    let all : List ℕ = encoded n ++ after in
    let e0 : get_or (before ++ all) (length before) 0 ≡ n % 256 = get_or_at before _ _ 0 (length before) refl in
    let e1 : get_or (before ++ all) (length before + 1) 0 ≡ n / 256 % 256 = get_or-append-add before all 1 0 in
    let e2 : get_or (before ++ all) (length before + 2) 0 ≡ n / 65536 % 256 = get_or-append-add before all 2 0 in
    let e3 : get_or (before ++ all) (length before + 3) 0 ≡ n / 16777216 % 256 = get_or-append-add before all 3 0 in
    omega (arith, from_le_bytes-to_le_bytes_4 n h)

-- Bytes of a part are bytes; past it there are zeros.
small : (k : ℕ) (xs : List ℕ) → k ≤ length xs → ((i : ℕ) → i < k → get_or xs i 0 < 256) → (i : ℕ) → get_or (take k xs) i 0 < 256
small k xs enough h i = grind (arith, get_or-take, get_or_past, length-take-le)

pub read_is_written_lem : ReadIsWritten
read_is_written_lem bytes h at fits =
    let rest : List ℕ = drop at bytes in
    let enough : 4 ≤ length rest = let l = length-drop at bytes in omega arith in
    let there : (i j : ℕ) → i < 4 → at + i ≡ j → get_or (take 4 rest) i 0 ≡ get_or bytes j 0 =
    λ i j l e. get_or-take 4 rest i 0 l ∙ get_or-drop at bytes i 0 ∙ ap (λ k. get_or bytes k 0) e in
    let t0 = there 0 at (lit< tt) (omega arith) in
    let t1 = there 1 (at + 1) (lit< tt) refl in
    let t2 = there 2 (at + 2) (lit< tt) refl in
    let t3 = there 3 (at + 3) (lit< tt) refl in
    le_bytes_4 (take 4 rest) (number_at bytes at) (length-take-le 4 rest enough) (small 4 rest enough (λ i l. rw (get_or-drop at bytes i 0) (h (at + i) (omega arith)))) (omega arith)
