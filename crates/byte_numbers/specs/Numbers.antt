-- Unsigned numbers of four bytes, least byte first. Assumes nothing.
use Rattle.std.specs.Prelude.{◌≡◌, ℕ, ◌+◌, ◌*◌, ◌/◌, ◌%◌, ◌^◌, ◌<◌, ◌≤◌, List, [], ◌∷◌, ◌++◌, length, take, drop, slice_index}

-- The number in the four bytes from the index `at` on; a byte that is not there counts as 0.
abbrev pub number_at : List ℕ → ℕ → ℕ
number_at bytes at =
    slice_index bytes at + slice_index bytes (at + 1) * 256 + slice_index bytes (at + 2) * 65536 + slice_index bytes (at + 3) * 16777216

-- The four bytes of a number.
abbrev pub encoded : ℕ → List ℕ
encoded n = n % 256 ∷ n / 256 % 256 ∷ n / 65536 % 256 ∷ n / 16777216 % 256 ∷ []

-- The bytes with those of `part` in place of as many from the index `at` on.
abbrev pub overwritten : List ℕ → ℕ → List ℕ → List ℕ
overwritten bytes at part = take at bytes ++ (part ++ drop (at + length part) bytes)

-- Each element is a byte.
abbrev pub Bytes : List ℕ → Type 0
Bytes bytes = (i : ℕ) → i < length bytes → slice_index bytes i < 256

-- Wherever the bytes of a number stand, that number is read back.
abbrev pub WrittenIsRead : Type 0
WrittenIsRead =
    (n : ℕ) → n < 2 ^ 32 → (before after : List ℕ) →
    number_at (before ++ (encoded n ++ after)) (length before) ≡ n

-- The bytes of the number that is read are the bytes that it was read from.
abbrev pub ReadIsWritten : Type 0
ReadIsWritten =
    (bytes : List ℕ) → Bytes bytes → (at : ℕ) → at + 4 ≤ length bytes →
    encoded (number_at bytes at) ≡ take 4 (drop at bytes)
