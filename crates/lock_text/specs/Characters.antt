-- The bytes that a lock text is made of. Assumes nothing.
use Rattle.std.specs.Prelude.{ℕ, Bool, ◌&&◌, ◌||◌, ◌==◌, nat_le}

-- A blank: space, tab, line feed or carriage return.
abbrev pub is_blank : ℕ → Bool
is_blank b = b == 0x20 || (b == 0x09 || (b == 0x0a || b == 0x0d))

-- A to Z and a to z; no other byte is a letter.
abbrev pub is_letter : ℕ → Bool
is_letter b = (nat_le 0x41 b && nat_le b 0x5a) || (nat_le 0x61 b && nat_le b 0x7a)

-- 0 to 9.
abbrev pub is_digit : ℕ → Bool
is_digit b = nat_le 0x30 b && nat_le b 0x39

-- What may stand in a name after its first letter: letters, digits and the underscore.
abbrev pub is_name_byte : ℕ → Bool
is_name_byte b = is_letter b || (is_digit b || b == 0x5f)
