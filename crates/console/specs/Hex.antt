-- Bytes as lower-case hexadecimal digits, two to a byte.
use Rattle.std.specs.Prelude.{◌≡◌, ℕ, ◌+◌, ◌-◌, ◌*◌, ◌/◌, ◌%◌, cond, ◌&&◌, List, [], ◌∷◌, Some, None, Option, nat_le, nat_lt}
use Rattle.block.specs.Bytes.{Bytes}

-- what a character stands for: 0 to 9 (their codes begin at 48), a to f (at 97)
abbrev pub digit_value : ℕ → Option ℕ
digit_value c = cond (nat_le 48 c && nat_le c 57) (Some (c - 48)) (cond (nat_le 97 c && nat_le c 102) (Some (c - 97 + 10)) None)

abbrev pub pair_value : Option ℕ → Option ℕ → Option ℕ
pair_value None low = None
pair_value (Some h) None = None
pair_value (Some h) (Some l) = Some (16 * h + l)

abbrev pub before : Option ℕ → Option (List ℕ) → Option (List ℕ)
before None rest = None
before (Some b) None = None
before (Some b) (Some bs) = Some (b ∷ bs)

-- the bytes of digits in pairs; none where a character is no digit or one is left over
abbrev pub from_hex : List ℕ → Option (List ℕ)
from_hex [] = Some []
from_hex (x ∷ []) = None
from_hex (x ∷ y ∷ rest) = before (pair_value (digit_value x) (digit_value y)) (from_hex rest)

abbrev pub hex_digit : ℕ → ℕ
hex_digit n = cond (nat_lt n 10) (48 + n) (97 + (n - 10))

abbrev pub to_hex : List ℕ → List ℕ
to_hex [] = []
to_hex (b ∷ bs) = hex_digit (b / 16) ∷ hex_digit (b % 16) ∷ to_hex bs

-- the digits of bytes, read, are those bytes
abbrev pub HexBack : Type 0
HexBack = (bs : List ℕ) → Bytes bs → from_hex (to_hex bs) ≡ Some bs
