-- Bytes as polynomials over GF(2), modulo x^8 + x^4 + x^3 + x + 1 (FIPS 197).
use Rattle.std.specs.Prelude.{cond, ℕ, zero, suc, ◌*◌, ◌/◌, ◌%◌, eqb}
use Rattle.std.specs.Int.Bits.{bit_xor}

-- times x
abbrev pub xtime : ℕ → ℕ
xtime a = bit_xor (a % 128 * 2) (a / 128 % 2 * 0x1b)

-- a times the n low bits of b
abbrev pub times_low : ℕ → ℕ → ℕ → ℕ
times_low zero a b = 0
times_low (suc n) a b = bit_xor (cond (eqb (b % 2) 1) a 0) (times_low n (xtime a) (b / 2))

unfoldable pub gmul : ℕ → ℕ → ℕ
gmul a b = times_low 8 a b

-- the product of x^2, x^4, .., x^(2^n)
abbrev pub squares : ℕ → ℕ → ℕ
squares zero x = 1
squares (suc n) x = let y = gmul x x in gmul y (squares n y)

-- x^254: the inverse of x, and 0 at 0
unfoldable pub inverse : ℕ → ℕ
inverse x = squares 7 x
