-- The S-box of AES: the inverse in the field, then an affine map of the bits (FIPS 197).
use Rattle.std.specs.Prelude.{◌≡◌, List, ℕ, zero, suc, ◌+◌, ◌*◌, ◌/◌, ◌%◌, ◌<◌, get_or}
use Rattle.std.specs.Int.Bits.{bit_xor}
use Rattle.gf256.specs.Field.{inverse}

-- a byte rotated left by n bits
abbrev pub rotl : ℕ → ℕ → ℕ
rotl zero x = x
rotl (suc n) x = rotl n (x % 128 * 2 + x / 128)

unfoldable pub affine : ℕ → ℕ
affine x = bit_xor x (bit_xor (rotl 1 x) (bit_xor (rotl 2 x) (bit_xor (rotl 3 x) (bit_xor (rotl 4 x) 0x63))))

unfoldable pub inv_affine : ℕ → ℕ
inv_affine x = bit_xor (rotl 1 x) (bit_xor (rotl 3 x) (bit_xor (rotl 6 x) 0x05))

unfoldable pub sbox : ℕ → ℕ
sbox x = affine (inverse x)

unfoldable pub inv_sbox : ℕ → ℕ
inv_sbox x = inverse (inv_affine x)

-- a table of f at every byte
abbrev pub Tabled : (ℕ → ℕ) → List ℕ → Type 0
Tabled f xs = (x : ℕ) → x < 256 → get_or xs x 0 ≡ f x
