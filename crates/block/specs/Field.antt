-- Blocks as numbers below 2^128: doubling and halving in GF(2^128), and the mixing.
use Rattle.std.specs.Prelude.{◌≡◌, ℕ, ◌+◌, ◌*◌, ◌/◌, ◌%◌, ◌^◌, ◌<◌, ◌≤◌, bit_xor}

-- 2 · a: one bit to the left; where a bit falls out, the last byte is xored with 87
unfoldable pub dbl : ℕ → ℕ
dbl a = bit_xor ((a * 2) % 2 ^ 128) ((a / 2 ^ 127) * 0x87)

-- the block whose double is a
unfoldable pub half : ℕ → ℕ
half a = bit_xor a ((a % 2) * 0x87) / 2 + (a % 2) * 2 ^ 127

abbrev pub three : ℕ → ℕ
three a = bit_xor (dbl a) a

abbrev pub five : ℕ → ℕ
five a = bit_xor (dbl (dbl a)) a

abbrev pub seven : ℕ → ℕ
seven a = bit_xor (dbl (three a)) a

-- one step of the mixing: what comes out, and the next state; and back
abbrev pub mix : ℕ → ℕ → ℕ × ℕ
mix x w = (bit_xor x (three w), bit_xor x (dbl w))

abbrev pub unmix : ℕ → ℕ → ℕ × ℕ
unmix y w = (bit_xor y (three w), bit_xor y w)

abbrev pub Undone : Type 0
Undone = (a : ℕ) → a < 2 ^ 128 → (half (dbl a) ≡ a) × (dbl (half a) ≡ a)

abbrev pub Unmixed : Type 0
Unmixed = (x w : ℕ) → unmix (mix x w).0 w ≡ (x, (mix x w).1)

-- doubling goes through xor
abbrev pub Linear : Type 0
Linear = (a b : ℕ) → a < 2 ^ 128 → b < 2 ^ 128 → dbl (bit_xor a b) ≡ bit_xor (dbl a) (dbl b)

-- doubling and halving by cases, as they are usually told
pub record ByCases : Type 0 where
  pub dbl_low : (a : ℕ) → a < 2 ^ 127 → dbl a ≡ a * 2
  pub dbl_high : (a : ℕ) → 2 ^ 127 ≤ a → a < 2 ^ 128 → dbl a ≡ bit_xor ((a * 2) % 2 ^ 128) 0x87
  pub half_even : (a : ℕ) → a % 2 ≡ 0 → half a ≡ a / 2
  pub half_odd : (a : ℕ) → a % 2 ≡ 1 → half a ≡ bit_xor a 0x87 / 2 + 2 ^ 127
