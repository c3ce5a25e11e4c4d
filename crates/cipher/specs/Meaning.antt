-- What a cipher means, and what each must keep. A block is a number below 2^128.
use Rattle.std.specs.Prelude.{◌≡◌, ℕ, ◌^◌, ◌<◌, Bool, false, cond, bit_xor}

-- E and D, the label that settings name the cipher by, and whether it is double (it then encrypts twice for L)
pub record Meaning : Type 0 where
  pub enc : ℕ → ℕ
  pub dec : ℕ → ℕ
  pub label : ℕ
  pub double : Bool

pub record Lawful (m : Meaning) : Type 0 where
  pub dec_enc : (b : ℕ) → b < 2 ^ 128 → m.dec (m.enc b) ≡ b
  pub enc_dec : (b : ℕ) → b < 2 ^ 128 → m.enc (m.dec b) ≡ b
  pub enc_lt : (b : ℕ) → b < 2 ^ 128 → m.enc b < 2 ^ 128
  pub dec_lt : (b : ℕ) → b < 2 ^ 128 → m.dec b < 2 ^ 128
  pub label_lt : m.label < 256

-- L, from which every mask is made: E of zero, twice for a double cipher
unfoldable pub base : Meaning → ℕ
base m = cond m.double (m.enc (m.enc 0)) (m.enc 0)

-- the paper cipher, for working by hand: xor with the key
abbrev pub paper : ℕ → Meaning
paper k = record { enc = λ b. bit_xor b k; dec = λ b. bit_xor b k; label = 255; double = false }
