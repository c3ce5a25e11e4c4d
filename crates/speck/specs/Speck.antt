-- Speck128/128. A block is two words (x, y) of 64 bits and a key two words (l, k); sums are modulo 2^64.
use Rattle.std.specs.Prelude.{◌≡◌, ℕ, zero, suc, ◌+◌, ◌-◌, ◌*◌, ◌/◌, ◌%◌, ◌^◌, false, bit_or, bit_xor}
use Rattle.cipher.specs.Meaning.{Meaning}

-- x rotated by r bits to the right, and to the left
abbrev pub ror : ℕ → ℕ → ℕ
ror r x = bit_or (x / 2 ^ r) ((x * 2 ^ (64 - r)) % 2 ^ 64)

abbrev pub rol : ℕ → ℕ → ℕ
rol r x = bit_or ((x * 2 ^ r) % 2 ^ 64) (x / 2 ^ (64 - r))

-- a round under the key k: x becomes ((x rotated right 8) + y) xor k, then y becomes (y rotated left 3) xor x
abbrev pub upper : ℕ → ℕ → ℕ → ℕ
upper k x y = bit_xor ((ror 8 x + y) % 2 ^ 64) k

abbrev pub round : ℕ → ℕ × ℕ → ℕ × ℕ
round k s = (upper k s.0 s.1, bit_xor (rol 3 s.1) (upper k s.0 s.1))

-- and back: y first, from which x follows
abbrev pub lower : ℕ → ℕ → ℕ
lower x y = ror 3 (bit_xor y x)

abbrev pub unround : ℕ → ℕ × ℕ → ℕ × ℕ
unround k s = (rol 8 ((bit_xor s.0 k + (2 ^ 64 - lower s.0 s.1)) % 2 ^ 64), lower s.0 s.1)

-- rounds 0 to n - 1, round i under the key k i
unfoldable pub rounds : ℕ → (ℕ → ℕ) → ℕ × ℕ → ℕ × ℕ
rounds zero k s = s
rounds (suc i) k s = round (k i) (rounds i k s)

-- and undone, the last first
unfoldable pub unrounds : ℕ → (ℕ → ℕ) → ℕ × ℕ → ℕ × ℕ
unrounds zero k s = s
unrounds (suc i) k s = unrounds i k (unround (k i) s)

-- the key's words (l, k) after i steps: l becomes ((l rotated right 8) + k) xor i, then k becomes (k rotated left 3) xor l,
-- which is a round under i; the second word is the key of round i
unfoldable pub key_words : ℕ × ℕ → ℕ → ℕ × ℕ
key_words key n = rounds n (λ i. i) key

abbrev pub round_key : ℕ × ℕ → ℕ → ℕ
round_key key i = (key_words key i).1

-- a number below 2^128 as its two words, the high one first
abbrev pub split : ℕ → ℕ × ℕ
split n = (n / 2 ^ 64, n % 2 ^ 64)

abbrev pub join : ℕ × ℕ → ℕ
join s = s.0 * 2 ^ 64 + s.1

unfoldable pub encrypted : ℕ → ℕ → ℕ
encrypted key b = join (rounds 32 (round_key (split key)) (split b))

unfoldable pub decrypted : ℕ → ℕ → ℕ
decrypted key b = join (unrounds 32 (round_key (split key)) (split b))

abbrev pub speck : ℕ → Meaning
speck key = record { enc = encrypted key; dec = decrypted key; label = 32; double = false }

-- the designers' test vector
abbrev pub vector_key : ℕ
vector_key = 0x0f0e0d0c0b0a09080706050403020100

abbrev pub vector_plaintext : ℕ
vector_plaintext = 0x6c617669757165207469206564616d20

abbrev pub vector_ciphertext : ℕ
vector_ciphertext = 0xa65d9851797832657860fedf5c570d18

abbrev pub Published : Type 0
Published = encrypted vector_key vector_plaintext ≡ vector_ciphertext
