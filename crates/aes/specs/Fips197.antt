-- AES with a key of 128 bits (FIPS 197), and its variant of six full rounds. A state is sixteen bytes, column by column.
use Rattle.std.specs.Prelude.{ℕ, zero, suc, ◌+◌, ◌*◌, ◌%◌, Bool, true, false, List, [], ◌∷◌, ◌++◌, map, bit_xor, slice_index, slice_index_or}
use Rattle.std.specs.List.{range_with_len}
use Rattle.block.specs.Bytes.{of_bytes, bytes_of}
use Rattle.cipher.specs.Meaning.{Meaning}
use Rattle.gf256.specs.Columns.{mix_matrix, inv_mix_matrix, product}
use Rattle.gf256.specs.Field.{xtime}
use Rattle.gf256.specs.Sbox.{inv_sbox, sbox}

-- the state with f i at each place i
abbrev pub state : (ℕ → ℕ) → List ℕ
state f = map f (range_with_len 0 16)

unfoldable pub sub_bytes : List ℕ → List ℕ
sub_bytes s = state (λ i. sbox (slice_index s i))

unfoldable pub inv_sub_bytes : List ℕ → List ℕ
inv_sub_bytes s = state (λ i. inv_sbox (slice_index s i))

-- row r, the places i with i % 4 ≡ r, moves by r columns of n places, forwards by 4 and back by 12
unfoldable pub shift_by : ℕ → List ℕ → List ℕ
shift_by n s = state (λ i. slice_index s ((i + n * (i % 4)) % 16))

abbrev pub shift_rows : List ℕ → List ℕ
shift_rows = shift_by 4

abbrev pub inv_shift_rows : List ℕ → List ℕ
inv_shift_rows = shift_by 12

unfoldable pub add_round_key : List ℕ → List ℕ → List ℕ
add_round_key k s = state (λ i. bit_xor (slice_index s i) (slice_index k i))

-- the four bytes from place i on
abbrev pub word : ℕ → List ℕ → List ℕ
word i s = slice_index s i ∷ slice_index s (i + 1) ∷ slice_index s (i + 2) ∷ slice_index s (i + 3) ∷ []

-- MixColumns by the first matrix, its inverse by the second
unfoldable pub mix_by : List (List ℕ) → List ℕ → List ℕ
mix_by m s = product m (word 0 s) ++ product m (word 4 s) ++ product m (word 8 s) ++ product m (word 12 s)

abbrev pub mix_columns : List ℕ → List ℕ
mix_columns = mix_by mix_matrix

abbrev pub inv_mix_columns : List ℕ → List ℕ
inv_mix_columns = mix_by inv_mix_matrix

-- a round with all four steps, and the last one without MixColumns
abbrev pub round : List ℕ → List ℕ → List ℕ
round k s = add_round_key k (mix_columns (shift_rows (sub_bytes s)))

abbrev pub inv_round : List ℕ → List ℕ → List ℕ
inv_round k s = inv_sub_bytes (inv_shift_rows (inv_mix_columns (add_round_key k s)))

abbrev pub last_round : List ℕ → List ℕ → List ℕ
last_round k s = add_round_key k (shift_rows (sub_bytes s))

abbrev pub inv_last_round : List ℕ → List ℕ → List ℕ
inv_last_round k s = inv_sub_bytes (inv_shift_rows (add_round_key k s))

-- the key schedule: four words make the next four
abbrev pub xor_word : List ℕ → List ℕ → List ℕ
xor_word a b =
    bit_xor (slice_index a 0) (slice_index b 0) ∷ bit_xor (slice_index a 1) (slice_index b 1) ∷ bit_xor (slice_index a 2) (slice_index b 2)
    ∷ bit_xor (slice_index a 3) (slice_index b 3) ∷ []

-- the last word, rotated and substituted, with the round constant
abbrev pub turned : ℕ → List ℕ → List ℕ
turned rc k = bit_xor (sbox (slice_index k 13)) rc ∷ sbox (slice_index k 14) ∷ sbox (slice_index k 15) ∷ sbox (slice_index k 12) ∷ []

unfoldable pub next_key : ℕ → List ℕ → List ℕ
next_key rc k =
    let a = xor_word (word 0 k) (turned rc k) in
    let b = xor_word (word 4 k) a in
    let c = xor_word (word 8 k) b in
    a ++ b ++ c ++ xor_word (word 12 k) c

-- the round constants are the powers of x
abbrev pub rcon : ℕ → ℕ
rcon zero = 1
rcon (suc i) = xtime (rcon i)

abbrev pub round_key : List ℕ → ℕ → List ℕ
round_key key zero = key
round_key key (suc i) = next_key (rcon i) (round_key key i)

unfoldable pub key_schedule : List ℕ → List (List ℕ)
key_schedule key = map (round_key key) (range_with_len 0 11)

-- round key 0 and n full rounds, and back
abbrev pub rounds : List (List ℕ) → ℕ → List ℕ → List ℕ
rounds ks zero s = add_round_key (slice_index_or ks 0 []) s
rounds ks (suc n) s = round (slice_index_or ks (suc n) []) (rounds ks n s)

abbrev pub inv_rounds : List (List ℕ) → ℕ → List ℕ → List ℕ
inv_rounds ks zero s = add_round_key (slice_index_or ks 0 []) s
inv_rounds ks (suc n) s = inv_rounds ks n (inv_round (slice_index_or ks (suc n) []) s)

-- the same with a last round behind them, or without one
abbrev pub encipher : Bool → ℕ → List (List ℕ) → List ℕ → List ℕ
encipher true n ks s = last_round (slice_index_or ks (n + 1) []) (rounds ks n s)
encipher false n ks s = rounds ks n s

abbrev pub decipher : Bool → ℕ → List (List ℕ) → List ℕ → List ℕ
decipher true n ks s = inv_rounds ks n (inv_last_round (slice_index_or ks (n + 1) []) s)
decipher false n ks s = inv_rounds ks n s

-- on numbers below 2^128
unfoldable pub enc : Bool → ℕ → ℕ → ℕ → ℕ
enc last n key b = of_bytes (encipher last n (key_schedule (bytes_of key)) (bytes_of b))

unfoldable pub dec : Bool → ℕ → ℕ → ℕ → ℕ
dec last n key b = of_bytes (decipher last n (key_schedule (bytes_of key)) (bytes_of b))

-- n full rounds, with a last round behind them or without one, under a key
abbrev pub by_rounds : Bool → ℕ → ℕ → Bool → ℕ → Meaning
by_rounds last n label double key = record { enc = enc last n key; dec = dec last n key; label = label; double = double }

-- AES-128
abbrev pub aes10 : ℕ → Meaning
aes10 key = record { enc = enc true 9 key; dec = dec true 9 key; label = 10; double = false }

-- six full rounds
abbrev pub aes6 : ℕ → Meaning
aes6 key = record { enc = enc false 6 key; dec = dec false 6 key; label = 6; double = true }

-- the key that round keys were made from
abbrev pub key_of : List (List ℕ) → ℕ
key_of ks = of_bytes (slice_index_or ks 0 [])
