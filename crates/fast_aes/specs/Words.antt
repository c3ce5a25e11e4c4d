-- A state as four words, a column to a word with its first byte highest, and the tables of column products.
use Rattle.std.specs.Prelude.{ℕ, ◌-◌, ◌*◌, ◌/◌, ◌%◌, ◌^◌, List, [], ◌∷◌, ◌++◌, map, slice_index, slice_index_or}
use Rattle.std.specs.List.{range_with_len}
use Rattle.block.specs.Bytes.{of_bytes}
use Rattle.gf256.specs.Columns.{inv_mix_matrix, mix_matrix}
use Rattle.gf256.specs.Field.{gmul}
use Rattle.gf256.specs.Sbox.{inv_sbox, sbox}
use Rattle.aes.specs.Fips197.{add_round_key, inv_mix_columns, inv_shift_rows, inv_sub_bytes, key_of}

-- byte i of a word
unfoldable pub byte : ℕ → ℕ → ℕ
byte i w = w / 2 ^ (24 - 8 * i) % 256

abbrev pub bytes4 : ℕ → List ℕ
bytes4 w = byte 0 w ∷ byte 1 w ∷ byte 2 w ∷ byte 3 w ∷ []

-- the sixteen bytes of four words
unfoldable pub spread : List ℕ → List ℕ
spread q = bytes4 (slice_index q 0) ++ bytes4 (slice_index q 1) ++ bytes4 (slice_index q 2) ++ bytes4 (slice_index q 3)

-- the bytes that ShiftRows or its inverse brings into one column, substituted by f
abbrev pub boxed : (ℕ → ℕ) → ℕ → ℕ → ℕ → ℕ → List ℕ
boxed f a b c d = f (byte 0 a) ∷ f (byte 1 b) ∷ f (byte 2 c) ∷ f (byte 3 d) ∷ []

-- column k of the matrix m, times y
abbrev pub column : List (List ℕ) → ℕ → ℕ → List ℕ
column m k y =
    gmul y (slice_index (slice_index_or m 0 []) k) ∷ gmul y (slice_index (slice_index_or m 1 []) k) ∷ gmul y (slice_index (slice_index_or m 2 []) k)
    ∷ gmul y (slice_index (slice_index_or m 3 []) k) ∷ []

-- the tables, for encryption and for decryption
abbrev pub te : ℕ → ℕ → ℕ
te k x = of_bytes (column mix_matrix k (sbox x))

abbrev pub td : ℕ → ℕ → ℕ
td k x = of_bytes (column inv_mix_matrix k (inv_sbox x))

-- an inverse round that adds the key last, under InvMixColumns of the round key (FIPS 197, 5.3.5)
abbrev pub inv_turn : List ℕ → List ℕ → List ℕ
inv_turn k s = add_round_key k (inv_mix_columns (inv_sub_bytes (inv_shift_rows s)))

-- eleven round keys as bytes
unfoldable pub spreads : List (List ℕ) → List (List ℕ)
spreads ks = map (λ i. spread (slice_index_or ks i [])) (range_with_len 0 11)

-- InvMixColumns of each, for decryption
unfoldable pub unmixes : List (List ℕ) → List (List ℕ)
unmixes ks = map (λ i. inv_mix_columns (spread (slice_index_or ks i []))) (range_with_len 0 11)

-- the key that the round keys were made from
abbrev pub key_in : List (List ℕ) → ℕ
key_in ks = key_of (spreads ks)
