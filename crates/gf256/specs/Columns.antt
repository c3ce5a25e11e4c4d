-- Columns of four bytes and the matrices that mix them (FIPS 197).
use Rattle.std.specs.Prelude.{List, [], ◌∷◌, ℕ, get_or}
use Rattle.std.specs.Int.Bits.{bit_xor}
use Rattle.gf256.specs.Field.{gmul}

abbrev pub mix_matrix : List (List ℕ)
mix_matrix = (2 ∷ 3 ∷ 1 ∷ 1 ∷ []) ∷ (1 ∷ 2 ∷ 3 ∷ 1 ∷ []) ∷ (1 ∷ 1 ∷ 2 ∷ 3 ∷ []) ∷ (3 ∷ 1 ∷ 1 ∷ 2 ∷ []) ∷ []

abbrev pub inv_mix_matrix : List (List ℕ)
inv_mix_matrix =
    (0x0e ∷ 0x0b ∷ 0x0d ∷ 0x09 ∷ []) ∷ (0x09 ∷ 0x0e ∷ 0x0b ∷ 0x0d ∷ []) ∷ (0x0d ∷ 0x09 ∷ 0x0e ∷ 0x0b ∷ [])
    ∷ (0x0b ∷ 0x0d ∷ 0x09 ∷ 0x0e ∷ []) ∷ []

abbrev pub sum4 : ℕ → ℕ → ℕ → ℕ → ℕ
sum4 a b c d = bit_xor (bit_xor a b) (bit_xor c d)

-- a row times a column
abbrev pub dotted : List ℕ → List ℕ → ℕ
dotted row v =
    sum4 (gmul (get_or v 0 0) (get_or row 0 0)) (gmul (get_or v 1 0) (get_or row 1 0)) (gmul (get_or v 2 0) (get_or row 2 0))
    (gmul (get_or v 3 0) (get_or row 3 0))

-- a matrix times a column
abbrev pub product : List (List ℕ) → List ℕ → List ℕ
product m v = dotted (get_or m 0 []) v ∷ dotted (get_or m 1 []) v ∷ dotted (get_or m 2 []) v ∷ dotted (get_or m 3 []) v ∷ []
