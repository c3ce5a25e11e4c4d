-- The bytes of a number, highest first, and the number of bytes.
use Rattle.std.specs.Prelude.{◌≡◌, ℕ, zero, suc, ◌+◌, ◌-◌, ◌*◌, ◌/◌, ◌%◌, ◌^◌, ◌<◌, List, [], ◌∷◌, ◌++◌, length, take, replicate}
use Rattle.std.specs.List.{AllByRecursion}

abbrev pub of_bytes : List ℕ → ℕ
of_bytes [] = 0
of_bytes (x ∷ xs) = x * 2 ^ (8 * length xs) + of_bytes xs

abbrev pub bytes_by : ℕ → ℕ → List ℕ
bytes_by zero n = []
bytes_by (suc k) n = (n / 2 ^ (8 * k) % 256) ∷ bytes_by k n

unfoldable pub bytes_of : ℕ → List ℕ
bytes_of n = bytes_by 16 n

-- a short block is filled with 80 and zeros
abbrev pub padded : List ℕ → List ℕ
padded bs = bs ++ take (16 - length bs) (0x80 ∷ replicate 15 0)

abbrev pub Bytes : List ℕ → Type 0
Bytes xs = AllByRecursion (λ b. b < 256) xs

abbrev pub BytesBack : Type 0
BytesBack = (n : ℕ) → n < 2 ^ 128 → of_bytes (bytes_of n) ≡ n

abbrev pub NumberBack : Type 0
NumberBack = (xs : List ℕ) → length xs ≡ 16 → Bytes xs → bytes_of (of_bytes xs) ≡ xs

-- the filling, as it is usually told
abbrev pub Filled : Type 0
Filled = (bs : List ℕ) → (length bs ≡ 16 → padded bs ≡ bs) × (length bs < 16 → padded bs ≡ bs ++ 0x80 ∷ replicate (15 - length bs) 0)
