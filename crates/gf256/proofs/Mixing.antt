-- The two matrices undo each other: sixteen identities in one byte, computed over all bytes, and additivity.
use mathlib.Core.Path.{◌≡◌, refl, ◌∙◌, ap₂}
use mathlib.Core.List.{List, [], ◌∷◌}
use mathlib.Core.Bool.{Bool, cond}
use Prim.Native.Nat.{ℕ, ◌<◌}
use lib.Dec.{T, eqb, eqb→eq, lit<}
use lib.ListN.{get_or}
use lib.Bits.{bit_xor, xor_zero_r}
use Rattle.gf256.specs.Field.{gmul}
use Rattle.gf256.specs.Columns.{mix_matrix, inv_mix_matrix, sum4, dotted, product}
use Rattle.gf256.proofs.Linear.{cross, gmul_xor}
use Rattle.gf256.proofs.Computed.{passes, passed}

abbrev entry : List (List ℕ) → ℕ → ℕ → ℕ
entry m i k = get_or (get_or m i []) k 0

-- what row i of n makes of the byte x at place k, after m
abbrev pair : List (List ℕ) → List (List ℕ) → ℕ → ℕ → ℕ → ℕ
pair n m i k x =
    sum4 (gmul (gmul x (entry m 0 k)) (entry n i 0)) (gmul (gmul x (entry m 1 k)) (entry n i 1))
    (gmul (gmul x (entry m 2 k)) (entry n i 2)) (gmul (gmul x (entry m 3 k)) (entry n i 3))

abbrev unit : List (List ℕ) → List (List ℕ) → ℕ → ℕ → ℕ → Bool
unit n m i k x = eqb (pair n m i k x) (cond (eqb i k) x 0)

abbrev undoes : List (List ℕ) → List (List ℕ) → Bool
undoes n m = passes (λ i. passes (λ k. passes (unit n m i k) 256) 4) 4

unmix_mix_test : T (undoes inv_mix_matrix mix_matrix)
unfolding gmul
unmix_mix_test = tt

mix_unmix_test : T (undoes mix_matrix inv_mix_matrix)
unfolding gmul
mix_unmix_test = tt

add4 : (a b c d e f g h : ℕ) → bit_xor (sum4 a b c d) (sum4 e f g h) ≡ sum4 (bit_xor a e) (bit_xor b f) (bit_xor c g) (bit_xor d h)
add4 a b c d e f g h = cross (bit_xor a b) (bit_xor c d) (bit_xor e f) (bit_xor g h) ∙ ap₂ bit_xor (cross a b e f) (cross c d g h)

gmul_sum4 : (a b c d m : ℕ) → gmul (sum4 a b c d) m ≡ sum4 (gmul a m) (gmul b m) (gmul c m) (gmul d m)
gmul_sum4 a b c d m = gmul_xor (bit_xor a b) (bit_xor c d) m ∙ ap₂ bit_xor (gmul_xor a b m) (gmul_xor c d m)

-- a sum of rows is the sum of columns
abbrev row_sum : (ℕ → ℕ → ℕ) → ℕ → ℕ
row_sum f j = sum4 (f j 0) (f j 1) (f j 2) (f j 3)

abbrev column_sum : (ℕ → ℕ → ℕ) → ℕ → ℕ
column_sum f k = sum4 (f 0 k) (f 1 k) (f 2 k) (f 3 k)

turned : (f : ℕ → ℕ → ℕ)
    → sum4 (row_sum f 0) (row_sum f 1) (row_sum f 2) (row_sum f 3) ≡ sum4 (column_sum f 0) (column_sum f 1) (column_sum f 2) (column_sum f 3)
turned f =
    ap₂ bit_xor (add4 (f 0 0) (f 0 1) (f 0 2) (f 0 3) (f 1 0) (f 1 1) (f 1 2) (f 1 3)) (add4 (f 2 0) (f 2 1) (f 2 2) (f 2 3) (f 3 0) (f 3 1) (f 3 2) (f 3 3))
    ∙ add4 (bit_xor (f 0 0) (f 1 0)) (bit_xor (f 0 1) (f 1 1)) (bit_xor (f 0 2) (f 1 2)) (bit_xor (f 0 3) (f 1 3))
    (bit_xor (f 2 0) (f 3 0)) (bit_xor (f 2 1) (f 3 1)) (bit_xor (f 2 2) (f 3 2)) (bit_xor (f 2 3) (f 3 3))

module _ (n m : List (List ℕ)) where
  twofold : (i a b c d : ℕ)
      → dotted (get_or n i []) (product m (a ∷ b ∷ c ∷ d ∷ [])) ≡ sum4 (pair n m i 0 a) (pair n m i 1 b) (pair n m i 2 c) (pair n m i 3 d)
  twofold i a b c d =
      let e : ℕ → ℕ → ℕ = λ j k. gmul (get_or (a ∷ b ∷ c ∷ d ∷ []) k 0) (entry m j k) in
      let s : (j : ℕ) → gmul (row_sum e j) (entry n i j) ≡ row_sum (λ j k. gmul (e j k) (entry n i j)) j
      = λ j. gmul_sum4 (e j 0) (e j 1) (e j 2) (e j 3) (entry n i j) in
      ap₂ bit_xor (ap₂ bit_xor (s 0) (s 1)) (ap₂ bit_xor (s 2) (s 3)) ∙ turned (λ j k. gmul (e j k) (entry n i j))

  module _ (t : T (undoes n m)) where
    pair_is : (i k x : ℕ) → i < 4 → k < 4 → x < 256 → pair n m i k x ≡ cond (eqb i k) x 0
    pair_is i k x hi hk hx =
        eqb→eq (pair n m i k x) (cond (eqb i k) x 0)
        (passed (unit n m i k) 256 (passed (λ k. passes (unit n m i k) 256) 4 (passed (λ i. passes (λ k. passes (unit n m i k) 256) 4) 4 t i hi) k hk) x hx)

    row_is : (i a b c d : ℕ) → i < 4 → a < 256 → b < 256 → c < 256 → d < 256
        → dotted (get_or n i []) (product m (a ∷ b ∷ c ∷ d ∷ [])) ≡ sum4 (cond (eqb i 0) a 0) (cond (eqb i 1) b 0) (cond (eqb i 2) c 0) (cond (eqb i 3) d 0)
    row_is i a b c d hi ha hb hc hd =
        twofold i a b c d
        ∙ ap₂ bit_xor (ap₂ bit_xor (pair_is i 0 a hi (lit< tt) ha) (pair_is i 1 b hi (lit< tt) hb))
        (ap₂ bit_xor (pair_is i 2 c hi (lit< tt) hc) (pair_is i 3 d hi (lit< tt) hd))

    product_back : (a b c d : ℕ) → a < 256 → b < 256 → c < 256 → d < 256 → product n (product m (a ∷ b ∷ c ∷ d ∷ [])) ≡ a ∷ b ∷ c ∷ d ∷ []
    product_back a b c d ha hb hc hd =
        ap₂ ◌∷◌ (row_is 0 a b c d (lit< tt) ha hb hc hd ∙ xor_zero_r (bit_xor a 0) ∙ xor_zero_r a)
        (ap₂ ◌∷◌ (row_is 1 a b c d (lit< tt) ha hb hc hd ∙ xor_zero_r b)
        (ap₂ ◌∷◌ (row_is 2 a b c d (lit< tt) ha hb hc hd ∙ xor_zero_r c) (ap₂ ◌∷◌ (row_is 3 a b c d (lit< tt) ha hb hc hd) refl)))

pub unmix_mix : (a b c d : ℕ) → a < 256 → b < 256 → c < 256 → d < 256 → product inv_mix_matrix (product mix_matrix (a ∷ b ∷ c ∷ d ∷ [])) ≡ a ∷ b ∷ c ∷ d ∷ []
unmix_mix = product_back inv_mix_matrix mix_matrix unmix_mix_test

pub mix_unmix : (a b c d : ℕ) → a < 256 → b < 256 → c < 256 → d < 256 → product mix_matrix (product inv_mix_matrix (a ∷ b ∷ c ∷ d ∷ [])) ≡ a ∷ b ∷ c ∷ d ∷ []
mix_unmix = product_back mix_matrix inv_mix_matrix mix_unmix_test
