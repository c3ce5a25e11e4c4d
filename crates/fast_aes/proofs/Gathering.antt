-- Bytes of words: xor goes byte by byte, and column products add up to the product of a matrix and a column.
use Rattle.std.proofs.Common.{◌≡◌, ℕ, ◌-◌, ◌*◌, ◌/◌, ◌%◌, ◌^◌, ◌<◌, List, [], ◌∷◌, get_or, sym, refl, ap, ◌∙◌, ap₂, mod-lt, arith, lit<}
use lib.Bits.{bit_xor, xor_assoc, xor_comm, xor_zero_r, xor_shr, xor_mod}
use Rattle.block.specs.Bytes.{of_bytes}
use Rattle.gf256.specs.Columns.{inv_mix_matrix, sum4, dotted, product}
use Rattle.gf256.specs.Field.{gmul}
use Rattle.gf256.specs.Sbox.{sbox, inv_sbox}
use Rattle.gf256.proofs.Boxes.{inv_sbox_lem}
use Rattle.gf256.proofs.Linear.{gmul_lt}
use Rattle.aes.specs.Fips197.{xor_word}
use Rattle.fast_aes.specs.Words.{byte, bytes4, column}

pub byte_lt : (i w : ℕ) → byte i w < 256
unfolding byte
byte_lt i w = mod-lt (w / 2 ^ (24 - 8 * i)) (lit< tt)

pub byte_xor : (i x y : ℕ) → byte i (bit_xor x y) ≡ bit_xor (byte i x) (byte i y)
unfolding byte
byte_xor i x y =
    ap (λ n. n % 256) (xor_shr x y (24 - 8 * i)) ∙ xor_mod (x / 2 ^ (24 - 8 * i)) (y / 2 ^ (24 - 8 * i)) 8

pub bytes4_xor : (x y : ℕ) → bytes4 (bit_xor x y) ≡ xor_word (bytes4 x) (bytes4 y)
bytes4_xor x y =
    ap₂ ◌∷◌ (byte_xor 0 x y) (ap₂ ◌∷◌ (byte_xor 1 x y) (ap₂ ◌∷◌ (byte_xor 2 x y) (ap₂ ◌∷◌ (byte_xor 3 x y) refl)))

pub bytes4_of : (p q r s : ℕ) → p < 256 → q < 256 → r < 256 → s < 256 → bytes4 (of_bytes (p ∷ q ∷ r ∷ s ∷ [])) ≡ p ∷ q ∷ r ∷ s ∷ []
unfolding byte
bytes4_of p q r s hp hq hr hs =
    let n : ℕ = of_bytes (p ∷ q ∷ r ∷ s ∷ []) in
    let e : n / 2 ^ 24 % 256 ≡ p = omega arith in
    let f : n / 2 ^ 16 % 256 ≡ q = omega arith in
    let g : n / 2 ^ 8 % 256 ≡ r = omega arith in
    let h : n / 2 ^ 0 % 256 ≡ s = omega arith in
    ap₂ ◌∷◌ e (ap₂ ◌∷◌ f (ap₂ ◌∷◌ g (ap₂ ◌∷◌ h refl)))

-- the key may be added first
five : (k a b c d : ℕ) → bit_xor (bit_xor (bit_xor (bit_xor k d) c) b) a ≡ bit_xor (sum4 a b c d) k
five k a b c d =
    let rest : bit_xor (bit_xor c d) k ≡ bit_xor (bit_xor k d) c =
    xor_assoc c d k ∙ ap (bit_xor c) (xor_comm d k) ∙ xor_comm c (bit_xor k d) in
    sym (xor_assoc (bit_xor a b) (bit_xor c d) k ∙ ap (bit_xor (bit_xor a b)) rest ∙ xor_assoc a b (bit_xor (bit_xor k d) c)
    ∙ ap (bit_xor a) (xor_comm b (bit_xor (bit_xor k d) c)) ∙ xor_comm a (bit_xor (bit_xor (bit_xor k d) c) b))

module _ (k t0 t1 t2 t3 : ℕ) where
  -- the xor of a key and four table entries
  abbrev pub gathered : ℕ
  gathered = bit_xor (bit_xor (bit_xor (bit_xor k t3) t2) t1) t0

  byte_gathered : (i : ℕ) → byte i gathered ≡ bit_xor (sum4 (byte i t0) (byte i t1) (byte i t2) (byte i t3)) (byte i k)
  byte_gathered i =
      byte_xor i (bit_xor (bit_xor (bit_xor k t3) t2) t1) t0
      ∙ ap (λ n. bit_xor n (byte i t0)) (byte_xor i (bit_xor (bit_xor k t3) t2) t1
      ∙ ap (λ n. bit_xor n (byte i t1)) (byte_xor i (bit_xor k t3) t2 ∙ ap (λ n. bit_xor n (byte i t2)) (byte_xor i k t3)))
      ∙ five (byte i k) (byte i t0) (byte i t1) (byte i t2) (byte i t3)

  module _ (m : List (List ℕ)) (y0 y1 y2 y3 : ℕ) (q0 : bytes4 t0 ≡ column m 0 y0) (q1 : bytes4 t1 ≡ column m 1 y1)
      (q2 : bytes4 t2 ≡ column m 2 y2) (q3 : bytes4 t3 ≡ column m 3 y3) where
    abbrev row : ℕ → ℕ
    row i = dotted (get_or m i []) (y0 ∷ y1 ∷ y2 ∷ y3 ∷ [])

    sums : (f : List ℕ → ℕ) → sum4 (f (bytes4 t0)) (f (bytes4 t1)) (f (bytes4 t2)) (f (bytes4 t3)) ≡ sum4 (f (column m 0 y0)) (f (column m 1 y1)) (f (column m 2 y2)) (f (column m 3 y3))
    sums f = ap₂ bit_xor (ap₂ bit_xor (ap f q0) (ap f q1)) (ap₂ bit_xor (ap f q2) (ap f q3))

    pub gathered_is : bytes4 gathered ≡ xor_word (product m (y0 ∷ y1 ∷ y2 ∷ y3 ∷ [])) (bytes4 k)
    gathered_is =
        ap₂ ◌∷◌ (byte_gathered 0 ∙ ap (λ n. bit_xor n (byte 0 k)) (sums (λ l. get_or l 0 0)))
        (ap₂ ◌∷◌ (byte_gathered 1 ∙ ap (λ n. bit_xor n (byte 1 k)) (sums (λ l. get_or l 1 0)))
        (ap₂ ◌∷◌ (byte_gathered 2 ∙ ap (λ n. bit_xor n (byte 2 k)) (sums (λ l. get_or l 2 0)))
        (ap₂ ◌∷◌ (byte_gathered 3 ∙ ap (λ n. bit_xor n (byte 3 k)) (sums (λ l. get_or l 3 0))) refl)))

-- a table's entry has the products as its bytes
pub entry_bytes : (m : List (List ℕ)) (k y t : ℕ) → y < 256 → t ≡ of_bytes (column m k y) → bytes4 t ≡ column m k y
entry_bytes m k y t h e =
    ap bytes4 e ∙ bytes4_of (gmul y (get_or (get_or m 0 []) k 0)) (gmul y (get_or (get_or m 1 []) k 0)) (gmul y (get_or (get_or m 2 []) k 0)) (gmul y (get_or (get_or m 3 []) k 0))
    (gmul_lt y (get_or (get_or m 0 []) k 0) h) (gmul_lt y (get_or (get_or m 1 []) k 0) h) (gmul_lt y (get_or (get_or m 2 []) k 0) h) (gmul_lt y (get_or (get_or m 3 []) k 0) h)

-- where the tables' substitution is cancelled, and no key is added
pub unmixed_is : (w p q r s t : ℕ) → p ≡ sbox (byte 0 w) → q ≡ sbox (byte 1 w) → r ≡ sbox (byte 2 w) → s ≡ sbox (byte 3 w)
    → bytes4 t ≡ xor_word (product inv_mix_matrix (inv_sbox p ∷ inv_sbox q ∷ inv_sbox r ∷ inv_sbox s ∷ [])) (bytes4 0)
    → bytes4 t ≡ product inv_mix_matrix (bytes4 w)
unfolding byte
unmixed_is w p q r s t ep eq er es e =
    let back : (i x : ℕ) → x ≡ sbox (byte i w) → inv_sbox x ≡ byte i w
    = λ i x h. ap inv_sbox h ∙ inv_sbox_lem (byte i w) (byte_lt i w) in
    let old : List ℕ = inv_sbox p ∷ inv_sbox q ∷ inv_sbox r ∷ inv_sbox s ∷ [] in
    let same : old ≡ bytes4 w = ap₂ ◌∷◌ (back 0 p ep) (ap₂ ◌∷◌ (back 1 q eq) (ap₂ ◌∷◌ (back 2 r er) (ap₂ ◌∷◌ (back 3 s es) refl))) in
    let one : (i : ℕ) → bit_xor (dotted (get_or inv_mix_matrix i []) old) 0 ≡ dotted (get_or inv_mix_matrix i []) (bytes4 w)
    = λ i. xor_zero_r (dotted (get_or inv_mix_matrix i []) old) ∙ ap (dotted (get_or inv_mix_matrix i [])) same in
    e ∙ ap₂ ◌∷◌ (one 0) (ap₂ ◌∷◌ (one 1) (ap₂ ◌∷◌ (one 2) (ap₂ ◌∷◌ (one 3) refl)))
