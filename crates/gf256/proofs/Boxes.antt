-- The S-box and its inverse, each rule computed once over all bytes.
use mathlib.Core.Path.{◌≡◌}
use mathlib.Core.Bool.{Bool}
use Prim.Native.Nat.{ℕ, ◌-◌, ◌+◌, ◌<◌}
use native.Mathlib.Omega.{arith}
use lib.Dec.{T, eqb, eqb→eq, ltb, leb→le}
use Rattle.gf256.specs.Field.{gmul, inverse}
use Rattle.gf256.specs.Sbox.{affine, inv_affine, sbox, inv_sbox}
use Rattle.gf256.proofs.Computed.{passes, passed}

-- two functions that agree below n
pub agree : (n : ℕ) (f g : ℕ → ℕ) → T (passes (λ x. eqb (f x) (g x)) n) → (x : ℕ) → x < n → f x ≡ g x
agree n f g t x h = eqb→eq (f x) (g x) (passed (λ x. eqb (f x) (g x)) n t x h)

-- the same of m functions each
pub agree_each : (m n : ℕ) (f g : ℕ → ℕ → ℕ) → T (passes (λ k. passes (λ x. eqb (f k x) (g k x)) n) m) → (k : ℕ) → k < m → (x : ℕ) → x < n → f k x ≡ g k x
agree_each m n f g t k p = agree n (f k) (g k) (passed (λ k. passes (λ x. eqb (f k x) (g k x)) n) m t k p)

abbrev small : (ℕ → ℕ) → ℕ → Bool
small f x = ltb (f x) 256

pub sbox_lt : (x : ℕ) → x < 256 → sbox x < 256
unfolding sbox affine inverse gmul
sbox_lt x h = leb→le _ 256 (passed (small sbox) 256 tt x h)

pub inv_sbox_lt : (x : ℕ) → x < 256 → inv_sbox x < 256
unfolding inv_sbox inv_affine inverse gmul
inv_sbox_lt x h = leb→le _ 256 (passed (small inv_sbox) 256 tt x h)

pub inv_sbox_lem : (x : ℕ) → x < 256 → inv_sbox (sbox x) ≡ x
unfolding sbox affine inv_sbox inv_affine inverse gmul
inv_sbox_lem x h = agree 256 (λ x. inv_sbox (sbox x)) (λ x. x) tt x h

pub sbox_inv : (x : ℕ) → x < 256 → sbox (inv_sbox x) ≡ x
unfolding sbox affine inv_sbox inv_affine inverse gmul
sbox_inv x h = agree 256 (λ x. sbox (inv_sbox x)) (λ x. x) tt x h

pub gmul_inverse : (x : ℕ) → 0 < x → x < 256 → gmul x (inverse x) ≡ 1
unfolding gmul inverse
gmul_inverse x p h =
    let e : x - 1 + 1 ≡ x = omega arith in
    rw e at (agree 255 (λ x. gmul (x + 1) (inverse (x + 1))) (λ x. 1) tt (x - 1) (omega arith))
