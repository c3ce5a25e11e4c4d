-- A product in the field: additive in its first factor, below 256, and found by as many turns as there are bits.
use mathlib.Core.Path.{◌≡◌, refl, sym, ◌∙◌, ap, ap₂}
use mathlib.Core.Bool.{Bool, true, false, cond}
use Prim.Native.Nat.{ℕ, zero, suc, ◌*◌, ◌/◌, ◌%◌, ◌^◌, ◌<◌}
use native.Mathlib.Nat.{add-zero, mod-lt, pow-suc}
use native.Mathlib.Omega.{arith}
use lib.Dec.{eqb, lit<}
use lib.Bits.{bit_xor, xor_assoc, xor_comm, xor_zero_l, xor_block, xor_mod, xor_shr, xor_lt}
use Rattle.gf256.specs.Field.{xtime, times_low, gmul}

pub cross : (a b c d : ℕ) → bit_xor (bit_xor a b) (bit_xor c d) ≡ bit_xor (bit_xor a c) (bit_xor b d)
cross a b c d =
    xor_assoc a b (bit_xor c d) ∙ ap (bit_xor a) (sym (xor_assoc b c d) ∙ ap (λ n. bit_xor n d) (xor_comm b c) ∙ xor_assoc c b d)
    ∙ sym (xor_assoc a c (bit_xor b d))

twice : (a b : ℕ) → bit_xor a b * 2 ≡ bit_xor (a * 2) (b * 2)
twice a b = sym (simp add-zero at (xor_block 1 a b 0 0 (lit< tt) (lit< tt)))

digit : (p q : ℕ) → p < 2 → q < 2 → bit_xor p q * 0x1b ≡ bit_xor (p * 0x1b) (q * 0x1b)
digit zero q hp hq = refl
digit (suc zero) zero hp hq = refl
digit (suc zero) (suc zero) hp hq = refl
digit (suc zero) (suc (suc q)) hp hq = absurd (omega arith)
digit (suc (suc p)) q hp hq = absurd (omega arith)

pub xtime_xor : (x y : ℕ) → xtime (bit_xor x y) ≡ bit_xor (xtime x) (xtime y)
xtime_xor x y =
    ap₂ bit_xor
    (ap (λ n. n * 2) (xor_mod x y 7) ∙ twice (x % 128) (y % 128))
    (ap (λ n. n % 2 * 0x1b) (xor_shr x y 7) ∙ ap (λ n. n * 0x1b) (xor_mod (x / 128) (y / 128) 1)
    ∙ digit (x / 128 % 2) (y / 128 % 2) (mod-lt (x / 128) (lit< tt)) (mod-lt (y / 128) (lit< tt)))
    ∙ cross (x % 128 * 2) (y % 128 * 2) (x / 128 % 2 * 0x1b) (y / 128 % 2 * 0x1b)

chosen : (b : Bool) (x y : ℕ) → cond b (bit_xor x y) 0 ≡ bit_xor (cond b x 0) (cond b y 0)
chosen true x y = refl
chosen false x y = refl

times_low_xor : (n x y m : ℕ) → times_low n (bit_xor x y) m ≡ bit_xor (times_low n x m) (times_low n y m)
times_low_xor zero x y m = refl
times_low_xor (suc n) x y m =
    ap₂ bit_xor (chosen (eqb (m % 2) 1) x y)
    (ap (λ z. times_low n z (m / 2)) (xtime_xor x y) ∙ times_low_xor n (xtime x) (xtime y) (m / 2))
    ∙ cross (cond (eqb (m % 2) 1) x 0) (cond (eqb (m % 2) 1) y 0) (times_low n (xtime x) (m / 2)) (times_low n (xtime y) (m / 2))

pub gmul_xor : (x y m : ℕ) → gmul (bit_xor x y) m ≡ bit_xor (gmul x m) (gmul y m)
unfolding gmul
gmul_xor = times_low_xor 8

pub xtime_lt : (a : ℕ) → xtime a < 256
xtime_lt a =
    let p : a % 128 * 2 < 256 = omega arith in
    let q : a / 128 % 2 * 0x1b < 256 = omega arith in
    xor_lt 8 (a % 128 * 2) (a / 128 % 2 * 0x1b) p q

cond_lt : (b : Bool) (a : ℕ) → a < 256 → cond b a 0 < 256
cond_lt true a h = h
cond_lt false a h = lit< tt

times_low_lt : (n a m : ℕ) → a < 256 → times_low n a m < 256
times_low_lt zero a m h = lit< tt
times_low_lt (suc n) a m h =
    xor_lt 8 (cond (eqb (m % 2) 1) a 0) (times_low n (xtime a) (m / 2)) (cond_lt (eqb (m % 2) 1) a h)
    (times_low_lt n (xtime a) (m / 2) (xtime_lt a))

pub gmul_lt : (a m : ℕ) → a < 256 → gmul a m < 256
unfolding gmul
gmul_lt a m h = times_low_lt 8 a m h

-- turns past the last bit add nothing
none_left : (n a : ℕ) → times_low n a 0 ≡ 0
none_left zero a = refl
none_left (suc n) a = rw (none_left n (xtime a))

enough : (n a m : ℕ) → m < 2 ^ n → times_low (suc n) a m ≡ times_low n a m
enough zero a m h = let e : m ≡ 0 = omega arith in rw e
enough (suc n) a m h =
    ap (bit_xor (cond (eqb (m % 2) 1) a 0)) (enough n (xtime a) (m / 2) (omega (arith, pow-suc 2 n)))

-- the loop that multiplies: what is left to add, after a turn and at the end
turn : (m a s : ℕ) → m < 256 → cond (eqb (m % 2) 1) a 0 ≡ s → bit_xor s (gmul (xtime a) (m / 2)) ≡ gmul a m
unfolding gmul
turn m a s h e = ap₂ bit_xor (sym e) (enough 7 (xtime a) (m / 2) (omega arith))

-- one turn, where the bit is set and where it is not: a new sum s and a doubled factor x
module _ (r a m x g : ℕ) (h : m < 256) (d : x ≡ xtime a) (inv : bit_xor r (gmul a m) ≡ g) where
  pub gmul_odd : (s : ℕ) → m % 2 ≡ 1 → s ≡ bit_xor r a → bit_xor s (gmul x (m / 2)) ≡ g
  gmul_odd s e f =
      rw (f, d) (xor_assoc r a (gmul (xtime a) (m / 2))) ∙ ap (bit_xor r) (turn m a a h (rw e)) ∙ inv

  pub gmul_even : (s : ℕ) → m % 2 ≡ 0 → s ≡ r → bit_xor s (gmul x (m / 2)) ≡ g
  gmul_even s e f =
      rw (f, d) (ap (bit_xor r) (sym (xor_zero_l (gmul (xtime a) (m / 2))) ∙ turn m a 0 h (rw e))) ∙ inv

pub gmul_zero : (a : ℕ) → gmul a 0 ≡ 0
unfolding gmul
gmul_zero a = none_left 8 a
