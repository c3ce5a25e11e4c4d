-- Doubling and halving undo each other, and all stay below 2^128.
use Rattle.std.proofs.Common.{◌≡◌, ℕ, ◌+◌, ◌*◌, ◌/◌, ◌%◌, ◌^◌, ◌<◌, sym, ap, ◌∙◌, ⊎_elim, arith, lit<}
use lib.Bits.{bit_xor, xor_assoc, xor_comm, xor_self, xor_zero_r, xor_zero_l, xor_mod, xor_shr, xor_block, xor_lt}
use Rattle.std.proofs.lemmas.Bool.{cases_lt}
use Rattle.block.specs.Field.{dbl, half, three, five, seven, Undone, Unmixed, ByCases, Linear}

pub xor_cancel : (a b : ℕ) → bit_xor (bit_xor a b) b ≡ a
xor_cancel a b = rw (xor_assoc a b b, xor_self, xor_zero_r)

pub dbl_lt : (a : ℕ) → a < 2 ^ 128 → dbl a < 2 ^ 128
unfolding dbl
dbl_lt a p = xor_lt 128 ((a * 2) % 2 ^ 128) (a / 2 ^ 127 * 0x87) (omega arith) (omega arith)

pub half_lt : (a : ℕ) → a < 2 ^ 128 → half a < 2 ^ 128
unfolding half
half_lt a p = let x = xor_lt 128 a (a % 2 * 0x87) p (omega arith) in omega (arith, x)

-- xor with 0x87 or 0 at an even number, or at an odd one
bit : (t : ℕ) → t < 2 → bit_xor 0 (t * 0x87 % 2) ≡ t
bit t p = omega arith

same_bit : (a : ℕ) → bit_xor a (a % 2 * 0x87) % 2 ≡ 0
same_bit a = xor_mod a (a % 2 * 0x87) 1 ∙ (let e : a % 2 * 0x87 % 2 ≡ a % 2 = omega arith in rw (e, xor_self))

dbl_odd : (a : ℕ) → a < 2 ^ 128 → dbl a % 2 ≡ a / 2 ^ 127
unfolding dbl
dbl_odd a p =
    xor_mod ((a * 2) % 2 ^ 128) (a / 2 ^ 127 * 0x87) 1
    ∙ (let e : (a * 2) % 2 ^ 128 % 2 ≡ 0 = omega arith in rw e (bit (a / 2 ^ 127) (omega arith)))

pub half_dbl : (a : ℕ) → a < 2 ^ 128 → half (dbl a) ≡ a
unfolding half dbl
half_dbl a p =
    let odd : bit_xor ((a * 2) % 2 ^ 128) (a / 2 ^ 127 * 0x87) % 2 ≡ a / 2 ^ 127 = dbl_odd a p in
    rw (odd, xor_cancel) (omega arith)

pub dbl_half : (a : ℕ) → a < 2 ^ 128 → dbl (half a) ≡ a
unfolding half dbl
dbl_half a p =
    let x : ℕ = bit_xor a (a % 2 * 0x87) in
    let small : x < 2 ^ 128 = xor_lt 128 a (a % 2 * 0x87) p (omega arith) in
    let even : x % 2 ≡ 0 = same_bit a in
    let up : ((x / 2 + a % 2 * 2 ^ 127) * 2) % 2 ^ 128 ≡ x = omega arith in
    let top : (x / 2 + a % 2 * 2 ^ 127) / 2 ^ 127 ≡ a % 2 = omega arith in
    rw (up, top) (xor_cancel a (a % 2 * 0x87))

pub three_lt : (a : ℕ) → a < 2 ^ 128 → three a < 2 ^ 128
three_lt a p = xor_lt 128 (dbl a) a (dbl_lt a p) p

pub five_lt : (a : ℕ) → a < 2 ^ 128 → five a < 2 ^ 128
five_lt a p = xor_lt 128 (dbl (dbl a)) a (dbl_lt (dbl a) (dbl_lt a p)) p

pub seven_lt : (a : ℕ) → a < 2 ^ 128 → seven a < 2 ^ 128
seven_lt a p = xor_lt 128 (dbl (three a)) a (dbl_lt (three a) (three_lt a p)) p

pub undone : Undone
undone a p = (half_dbl a p, dbl_half a p)

pub unmixed : Unmixed
unmixed x w =
    let e : bit_xor (bit_xor x (three w)) w ≡ bit_xor x (dbl w) = rw (xor_assoc, xor_cancel) in
    rw (xor_cancel x (three w), e)

pub by_cases : ByCases
unfolding dbl half
by_cases = record {
  dbl_low = λ a p. let t : a / 2 ^ 127 * 0x87 ≡ 0 = omega arith in rw (t, xor_zero_r) (omega arith);
  dbl_high = λ a p q. let t : a / 2 ^ 127 * 0x87 ≡ 0x87 = omega arith in rw t;
  half_even = λ a e. rw (e, xor_zero_r) (omega arith);
  half_odd = λ a e. rw e;
}

-- doubling goes through xor: the bits that fall out, and the rest
bit_times : (s t : ℕ) → s < 2 → t < 2 → bit_xor s t * 0x87 ≡ bit_xor (s * 0x87) (t * 0x87)
bit_times s t p q =
    ⊎_elim
    (λ e. let z : s ≡ 0 = omega arith in rw z (rw (xor_zero_l t, xor_zero_l (t * 0x87))))
    (λ e. let z : s ≡ 1 = omega arith in rw z (⊎_elim (λ f. let y : t ≡ 0 = omega arith in rw y) (λ f. let y : t ≡ 1 = omega arith in rw y) (cases_lt t 1)))
    (cases_lt s 1)

regroup : (a b c d : ℕ) → bit_xor (bit_xor a b) (bit_xor c d) ≡ bit_xor (bit_xor a c) (bit_xor b d)
regroup a b c d =
    xor_assoc a b (bit_xor c d) ∙ ap (bit_xor a) (sym (xor_assoc b c d) ∙ ap (λ (z : ℕ). bit_xor z d) (xor_comm b c) ∙ xor_assoc c b d) ∙ sym (xor_assoc a c (bit_xor b d))

pub dbl_xor : Linear
unfolding dbl
dbl_xor a b p q =
    let twice : bit_xor a b * 2 ≡ bit_xor (a * 2) (b * 2) = (let e = xor_block 1 a b 0 0 (lit< tt) (lit< tt) in let x : a * 2 ^ 1 + 0 ≡ a * 2 = omega arith in let y : b * 2 ^ 1 + 0 ≡ b * 2 = omega arith in let z : bit_xor a b * 2 ^ 1 + bit_xor 0 0 ≡ bit_xor a b * 2 = omega arith in sym (rw (x, y, z) at e)) in
    let low : (bit_xor a b * 2) % 2 ^ 128 ≡ bit_xor ((a * 2) % 2 ^ 128) ((b * 2) % 2 ^ 128) = ap (λ (z : ℕ). z % 2 ^ 128) twice ∙ xor_mod (a * 2) (b * 2) 128 in
    let high : bit_xor a b / 2 ^ 127 * 0x87 ≡ bit_xor (a / 2 ^ 127 * 0x87) (b / 2 ^ 127 * 0x87) = ap (λ (z : ℕ). z * 0x87) (xor_shr a b 127) ∙ bit_times (a / 2 ^ 127) (b / 2 ^ 127) (omega arith) (omega arith) in
    rw (low, high) (regroup ((a * 2) % 2 ^ 128) ((b * 2) % 2 ^ 128) (a / 2 ^ 127 * 0x87) (b / 2 ^ 127 * 0x87))

-- the multiple 5 of a double is the double of the multiple
pub five_dbl : (a : ℕ) → a < 2 ^ 128 → dbl (five a) ≡ five (dbl a)
five_dbl a p = dbl_xor (dbl (dbl a)) a (dbl_lt (dbl a) (dbl_lt a p)) p

-- two numbers are equal exactly when nothing is left of their xor
pub xor_none : (a b : ℕ) → bit_xor a b ≡ 0 → a ≡ b
xor_none a b e = sym (xor_cancel a b) ∙ ap (λ (z : ℕ). bit_xor z b) e ∙ xor_zero_l b
