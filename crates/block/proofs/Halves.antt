-- The two halves of a block against its number.
use Rattle.std.proofs.Common.{◌≡◌, ℕ, ◌+◌, ◌*◌, ◌/◌, ◌%◌, ◌^◌, ◌<◌, eqb, sym, ap, ◌∙◌, ⊎_elim, arith}
use Rattle.std.proofs.lemmas.Bool.{cases_eq, eq-eqb, ne_eqb}
use lib.Bits.{bit_and, bit_or, bit_xor, and_mask, or_shifted, or_shifted_r, xor_block, xor_lt, xor_self, xor_zero_r, or_add_and, and_le_l, and_le_r}
use Rattle.block.proofs.Laws.{xor_none}
use Rattle.std.proofs.lemmas.Nat.{mod-mul-add}
use Rattle.block.specs.Field.{dbl, half}

-- an xor that stays in the lower half
xor_low : (h l m : ℕ) → l < 2 ^ 64 → m < 2 ^ 64 → bit_xor (h * 2 ^ 64 + l) m ≡ h * 2 ^ 64 + bit_xor l m
xor_low h l m p q =
    let e : m ≡ 0 * 2 ^ 64 + m = omega arith in
    ap (bit_xor (h * 2 ^ 64 + l)) e ∙ xor_block 64 h 0 l m p q ∙ rw xor_zero_r

pub double_halves : (h l : ℕ) → h < 2 ^ 64 → l < 2 ^ 64
    → bit_or ((h * 2) % 2 ^ 64) (l / 2 ^ 63) * 2 ^ 64 + bit_xor ((l * 2) % 2 ^ 64) (h / 2 ^ 63 * 0x87) ≡ dbl (h * 2 ^ 64 + l)
unfolding dbl
double_halves h l p q =
    let even : (h * 2) % 2 ^ 64 ≡ (h % 2 ^ 63) * 2 ^ 1 = omega arith in
    let joined : bit_or ((h % 2 ^ 63) * 2 ^ 1) (l / 2 ^ 63) ≡ (h % 2 ^ 63) * 2 ^ 1 + l / 2 ^ 63 = or_shifted (h % 2 ^ 63) 1 (l / 2 ^ 63) (omega arith) in
    let rest : ℕ = ((h % 2 ^ 63) * 2 ^ 1 + l / 2 ^ 63) * 2 ^ 64 + (l * 2) % 2 ^ 64 in
    let lw : (l * 2) % 2 ^ 64 ≡ (l % 2 ^ 63) * 2 = omega arith in
    let split : (h * 2 ^ 64 + l) * 2 ≡ h / 2 ^ 63 * 2 ^ 128 + rest = omega arith in
    let up : ((h * 2 ^ 64 + l) * 2) % 2 ^ 128 ≡ rest = rw split (mod-mul-add (h / 2 ^ 63) (2 ^ 128) rest (omega arith)) in
    let top : (h * 2 ^ 64 + l) / 2 ^ 127 ≡ h / 2 ^ 63 = omega arith in
    let both = xor_low ((h % 2 ^ 63) * 2 ^ 1 + l / 2 ^ 63) ((l * 2) % 2 ^ 64) (h / 2 ^ 63 * 0x87) (omega arith) (omega arith) in
    rw (even, joined, up, top, both)

pub halve_halves : (h l : ℕ) → h < 2 ^ 64 → l < 2 ^ 64
    → bit_or (h / 2) ((bit_and l 1 * 2 ^ 63) % 2 ^ 64) * 2 ^ 64 + bit_or (bit_xor l (bit_and l 1 * 0x87) / 2) ((h * 2 ^ 63) % 2 ^ 64) ≡ half (h * 2 ^ 64 + l)
unfolding half
halve_halves h l p q =
    let x : ℕ = bit_xor l (l % 2 * 0x87) in
    let small : x < 2 ^ 64 = xor_lt 64 l (l % 2 * 0x87) q (omega arith) in
    let odd : (h * 2 ^ 64 + l) % 2 ≡ l % 2 = omega arith in
    let top : (l % 2 * 2 ^ 63) % 2 ^ 64 ≡ l % 2 * 2 ^ 63 = omega arith in
    let low : (h * 2 ^ 63) % 2 ^ 64 ≡ h % 2 * 2 ^ 63 = omega arith in
    let hi = or_shifted_r (l % 2) 63 (h / 2) (omega arith) in
    let lo = or_shifted_r (h % 2) 63 (x / 2) (omega arith) in
    let both = xor_low h l (l % 2 * 0x87) q (omega arith) in
    rw (and_mask l 1, odd, top, low, hi, lo, both) (omega arith)

pub or_none : (a b : ℕ) → bit_or a b ≡ 0 → (a ≡ 0) × (b ≡ 0)
or_none a b e = let s = or_add_and a b in let l = and_le_l a b in let r = and_le_r a b in (omega arith, omega arith)

-- halves are equal exactly when their numbers are
pub same_halves : (a b c d : ℕ) → b < 2 ^ 64 → d < 2 ^ 64 → eqb (bit_or (bit_xor a c) (bit_xor b d)) 0 ≡ eqb (a * 2 ^ 64 + b) (c * 2 ^ 64 + d)
same_halves a b c d p q =
    ⊎_elim
    (λ e. let n = or_none (bit_xor a c) (bit_xor b d) e in let x : a ≡ c = xor_none a c n.0 in let y : b ≡ d = xor_none b d n.1 in eq-eqb (bit_or (bit_xor a c) (bit_xor b d)) 0 e ∙ sym (eq-eqb (a * 2 ^ 64 + b) (c * 2 ^ 64 + d) (omega arith)))
    (λ n. ne_eqb (bit_or (bit_xor a c) (bit_xor b d)) 0 n ∙ sym (ne_eqb (a * 2 ^ 64 + b) (c * 2 ^ 64 + d)
    (λ e. let x : a ≡ c = omega arith in let y : b ≡ d = omega arith in n (rw (x, y, xor_self c, xor_self d)))))
    (cases_eq (bit_or (bit_xor a c) (bit_xor b d)) 0)
