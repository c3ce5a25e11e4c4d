-- The place in a stream and the count since the last check, block by block.
use Rattle.std.proofs.Common.{◌≡◌, ℕ, suc, ◌+◌, ◌*◌, ◌/◌, ◌^◌, ◌<◌, ◌≤◌, cond, eqb, sym, ap, ◌∙◌, ⊎_elim, suc-mul, div-add-mod', arith}
use Rattle.std.proofs.lemmas.Nat.{div-mul-add, mod_below}
use Rattle.std.proofs.lemmas.Bool.{cases_eq, cond-true, cond-false, eq-eqb, ne_eqb}
use Rattle.block.specs.Field.{dbl, five}
use Rattle.block.proofs.Laws.{five_dbl}
use Rattle.elmd.specs.Stream.{pow}
use Rattle.elmd.specs.Sizes.{stride}
use Rattle.elmd.proofs.Bounds.{pow_small}
use Rattle.elmd.proofs.Quo.{due, not_due, quo_mono}

-- the count since the last check tells whether one is due
pub quo_due : (i t since : ℕ) → i ≡ i / t * t + since → since + 1 ≡ t → suc i / t ≡ suc (i / t)
quo_due i t since c d =
    let q : ℕ = i / t in
    let m : suc q * t ≡ q * t + t = suc-mul q t in
    let e : suc i ≡ suc q * t + 0 = omega arith in
    ap (λ (n : ℕ). n / t) e ∙ div-mul-add (suc q) t 0 (omega arith)

pub quo_not : (i t since : ℕ) → i ≡ i / t * t + since → (since + 1 ≡ t → ⊥) → suc i / t ≡ i / t
quo_not i t since c n =
    not_due i t (λ e. let q : ℕ = i / t in let d : suc i / t ≡ suc q = due i t e in let m : suc q * t ≡ q * t + t = suc-mul q t in let f : suc q * t ≡ suc i = sym (ap (λ (k : ℕ). k * t) d) ∙ e in n (omega arith))

pub since_below : (i t since : ℕ) → i ≡ i / t * t + since → (t ≡ 0 → ⊥) → since < t
since_below i t since c z = let a = div-add-mod' i t in let b = mod_below i t (omega (arith, z)) in omega arith

-- the place in the stream and the count, block by block
pub stride_is : (i t since : ℕ) → i ≡ i / t * t + since → 16 * (i + i / t) + stride t since ≡ 16 * (suc i + suc i / t)
stride_is i t since c =
    ⊎_elim
    (λ d. let q = quo_due i t since c d in let s : stride t since ≡ 32 = cond-true (eqb (since + 1) t) 32 16 (eq-eqb (since + 1) t d) in omega arith)
    (λ n. let q = quo_not i t since c n in let s : stride t since ≡ 16 = cond-false (eqb (since + 1) t) 32 16 (ne_eqb (since + 1) t n) in omega arith)
    (cases_eq (since + 1) t)

pub since_is : (i t since : ℕ) → i ≡ i / t * t + since → suc i ≡ suc i / t * t + cond (eqb (since + 1) t) 0 (since + 1)
since_is i t since c =
    ⊎_elim
    (λ d.
    let q : suc i / t * t ≡ suc (i / t) * t = ap (λ (z : ℕ). z * t) (quo_due i t since c d) in
    let m : suc (i / t) * t ≡ i / t * t + t = suc-mul (i / t) t in
    let s : cond (eqb (since + 1) t) 0 (since + 1) ≡ 0 = cond-true (eqb (since + 1) t) 0 (since + 1) (eq-eqb (since + 1) t d) in
    omega arith)
    (λ n.
    let q : suc i / t * t ≡ i / t * t = ap (λ (z : ℕ). z * t) (quo_not i t since c n) in
    let s : cond (eqb (since + 1) t) 0 (since + 1) ≡ since + 1 = cond-false (eqb (since + 1) t) 0 (since + 1) (ne_eqb (since + 1) t n) in
    omega arith)
    (cases_eq (since + 1) t)

-- one more block fits where all p of them do
pub stride_fits : (i t since p : ℕ) → i ≡ i / t * t + since → i < p → 16 * (i + i / t) + stride t since ≤ 16 * (p + p / t)
stride_fits i t since p c h = let s = stride_is i t since c in let q = quo_mono (suc i) p t (omega arith) in omega arith

-- the next output mask
pub five_more : (e l : ℕ) → l < 2 ^ 128 → dbl (five (pow e l)) ≡ five (pow (suc e) l)
five_more e l h = five_dbl (pow e l) (pow_small e l h)

pub quo_next : (i t since : ℕ) → i ≡ i / t * t + since → suc i / t ≡ i / t + cond (eqb (since + 1) t) 1 0
quo_next i t since c =
    ⊎_elim
    (λ d. let q = quo_due i t since c d in let s : ◌≡◌ {A = ℕ} (cond (eqb (since + 1) t) 1 0) 1 = cond-true (eqb (since + 1) t) 1 0 (eq-eqb (since + 1) t d) in omega arith)
    (λ n. let q = quo_not i t since c n in let s : ◌≡◌ {A = ℕ} (cond (eqb (since + 1) t) 1 0) 0 = cond-false (eqb (since + 1) t) 1 0 (ne_eqb (since + 1) t n) in omega arith)
    (cases_eq (since + 1) t)
