-- What stands at the place of a block and of a check.
use Rattle.std.proofs.Common.{◌≡◌, ℕ, zero, suc, pred, ◌+◌, ◌-◌, ◌*◌, ◌/◌, ◌%◌, ◌<◌, ◌≤◌, eqb, ap, ◌∙◌, ⊎_elim, suc-mul, div-add-mod', mul-suc, arith}
use native.Mathlib.Nat.{div-zero}
use Rattle.std.proofs.lemmas.Nat.{div-mul-add, mod_below}
use Rattle.std.proofs.lemmas.Bool.Decides.{nat_tests}
use Rattle.std.proofs.lemmas.Bool.{cases_eq, cond-false, ne_eqb}
use Rattle.elmd.proofs.Quo.{quo_mono, quo_fits}
use Rattle.elmd.specs.Stream.{Frame, t_of, checks, spot, check_spot, tag_spot}
use Rattle.fileparts.specs.Parts.{block_part, check_part, checks_before, kind_in}

before_none : (t e : ℕ) → t ≡ 0 → checks_before t e ≡ 0
before_none t e z = grind (arith, nat_tests)

-- a places by t + 1 and r more
before_some : (t e q r : ℕ) → (t ≡ 0 → ⊥) → e ≡ q * suc t + r → r < suc t → checks_before t e ≡ q
before_some t e q r n s h =
    let d : t + 1 ≡ suc t = omega arith in
    cond-false (eqb t 0) 0 (e / (t + 1)) (ne_eqb t 0 n) ∙ ap (λ (x : ℕ). e / x) d ∙ ap (λ (x : ℕ). x / suc t) s ∙ div-mul-add q (suc t) r h

is_block : (t e b : ℕ) → checks_before t e ≡ b → checks_before t (e + 1) ≡ b → kind_in t e ≡ block_part (e + 1 - b)
is_block t e b p q = rw (p, q) (grind (arith, nat_tests))

is_check : (t e b : ℕ) → checks_before t e ≡ b → checks_before t (e + 1) ≡ suc b → kind_in t e ≡ check_part (suc b)
is_check t e b p q = rw (p, q) (grind (arith, nat_tests))

pub block_kind : (t k : ℕ) → kind_in t (k + k / t) ≡ block_part (suc k)
block_kind t k =
    ⊎_elim
    (λ z.
    let a : k / t ≡ 0 = ap (λ (n : ℕ). k / n) z ∙ div-zero k in
    let n : k + k / t + 1 - 0 ≡ suc k = omega arith in
    is_block t (k + k / t) 0 (before_none t (k + k / t) z) (before_none t (k + k / t + 1) z) ∙ ap block_part n)
    (λ z.
    let q : ℕ = k / t in
    let r : ℕ = k % t in
    let sum : q * t + r ≡ k = div-add-mod' k t in
    let low : r < t = mod_below k t (omega (arith, z)) in
    let m : q * suc t ≡ q * t + q = mul-suc q t in
    let n : k + q + 1 - q ≡ suc k = omega arith in
    is_block t (k + q) q (before_some t (k + q) q r z (omega arith) (omega arith)) (before_some t (k + q + 1) q (r + 1) z (omega arith) (omega arith)) ∙ ap block_part n)
    (cases_eq t 0)

pub check_kind : (t j : ℕ) → (t ≡ 0 → ⊥) → 1 ≤ j → kind_in t (j * t + j - 1) ≡ check_part j
check_kind t zero z h = absurd (omega arith)
check_kind t (suc p) z h =
    let e : ℕ = suc p * t + suc p - 1 in
    let a : suc p * t ≡ p * t + t = suc-mul p t in
    let b : p * suc t ≡ p * t + p = mul-suc p t in
    let c : suc p * suc t ≡ suc p * t + suc p = mul-suc (suc p) t in
    is_check t e p (before_some t e p t z (omega arith) (omega arith)) (before_some t (e + 1) (suc p) 0 z (omega arith) (omega arith))

-- each of them before the tag
module _ (u : Frame) (l : ℕ) where
  pub spot_before : (i : ℕ) → 1 ≤ i → i ≤ l → spot u i < tag_spot u l
  spot_before i a b = let q = quo_mono (pred i) (pred l) (t_of u) (omega arith) in omega arith

  pub checked_some : (j : ℕ) → 1 ≤ j → j ≤ checks u l → t_of u ≡ 0 → ⊥
  checked_some j a b z = let q : pred l / t_of u ≡ 0 = ap (λ (n : ℕ). pred l / n) z ∙ div-zero (pred l) in omega arith

  pub check_before : (j : ℕ) → 1 ≤ j → j ≤ checks u l → check_spot u j < tag_spot u l
  check_before j a b = let q = quo_fits j (t_of u) (pred l) b in omega arith

  -- check j stands right behind block j * t
  pub check_next : (j : ℕ) → 1 ≤ j → j ≤ checks u l → check_spot u j ≡ spot u (j * t_of u) + 1
  check_next zero a b = absurd (omega arith)
  check_next (suc p) a b =
      let t : ℕ = t_of u in
      let some = checked_some (suc p) a b in
      let m : suc p * t ≡ p * t + t = suc-mul p t in
      let pos : 0 < t = omega (arith, some) in
      let e : pred (suc p * t) ≡ p * t + pred t = omega arith in
      let q : pred (suc p * t) / t ≡ p = ap (λ (n : ℕ). n / t) e ∙ div-mul-add p t (pred t) (omega arith) in
      omega arith
