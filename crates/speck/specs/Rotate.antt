-- Rotations of a word of 64 bits, at any count: below 2^64, and undone by the rotation the other way.
use Rattle.std.specs.Prelude.{◌≡◌, ℕ, ◌+◌, ◌-◌, ◌*◌, ◌/◌, ◌%◌, ◌^◌, ◌<◌, ◌≤◌}
use Rattle.std.proofs.Common.{sym, ap, ◌∙◌, add-zero, arith}
use Rattle.std.proofs.Math.Nat.{mul-mod_left}
use Rattle.std.specs.Int.Bits.{or_shifted_r}
use Rattle.std.proofs.lemmas.Nat.{pow_pos, pow-add, shl-shr, shr_split, mod-pow-add, shr_below, shr_high, mod_low, mod_below, mul-add-lt, or_shifted}
use Rattle.speck.specs.Speck.{ror, rol}

-- the low r bits above the k others
rot : ℕ → ℕ → ℕ → ℕ
rot r k x = x % 2 ^ r * 2 ^ k + x / 2 ^ r

shifted : (r k x : ℕ) → r + k ≡ 64 → (x * 2 ^ k) % 2 ^ 64 ≡ x % 2 ^ r * 2 ^ k
shifted r k x e =
    ap (λ n. (x * 2 ^ k) % 2 ^ n) (sym e) ∙ mod-pow-add (x * 2 ^ k) r k ∙ rw (shl-shr x k, mul-mod_left x (2 ^ k), add-zero)

high_lt : (r k x : ℕ) → r + k ≡ 64 → x < 2 ^ 64 → x / 2 ^ r < 2 ^ k
high_lt r k x e p = let f : k + r ≡ 64 = omega arith in shr_below x k r (rw f p)

ror_is : (r x : ℕ) → r ≤ 64 → x < 2 ^ 64 → ror r x ≡ rot r (64 - r) x
unfolding rot
ror_is r x q p =
    let e : r + (64 - r) ≡ 64 = omega arith in
    rw (shifted r (64 - r) x e) (or_shifted_r (x % 2 ^ r) (64 - r) (x / 2 ^ r) (high_lt r (64 - r) x e p))

rol_is : (r x : ℕ) → r ≤ 64 → x < 2 ^ 64 → rol r x ≡ rot (64 - r) r x
unfolding rot
rol_is r x q p =
    let e : (64 - r) + r ≡ 64 = omega arith in
    rw (shifted (64 - r) r x e) (or_shifted (x % 2 ^ (64 - r)) r (x / 2 ^ (64 - r)) (high_lt (64 - r) r x e p))

rot_lt : (r k x : ℕ) → r + k ≡ 64 → x < 2 ^ 64 → rot r k x < 2 ^ 64
unfolding rot
rot_lt r k x e p =
    let f : k + r ≡ 64 = omega arith in
    let b = mul-add-lt (x % 2 ^ r) (2 ^ k) (x / 2 ^ r) (2 ^ r) (mod_below x (2 ^ r) (pow_pos r)) (high_lt r k x e p) in
    let t : 2 ^ k * 2 ^ r ≡ 2 ^ 64 = sym (pow-add 2 k r) ∙ ap (λ n. 2 ^ n) f in
    rw t at b

rot_rot : (r k x : ℕ) → r + k ≡ 64 → x < 2 ^ 64 → rot k r (rot r k x) ≡ x
unfolding rot
rot_rot r k x e p =
    let h = high_lt r k x e p in
    rw (mod_low (x % 2 ^ r) k (x / 2 ^ r) h, shr_high (x % 2 ^ r) k (x / 2 ^ r) h) (shr_split x r)

module _ (r : ℕ) (q : r ≤ 64) (x : ℕ) (p : x < 2 ^ 64) where
  pub ror_lt : ror r x < 2 ^ 64
  ror_lt = rw (ror_is r x q p) (rot_lt r (64 - r) x (omega arith) p)

  pub rol_lt : rol r x < 2 ^ 64
  rol_lt = rw (rol_is r x q p) (rot_lt (64 - r) r x (omega arith) p)

  pub rol_ror : rol r (ror r x) ≡ x
  rol_ror = rol_is r (ror r x) q ror_lt ∙ rw (ror_is r x q p) (rot_rot r (64 - r) x (omega arith) p)

  pub ror_rol : ror r (rol r x) ≡ x
  ror_rol = ror_is r (rol r x) q rol_lt ∙ rw (rol_is r x q p) (rot_rot (64 - r) r x (omega arith) p)
