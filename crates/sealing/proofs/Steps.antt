-- One block of a seal, at the definitions.
use Rattle.std.proofs.Common.{◌≡◌, ℕ, suc, ◌+◌, ◌*◌, ◌/◌, List, ◌++◌, ap, ◌∙◌, ⊎_elim, suc-mul, arith}
use Rattle.std.proofs.lemmas.Bool.{cases_eq}
use lib.Bits.{bit_xor}
use Rattle.block.specs.Field.{dbl, three, five, mix}
use Rattle.block.specs.Bytes.{bytes_of}
use Rattle.block.specs.Value.{value}
use Rattle.cipher.specs.Meaning.{base}
use Rattle.elmd.specs.Stream.{Frame, t_of, pow, block_at, check_spot, out_mask, w_at, cipher_block, check_block, place}
use Rattle.elmd.specs.Laws.{inner_x}
use Rattle.elmd.proofs.Strides.{quo_due, quo_not, since_below, five_more}
use Rattle.elmd.proofs.Steps.{placing}
use Rattle.sealing.specs.declared.state.Running.{Running}
use Rattle.sealing.specs.Running.{Runs}

module _ (u : Frame) (m : List ℕ) (i : ℕ) (s : Running) (r : Runs u m i s) where
  sealed_x : (b : ℕ) → b ≡ block_at m (suc i) → u.cipher.enc (bit_xor b (value s.mask)) ≡ inner_x u m (suc i)
  sealed_x b e = let k = r.masks in cc

  sealed_c : bit_xor (u.cipher.dec (bit_xor (inner_x u m (suc i)) (three (value s.w)))) (value s.out_mask) ≡ cipher_block u (inner_x u m) (suc i)
  unfolding cipher_block out_mask
  sealed_c = let w = r.mixes in let o = r.out_masks in cc

  pub more_mask : (e : ℕ) → dbl (five (pow e (base u.cipher))) ≡ five (pow (suc e) (base u.cipher))
  more_mask e = five_more e (base u.cipher) r.small

  pub sealed_check : s.since + 1 ≡ t_of u → bit_xor (u.cipher.dec (bit_xor (inner_x u m (suc i)) (dbl (value s.w)))) (dbl (value s.out_mask)) ≡ check_block u (inner_x u m) (suc (i / t_of u))
  unfolding check_block out_mask
  sealed_check d =
      let t : ℕ = t_of u in
      let q : ℕ = i / t in
      let w = r.mixes in
      let o = r.out_masks in
      let c = r.counts in
      let x : ℕ → ℕ = inner_x u m in
      let mul : suc q * t ≡ q * t + t = suc-mul q t in
      let e : suc i ≡ suc q * t = omega arith in
      let p : suc (i + q) ≡ check_spot u (suc q) = omega arith in
      let a : bit_xor (u.cipher.dec (bit_xor (x (suc i)) (dbl (value s.w)))) (dbl (value s.out_mask)) ≡ bit_xor (u.cipher.dec (w_at u x (suc i))) (five (pow (suc (i + q)) (base u.cipher))) = let k = more_mask (i + q) in cc in
      a ∙ ap (λ (n : ℕ). bit_xor (u.cipher.dec (w_at u x n)) (five (pow (suc (i + q)) (base u.cipher)))) e
      ∙ ap (λ (n : ℕ). bit_xor (u.cipher.dec (w_at u x (suc q * t))) (five (pow n (base u.cipher)))) p

  abbrev grown_w : ℕ
  grown_w = bit_xor (inner_x u m (suc i)) (dbl (value s.w))

  -- the mixing state and C[i + 1], as the calls of the cipher give them
  pub sealed_by : (b e d o : ℕ) (p : ℕ × ℕ) → b ≡ block_at m (suc i) → e ≡ u.cipher.enc (bit_xor b (value s.mask)) → p ≡ mix e (value s.w) → o ≡ bit_xor d (value s.out_mask) → d ≡ u.cipher.dec p.0
      → (p.1 ≡ grown_w) × (o ≡ cipher_block u (inner_x u m) (suc i))
  sealed_by b e d o p eb ee ep eo ed =
      let x : e ≡ inner_x u m (suc i) = ee ∙ sealed_x b eb in
      let p0 = ap (λ (q : ℕ × ℕ). q.0) ep in
      let p1 = ap (λ (q : ℕ × ℕ). q.1) ep in
      let c = sealed_c in
      (cc, cc)

  -- the state behind a block with no check
  pub runs_on : (s' : Running) → (s.since + 1 ≡ t_of u → ⊥) → value s'.w ≡ grown_w → value s'.mask ≡ dbl (value s.mask) → value s'.out_mask ≡ dbl (value s.out_mask)
      → value s'.sum ≡ bit_xor (value s.sum) (block_at m (suc i)) → s'.since ≡ s.since + 1 → Runs u m (suc i) s'
  runs_on s' n ew em eo es ec =
      let t : ℕ = t_of u in
      let q : suc i / t ≡ i / t = quo_not i t s.since r.counts n in
      let w = r.mixes in
      let k = r.masks in
      let su = r.sums in
      let c = r.counts in
      let p : suc (i + i / t) ≡ suc i + suc i / t = omega arith in
      let mul : suc i / t * t ≡ i / t * t = ap (λ (z : ℕ). z * t) q in
      record {
        small = r.small;
        mixes = cc;
        masks = cc;
        out_masks = eo ∙ ap dbl r.out_masks ∙ more_mask (i + i / t) ∙ ap (λ (e : ℕ). five (pow e (base u.cipher))) p;
        sums = cc;
        counts = omega arith;
      }

  -- and behind a block with one
  pub runs_past : (s' : Running) → s.since + 1 ≡ t_of u → value s'.w ≡ grown_w → value s'.mask ≡ dbl (value s.mask) → value s'.out_mask ≡ dbl (dbl (value s.out_mask))
      → value s'.sum ≡ bit_xor (value s.sum) (block_at m (suc i)) → s'.since ≡ 0 → Runs u m (suc i) s'
  runs_past s' d ew em eo es ec =
      let t : ℕ = t_of u in
      let q : suc i / t ≡ suc (i / t) = quo_due i t s.since r.counts d in
      let w = r.mixes in
      let k = r.masks in
      let su = r.sums in
      let c = r.counts in
      let p : suc (suc (i + i / t)) ≡ suc i + suc i / t = omega arith in
      let mul : suc (i / t) * t ≡ i / t * t + t = suc-mul (i / t) t in
      let mul2 : suc i / t * t ≡ suc (i / t) * t = ap (λ (z : ℕ). z * t) q in
      record {
        small = r.small;
        mixes = cc;
        masks = cc;
        out_masks = eo ∙ ap (λ (z : ℕ). dbl (dbl z)) r.out_masks ∙ ap dbl (more_mask (i + i / t)) ∙ more_mask (suc (i + i / t)) ∙ ap (λ (e : ℕ). five (pow e (base u.cipher))) p;
        sums = cc;
        counts = omega arith;
      }

  -- what stands in the stream for the block
  pub placed_on : (s.since + 1 ≡ t_of u → ⊥) → place u (inner_x u m) (suc i) ≡ bytes_of (cipher_block u (inner_x u m) (suc i))
  placed_on n =
      let p = placing u (inner_x u m) (i / t_of u) s.since i r.counts in
      ⊎_elim (λ z. p.never z) (λ z. p.between (let b = since_below i (t_of u) s.since r.counts z in omega (arith, n))) (cases_eq (t_of u) 0)

  pub placed_past : s.since + 1 ≡ t_of u → place u (inner_x u m) (suc i) ≡ bytes_of (cipher_block u (inner_x u m) (suc i)) ++ bytes_of (check_block u (inner_x u m) (suc (i / t_of u)))
  placed_past d = (placing u (inner_x u m) (i / t_of u) s.since i r.counts).due (omega arith)
