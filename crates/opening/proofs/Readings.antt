-- One block of an opening, at the definitions.
use Rattle.std.proofs.Common.{◌≡◌, ℕ, suc, ◌+◌, ◌*◌, ◌/◌, ◌≤◌, List, length, take, drop, sym, refl, ap, ◌∙◌, arith, length-drop, length-take}
use lib.Bits.{bit_xor}
use Rattle.std.proofs.lemmas.List.{take-take, drop-take}
use Rattle.block.specs.Field.{dbl, three, five}
use Rattle.block.specs.Bytes.{of_bytes, padded}
use Rattle.block.specs.Value.{value}
use Rattle.block.proofs.Filling.{padded_whole}
use Rattle.cipher.specs.Meaning.{base}
use Rattle.elmd.specs.declared.refusal.Mark.{Mark}
use Rattle.elmd.specs.declared.refusal.Mark.TheVariants.{Filled, Whole}
use Rattle.elmd.specs.Refusals.{mark_number, mark_of}
use Rattle.elmd.specs.Sizes.{last_mask}
use Rattle.elmd.specs.Stream.{Frame, t_of, pow, check_spot, tag_spot, in_mask, out_mask}
use Rattle.elmd.proofs.Counts.{last_mask_is}
use Rattle.elmd.specs.Opening.{block_in, y_r, w_r, x_r, p_r, Check, sum_r, last_r, tag_r}
use Rattle.elmd.proofs.Strides.{five_more}
use Rattle.opening.specs.declared.state.Reading.{Reading}
use Rattle.opening.specs.Reading.{ReadsPast, Reads, last_pair}

-- a part within a part that two lists share
pub inside : (x y : List ℕ) (n d k : ℕ) → take n x ≡ take n y → d + k ≤ n → take k (drop d x) ≡ take k (drop d y)
inside x y n d k e h =
    sym (drop-take d k x) ∙ ap (drop d) (sym (take-take (d + k) n x h) ∙ ap (take (d + k)) e ∙ take-take (d + k) n y h) ∙ drop-take d k y

-- what is loaded is the block in that place of a stream
pub loaded : (bytes s : List ℕ) (e at v : ℕ) → take 16 (drop at bytes) ≡ take 16 (drop (16 * e) s) → at + 16 ≤ length bytes → v ≡ of_bytes (padded (take 16 (drop at bytes))) → v ≡ block_in s e
unfolding block_in
loaded bytes s e at v q h g = g ∙ ap of_bytes (padded_whole (take 16 (drop at bytes)) (simp (length-take, length-drop) (omega arith))) ∙ ap of_bytes q

mark_back : (k : Mark) → mark_of (mark_number k) ≡ k
mark_back Filled = refl
mark_back Whole = refl

module _ (u : Frame) (s : List ℕ) (i : ℕ) (r : Reading) (ok : Reads u s i r) where
  pub read_y : (b : ℕ) → b ≡ block_in s (i + i / t_of u) → u.cipher.enc (bit_xor b (value r.out_mask)) ≡ y_r u s (suc i)
  unfolding y_r out_mask
  read_y b e = let o = ok.out_masks in cc

  pub read_x : bit_xor (y_r u s (suc i)) (three (value r.w)) ≡ x_r u s (suc i)
  read_x = let w = ok.mixes in cc

  pub read_w : bit_xor (y_r u s (suc i)) (value r.w) ≡ w_r u s (suc i)
  read_w = let w = ok.mixes in cc

  pub read_p : bit_xor (u.cipher.dec (x_r u s (suc i))) (value r.mask) ≡ p_r u s (suc i)
  unfolding p_r
  read_p = let m = ok.masks in cc

  -- the state behind a block
  pub reads_on : (r' : Reading) → value r'.w ≡ w_r u s (suc i) → value r'.mask ≡ dbl (value r.mask) → value r'.out_mask ≡ dbl (value r.out_mask)
      → value r'.sum ≡ bit_xor (value r.sum) (p_r u s (suc i)) → r'.checks ≡ r.checks → ReadsPast u s (suc i) (i / t_of u) r'
  reads_on r' ew em eo es ek =
      let k = ok.masks in
      let su = ok.sums in
      let p : suc (i + i / t_of u) ≡ suc i + i / t_of u = omega arith in
      record {
        small = ok.small;
        mixes = ew;
        masks = cc;
        out_masks = eo ∙ ap dbl ok.out_masks ∙ five_more (i + i / t_of u) (base u.cipher) ok.small ∙ ap (λ (e : ℕ). five (pow e (base u.cipher))) p;
        sums = cc;
        passed = ek ∙ ok.passed;
      }

  -- the end
  pub last_is : (k : Mark) (b : ℕ) → b ≡ block_in s (i + i / t_of u)
      → last_pair u.cipher k (value r.w) (value r.mask) (value r.out_mask) (value r.sum) b ≡ (last_r u s (suc i) (mark_number k), tag_r u s (suc i) (mark_number k))
  unfolding last_r sum_r tag_r out_mask
  last_is k b e =
      let l : ℕ = base u.cipher in
      let y = read_y b e in
      let x = read_x in
      let w = read_w in
      let su = ok.sums in
      let ma = mark_back k in
      let m1 : last_mask k (value r.mask) ≡ in_mask u (suc i) (mark_number k) (suc i) = ap (last_mask k) ok.masks ∙ ap (λ (z : Mark). last_mask z (pow i l)) (sym ma) ∙ sym (last_mask_is u (suc i) (mark_number k) (suc i) (omega arith)) in
      let m2 : last_mask k (dbl (value r.mask)) ≡ in_mask u (suc i) (mark_number k) (suc (suc i)) = ap (λ (z : ℕ). last_mask k (dbl z)) ok.masks ∙ ap (λ (z : Mark). last_mask z (pow (suc i) l)) (sym ma) ∙ sym (last_mask_is u (suc i) (mark_number k) (suc (suc i)) (omega arith)) in
      let p : suc (i + i / t_of u) ≡ tag_spot u (suc i) = omega arith in
      let o2 : dbl (value r.out_mask) ≡ five (pow (tag_spot u (suc i)) l) = ap dbl ok.out_masks ∙ five_more (i + i / t_of u) l ok.small ∙ ap (λ (n : ℕ). five (pow n l)) p in
      cc

-- a check behind the blocks before it
module _ (u : Frame) (s : List ℕ) (i j : ℕ) (r : Reading) (ok : ReadsPast u s i j r) where
  pub read_check : i ≡ suc j * t_of u → (k v : ℕ) → k ≡ bit_xor (u.cipher.dec (value r.w)) (value r.out_mask) → v ≡ block_in s (i + j) → (k ≡ v → Check u s (suc j)) × (Check u s (suc j) → k ≡ v)
  unfolding Check out_mask
  read_check e k v ek ev =
      let p : i + j ≡ check_spot u (suc j) = omega arith in
      let a : k ≡ bit_xor (u.cipher.dec (w_r u s (suc j * t_of u))) (five (pow (check_spot u (suc j)) (base u.cipher))) =
      ek ∙ ap (λ (z : ℕ). bit_xor (u.cipher.dec z) (value r.out_mask)) (ok.mixes ∙ ap (w_r u s) e)
      ∙ ap (bit_xor (u.cipher.dec (w_r u s (suc j * t_of u)))) (ok.out_masks ∙ ap (λ (n : ℕ). five (pow n (base u.cipher))) p) in
      let b : v ≡ block_in s (check_spot u (suc j)) = ev ∙ ap (block_in s) p in
      (λ g. sym b ∙ sym g ∙ a, λ g. a ∙ sym g ∙ sym b)

  pub reads_past : (r' : Reading) → value r'.w ≡ value r.w → value r'.mask ≡ value r.mask → value r'.out_mask ≡ dbl (value r.out_mask) → value r'.sum ≡ value r.sum → r'.checks ≡ r.checks + 1 → ReadsPast u s i (suc j) r'
  reads_past r' ew em eo es ek =
      let p : suc (i + j) ≡ i + suc j = omega arith in
      let g = ok.passed in
      record {
        small = ok.small;
        mixes = ew ∙ ok.mixes;
        masks = em ∙ ok.masks;
        out_masks = eo ∙ ap dbl ok.out_masks ∙ five_more (i + j) (base u.cipher) ok.small ∙ ap (λ (e : ℕ). five (pow e (base u.cipher))) p;
        sums = es ∙ ok.sums;
        passed = omega arith;
      }
