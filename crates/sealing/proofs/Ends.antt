-- The end of a seal, at the definitions.
use Rattle.std.proofs.Common.{◌≡◌, ℕ, suc, ◌+◌, ◌/◌, List, sym, ap, ◌∙◌, arith}
use Rattle.block.specs.Field.{dbl, five}
use Rattle.block.specs.Value.{value}
use Rattle.cipher.specs.Meaning.{base}
use Rattle.elmd.specs.Refusals.{mark_of}
use Rattle.elmd.specs.Sizes.{last_mask}
use Rattle.elmd.specs.Stream.{Frame, t_of, pow, tag_spot, out_mask, w_at}
use Rattle.elmd.specs.Laws.{inner_x, last_c, last_tag}
use Rattle.elmd.proofs.Counts.{last_mask_is}
use Rattle.sealing.specs.declared.state.Running.{Running}
use Rattle.sealing.specs.Running.{Runs, end_blocks}
use Rattle.sealing.proofs.Steps.{more_mask}

pub ends_are : (u : Frame) (m : List ℕ) (p : ℕ) (s : Running) (r : Runs u m p s) (k a : ℕ)
    → end_blocks u.cipher (mark_of k) (value s.w) (value s.mask) (value s.out_mask) a ≡ (last_c u k p (w_at u (inner_x u m) p) a, last_tag u k p (w_at u (inner_x u m) p) a)
unfolding out_mask
ends_are u m p s r k a =
    let w = r.mixes in
    let l : ℕ = base u.cipher in
    let m1 : last_mask (mark_of k) (value s.mask) ≡ _ = ap (last_mask (mark_of k)) r.masks ∙ sym (last_mask_is u (suc p) k (suc p) (omega arith)) in
    let m2 : last_mask (mark_of k) (dbl (value s.mask)) ≡ _ = ap (λ (z : ℕ). last_mask (mark_of k) (dbl z)) r.masks ∙ sym (last_mask_is u (suc p) k (suc (suc p)) (omega arith)) in
    let o = r.out_masks in
    let e : suc (p + p / t_of u) ≡ tag_spot u (suc p) = omega arith in
    let o2 : dbl (value s.out_mask) ≡ five (pow (tag_spot u (suc p)) l) = ap dbl o ∙ more_mask u m p s r (p + p / t_of u) ∙ ap (λ (n : ℕ). five (pow n l)) e in
    cc
