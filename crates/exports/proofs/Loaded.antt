-- What is loaded behind blocks that were changed is as it was.
use Rattle.std.proofs.Common.{◌≡◌, ℕ, ◌+◌, ◌*◌, ◌≤◌, List, length, take, drop, ap, ◌∙◌, arith, length-drop, length-take}
use Rattle.block.specs.Bytes.{of_bytes, padded}
use Rattle.block.proofs.Filling.{padded_whole}
use Rattle.elmd.specs.Opening.{block_in}

pub loaded_in : (old new : List ℕ) (i at v : ℕ) → at ≡ 16 * i → drop at new ≡ drop at old → at + 16 ≤ length old → v ≡ of_bytes (padded (take 16 (drop at new))) → v ≡ block_in old i
unfolding block_in
loaded_in old new i at v e d h g =
    g ∙ ap (λ (z : List ℕ). of_bytes (padded (take 16 z))) d ∙ ap of_bytes (padded_whole (take 16 (drop at old)) (simp (length-take, length-drop) (omega arith))) ∙ ap (λ (n : ℕ). of_bytes (take 16 (drop n old))) e
