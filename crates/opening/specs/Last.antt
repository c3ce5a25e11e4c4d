-- The last block of a message as it is recovered.
use Rattle.std.specs.Prelude.{◌≡◌, ℕ, ◌<◌, ◌≤◌, Bool, cond, List, take}
use Rattle.block.specs.Bytes.{padded}

-- k message bytes, 80 and zeros
pub record Begins80 (v : List ℕ) (k : ℕ) : Type 0 where
  pub some : 1 ≤ k
  pub few : k < 16
  pub filled : padded (take k v) ≡ v

-- k message bytes in the last block, which go with the mark and with the tag's length
pub record Ending (v : List ℕ) (mark : ℕ) (short : Bool) (tag k : ℕ) : Type 0 where
  pub some : 1 ≤ k
  pub whole : mark ≡ 1 → k ≡ 16
  pub few : mark ≡ 0 → k < 16
  pub filled : padded (take k v) ≡ v
  pub tagged : cond short k 16 ≡ tag
