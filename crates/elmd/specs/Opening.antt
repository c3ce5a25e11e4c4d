-- What the bytes of a stream give back, by index.
use Rattle.std.specs.Prelude.{◌≡◌, ℕ, zero, suc, pred, ◌+◌, ◌-◌, ◌*◌, ◌/◌, ◌<◌, ◌≤◌, cond, List, ◌++◌, length, take, drop, ◌==◌, bit_xor}
use Rattle.block.specs.Field.{three}
use Rattle.block.specs.Bytes.{bytes_of, of_bytes, padded}
use Rattle.elmd.specs.Stream.{Frame, t_of, pow, iv, checks, spot, check_spot, tag_spot, out_mask, in_mask, sum_to, join_to, tag_size}
use Rattle.cipher.specs.Meaning.{base}

-- the block at e of a stream
unfoldable pub block_in : List ℕ → ℕ → ℕ
block_in s e = of_bytes (take 16 (drop (16 * e) s))

-- l of a stream of S bytes: its blocks but for the tag, less the checks among them
abbrev pub full : ℕ → ℕ
full S = (S + 15) / 16 - 1

unfoldable pub blocks_of : Frame → ℕ → ℕ
blocks_of u S = full S - cond (t_of u == 0) 0 (pred (full S) / suc (t_of u))

module _ (u : Frame) (s : List ℕ) where
  -- Y[i], W[i], X[i] and P[i] (but for the last) given back
  unfoldable pub y_r : ℕ → ℕ
  y_r i = u.cipher.enc (bit_xor (block_in s (spot u i)) (out_mask u (spot u i)))

  abbrev pub w_r : ℕ → ℕ
  w_r zero = iv u
  w_r (suc i) = bit_xor (y_r (suc i)) (w_r i)

  abbrev pub x_r : ℕ → ℕ
  x_r zero = 0
  x_r (suc i) = bit_xor (y_r (suc i)) (three (w_r i))

  unfoldable pub p_r : ℕ → ℕ
  p_r i = bit_xor (u.cipher.dec (x_r i)) (pow (pred i) (base u.cipher))

  -- the first i blocks of the message
  abbrev pub released : ℕ → List ℕ
  released i = join_to (λ k. bytes_of (p_r k)) i

  -- check j holds; all of 1, .., j do
  unfoldable pub Check : ℕ → Type 0
  Check j = block_in s (check_spot u j) ≡ bit_xor (u.cipher.dec (w_r (j * t_of u))) (out_mask u (check_spot u j))

  abbrev pub Checks : ℕ → Type 0
  Checks j = (k : ℕ) → 1 ≤ k → k ≤ j → Check k

  -- with l and the mark: M[l], which is the sum of all blocks, the last block with its filling, and the tag
  unfoldable pub sum_r : ℕ → ℕ → ℕ
  sum_r l k = bit_xor (u.cipher.dec (x_r l)) (in_mask u l k l)

  unfoldable pub last_r : ℕ → ℕ → ℕ
  last_r l k = bit_xor (sum_to p_r (pred l)) (sum_r l k)

  unfoldable pub tag_r : ℕ → ℕ → ℕ
  tag_r l k = bit_xor (u.cipher.dec (bit_xor (bit_xor (u.cipher.enc (bit_xor (sum_r l k) (in_mask u l k (suc l)))) (three (w_r l))) 1)) (out_mask u (tag_spot u l))

  -- the stream is right: l blocks, the last with r bytes
  pub record Right (k l r : ℕ) : Type 0 where
    pub checked : Checks (checks u l)
    pub some : 1 ≤ r
    pub whole : k ≡ 1 → r ≡ 16
    pub short : k ≡ 0 → r < 16
    pub filled : padded (take r (bytes_of (last_r l k))) ≡ bytes_of (last_r l k)
    pub sized : length s ≡ 16 * tag_spot u l + tag_size u r
    pub tagged : take (tag_size u r) (bytes_of (tag_r l k)) ≡ drop (16 * tag_spot u l) s

-- and what it gives back
abbrev pub opened : (u : Frame) (s : List ℕ) (k l r : ℕ) → List ℕ
opened u s k l r = released u s (pred l) ++ take r (bytes_of (last_r u s l k))

abbrev pub Accepts : (u : Frame) (S k : ℕ) (s : List ℕ) → Type 0
Accepts u S k s = (r : ℕ) × Right u s k (blocks_of u S) r
