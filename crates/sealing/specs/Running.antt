-- What the running state of a seal stands for.
use Rattle.std.specs.Prelude.{◌≡◌, ℕ, suc, ◌+◌, ◌*◌, ◌/◌, ◌^◌, ◌<◌, List, ◌++◌, take, bit_xor}
use Rattle.block.specs.Field.{dbl, three, five}
use Rattle.block.specs.Bytes.{bytes_of}
use Rattle.block.specs.Value.{value}
use Rattle.cipher.specs.Meaning.{Meaning, base}
use Rattle.elmd.specs.Stream.{Frame, t_of, iv, pow, block_at, sum_to, w_at, place, places, mark}
use Rattle.elmd.specs.declared.refusal.Mark.{Mark}
use Rattle.elmd.specs.Refusals.{mark_of}
use Rattle.elmd.specs.Laws.{inner_x, last_c, last_tag}
use Rattle.elmd.specs.Sizes.{last_mask}
use Rattle.sealing.specs.declared.state.Running.{Running}

-- the first i blocks of a message m are sealed
pub record Runs (u : Frame) (m : List ℕ) (i : ℕ) (s : Running) : Type 0 where
  pub small : base u.cipher < 2 ^ 128
  pub mixes : value s.w ≡ w_at u (inner_x u m) i
  pub masks : value s.mask ≡ pow i (base u.cipher)
  pub out_masks : value s.out_mask ≡ five (pow (i + i / t_of u) (base u.cipher))
  pub sums : value s.sum ≡ sum_to (block_at m) i
  pub counts : i ≡ i / t_of u * t_of u + s.since

-- from L and the IV: no block is sealed
abbrev pub Starts : (l v : ℕ) → Running → Type 0
Starts l v s = (u : Frame) (m : List ℕ) → l ≡ base u.cipher → v ≡ iv u → Runs u m 0 s

-- block i + 1 is sealed, and what is written is what stands in the stream for it
abbrev pub Steps : Meaning → Running → (t b : ℕ) → Running → (written : List ℕ) → Type 0
Steps c s t b s' written =
    (u : Frame) (m : List ℕ) (i : ℕ) → u.cipher ≡ c → t_of u ≡ t → b ≡ block_at m (suc i) → Runs u m i s
    → Runs u m (suc i) s' × (written ≡ place u (inner_x u m) (suc i))

-- the first p blocks are sealed, and what is written is what stands in the stream for them
abbrev pub Fronts : Meaning → Running → (t : ℕ) (m : List ℕ) (p : ℕ) → Running → List ℕ → Type 0
Fronts c s t m p s' written = (u : Frame) → u.cipher ≡ c → t_of u ≡ t → Runs u m 0 s → Runs u m p s' × (written ≡ places u (inner_x u m) p)

-- C[l] and the tag, from the state before the last block and the sum a of all blocks
abbrev pub end_blocks : Meaning → Mark → (w mask out a : ℕ) → ℕ × ℕ
end_blocks c k w mask out a =
    let x = c.enc (bit_xor a (last_mask k mask)) in
    let x' = c.enc (bit_xor a (last_mask k (dbl mask))) in
    (bit_xor (c.dec (bit_xor x (three w))) out, bit_xor (c.dec (bit_xor (bit_xor x' (three (bit_xor x (dbl w)))) 1)) (dbl out))

-- C[l] and so many bytes of the tag, of a message whose last block stands behind p others
abbrev pub end_bytes : Frame → (m : List ℕ) (p size : ℕ) → List ℕ
end_bytes u m p size =
    bytes_of (last_c u (mark m) p (w_at u (inner_x u m) p) (sum_to (block_at m) (suc p)))
    ++ take size (bytes_of (last_tag u (mark m) p (w_at u (inner_x u m) p) (sum_to (block_at m) (suc p))))

-- from the last block b, with its filling: the end of the stream is written
abbrev pub Ends : Meaning → Running → Mark → (b size : ℕ) → (written : List ℕ) → Type 0
Ends c s k b size written =
    (u : Frame) (m : List ℕ) (p : ℕ) → u.cipher ≡ c → Runs u m p s → k ≡ mark_of (mark m) → b ≡ block_at m (suc p)
    → written ≡ end_bytes u m p size
