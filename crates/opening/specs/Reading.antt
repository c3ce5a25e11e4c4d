-- What the running state of an opening stands for.
use Rattle.std.specs.Prelude.{◌≡◌, ℕ, suc, ◌+◌, ◌*◌, ◌/◌, ◌^◌, ◌<◌, List, Ok, Err, Result, bit_xor}
use Rattle.block.specs.Field.{dbl, three, five}
use Rattle.block.specs.Value.{value}
use Rattle.block.specs.declared.raw.Block.{Block}
use Rattle.cipher.specs.Meaning.{Meaning, base}
use Rattle.elmd.specs.Stream.{Frame, t_of, pow, sum_to}
use Rattle.elmd.specs.Opening.{block_in, w_r, p_r, Check}
use Rattle.elmd.specs.declared.refusal.Mark.{Mark}
use Rattle.elmd.specs.declared.refusal.Refusal.{Refusal}
use Rattle.elmd.specs.Sizes.{last_mask}
use Rattle.opening.specs.declared.state.Reading.{Reading}

-- the first i blocks of a stream are read, and j checks
pub record ReadsPast (u : Frame) (stream : List ℕ) (i j : ℕ) (s : Reading) : Type 0 where
  pub small : base u.cipher < 2 ^ 128
  pub mixes : value s.w ≡ w_r u stream i
  pub masks : value s.mask ≡ pow i (base u.cipher)
  pub out_masks : value s.out_mask ≡ five (pow (i + j) (base u.cipher))
  pub sums : value s.sum ≡ sum_to (p_r u stream) i
  pub passed : s.checks ≡ j

-- the first i blocks of a stream are read, and the checks among them
abbrev pub Reads : (u : Frame) (stream : List ℕ) (i : ℕ) → Reading → Type 0
Reads u stream i s = ReadsPast u stream i (i / t_of u) s

-- nothing is read
pub record Unread (l iv : Block) (s : Reading) : Type 0 where
  pub mixes : s.w ≡ iv
  pub masks : s.mask ≡ l
  pub out_masks : value s.out_mask ≡ five (value l)
  pub sums : value s.sum ≡ 0
  pub passed : s.checks ≡ 0

-- v stands in the place of block i + 1: it is read as b
abbrev pub Steps : Meaning → Reading → (v : ℕ) → Reading → (b : ℕ) → Type 0
Steps c s v s' b =
    (u : Frame) (stream : List ℕ) (i : ℕ) → u.cipher ≡ c → v ≡ block_in stream (i + i / t_of u) → Reads u stream i s
    → ReadsPast u stream (suc i) (i / t_of u) s' × (b ≡ p_r u stream (suc i))

-- check j + 1 holds exactly when there is an answer
abbrev pub Past : (u : Frame) (stream : List ℕ) (i j : ℕ) → Result Reading Refusal → Type 0
Past u stream i j (Ok s') = ReadsPast u stream i (suc j) s' × Check u stream (suc j)
Past u stream i j (Err e) = Check u stream (suc j) → ⊥

-- v stands in the place of check j + 1, behind the i blocks before it
abbrev pub Passes : Meaning → Reading → (v : ℕ) → Result Reading Refusal → Type 0
Passes c s v r =
    (u : Frame) (stream : List ℕ) (i j : ℕ) → u.cipher ≡ c → i ≡ suc j * t_of u → v ≡ block_in stream (i + j) → ReadsPast u stream i j s
    → Past u stream i j r

-- the last block and the tag, from the state before it and what stands in its place
abbrev pub last_pair : Meaning → Mark → (w mask out sum b : ℕ) → ℕ × ℕ
last_pair c k w mask out sum b =
    let y = c.enc (bit_xor b out) in
    let a = bit_xor (c.dec (bit_xor y (three w))) (last_mask k mask) in
    let x' = c.enc (bit_xor a (last_mask k (dbl mask))) in
    (bit_xor sum a, bit_xor (c.dec (bit_xor (bit_xor x' (three (bit_xor y w))) 1)) (dbl out))
