-- What the seal and the opening keep.
use Rattle.std.specs.Prelude.{◌≡◌, ℕ, suc, pred, ◌+◌, ◌*◌, ◌/◌, ◌^◌, ◌<◌, ◌≤◌, ◌⊎◌, List, ◌++◌, length, take, drop, bit_xor}
use Rattle.block.specs.Field.{dbl, three}
use Rattle.block.specs.Bytes.{Bytes, bytes_of, padded}
use Rattle.cipher.specs.Meaning.{Lawful, base}
use Rattle.elmd.specs.Stream.{Frame, t_of, f_of, iv, pow, block_at, blocks, checks, spot, check_spot, tag_spot, w_at, cipher_block, check_block, place, places, tag_size, last_size, sum_to, in_mask, out_mask, tag_bytes, mark, x_at, stream}
use Rattle.elmd.specs.Opening.{block_in, blocks_of, w_r, x_r, p_r, released, Checks, Right, opened, Accepts}

abbrev pub Begins : List ℕ → List ℕ → Type 0
Begins a b = (rest : List ℕ) × (a ++ rest ≡ b)

-- what the laws ask of a frame: a lawful cipher, and an IV that is a block
pub record Sound (u : Frame) : Type 0 where
  pub lawful : Lawful u.cipher
  pub iv_lt : iv u < 2 ^ 128

pub record MessageOf (u : Frame) (S k : ℕ) (m : List ℕ) : Type 0 where
  pub bytes : Bytes m
  pub some : 1 ≤ length m
  pub fits : length m ≤ 2 ^ 24
  pub size : length (stream u m) ≡ S
  pub marked : mark m ≡ k

-- the lengths
pub record Lengths (u : Frame) (m : List ℕ) : Type 0 where
  pub short_tag : f_of u ≡ 1 → length (stream u m) ≡ length m + 16 + 16 * checks u (blocks m)
  pub whole_tag : f_of u ≡ 0 → length (stream u m) ≡ 16 * (blocks m + 1 + checks u (blocks m))
  pub back : blocks_of u (length (stream u m)) ≡ blocks m

abbrev pub StreamLength : Type 0
StreamLength = (u : Frame) (m : List ℕ) → 1 ≤ length m → Lengths u m

abbrev pub PlacesLength : Type 0
PlacesLength = (u : Frame) (x : ℕ → ℕ) (i : ℕ) → length (places u x i) ≡ 16 * (i + i / t_of u)

-- what stands where
pub record Layout (u : Frame) (m : List ℕ) : Type 0 where
  pub blocks_at : (i : ℕ) → 1 ≤ i → i ≤ blocks m → block_in (stream u m) (spot u i) ≡ cipher_block u (x_at u m) i
  pub checks_at : (j : ℕ) → 1 ≤ j → j ≤ checks u (blocks m) → block_in (stream u m) (check_spot u j) ≡ check_block u (x_at u m) j
  pub tag_at : drop (16 * tag_spot u (blocks m)) (stream u m) ≡ tag_bytes u m

abbrev pub LaidOut : Type 0
LaidOut = (u : Frame) → Sound u → (m : List ℕ) → Bytes m → 1 ≤ length m → Layout u m

-- before the last block, what is sealed asks neither l nor the mark
abbrev pub inner_x : Frame → List ℕ → ℕ → ℕ
inner_x u m i = u.cipher.enc (bit_xor (block_at m i) (pow (pred i) (base u.cipher)))

abbrev pub Streaming : Type 0
Streaming = (u : Frame) (m : List ℕ) (i : ℕ) → i < blocks m
    → (places u (x_at u m) i ≡ places u (inner_x u m) i) × (w_at u (x_at u m) i ≡ w_at u (inner_x u m) i)

-- messages that agree up to block i have the same stream up to there
abbrev pub Agreement : Type 0
Agreement = (u : Frame) (m n : List ℕ) (i : ℕ) → i < blocks m → i < blocks n → take (16 * i) m ≡ take (16 * i) n
    → (places u (x_at u m) i ≡ places u (x_at u n) i) × (w_at u (x_at u m) i ≡ w_at u (x_at u n) i)

-- the bytes through C[i] give W[i] and block i of every message whose stream begins with them
abbrev pub Recovery : Type 0
Recovery = (u : Frame) → Sound u → (m s : List ℕ) (i : ℕ) → Bytes m → Begins s (stream u m) → 1 ≤ i → i < blocks m → 16 * suc (spot u i) ≤ length s
    → (w_r u s i ≡ w_at u (x_at u m) i) × (p_r u s i ≡ block_at m i)

-- one stream, one message
abbrev pub Injectivity : Type 0
Injectivity = (u : Frame) → Sound u → (S k : ℕ) (m n : List ℕ) → MessageOf u S k m → MessageOf u S k n → stream u m ≡ stream u n → m ≡ n

-- the bytes through check j begin the stream of some message of that length and mark exactly when the checks hold
abbrev pub Extends : (u : Frame) (S k : ℕ) (s : List ℕ) → Type 0
Extends u S k s = (m : List ℕ) × MessageOf u S k m × Begins s (stream u m)

abbrev pub Extension : Type 0
Extension = (u : Frame) → Sound u → (S k : ℕ) (m : List ℕ) → MessageOf u S k m
    → (j : ℕ) (s : List ℕ) → Bytes s → j ≤ checks u (blocks_of u S) → length s ≡ 16 * (j * t_of u + j)
    → (Checks u s j → Extends u S k s) × (Extends u S k s → Checks u s j)

-- and then what is given back of them begins that message
abbrev pub Release : Type 0
Release = (u : Frame) → Sound u → (S k : ℕ) (m : List ℕ) → MessageOf u S k m
    → (j : ℕ) (s : List ℕ) → j ≤ checks u (blocks_of u S) → length s ≡ 16 * (j * t_of u + j) → Begins s (stream u m)
    → Begins (released u s (j * t_of u)) m

-- a whole stream is accepted exactly when it is that of some message of its length and mark
abbrev pub Sealed : (u : Frame) (S k : ℕ) (s : List ℕ) → Type 0
Sealed u S k s = (m : List ℕ) × MessageOf u S k m × (stream u m ≡ s)

abbrev pub Finish : Type 0
Finish = (u : Frame) → Sound u → (S k : ℕ) (m : List ℕ) → MessageOf u S k m
    → (s : List ℕ) → Bytes s → length s ≡ S
    → (Accepts u S k s → Sealed u S k s) × (Sealed u S k s → Accepts u S k s)

-- and then its message is what is given back, and no other
abbrev pub Opening : Type 0
Opening = (u : Frame) → Sound u → (S k : ℕ) (m : List ℕ) → MessageOf u S k m
    → (s : List ℕ) → Bytes s → length s ≡ S → (r : ℕ) → Right u s k (blocks_of u S) r
    → MessageOf u S k (opened u s k (blocks_of u S) r) × (stream u (opened u s k (blocks_of u S) r) ≡ s)
    × ((n : List ℕ) → MessageOf u S k n → stream u n ≡ s → n ≡ opened u s k (blocks_of u S) r)

-- which lengths and marks a message can have: r is the length of its last block
pub record Fitting (u : Frame) (S k r : ℕ) : Type 0 where
  pub some : 1 ≤ r
  pub kind : ((k ≡ 1) × (r ≡ 16)) ⊎ ((k ≡ 0) × (r < 16))
  pub least : 1 ≤ blocks_of u S
  pub most : blocks_of u S ≤ 2 ^ 20
  pub size : S ≡ 16 * tag_spot u (blocks_of u S) + tag_size u r

abbrev pub Possible : Type 0
Possible = (u : Frame) (S k : ℕ)
    → ((r : ℕ) × Fitting u S k r → (m : List ℕ) × MessageOf u S k m) × ((m : List ℕ) × MessageOf u S k m → (r : ℕ) × Fitting u S k r)

-- THE STEPS OF A PROGRAM, which has some bytes so far and knows neither l nor the mark

-- sealing: more bytes leave what was sealed of the whole blocks before
abbrev pub Absorbing : Type 0
Absorbing = (u : Frame) (a m : List ℕ) (i : ℕ) → Begins a m → 16 * i ≤ length a
    → (places u (inner_x u a) i ≡ places u (inner_x u m) i) × (w_at u (inner_x u a) i ≡ w_at u (inner_x u m) i) × (sum_to (block_at a) i ≡ sum_to (block_at m) i)

-- what stands at block i + 1, by a count c of the blocks since check q
pub record Placed (u : Frame) (x : ℕ → ℕ) (q c i : ℕ) : Type 0 where
  pub never : t_of u ≡ 0 → place u x (suc i) ≡ bytes_of (cipher_block u x (suc i))
  pub between : suc c < t_of u → place u x (suc i) ≡ bytes_of (cipher_block u x (suc i))
  pub due : suc c ≡ t_of u → place u x (suc i) ≡ bytes_of (cipher_block u x (suc i)) ++ bytes_of (check_block u x (suc q))

abbrev pub Placing : Type 0
Placing = (u : Frame) (x : ℕ → ℕ) (q c i : ℕ) → i ≡ q * t_of u + c → Placed u x q c i

-- the end of a stream of suc p blocks, from W[p], the sum a of all blocks and the length r of the last
abbrev pub last_x : Frame → (k p a i : ℕ) → ℕ
last_x u k p a i = u.cipher.enc (bit_xor a (in_mask u (suc p) k i))

abbrev pub last_c : Frame → (k p w a : ℕ) → ℕ
last_c u k p w a = bit_xor (u.cipher.dec (bit_xor (last_x u k p a (suc p)) (three w))) (out_mask u (spot u (suc p)))

abbrev pub last_tag : Frame → (k p w a : ℕ) → ℕ
last_tag u k p w a =
    bit_xor (u.cipher.dec (bit_xor (bit_xor (last_x u k p a (suc (suc p))) (three (bit_xor (last_x u k p a (suc p)) (dbl w)))) 1)) (out_mask u (tag_spot u (suc p)))

abbrev pub Ending : Type 0
Ending = (u : Frame) (m : List ℕ) (p : ℕ) → blocks m ≡ suc p
    → stream u m ≡ places u (inner_x u m) p ++ (bytes_of (last_c u (mark m) p (w_at u (inner_x u m) p) (sum_to (block_at m) (suc p)))
    ++ take (tag_size u (last_size m)) (bytes_of (last_tag u (mark m) p (w_at u (inner_x u m) p) (sum_to (block_at m) (suc p)))))

-- opening: more bytes leave what was given back
pub record Kept (u : Frame) (s b : List ℕ) : Type 0 where
  pub states : (i : ℕ) → 16 * (i + i / t_of u) ≤ length s → (w_r u s i ≡ w_r u b i) × (released u s i ≡ released u b i)
  pub blocks_kept : (i : ℕ) → 16 * suc (spot u (suc i)) ≤ length s → (w_r u s (suc i) ≡ w_r u b (suc i)) × (x_r u s (suc i) ≡ x_r u b (suc i)) × (p_r u s (suc i) ≡ p_r u b (suc i))

abbrev pub Growing : Type 0
Growing = (u : Frame) (s b : List ℕ) → Begins s b → Kept u s b

-- a filled block tells where its filling begins
abbrev pub OneEnd : Type 0
OneEnd = (v : List ℕ) (q r : ℕ) → length v ≡ 16 → q < 16 → r < 16 → padded (take q v) ≡ v → padded (take r v) ≡ v → q ≡ r
