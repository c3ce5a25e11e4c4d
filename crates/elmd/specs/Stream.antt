-- The seal of a message: every quantity by its index, as the mode defines it.
use Rattle.std.specs.Prelude.{ℕ, zero, suc, pred, ◌+◌, ◌-◌, ◌*◌, ◌/◌, ◌%◌, cond, ◌||◌, List, [], ◌++◌, length, take, drop, ◌==◌, bit_xor, nat_lt, slice_index}
use Rattle.block.specs.Field.{dbl, half, three, five, seven}
use Rattle.block.specs.Bytes.{bytes_of, of_bytes, padded}
use Rattle.cipher.specs.Meaning.{Meaning, base}

-- what a message is sealed under: the cipher, the eight settings bytes, the nonce, the heading (the associated data)
pub record Frame : Type 0 where
  pub cipher : Meaning
  pub settings : List ℕ
  pub nonce : List ℕ
  pub heading : List ℕ

-- t: a check behind every t blocks, none at 0 (n / 0 is 0)
unfoldable pub t_of : Frame → ℕ
t_of u = 256 * slice_index u.settings 1 + slice_index u.settings 2

-- f: at 1 the tag has as many bytes as the last block of the message
unfoldable pub f_of : Frame → ℕ
f_of u = slice_index u.settings 3 % 2

-- 2 ^ e times a
abbrev pub pow : ℕ → ℕ → ℕ
pow zero a = a
pow (suc e) a = dbl (pow e a)

-- block i of a row of bytes, counted from 1
abbrev pub part : List ℕ → ℕ → List ℕ
part bs i = take 16 (drop (16 * (pred i)) bs)

unfoldable pub block_at : List ℕ → ℕ → ℕ
block_at bs i = of_bytes (padded (part bs i))

-- l
abbrev pub blocks : List ℕ → ℕ
blocks bs = (length bs + 15) / 16

abbrev pub head_mask : Frame → ℕ → ℕ
head_mask u i =
    cond (nat_lt (length u.heading) (16 * i)) (three (seven (pow (pred i) (base u.cipher)))) (three (pow i (base u.cipher)))

abbrev pub head_block : Frame → ℕ → ℕ
head_block u zero = of_bytes (u.nonce ++ u.settings)
head_block u (suc i) = block_at u.heading (suc i)

-- V after the first i blocks of the heading
abbrev pub chain_head : Frame → ℕ → ℕ
chain_head u zero = 0
chain_head u (suc i) = bit_xor (u.cipher.enc (bit_xor (head_block u i) (head_mask u i))) (dbl (chain_head u i))

unfoldable pub iv : Frame → ℕ
iv u = chain_head u (suc (blocks u.heading))

-- the sum of p 1, .., p i
abbrev pub sum_to : (ℕ → ℕ) → ℕ → ℕ
sum_to p zero = 0
sum_to p (suc i) = bit_xor (sum_to p i) (p (suc i))

-- f 1, .., f i joined
abbrev pub join_to : (ℕ → List ℕ) → ℕ → List ℕ
join_to f zero = []
join_to f (suc i) = join_to f i ++ f (suc i)

module _ (u : Frame) where
  -- h: how many checks stand in a stream of l blocks
  abbrev pub checks : ℕ → ℕ
  checks l = pred l / t_of u

  -- where C[i], check j and the tag stand in the stream, in blocks of sixteen bytes
  abbrev pub spot : ℕ → ℕ
  spot i = pred i + pred i / t_of u

  abbrev pub check_spot : ℕ → ℕ
  check_spot j = j * t_of u + j - 1

  abbrev pub tag_spot : ℕ → ℕ
  tag_spot l = l + checks l

  -- the mask of what stands at e
  unfoldable pub out_mask : ℕ → ℕ
  out_mask e = five (pow e (base u.cipher))

  -- the mask of M[i]
  unfoldable pub in_mask : (l mark : ℕ) → ℕ → ℕ
  in_mask l mark i = cond (nat_lt i l || mark == 1) (pow (pred i) (base u.cipher)) (seven (half (pow (pred i) (base u.cipher))))

  -- of a row of encrypted blocks x 1, x 2, ..: the mixing
  abbrev pub w_at : (ℕ → ℕ) → ℕ → ℕ
  w_at x zero = iv u
  w_at x (suc i) = bit_xor (x (suc i)) (dbl (w_at x i))

  abbrev pub y_at : (ℕ → ℕ) → ℕ → ℕ
  y_at x zero = 0
  y_at x (suc i) = bit_xor (x (suc i)) (three (w_at x i))

  -- C[i], check j and the tag
  unfoldable pub cipher_block : (ℕ → ℕ) → ℕ → ℕ
  cipher_block x i = bit_xor (u.cipher.dec (y_at x i)) (out_mask (spot i))

  unfoldable pub check_block : (ℕ → ℕ) → ℕ → ℕ
  check_block x j = bit_xor (u.cipher.dec (w_at x (j * t_of u))) (out_mask (check_spot j))

  unfoldable pub tag_block : (ℕ → ℕ) → ℕ → ℕ
  tag_block x l = bit_xor (u.cipher.dec (bit_xor (y_at x (suc l)) 1)) (out_mask (tag_spot l))

  -- C[i], and behind it check j where i is j * t
  abbrev pub place : (ℕ → ℕ) → ℕ → List ℕ
  place x i = bytes_of (cipher_block x i) ++ cond (i / t_of u * t_of u == i) (bytes_of (check_block x (i / t_of u))) []

  abbrev pub places : (ℕ → ℕ) → ℕ → List ℕ
  places x = join_to (place x)

  -- how many bytes of the tag stand in the stream, where the last block has r
  unfoldable pub tag_size : ℕ → ℕ
  tag_size r = cond (f_of u == 1) r 16

-- 1 where the last block is whole
unfoldable pub mark : List ℕ → ℕ
mark m = cond (length m % 16 == 0) 1 0

-- how many bytes the last block has
abbrev pub last_size : List ℕ → ℕ
last_size m = length m - 16 * (pred (blocks m))

-- M[i]: the blocks but the last, then twice the sum of all
unfoldable pub input : List ℕ → ℕ → ℕ
input m i = cond (nat_lt i (blocks m)) (block_at m i) (sum_to (block_at m) (blocks m))

unfoldable pub x_at : Frame → List ℕ → ℕ → ℕ
x_at u m i = u.cipher.enc (bit_xor (input m i) (in_mask u (blocks m) (mark m) i))

abbrev pub tag_bytes : Frame → List ℕ → List ℕ
tag_bytes u m = take (tag_size u (last_size m)) (bytes_of (tag_block u (x_at u m) (blocks m)))

unfoldable pub stream : Frame → List ℕ → List ℕ
stream u m = places u (x_at u m) (pred (blocks m)) ++ (bytes_of (cipher_block u (x_at u m) (blocks m)) ++ tag_bytes u m)
