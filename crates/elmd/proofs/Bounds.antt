-- Every block stays below 2 ^ 128.
use Rattle.std.proofs.Common.{◌≡◌, ℕ, zero, suc, pred, ◌-◌, ◌*◌, ◌^◌, ◌<◌, ◌≤◌, ◌||◌, eqb, ltb, List, ◌∷◌, length, take, drop, replicate, arith, lit<, length-take}
use lib.Bits.{bit_xor, xor_lt}
use Rattle.std.proofs.lemmas.Bool.{cond_both}
use Rattle.std.proofs.ByRecursion.{All-append, All-take, All-drop}
use Rattle.block.proofs.Filling.{padded_length}
use Rattle.block.specs.Field.{dbl, half, three, seven}
use Rattle.block.specs.Bytes.{of_bytes, padded, Bytes}
use Rattle.block.proofs.Laws.{dbl_lt, half_lt, three_lt, five_lt, seven_lt}
use Rattle.block.proofs.Bytes.{of_bytes_lt}
use Rattle.elmd.specs.Stream.{Frame, pow, part, block_at, blocks, iv, sum_to, out_mask, in_mask, t_of, spot, check_spot, cipher_block, check_block, w_at, y_at, mark, input, x_at}
use Rattle.cipher.specs.Meaning.{base}
use Rattle.elmd.specs.Laws.{Sound}

abbrev pub Small : ℕ → Type 0
Small v = v < 2 ^ 128

pub xor_small : (a b : ℕ) → Small a → Small b → Small (bit_xor a b)
xor_small a b p q = xor_lt 128 a b p q

pub bytes_small : (xs : List ℕ) → length xs ≡ 16 → Bytes xs → Small (of_bytes xs)
bytes_small xs e h = rw e at (of_bytes_lt xs h)

pub zeros : (n : ℕ) → Bytes (replicate n 0)
zeros zero = tt
zeros (suc n) = (omega arith, zeros n)

pub padded_bytes : (bs : List ℕ) → Bytes bs → Bytes (padded bs)
padded_bytes bs h = All-append (λ b. b < 256) bs (take (16 - length bs) (0x80 ∷ replicate 15 0)) h (All-take (λ b. b < 256) (16 - length bs) (0x80 ∷ replicate 15 0) (omega arith, zeros 15))

pub part_short : (bs : List ℕ) (i : ℕ) → length (part bs i) ≤ 16
part_short bs i = simp length-take (omega arith)

pub part_bytes : (bs : List ℕ) (i : ℕ) → Bytes bs → Bytes (part bs i)
part_bytes bs i h = All-take (λ b. b < 256) 16 (drop (16 * pred i) bs) (All-drop (λ b. b < 256) (16 * pred i) bs h)

pub block_small : (bs : List ℕ) (i : ℕ) → Bytes bs → Small (block_at bs i)
unfolding block_at
block_small bs i h = bytes_small (padded (part bs i)) (padded_length (part bs i) (part_short bs i)) (padded_bytes (part bs i) (part_bytes bs i h))

pub pow_small : (e a : ℕ) → Small a → Small (pow e a)
pow_small zero a h = h
pow_small (suc e) a h = dbl_lt (pow e a) (pow_small e a h)

pub sum_small : (p : ℕ → ℕ) (i : ℕ) → ((k : ℕ) → Small (p (suc k))) → Small (sum_to p i)
sum_small p zero h = lit< tt
sum_small p (suc i) h = xor_small (sum_to p i) (p (suc i)) (sum_small p i h) (h i)

module _ (u : Frame) (sound : Sound u) where
  pub enc_small : (a : ℕ) → Small a → Small (u.cipher.enc a)
  enc_small a h = sound.lawful.enc_lt a h

  pub dec_small : (a : ℕ) → Small a → Small (u.cipher.dec a)
  dec_small a h = sound.lawful.dec_lt a h

  pub base_small : Small (base u.cipher)
  unfolding base
  base_small = let z : Small (u.cipher.enc 0) = enc_small 0 (lit< tt) in cond_both u.cipher.double (u.cipher.enc (u.cipher.enc 0)) (u.cipher.enc 0) Small (λ e. enc_small (u.cipher.enc 0) z) (λ e. z)

  pub mask_small : (e : ℕ) → Small (pow e (base u.cipher))
  mask_small e = pow_small e (base u.cipher) base_small

  pub out_mask_small : (e : ℕ) → Small (out_mask u e)
  unfolding out_mask
  out_mask_small e = five_lt (pow e (base u.cipher)) (mask_small e)

  pub in_mask_small : (l k i : ℕ) → Small (in_mask u l k i)
  unfolding in_mask
  in_mask_small l k i =
      let a : ℕ = pow (pred i) (base u.cipher) in
      cond_both (ltb i l || eqb k 1) a (seven (half a)) Small (λ e. mask_small (pred i)) (λ e. seven_lt (half a) (half_lt a (mask_small (pred i))))

  pub iv_small : Small (iv u)
  iv_small = sound.iv_lt

  module _ (x : ℕ → ℕ) (h : (i : ℕ) → Small (x (suc i))) where
    pub w_at_small : (i : ℕ) → Small (w_at u x i)
    w_at_small zero = iv_small
    w_at_small (suc i) = xor_small (x (suc i)) (dbl (w_at u x i)) (h i) (dbl_lt (w_at u x i) (w_at_small i))

    pub y_at_small : (i : ℕ) → Small (y_at u x (suc i))
    y_at_small i = xor_small (x (suc i)) (three (w_at u x i)) (h i) (three_lt (w_at u x i) (w_at_small i))

    pub c_small : (i : ℕ) → Small (cipher_block u x (suc i))
    unfolding cipher_block
    c_small i = xor_small (u.cipher.dec (y_at u x (suc i))) (out_mask u (spot u (suc i))) (dec_small (y_at u x (suc i)) (y_at_small i)) (out_mask_small (spot u (suc i)))

    pub check_small : (j : ℕ) → Small (check_block u x j)
    unfolding check_block
    check_small j = xor_small (u.cipher.dec (w_at u x (j * t_of u))) (out_mask u (check_spot u j)) (dec_small (w_at u x (j * t_of u)) (w_at_small (j * t_of u))) (out_mask_small (check_spot u j))

  pub input_small : (m : List ℕ) → Bytes m → (i : ℕ) → Small (input m i)
  unfolding input
  input_small m h i = cond_both (ltb i (blocks m)) (block_at m i) (sum_to (block_at m) (blocks m)) Small (λ e. block_small m i h) (λ e. sum_small (block_at m) (blocks m) (λ k. block_small m (suc k) h))

  pub x_at_small : (m : List ℕ) → Bytes m → (i : ℕ) → Small (x_at u m i)
  unfolding x_at
  x_at_small m h i = enc_small (bit_xor (input m i) (in_mask u (blocks m) (mark m) i)) (xor_small (input m i) (in_mask u (blocks m) (mark m) i) (input_small m h i) (in_mask_small (blocks m) (mark m) i))
