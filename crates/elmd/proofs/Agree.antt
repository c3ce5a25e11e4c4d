-- What agrees up to block i has the same stream up to there.
use Rattle.std.proofs.Common.{◌≡◌, ℕ, zero, suc, pred, ◌+◌, ◌*◌, ◌/◌, ◌<◌, ◌≤◌, List, take, drop, sym, refl, ap, ◌∙◌, div-mul-le_self, arith}
use lib.Bits.{bit_xor}
use Rattle.std.proofs.lemmas.Bool.{lt-ltb}
use Rattle.std.proofs.lemmas.List.{take-take, drop-take}
use Rattle.block.specs.Bytes.{of_bytes, padded}
use Rattle.elmd.specs.Stream.{Frame, t_of, pow, part, block_at, blocks, in_mask, w_at, cipher_block, check_block, place, places, mark, input, x_at}
use Rattle.cipher.specs.Meaning.{base}
use Rattle.elmd.specs.Laws.{Agreement, inner_x, Streaming}
use Rattle.elmd.proofs.Rows.{join_same}

-- rows that agree at 1, .., i
abbrev pub Same : (ℕ → ℕ) → (ℕ → ℕ) → ℕ → Type 0
Same x y i = (k : ℕ) → k < i → x (suc k) ≡ y (suc k)

module _ (u : Frame) (x y : ℕ → ℕ) where
  pub same_w : (i : ℕ) → Same x y i → w_at u x i ≡ w_at u y i
  same_w zero h = refl
  same_w (suc i) h = let a = same_w i (λ k l. h k (omega arith)) in let b = h i (omega arith) in cc

  pub same_c : (i : ℕ) → Same x y (suc i) → cipher_block u x (suc i) ≡ cipher_block u y (suc i)
  unfolding cipher_block
  same_c i h = let a = same_w i (λ k l. h k (omega arith)) in let b = h i (omega arith) in cc

  pub same_check : (j i : ℕ) → j * t_of u ≤ i → Same x y i → check_block u x j ≡ check_block u y j
  unfolding check_block
  same_check j i l h = let a = same_w (j * t_of u) (λ k g. h k (omega arith)) in cc

  same_place : (i : ℕ) → Same x y (suc i) → place u x (suc i) ≡ place u y (suc i)
  same_place i h =
      let a = same_c i h in
      let b = same_check (suc i / t_of u) (suc i) (div-mul-le_self (suc i) (t_of u)) h in
      cc

  pub same_places : (i : ℕ) → Same x y i → places u x i ≡ places u y i
  same_places i h = join_same (place u x) (place u y) i (λ k l. same_place k (λ n g. h n (omega arith)))

pub inner_mask : (u : Frame) (l k i : ℕ) → i < l → in_mask u l k i ≡ pow (pred i) (base u.cipher)
unfolding in_mask
inner_mask u l k i h = rw (lt-ltb i l h)

pub inner_input : (m : List ℕ) (i : ℕ) → i < blocks m → input m i ≡ block_at m i
unfolding input
inner_input m i h = rw (lt-ltb i (blocks m) h)

pub inner_x_lem : (u : Frame) (m : List ℕ) (i : ℕ) → i < blocks m → x_at u m i ≡ u.cipher.enc (bit_xor (block_at m i) (pow (pred i) (base u.cipher)))
unfolding x_at
inner_x_lem u m i h =
    let a : input m i ≡ block_at m i = inner_input m i h in
    let b : in_mask u (blocks m) (mark m) i ≡ pow (pred i) (base u.cipher) = inner_mask u (blocks m) (mark m) i h in
    ap u.cipher.enc (cc)

pub part_front : (m : List ℕ) (k i : ℕ) → k < i → part m (suc k) ≡ drop (16 * k) (take (16 * k + 16) (take (16 * i) m))
part_front m k i h = sym (drop-take (16 * k) 16 m) ∙ ap (drop (16 * k)) (sym (take-take (16 * k + 16) (16 * i) m (omega arith)))

pub same_block : (m n : List ℕ) (k i : ℕ) → k < i → take (16 * i) m ≡ take (16 * i) n → block_at m (suc k) ≡ block_at n (suc k)
unfolding block_at
same_block m n k i h e = ap (λ (p : List ℕ). of_bytes (padded p)) (part_front m k i h ∙ ap (λ (p : List ℕ). drop (16 * k) (take (16 * k + 16) p)) e ∙ sym (part_front n k i h))

same_x : (u : Frame) (m n : List ℕ) (i : ℕ) → i < blocks m → i < blocks n → take (16 * i) m ≡ take (16 * i) n → Same (x_at u m) (x_at u n) i
same_x u m n i a b e k h = let p = inner_x_lem u m (suc k) (omega arith) in let q = inner_x_lem u n (suc k) (omega arith) in let r = same_block m n k i h e in cc

pub agreement : Agreement
agreement u m n i a b e = let h = same_x u m n i a b e in (same_places u (x_at u m) (x_at u n) i h, same_w u (x_at u m) (x_at u n) i h)

pub streaming : Streaming
streaming u m i h =
    let e : Same (x_at u m) (inner_x u m) i = λ k g. inner_x_lem u m (suc k) (omega arith) in
    (same_places u (x_at u m) (inner_x u m) i e, same_w u (x_at u m) (inner_x u m) i e)
