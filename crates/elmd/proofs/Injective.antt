-- One stream, one message.
use Rattle.std.proofs.Common.{◌≡◌, ℕ, suc, pred, ◌*◌, ◌<◌, ◌≤◌, List, [], length, sym, ap, ◌∙◌, ⊎_elim, arith}
use lib.Bits.{bit_xor}
use Rattle.std.proofs.lemmas.List.{append-nil}
use Rattle.std.proofs.lemmas.Bool.{cases_lt, le-ltb}
use Rattle.block.proofs.Laws.{xor_cancel}
use Rattle.elmd.specs.Stream.{Frame, t_of, block_at, blocks, spot, in_mask, sum_to, part, join_to, last_size, mark, input, x_at, stream}
use Rattle.elmd.specs.Opening.{blocks_of}
use Rattle.elmd.specs.Laws.{Sound, MessageOf, Injectivity}
use Rattle.elmd.proofs.Quo.{quo_mono}
use Rattle.elmd.proofs.Rows.{join_same, sum_same, xor_cancel_left}
use Rattle.elmd.proofs.Bounds.{Small, xor_small, in_mask_small, sum_small, block_small, part_short}
use Rattle.elmd.proofs.Lengths.{lengths, stream_length, l_pos}
use Rattle.elmd.proofs.Recover.{stream_x, stream_p}
use Rattle.elmd.proofs.Padding.{pad_same, blocks_same, parts_all, inner_part, last_part, mark_whole, whole_mark}

pub outer_x : (u : Frame) (m : List ℕ) (i : ℕ) → blocks m ≤ i → x_at u m i ≡ u.cipher.enc (bit_xor (sum_to (block_at m) (blocks m)) (in_mask u (blocks m) (mark m) i))
unfolding x_at input
outer_x u m i h = ap (λ (b : ℕ). u.cipher.enc (bit_xor b (in_mask u (blocks m) (mark m) i))) (rw (le-ltb i (blocks m) h))

-- the l of every message of that length
pub same_l : (u : Frame) (S k : ℕ) (m : List ℕ) → MessageOf u S k m → blocks m ≡ blocks_of u S
same_l u S k m h = sym (lengths u m h.some).back ∙ ap (blocks_of u) h.size

-- C[i + 1] stands within the stream
pub within : (u : Frame) (m : List ℕ) (i : ℕ) → 1 ≤ length m → i < blocks m → 16 * suc (spot u (suc i)) ≤ length (stream u m)
within u m i h l = let a = stream_length u m h in let q = quo_mono i (pred (blocks m)) (t_of u) (omega arith) in omega arith

module _ (u : Frame) (sound : Sound u) (S k : ℕ) (m n : List ℕ) (hm : MessageOf u S k m) (hn : MessageOf u S k n) (e : stream u m ≡ stream u n) where
  same_size : blocks m ≡ blocks n
  same_size = same_l u S k m hm ∙ sym (same_l u S k n hn)

  inner : (i : ℕ) → suc i < blocks m → block_at m (suc i) ≡ block_at n (suc i)
  inner i h =
      let z = same_size in
      let w = within u m i hm.some (omega arith) in
      sym (stream_p u sound m (stream u m) hm.bytes ([], append-nil (stream u m)) i h w)
      ∙ stream_p u sound n (stream u m) hn.bytes ([], append-nil (stream u m) ∙ e) i (omega arith) w

  last_x_lem : (i : ℕ) → suc i ≡ blocks m → x_at u m (suc i) ≡ x_at u n (suc i)
  last_x_lem i h =
      let z = same_size in
      let w = within u m i hm.some (omega arith) in
      sym (stream_x u sound m (stream u m) hm.bytes ([], append-nil (stream u m)) i (omega arith) w)
      ∙ stream_x u sound n (stream u m) hn.bytes ([], append-nil (stream u m) ∙ e) i (omega arith) w

  same_sum : sum_to (block_at m) (blocks m) ≡ sum_to (block_at n) (blocks n)
  same_sum =
      let i : ℕ = pred (blocks m) in
      let l = l_pos m hm.some in
      let z = same_size in
      let a : ℕ = sum_to (block_at m) (blocks m) in
      let b : ℕ = sum_to (block_at n) (blocks n) in
      let o : ℕ = in_mask u (blocks m) (mark m) (suc i) in
      let marks : mark n ≡ mark m = hn.marked ∙ sym hm.marked in
      let x : u.cipher.enc (bit_xor a o) ≡ u.cipher.enc (bit_xor b o) =
      sym (outer_x u m (suc i) (omega arith)) ∙ last_x_lem i l ∙ outer_x u n (suc i) (omega arith)
      ∙ ap (λ (c : ℕ). u.cipher.enc (bit_xor b (in_mask u c (mark n) (suc i)))) (sym z)
      ∙ ap (λ (c : ℕ). u.cipher.enc (bit_xor b (in_mask u (blocks m) c (suc i)))) marks in
      let small : (v : ℕ) → Small v → Small (bit_xor v o) = λ v h. xor_small v o h (in_mask_small u sound (blocks m) (mark m) (suc i)) in
      let p = sound.lawful.dec_enc (bit_xor a o) (small a (sum_small (block_at m) (blocks m) (λ j. block_small m (suc j) hm.bytes))) in
      let q = sound.lawful.dec_enc (bit_xor b o) (small b (sum_small (block_at n) (blocks n) (λ j. block_small n (suc j) hn.bytes))) in
      let y : bit_xor a o ≡ bit_xor b o = sym p ∙ ap u.cipher.dec x ∙ q in
      sym (xor_cancel a o) ∙ ap (λ (v : ℕ). bit_xor v o) y ∙ xor_cancel b o

  last : (i : ℕ) → suc i ≡ blocks m → block_at m (suc i) ≡ block_at n (suc i)
  last i h =
      let z = same_size in
      let a : ℕ = sum_to (block_at m) i in
      let b : ℕ = sum_to (block_at n) i in
      let front : a ≡ b = sum_same (block_at m) (block_at n) i (λ j g. inner j (omega arith)) in
      let all : bit_xor a (block_at m (suc i)) ≡ bit_xor b (block_at n (suc i)) = ap (sum_to (block_at m)) h ∙ same_sum ∙ ap (sum_to (block_at n)) (sym (h ∙ z)) in
      sym (xor_cancel_left a (block_at m (suc i))) ∙ ap (bit_xor a) all ∙ ap (λ (v : ℕ). bit_xor v (bit_xor b (block_at n (suc i)))) front ∙ xor_cancel_left b (block_at n (suc i))

  same_part : (i : ℕ) → i < blocks m → part m (suc i) ≡ part n (suc i)
  same_part i h =
      let z = same_size in
      ⊎_elim
      (λ g.
      let p = inner_part m i g in
      let q = inner_part n i (omega arith) in
      pad_same (part m (suc i)) (part n (suc i)) (omega arith) (omega arith) (λ _. q) (λ _. p) (blocks_same m n (suc i) (suc i) hm.bytes hn.bytes (inner i g)))
      (λ g.
      let c : suc i ≡ blocks m = omega arith in
      let p : length (part m (suc i)) ≡ last_size m = ap (λ (j : ℕ). length (part m j)) c ∙ last_part m hm.some in
      let q : length (part n (suc i)) ≡ last_size n = ap (λ (j : ℕ). length (part n j)) (c ∙ z) ∙ last_part n hn.some in
      pad_same (part m (suc i)) (part n (suc i)) (part_short m (suc i)) (part_short n (suc i))
      (λ w. q ∙ mark_whole n hn.some (hn.marked ∙ sym hm.marked ∙ whole_mark m hm.some (sym p ∙ w)))
      (λ w. p ∙ mark_whole m hm.some (hm.marked ∙ sym hn.marked ∙ whole_mark n hn.some (sym q ∙ w)))
      (blocks_same m n (suc i) (suc i) hm.bytes hn.bytes (last i c)))
      (cases_lt (suc i) (blocks m))

  same_message : m ≡ n
  same_message = sym (parts_all m) ∙ join_same (part m) (part n) (blocks m) same_part ∙ ap (join_to (part n)) same_size ∙ parts_all n

pub injectivity : Injectivity
injectivity = same_message
