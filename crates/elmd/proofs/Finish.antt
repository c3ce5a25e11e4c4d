-- A whole stream is accepted exactly when it is that of a message.
use Rattle.std.proofs.Common.{◌≡◌, ℕ, suc, pred, ◌+◌, ◌-◌, ◌*◌, ◌/◌, ◌%◌, ◌<◌, ◌≤◌, eqb, ◌⊎◌, List, [], ◌∷◌, ◌++◌, length, take, drop, replicate, sym, refl, ap, ◌∙◌, subst, inl, inr, ⊎_elim, append_assoc, suc-add, div-mul-le_self, arith, length-append, take-append-drop, length-take}
use lib.Bits.{bit_xor}
use lib.ListN.{length-replicate}
use Rattle.std.proofs.ByRecursion.{All-take, All-append}
use Rattle.std.proofs.lemmas.List.{append-nil, take_all, take_at, drop_at}
use Rattle.std.proofs.lemmas.Bool.{cases_lt, cases_eq, cond-true, cond-false, eq-eqb, ne_eqb}
use Rattle.block.specs.Field.{three}
use Rattle.block.specs.Bytes.{bytes_of, of_bytes, padded, Bytes}
use Rattle.block.proofs.Laws.{xor_cancel}
use Rattle.block.proofs.Bytes.{length_bytes_of, number_back, bytes_number_back}
use Rattle.elmd.specs.Stream.{spot, Frame, t_of, part, block_at, blocks, in_mask, out_mask, checks, tag_spot, tag_size, last_size, sum_to, w_at, cipher_block, tag_block, places, tag_bytes, mark, x_at, stream}
use Rattle.elmd.specs.Opening.{opened, blocks_of, block_in, w_r, x_r, p_r, sum_r, last_r, tag_r, released, Right}
use Rattle.elmd.specs.Laws.{LaidOut, Opening, Possible, Fitting, Begins, Sound, MessageOf, Finish}
use Rattle.elmd.proofs.Rows.{sum_same, xor_cancel_left}
use Rattle.elmd.proofs.Bounds.{Small, zeros, xor_small, dec_small, in_mask_small, sum_small, block_small, padded_bytes, part_bytes, part_short}
use Rattle.block.proofs.Filling.{padded_length}
use Rattle.elmd.proofs.Lengths.{places_length, stream_length, l_pos, last_pos, last_le}
use Rattle.elmd.proofs.Agree.{Same, same_places, same_c, same_w}
use Rattle.elmd.proofs.Recover.{block_in_lem, stream_w, stream_x, stream_p}
use Rattle.elmd.proofs.Padding.{last_part, mark_whole, whole_mark, short_mark}
use Rattle.elmd.proofs.Injective.{injectivity, outer_x, same_l, within}
use Rattle.elmd.proofs.Front.{bytes_of_bytes, x_small, p_small, grow, again, again_c, again_w}
use Rattle.elmd.proofs.Extend.{check_in, checks_hold, message_bytes, message_length, new_block, new_x}

-- the tag follows from the sum and from W[l]
tag_same : (u : Frame) (m s : List ℕ) (l k : ℕ) → blocks m ≡ l → mark m ≡ k → sum_to (block_at m) (blocks m) ≡ sum_r u s l k → w_at u (x_at u m) l ≡ w_r u s l → tag_block u (x_at u m) l ≡ tag_r u s l k
unfolding tag_block tag_r
tag_same u m s l k el ek es ew =
    let x : x_at u m (suc l) ≡ u.cipher.enc (bit_xor (sum_r u s l k) (in_mask u l k (suc l))) =
    outer_x u m (suc l) (omega arith)
    ∙ ap (λ (c : ℕ). u.cipher.enc (bit_xor c (in_mask u (blocks m) (mark m) (suc l)))) es
    ∙ ap (λ (c : ℕ). u.cipher.enc (bit_xor (sum_r u s l k) (in_mask u c (mark m) (suc l)))) el
    ∙ ap (λ (c : ℕ). u.cipher.enc (bit_xor (sum_r u s l k) (in_mask u l c (suc l)))) ek in
    ap (λ (c : ℕ). bit_xor (u.cipher.dec (bit_xor (bit_xor c (three (w_at u (x_at u m) l))) 1)) (out_mask u (tag_spot u l))) x
    ∙ ap (λ (c : ℕ). bit_xor (u.cipher.dec (bit_xor (bit_xor (u.cipher.enc (bit_xor (sum_r u s l k) (in_mask u l k (suc l)))) (three c)) 1)) (out_mask u (tag_spot u l))) ew

-- A message's stream is right.
module _ (u : Frame) (sound : Sound u) (m : List ℕ) (bytes : Bytes m) (some : 1 ≤ length m) where
  itself : Begins (stream u m) (stream u m)
  itself = ([], append-nil (stream u m))

  sum_back : sum_r u (stream u m) (blocks m) (mark m) ≡ sum_to (block_at m) (blocks m)
  unfolding sum_r
  sum_back =
      let s : List ℕ = stream u m in
      let l : ℕ = blocks m in
      let p : ℕ = pred (blocks m) in
      let e : suc p ≡ l = l_pos m some in
      let o : ℕ = in_mask u l (mark m) l in
      let a : ℕ = sum_to (block_at m) l in
      let x : x_r u s l ≡ x_at u m l = ap (x_r u s) (sym e) ∙ stream_x u sound m s bytes itself p (omega arith) (within u m p some (omega arith)) ∙ ap (x_at u m) e in
      let d = sound.lawful.dec_enc (bit_xor a o) (xor_small a o (sum_small (block_at m) l (λ j. block_small m (suc j) bytes)) (in_mask_small u sound l (mark m) l)) in
      ap (λ (z : ℕ). bit_xor z o) (ap u.cipher.dec (x ∙ outer_x u m l (omega arith)) ∙ d) ∙ xor_cancel a o

  last_back : last_r u (stream u m) (blocks m) (mark m) ≡ block_at m (blocks m)
  unfolding last_r
  last_back =
      let s : List ℕ = stream u m in
      let p : ℕ = pred (blocks m) in
      let e : suc p ≡ blocks m = l_pos m some in
      let a : ℕ = sum_to (block_at m) p in
      let front : sum_to (p_r u s) p ≡ a = sum_same (p_r u s) (block_at m) p (λ j g. stream_p u sound m s bytes itself j (omega arith) (within u m j some (omega arith))) in
      let all : sum_r u s (blocks m) (mark m) ≡ bit_xor a (block_at m (suc p)) = sum_back ∙ ap (sum_to (block_at m)) (sym e) in
      ap (λ (z : ℕ). bit_xor z (sum_r u s (blocks m) (mark m))) front ∙ ap (bit_xor a) all ∙ xor_cancel_left a (block_at m (suc p)) ∙ ap (block_at m) e

  last_bytes : bytes_of (last_r u (stream u m) (blocks m) (mark m)) ≡ padded (part m (blocks m))
  unfolding block_at
  last_bytes =
      let q : List ℕ = part m (blocks m) in
      ap bytes_of last_back ∙ number_back (padded q) (padded_length q (part_short m (blocks m))) (padded_bytes q (part_bytes m (blocks m) bytes))

  tag_back : tag_block u (x_at u m) (blocks m) ≡ tag_r u (stream u m) (blocks m) (mark m)
  tag_back =
      let s : List ℕ = stream u m in
      let p : ℕ = pred (blocks m) in
      let e : suc p ≡ blocks m = l_pos m some in
      let w : w_r u s (blocks m) ≡ w_at u (x_at u m) (blocks m) = ap (w_r u s) (sym e) ∙ stream_w u sound m s bytes itself p (omega arith) (within u m p some (omega arith)) ∙ ap (w_at u (x_at u m)) e in
      tag_same u m s (blocks m) (mark m) refl refl (sym sum_back) (sym w)

  tag_at : drop (16 * tag_spot u (blocks m)) (stream u m) ≡ tag_bytes u m
  unfolding stream
  tag_at =
      let front : List ℕ = places u (x_at u m) (pred (blocks m)) in
      let c : List ℕ = bytes_of (cipher_block u (x_at u m) (blocks m)) in
      let e = l_pos m some in
      let size : length (front ++ c) ≡ 16 * tag_spot u (blocks m) = let a = places_length u (x_at u m) (pred (blocks m)) in simp (length-append, length_bytes_of) (omega arith) in
      ap (drop (16 * tag_spot u (blocks m))) (sym (append_assoc front c (tag_bytes u m))) ∙ drop_at (front ++ c) (tag_bytes u m) (16 * tag_spot u (blocks m)) size

  right : Right u (stream u m) (mark m) (blocks m) (last_size m)
  right =
      let s : List ℕ = stream u m in
      let r : ℕ = last_size m in
      let l : ℕ = blocks m in
      let h : ℕ = checks u l in
      let q : List ℕ = part m l in
      let fits : h * t_of u ≤ pred l = div-mul-le_self (pred l) (t_of u) in
      let size = stream_length u m some in
      let e = l_pos m some in
      record {
        checked = checks_hold u sound m s h bytes some (omega arith) (omega arith) itself;
        some = last_pos m some;
        whole = mark_whole m some;
        short = λ z. ⊎_elim (λ g. g) (λ g. let b = last_le m some in let w = whole_mark m some (omega arith) in omega arith) (cases_lt r 16);
        filled = ap (λ (z : List ℕ). padded (take r z)) last_bytes ∙ ap padded (take_at q (take (16 - length q) (0x80 ∷ replicate 15 0)) r (last_part m some)) ∙ sym last_bytes;
        sized = size;
        tagged = ap (λ (v : ℕ). take (tag_size u r) (bytes_of v)) (sym tag_back) ∙ sym tag_at;
      }

-- The message of a right stream of suc p blocks.
module _ (u : Frame) (sound : Sound u) (s : List ℕ) (bytes : Bytes s) (k p r : ℕ) (le : r ≤ 16) (ok : Right u s k (suc p) r) where
  abbrev value : ℕ
  value = last_r u s (suc p) k

  abbrev end : List ℕ
  end = take r (bytes_of value)

  abbrev found : List ℕ
  found = released u s p ++ end

  sum_r_small : Small (sum_r u s (suc p) k)
  unfolding sum_r
  sum_r_small = xor_small (u.cipher.dec (x_r u s (suc p))) (in_mask u (suc p) k (suc p)) (dec_small u sound (x_r u s (suc p)) (x_small s bytes u sound (suc p))) (in_mask_small u sound (suc p) k (suc p))

  value_small : Small value
  unfolding last_r
  value_small = xor_small (sum_to (p_r u s) p) (sum_r u s (suc p) k) (sum_small (p_r u s) p (λ i. p_small s bytes u sound (suc i))) sum_r_small

  end_length : length end ≡ r
  end_length = simp (length-take, length_bytes_of) (omega arith)

  found_length : length found ≡ 16 * p + r
  found_length = let a = message_length u s p in let b = end_length in simp length-append (omega arith)

  found_blocks : blocks found ≡ suc p
  found_blocks = let a = found_length in let b = ok.some in omega arith

  found_last : last_size found ≡ r
  found_last = let a = found_length in let b = found_blocks in omega arith

  found_bytes : Bytes found
  found_bytes = All-append (λ b. b < 256) (released u s p) end (message_bytes u s p) (All-take (λ b. b < 256) r (bytes_of value) (bytes_of_bytes value))

  found_mark : (k ≡ 0) ⊎ (k ≡ 1) → mark found ≡ k
  found_mark (inl z) = let a = ok.short z in let b = ok.some in let c = found_last in let d = found_length in short_mark found (omega arith) (omega arith) ∙ sym z
  found_mark (inr z) = let a = ok.whole z in let b = ok.some in let c = found_last in let d = found_length in whole_mark found (omega arith) (omega arith) ∙ sym z

  found_size : length (stream u found) ≡ length s
  found_size =
      let b = ok.some in let d = found_length in
      stream_length u found (omega arith) ∙ ap (λ (l : ℕ). 16 * tag_spot u l + tag_size u (last_size found)) found_blocks ∙ ap (λ (c : ℕ). 16 * tag_spot u (suc p) + tag_size u c) found_last ∙ sym ok.sized

  last_block : block_at found (suc p) ≡ value
  unfolding block_at
  last_block =
      let b = end_length in
      ap (λ (z : List ℕ). of_bytes (padded (take 16 z))) (drop_at (released u s p) end (16 * p) (message_length u s p))
      ∙ ap (λ (z : List ℕ). of_bytes (padded z)) (take_all 16 end (omega arith)) ∙ ap of_bytes ok.filled ∙ bytes_number_back value value_small

  inner_xs : Same (x_at u found) (x_r u s) p
  inner_xs = let b = found_blocks in new_x u sound s bytes p end (omega arith)

  found_sum : sum_to (block_at found) (suc p) ≡ sum_r u s (suc p) k
  unfolding last_r
  found_sum =
      let a : ℕ = sum_to (p_r u s) p in
      let front : sum_to (block_at found) p ≡ a = sum_same (block_at found) (p_r u s) p (new_block u sound s bytes p end) in
      ap (λ (z : ℕ). bit_xor z (block_at found (suc p))) front ∙ ap (bit_xor a) last_block ∙ xor_cancel_left a (sum_r u s (suc p) k)

  whole_sum : sum_to (block_at found) (blocks found) ≡ sum_r u s (suc p) k
  whole_sum = ap (sum_to (block_at found)) found_blocks ∙ found_sum

  module _ (marks : mark found ≡ k) where
    last_x_lem : x_at u found (suc p) ≡ x_r u s (suc p)
    unfolding sum_r
    last_x_lem =
        let o : ℕ = in_mask u (suc p) k (suc p) in
        let e = found_blocks in
        outer_x u found (suc p) (omega arith)
        ∙ ap (λ (c : ℕ). u.cipher.enc (bit_xor c (in_mask u (blocks found) (mark found) (suc p)))) whole_sum
        ∙ ap (λ (c : ℕ). u.cipher.enc (bit_xor (sum_r u s (suc p) k) (in_mask u c (mark found) (suc p)))) e
        ∙ ap (λ (c : ℕ). u.cipher.enc (bit_xor (sum_r u s (suc p) k) (in_mask u (suc p) c (suc p)))) marks
        ∙ ap u.cipher.enc (xor_cancel (u.cipher.dec (x_r u s (suc p))) o) ∙ sound.lawful.enc_dec (x_r u s (suc p)) (x_small s bytes u sound (suc p))

    all_xs : Same (x_at u found) (x_r u s) (suc p)
    all_xs i h = ⊎_elim (λ g. inner_xs i g) (λ g. let e : p ≡ i = omega arith in subst (λ (n : ℕ). x_at u found (suc n) ≡ x_r u s (suc n)) e last_x_lem) (cases_lt i p)

    found_tag : tag_block u (x_at u found) (suc p) ≡ tag_r u s (suc p) k
    found_tag = tag_same u found s (suc p) k found_blocks marks whole_sum (same_w u (x_at u found) (x_r u s) (suc p) all_xs ∙ again_w s bytes u sound (suc p))

    found_stream : stream u found ≡ s
    unfolding stream
    found_stream =
        let x : ℕ → ℕ = x_at u found in
        let t : ℕ = t_of u in
        let e : ℕ = p + p / t in
        let spot : tag_spot u (suc p) ≡ suc e = suc-add p (p / t) in
        let sized : length s ≡ 16 * suc e + tag_size u r = ok.sized ∙ ap (λ (n : ℕ). 16 * n + tag_size u r) spot in
        let front : places u x p ≡ take (16 * e) s = same_places u x (x_r u s) p inner_xs ∙ again s bytes u sound p (omega arith) ok.checked in
        let c : cipher_block u x (suc p) ≡ block_in s e = same_c u x (x_r u s) p all_xs ∙ again_c s bytes u sound p in
        let tail : take (tag_size u r) (bytes_of (tag_block u x (suc p))) ≡ drop (16 * suc e) s = ap (λ (v : ℕ). take (tag_size u r) (bytes_of v)) found_tag ∙ ok.tagged ∙ ap (λ (n : ℕ). drop (16 * n) s) spot in
        ap (λ (l : ℕ). places u x (pred l) ++ (bytes_of (cipher_block u x l) ++ take (tag_size u (last_size found)) (bytes_of (tag_block u x l)))) found_blocks
        ∙ ap (λ (n : ℕ). places u x p ++ (bytes_of (cipher_block u x (suc p)) ++ take (tag_size u n) (bytes_of (tag_block u x (suc p))))) found_last
        ∙ sym (append_assoc (places u x p) (bytes_of (cipher_block u x (suc p))) (take (tag_size u r) (bytes_of (tag_block u x (suc p)))))
        ∙ ap (λ (z : List ℕ). (places u x p ++ bytes_of (cipher_block u x (suc p))) ++ z) tail
        ∙ ap (λ (z : List ℕ). (z ++ bytes_of (cipher_block u x (suc p))) ++ drop (16 * suc e) s) front
        ∙ ap (λ (z : ℕ). (take (16 * e) s ++ bytes_of z) ++ drop (16 * suc e) s) c
        ∙ ap (λ (z : List ℕ). z ++ drop (16 * suc e) s) (grow s bytes e (omega arith))
        ∙ take-append-drop (16 * suc e) s

pub mark_cases : (m : List ℕ) → (mark m ≡ 0) ⊎ (mark m ≡ 1)
unfolding mark
mark_cases m = ⊎_elim (λ e. inr (cond-true (eqb (length m % 16) 0) 1 0 (eq-eqb (length m % 16) 0 e))) (λ n. inl (cond-false (eqb (length m % 16) 0) 1 0 (ne_eqb (length m % 16) 0 n))) (cases_eq (length m % 16) 0)

-- what a right stream of suc p blocks gives back
found_message : (u : Frame) (sound : Sound u) (S k : ℕ) (m : List ℕ) (hm : MessageOf u S k m) (s : List ℕ) (bytes : Bytes s) (size : length s ≡ S) (r p : ℕ) → suc p ≡ blocks m → Right u s k (suc p) r
    → MessageOf u S k (opened u s k (suc p) r) × (stream u (opened u s k (suc p) r) ≡ s)
found_message u sound S k m hm s bytes size r p e ok =
    let kind : (k ≡ 0) ⊎ (k ≡ 1) = subst (λ (c : ℕ). (c ≡ 0) ⊎ (c ≡ 1)) hm.marked (mark_cases m) in
    let le : r ≤ 16 = ⊎_elim (λ z. let a = ok.short z in omega arith) (λ z. let a = ok.whole z in omega arith) kind in
    let long : length (opened u s k (suc p) r) ≡ 16 * p + r = found_length u sound s bytes k p r le ok in
    let marks : mark (opened u s k (suc p) r) ≡ k = found_mark u sound s bytes k p r le ok kind in (
      record {
        bytes = found_bytes u sound s bytes k p r le ok;
        some = let a = ok.some in omega arith;
        fits = let a = hm.fits in omega arith;
        size = found_size u sound s bytes k p r le ok ∙ size;
        marked = marks;
      },
      found_stream u sound s bytes k p r le ok marks,
    )

opened_message : (u : Frame) → Sound u → (S k : ℕ) (m : List ℕ) → MessageOf u S k m → (s : List ℕ) → Bytes s → length s ≡ S → (r : ℕ) → Right u s k (blocks_of u S) r
    → MessageOf u S k (opened u s k (blocks_of u S) r) × (stream u (opened u s k (blocks_of u S) r) ≡ s)
opened_message u sound S k m hm s bytes size r =
    let e : suc (pred (blocks m)) ≡ blocks m = l_pos m hm.some in
    subst (λ (l : ℕ). Right u s k l r → MessageOf u S k (opened u s k l r) × (stream u (opened u s k l r) ≡ s)) (e ∙ same_l u S k m hm)
    (found_message u sound S k m hm s bytes size r (pred (blocks m)) e)

pub opening : Opening
opening u sound S k m hm s bytes size r ok =
    let o = opened_message u sound S k m hm s bytes size r ok in
    (o.0, o.1, λ n hn e. injectivity u sound S k n (opened u s k (blocks_of u S) r) hn o.0 (e ∙ sym o.1))

pub finish : Finish
finish u sound S k m hm s bytes size = (
  λ x. let o = opened_message u sound S k m hm s bytes size x.0 x.1 in (opened u s k (blocks_of u S) x.0, o.0, o.1),
  λ x.
      let n : List ℕ = x.0 in
      let hn : MessageOf u S k n = x.1 in
      let a : Right u (stream u n) (mark n) (blocks n) (last_size n) = right u sound n hn.bytes hn.some in
      let b : Right u s (mark n) (blocks n) (last_size n) = subst (λ (z : List ℕ). Right u z (mark n) (blocks n) (last_size n)) x.2 a in
      let c : Right u s k (blocks n) (last_size n) = subst (λ (z : ℕ). Right u s z (blocks n) (last_size n)) hn.marked b in
      (last_size n, subst (λ (z : ℕ). Right u s k z (last_size n)) (same_l u S k n hn) c),
)

pub laid_out : LaidOut
laid_out u sound m bytes some = record {
  blocks_at = λ i p h. let e : suc (pred i) ≡ i = omega arith in subst (λ (n : ℕ). block_in (stream u m) (spot u n) ≡ cipher_block u (x_at u m) n) e (block_in_lem u sound m bytes (pred i) (omega arith));
  checks_at = λ j p h. check_in u sound m j bytes p h;
  tag_at = tag_at u sound m bytes some;
}

-- which lengths are possible
fitting : (u : Frame) (S k r : ℕ) → Fitting u S k r → (m : List ℕ) × MessageOf u S k m
fitting u S k r f =
    let n : ℕ = 16 * pred (blocks_of u S) + r in
    let m : List ℕ = replicate n 0 in
    let long : length m ≡ n = length-replicate n 0 in
    let some = f.some in
    let least = f.least in
    let most = f.most in
    let le : r ≤ 16 = ⊎_elim (λ z. let a = z.1 in omega arith) (λ z. let a = z.1 in omega arith) f.kind in
    let pos : 1 ≤ length m = omega arith in
    let l : blocks m ≡ blocks_of u S = omega arith in
    let last : last_size m ≡ r = omega arith in (
      m,
      record {
        bytes = zeros n;
        some = pos;
        fits = omega arith;
        size = stream_length u m pos ∙ ap (λ (c : ℕ). 16 * tag_spot u c + tag_size u (last_size m)) l ∙ ap (λ (c : ℕ). 16 * tag_spot u (blocks_of u S) + tag_size u c) last ∙ sym f.size;
        marked = ⊎_elim (λ z. let a = z.1 in whole_mark m pos (omega arith) ∙ sym z.0) (λ z. let a = z.1 in short_mark m pos (omega arith) ∙ sym z.0) f.kind;
      },
    )

fits_message : (u : Frame) (S k : ℕ) (m : List ℕ) → MessageOf u S k m → Fitting u S k (last_size m)
fits_message u S k m hm =
    let e : blocks m ≡ blocks_of u S = same_l u S k m hm in
    let some = hm.some in
    let fits = hm.fits in
    let le : last_size m ≤ 16 = last_le m some in
    record {
      some = last_pos m some;
      kind = ⊎_elim (λ g. inr (sym hm.marked ∙ short_mark m some g, g)) (λ g. let w : last_size m ≡ 16 = omega arith in inl (sym hm.marked ∙ whole_mark m some w, w)) (cases_lt (last_size m) 16);
      least = omega arith;
      most = omega arith;
      size = sym hm.size ∙ stream_length u m some ∙ ap (λ (c : ℕ). 16 * tag_spot u c + tag_size u (last_size m)) e;
    }

pub possible : Possible
possible u S k = (λ x. fitting u S k x.0 x.1, λ x. (last_size x.0, fits_message u S k x.0 x.1))
