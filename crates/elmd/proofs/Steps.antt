-- The steps of a program that seals or opens.
use Rattle.std.proofs.Common.{◌≡◌, ℕ, zero, suc, pred, ◌+◌, ◌*◌, ◌/◌, ◌<◌, ◌≤◌, eqb, List, [], ◌++◌, length, take, sym, refl, ap, ◌∙◌, suc-mul, mul-zero, arith, length-take}
use lib.Bits.{bit_xor}
use Rattle.std.proofs.lemmas.List.{take-append-le, append-nil}
use Rattle.std.proofs.lemmas.Nat.{div-mul-add}
use Rattle.std.proofs.lemmas.Bool.{cond-false, ne_eqb}
use Rattle.block.specs.Field.{dbl, three}
use Rattle.block.specs.Bytes.{bytes_of}
use Rattle.elmd.specs.Stream.{Frame, t_of, pow, block_at, blocks, spot, tag_spot, in_mask, out_mask, sum_to, w_at, cipher_block, check_block, tag_block, place, places, tag_size, last_size, mark, x_at, stream}
use Rattle.cipher.specs.Meaning.{base}
use Rattle.elmd.specs.Opening.{y_r, w_r, x_r, p_r}
use Rattle.elmd.specs.Laws.{Begins, inner_x, Absorbing, Placing, last_x, last_c, Ending, Growing, OneEnd}
use Rattle.elmd.proofs.Quo.{quo_mono}
use Rattle.elmd.proofs.Rows.{sum_same, join_same}
use Rattle.elmd.proofs.Agree.{Same, same_w, same_places, same_block, streaming}
use Rattle.elmd.proofs.Recover.{front_block}
use Rattle.elmd.proofs.Padding.{pad_same}
use Rattle.elmd.proofs.Injective.{outer_x}
use Rattle.elmd.proofs.Extend.{check_place}

pub absorbing : Absorbing
absorbing u a m i (rest, g) h =
    let e : take (16 * i) a ≡ take (16 * i) m = sym (take-append-le (16 * i) a rest h) ∙ ap (take (16 * i)) g in
    let b : (k : ℕ) → k < i → block_at a (suc k) ≡ block_at m (suc k) = λ k l. same_block a m k i l e in
    let x : Same (inner_x u a) (inner_x u m) i = λ k l. ap (λ (z : ℕ). u.cipher.enc (bit_xor z (pow k (base u.cipher)))) (b k l) in
    (same_places u (inner_x u a) (inner_x u m) i x, same_w u (inner_x u a) (inner_x u m) i x, sum_same (block_at a) (block_at m) i b)

bare_place : (u : Frame) (x : ℕ → ℕ) (i : ℕ) → (suc i / t_of u * t_of u ≡ suc i → ⊥) → place u x (suc i) ≡ bytes_of (cipher_block u x (suc i))
bare_place u x i n =
    let t : ℕ = t_of u in
    let c : List ℕ = bytes_of (cipher_block u x (suc i)) in
    ap (λ (z : List ℕ). c ++ z) (cond-false (eqb (suc i / t * t) (suc i)) (bytes_of (check_block u x (suc i / t))) [] (ne_eqb (suc i / t * t) (suc i) n)) ∙ append-nil c

pub placing : Placing
placing u x q c i e = record {
  never = λ z. bare_place u x i (λ g. let a : suc i / t_of u * t_of u ≡ 0 = ap (λ (n : ℕ). suc i / t_of u * n) z ∙ mul-zero (suc i / t_of u) in omega arith);
  between = λ l.
      let a : suc i / t_of u ≡ q = (let g : suc i ≡ q * t_of u + suc c = omega arith in ap (λ (n : ℕ). n / t_of u) g ∙ div-mul-add q (t_of u) (suc c) l) in
      bare_place u x i (λ g. let b : suc i / t_of u * t_of u ≡ q * t_of u = ap (λ (n : ℕ). n * t_of u) a in omega arith);
  due = λ l.
      let m : suc q * t_of u ≡ q * t_of u + t_of u = suc-mul q (t_of u) in
      let g : suc i ≡ suc q * t_of u = omega arith in
      let z : suc q * t_of u + 0 ≡ suc i = omega arith in
      check_place u x i (suc q) g (ap (λ (n : ℕ). n / t_of u) (sym z) ∙ div-mul-add (suc q) (t_of u) 0 (omega arith));
}

ending_x : (u : Frame) (m : List ℕ) (p i : ℕ) → blocks m ≡ suc p → suc p ≤ i → x_at u m i ≡ last_x u (mark m) p (sum_to (block_at m) (suc p)) i
ending_x u m p i e h = outer_x u m i (omega arith) ∙ ap (λ (l : ℕ). u.cipher.enc (bit_xor (sum_to (block_at m) l) (in_mask u l (mark m) i))) e

pub ending : Ending
unfolding stream cipher_block tag_block
ending u m p e =
    let w : ℕ = w_at u (inner_x u m) p in
    let a : ℕ = sum_to (block_at m) (suc p) in
    let same = streaming u m p (omega arith) in
    let ew : w_at u (x_at u m) p ≡ w = same.1 in
    let x1 : x_at u m (suc p) ≡ last_x u (mark m) p a (suc p) = ending_x u m p (suc p) e (omega arith) in
    let x2 : x_at u m (suc (suc p)) ≡ last_x u (mark m) p a (suc (suc p)) = ending_x u m p (suc (suc p)) e (omega arith) in
    ap (λ (l : ℕ). places u (x_at u m) (pred l) ++ (bytes_of (cipher_block u (x_at u m) l) ++ take (tag_size u (last_size m)) (bytes_of (tag_block u (x_at u m) l)))) e
    ∙ ap (λ (z : List ℕ). z ++ (bytes_of (cipher_block u (x_at u m) (suc p)) ++ take (tag_size u (last_size m)) (bytes_of (tag_block u (x_at u m) (suc p))))) same.0
    ∙ ap (λ (z : ℕ). places u (inner_x u m) p ++ (bytes_of (bit_xor (u.cipher.dec (bit_xor (x_at u m (suc p)) (three z))) (out_mask u (spot u (suc p)))) ++ take (tag_size u (last_size m)) (bytes_of (bit_xor (u.cipher.dec (bit_xor (bit_xor (x_at u m (suc (suc p))) (three (bit_xor (x_at u m (suc p)) (dbl z)))) 1)) (out_mask u (tag_spot u (suc p))))))) ew
    ∙ ap (λ (z : ℕ). places u (inner_x u m) p ++ (bytes_of (bit_xor (u.cipher.dec (bit_xor z (three w))) (out_mask u (spot u (suc p)))) ++ take (tag_size u (last_size m)) (bytes_of (bit_xor (u.cipher.dec (bit_xor (bit_xor (x_at u m (suc (suc p))) (three (bit_xor z (dbl w)))) 1)) (out_mask u (tag_spot u (suc p))))))) x1
    ∙ ap (λ (z : ℕ). places u (inner_x u m) p ++ (bytes_of (last_c u (mark m) p w a) ++ take (tag_size u (last_size m)) (bytes_of (bit_xor (u.cipher.dec (bit_xor (bit_xor z (three (bit_xor (last_x u (mark m) p a (suc p)) (dbl w)))) 1)) (out_mask u (tag_spot u (suc p))))))) x2

module _ (u : Frame) (s b : List ℕ) (begins : Begins s b) where
  grown_y : (i : ℕ) → 16 * suc (spot u (suc i)) ≤ length s → y_r u s (suc i) ≡ y_r u b (suc i)
  unfolding y_r
  grown_y i h = ap (λ (z : ℕ). u.cipher.enc (bit_xor z (out_mask u (spot u (suc i))))) (front_block s b (spot u (suc i)) begins h)

  grown_w_r : (i : ℕ) → 16 * (i + i / t_of u) ≤ length s → w_r u s i ≡ w_r u b i
  grown_w_r zero h = refl
  grown_w_r (suc i) h =
      let q = quo_mono i (suc i) (t_of u) (omega arith) in
      let y = grown_y i (omega arith) in
      let w = grown_w_r i (omega arith) in
      cc

  grown_w_more : (i : ℕ) → 16 * suc (spot u (suc i)) ≤ length s → w_r u s (suc i) ≡ w_r u b (suc i)
  grown_w_more i h = let y = grown_y i h in let w = grown_w_r i (omega arith) in cc

  grown_x : (i : ℕ) → 16 * suc (spot u (suc i)) ≤ length s → x_r u s (suc i) ≡ x_r u b (suc i)
  grown_x i h = let y = grown_y i h in let w = grown_w_r i (omega arith) in cc

  grown_p : (i : ℕ) → 16 * suc (spot u (suc i)) ≤ length s → p_r u s (suc i) ≡ p_r u b (suc i)
  unfolding p_r
  grown_p i h = ap (λ (z : ℕ). bit_xor (u.cipher.dec z) (pow i (base u.cipher))) (grown_x i h)

pub growing : Growing
growing u s b begins = record {
  states = λ i h. (grown_w_r u s b begins i h, join_same (λ n. bytes_of (p_r u s n)) (λ n. bytes_of (p_r u b n)) i (λ k g. let q = quo_mono k i (t_of u) (omega arith) in ap bytes_of (grown_p u s b begins k (omega arith))));
  blocks_kept = λ i h. (grown_w_more u s b begins i h, grown_x u s b begins i h, grown_p u s b begins i h);
}

pub one_end : OneEnd
one_end v q r l hq hr eq er =
    let a : length (take q v) ≡ q = simp length-take (omega arith) in
    let b : length (take r v) ≡ r = simp length-take (omega arith) in
    let e : take q v ≡ take r v = pad_same (take q v) (take r v) (omega arith) (omega arith) (λ g. omega arith) (λ g. omega arith) (eq ∙ sym er) in
    sym a ∙ ap length e ∙ b
