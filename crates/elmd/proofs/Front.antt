-- The row that the bytes of a stream give back, sealed again.
use Rattle.std.proofs.Common.{◌≡◌, ℕ, zero, suc, pred, ◌+◌, ◌*◌, ◌/◌, ◌<◌, ◌≤◌, eqb, List, [], ◌++◌, length, take, drop, sym, refl, ap, ◌∙◌, append_assoc, lt_of_lt_of_le, arith, lit<, length-drop, length-take, take-add, pow_mono}
use native.Mathlib.Nat.{zero-div}
use lib.Bits.{bit_xor, xor_assoc, xor_comm}
use Rattle.std.proofs.ByRecursion.{All-take, All-drop}
use Rattle.std.proofs.lemmas.List.{append-nil}
use Rattle.std.proofs.lemmas.Bool.{cond_both, eqb-true, eqb-false}
use Rattle.block.specs.Field.{dbl, three}
use Rattle.block.specs.Bytes.{bytes_by, bytes_of, of_bytes, padded, Bytes}
use Rattle.block.proofs.Laws.{xor_cancel, three_lt}
use Rattle.block.proofs.Filling.{padded_whole}
use Rattle.block.proofs.Bytes.{of_bytes_lt, number_back, bytes_number_back, length_bytes_of}
use Rattle.elmd.specs.Stream.{Frame, t_of, pow, part, block_at, out_mask, spot, check_spot, w_at, y_at, cipher_block, check_block, places}
use Rattle.cipher.specs.Meaning.{base}
use Rattle.elmd.specs.Opening.{block_in, y_r, w_r, x_r, p_r, Check, Checks}
use Rattle.elmd.specs.Laws.{Sound}
use Rattle.elmd.proofs.Rows.{xor_cancel_left}
use Rattle.elmd.proofs.Quo.{due, not_due, quo_mono}
use Rattle.elmd.proofs.Bounds.{Small, xor_small, enc_small, dec_small, out_mask_small, mask_small, iv_small}

bytes_by_bytes : (k n : ℕ) → Bytes (bytes_by k n)
bytes_by_bytes zero n = tt
bytes_by_bytes (suc k) n = (omega arith, bytes_by_bytes k n)

pub bytes_of_bytes : (n : ℕ) → Bytes (bytes_of n)
unfolding bytes_of
bytes_of_bytes n = bytes_by_bytes 16 n

pub block_of : (m : List ℕ) (i v : ℕ) → part m i ≡ bytes_of v → Small v → block_at m i ≡ v
unfolding block_at
block_of m i v e h = ap (λ (p : List ℕ). of_bytes (padded p)) e ∙ ap of_bytes (padded_whole (bytes_of v) (length_bytes_of v)) ∙ bytes_number_back v h

module _ (s : List ℕ) (bytes : Bytes s) where
  cut_bytes : (e : ℕ) → Bytes (take 16 (drop (16 * e) s))
  cut_bytes e = All-take (λ b. b < 256) 16 (drop (16 * e) s) (All-drop (λ b. b < 256) (16 * e) s bytes)

  pub in_small : (e : ℕ) → Small (block_in s e)
  unfolding block_in
  in_small e =
      let p : List ℕ = take 16 (drop (16 * e) s) in
      let l : 8 * length p ≤ 128 = simp length-take (omega arith) in
      lt_of_lt_of_le (of_bytes_lt p (cut_bytes e)) (pow_mono l)

  pub in_bytes : (e : ℕ) → 16 * suc e ≤ length s → bytes_of (block_in s e) ≡ take 16 (drop (16 * e) s)
  unfolding block_in
  in_bytes e h = number_back (take 16 (drop (16 * e) s)) (simp (length-take, length-drop) (omega arith)) (cut_bytes e)

  -- what stands to 16 * e, with the block behind it
  pub grow : (e : ℕ) → 16 * suc e ≤ length s → take (16 * e) s ++ bytes_of (block_in s e) ≡ take (16 * suc e) s
  grow e h =
      let n : 16 * suc e ≡ 16 * e + 16 = omega arith in
      ap (λ (z : List ℕ). take (16 * e) s ++ z) (in_bytes e h) ∙ sym (take-add (16 * e) 16 s) ∙ ap (λ (k : ℕ). take k s) (sym n)

  module _ (u : Frame) (sound : Sound u) where
    masked_small : (e : ℕ) → Small (bit_xor (block_in s e) (out_mask u e))
    masked_small e = xor_small (block_in s e) (out_mask u e) (in_small e) (out_mask_small u sound e)

    pub y_small : (i : ℕ) → Small (y_r u s i)
    unfolding y_r
    y_small i = enc_small u sound (bit_xor (block_in s (spot u i)) (out_mask u (spot u i))) (masked_small (spot u i))

    pub w_small : (i : ℕ) → Small (w_r u s i)
    w_small zero = iv_small u sound
    w_small (suc i) = xor_small (y_r u s (suc i)) (w_r u s i) (y_small (suc i)) (w_small i)

    pub x_small : (i : ℕ) → Small (x_r u s i)
    x_small zero = lit< tt
    x_small (suc i) = xor_small (y_r u s (suc i)) (three (w_r u s i)) (y_small (suc i)) (three_lt (w_r u s i) (w_small i))

    pub p_small : (i : ℕ) → Small (p_r u s i)
    unfolding p_r
    p_small i = xor_small (u.cipher.dec (x_r u s i)) (pow (pred i) (base u.cipher)) (dec_small u sound (x_r u s i) (x_small i)) (mask_small u sound (pred i))

    pub again_w : (i : ℕ) → w_at u (x_r u s) i ≡ w_r u s i
    again_w zero = refl
    again_w (suc i) =
        let w : ℕ = w_r u s i in
        let a : w_at u (x_r u s) i ≡ w = again_w i in
        let t3 : bit_xor (three w) (dbl w) ≡ w = xor_comm (three w) (dbl w) ∙ xor_cancel_left (dbl w) w in
        let c : bit_xor (bit_xor (y_r u s (suc i)) (three w)) (dbl w) ≡ bit_xor (y_r u s (suc i)) w = xor_assoc (y_r u s (suc i)) (three w) (dbl w) ∙ ap (bit_xor (y_r u s (suc i))) t3 in
        cc

    pub again_y : (i : ℕ) → y_at u (x_r u s) (suc i) ≡ y_r u s (suc i)
    again_y i =
        let w : ℕ = w_r u s i in
        let a : w_at u (x_r u s) i ≡ w = again_w i in
        let c : bit_xor (bit_xor (y_r u s (suc i)) (three w)) (three w) ≡ y_r u s (suc i) = xor_cancel (y_r u s (suc i)) (three w) in
        cc

    pub again_c : (i : ℕ) → cipher_block u (x_r u s) (suc i) ≡ block_in s (spot u (suc i))
    unfolding cipher_block y_r
    again_c i =
        let e : ℕ = spot u (suc i) in
        let o : ℕ = out_mask u e in
        let b : ℕ = block_in s e in
        ap (λ (z : ℕ). bit_xor (u.cipher.dec z) o) (again_y i) ∙ ap (λ (z : ℕ). bit_xor z o) (sound.lawful.dec_enc (bit_xor b o) (masked_small e)) ∙ xor_cancel b o

    pub again_check : (j : ℕ) → Check u s j → check_block u (x_r u s) j ≡ block_in s (check_spot u j)
    unfolding check_block Check
    again_check j h = ap (λ (z : ℕ). bit_xor (u.cipher.dec z) (out_mask u (check_spot u j))) (again_w (j * t_of u)) ∙ sym h

    pub again : (i : ℕ) → 16 * (i + i / t_of u) ≤ length s → Checks u s (i / t_of u) → places u (x_r u s) i ≡ take (16 * (i + i / t_of u)) s
    again zero l h = let z = zero-div (t_of u) in let e : 0 ≡ 0 + 0 / t_of u = omega arith in ap (λ (n : ℕ). take (16 * n) s) e
    again (suc i) l h =
        let t : ℕ = t_of u in
        let x : ℕ → ℕ = x_r u s in
        let e : ℕ = i + i / t in
        let q = quo_mono i (suc i) t (omega arith) in
        let before : places u x i ≡ take (16 * e) s = again i (omega arith) (λ c a b. h c a (omega arith)) in
        let c : List ℕ = bytes_of (cipher_block u x (suc i)) in
        let k : List ℕ = bytes_of (check_block u x (suc i / t)) in
        let here : places u x i ++ c ≡ take (16 * suc e) s = ap (λ (z : List ℕ). z ++ c) before ∙ ap (λ (z : ℕ). take (16 * e) s ++ bytes_of z) (again_c i) ∙ grow e (omega arith) in
        cond_both (eqb (suc i / t * t) (suc i)) k [] (λ (v : List ℕ). places u x i ++ (c ++ v) ≡ take (16 * (suc i + suc i / t)) s)
        (λ g.
        let multiple : suc i / t * t ≡ suc i = eqb-true (suc i / t * t) (suc i) g in
        let d : suc i / t ≡ suc (i / t) = due i t multiple in
        let at : check_spot u (suc i / t) ≡ suc e = omega arith in
        let check : check_block u x (suc i / t) ≡ block_in s (suc e) = again_check (suc i / t) (h (suc i / t) (omega arith) (omega arith)) ∙ ap (block_in s) at in
        let end : suc (suc e) ≡ suc i + suc i / t = omega arith in
        sym (append_assoc (places u x i) c k) ∙ ap (λ (z : List ℕ). z ++ k) here ∙ ap (λ (z : ℕ). take (16 * suc e) s ++ bytes_of z) check ∙ grow (suc e) (omega arith) ∙ ap (λ (n : ℕ). take (16 * n) s) end)
        (λ g.
        let d : suc i / t ≡ i / t = not_due i t (eqb-false (suc i / t * t) (suc i) g) in
        let end : suc e ≡ suc i + suc i / t = omega arith in
        ap (λ (z : List ℕ). places u x i ++ z) (append-nil c) ∙ here ∙ ap (λ (n : ℕ). take (16 * n) s) end)
