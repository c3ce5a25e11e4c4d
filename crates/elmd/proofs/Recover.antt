-- What the bytes of a stream give back.
use Rattle.std.proofs.Common.{◌≡◌, ℕ, zero, suc, pred, ◌*◌, ◌/◌, ◌<◌, ◌≤◌, cond, eqb, List, [], ◌++◌, length, take, drop, sym, refl, ap, ◌∙◌, ⊎_elim, append_assoc, arith, length-drop}
use lib.Bits.{bit_xor, xor_assoc}
use Rattle.std.proofs.lemmas.Bool.{cases_lt}
use Rattle.std.proofs.lemmas.List.{take-append-le, drop-append-le}
use Rattle.block.specs.Field.{dbl, three}
use Rattle.block.specs.Bytes.{bytes_of, of_bytes, Bytes}
use Rattle.block.proofs.Laws.{xor_cancel}
use Rattle.elmd.specs.Stream.{Frame, t_of, pow, block_at, blocks, out_mask, spot, w_at, y_at, cipher_block, check_block, place, places, tag_bytes, x_at, stream}
use Rattle.cipher.specs.Meaning.{base}
use Rattle.elmd.specs.Opening.{block_in, y_r, w_r, x_r, p_r}
use Rattle.elmd.specs.Laws.{Begins, Sound, Recovery}
use Rattle.elmd.proofs.Rows.{block_at_lem, join_begins}
use Rattle.elmd.proofs.Bounds.{Small, mask_small, block_small, xor_small, x_at_small, y_at_small, c_small}
use Rattle.elmd.proofs.Quo.{quo_mono}
use Rattle.elmd.proofs.Lengths.{places_length}
use Rattle.elmd.proofs.Agree.{inner_x_lem}

-- a front of a stream has its blocks
pub front_block : (s b : List ℕ) (e : ℕ) → Begins s b → 16 * suc e ≤ length s → block_in s e ≡ block_in b e
unfolding block_in
front_block s b e (r, g) h =
    let n : ℕ = 16 * e in
    let a : drop n (s ++ r) ≡ drop n s ++ r = drop-append-le n s r (omega arith) in
    let l : 16 ≤ length (drop n s) = simp length-drop (omega arith) in
    let c : take 16 (drop n s ++ r) ≡ take 16 (drop n s) = take-append-le 16 (drop n s) r l in
    ap of_bytes (sym c ∙ ap (take 16) (sym a ∙ ap (drop n) g))

-- where C[k + 1] stands
pub stream_has : (u : Frame) (m : List ℕ) (k : ℕ) → k < blocks m → (rest : List ℕ) × (stream u m ≡ places u (x_at u m) k ++ (bytes_of (cipher_block u (x_at u m) (suc k)) ++ rest))
unfolding stream
stream_has u m k h =
    ⊎_elim
    (λ g.
    let x : ℕ → ℕ = x_at u m in
    let b = join_begins (place u x) (suc k) (pred (blocks m)) (omega arith) in
    let tail : List ℕ = bytes_of (cipher_block u x (blocks m)) ++ tag_bytes u m in
    let v : List ℕ = cond (eqb (suc k / t_of u * t_of u) (suc k)) (bytes_of (check_block u x (suc k / t_of u))) [] in
    (v ++ (b.0 ++ tail), ap (λ (z : List ℕ). z ++ tail) (sym b.1) ∙ simp append_assoc))
    (λ g.
    let e : blocks m ≡ suc k = omega arith in
    (tag_bytes u m, ap (λ (n : ℕ). places u (x_at u m) (pred n) ++ (bytes_of (cipher_block u (x_at u m) n) ++ tag_bytes u m)) e))
    (cases_lt (suc k) (blocks m))

module _ (u : Frame) (sound : Sound u) where
  pub back_y : (s : List ℕ) (x : ℕ → ℕ) (k : ℕ) → Small (y_at u x (suc k)) → block_in s (spot u (suc k)) ≡ cipher_block u x (suc k) → y_r u s (suc k) ≡ y_at u x (suc k)
  unfolding y_r cipher_block
  back_y s x k h e =
      let o : ℕ = out_mask u (spot u (suc k)) in
      ap u.cipher.enc (ap (λ (z : ℕ). bit_xor z o) e ∙ xor_cancel (u.cipher.dec (y_at u x (suc k))) o) ∙ sound.lawful.enc_dec (y_at u x (suc k)) h

  -- a row y gives the states of x where it gives the Y of x
  pub back_w : (s : List ℕ) (x : ℕ → ℕ) (i : ℕ) → ((k : ℕ) → k < i → y_r u s (suc k) ≡ y_at u x (suc k)) → w_r u s i ≡ w_at u x i
  back_w s x zero h = refl
  back_w s x (suc i) h =
      let w = w_at u x i in
      let a : w_r u s i ≡ w = back_w s x i (λ k l. h k (omega arith)) in
      let b : y_r u s (suc i) ≡ bit_xor (x (suc i)) (three w) = h i (omega arith) in
      let c : bit_xor (bit_xor (x (suc i)) (three w)) w ≡ bit_xor (x (suc i)) (dbl w) = rw (xor_assoc, xor_cancel) in
      cc

  pub back_x : (s : List ℕ) (x : ℕ → ℕ) (i : ℕ) → ((k : ℕ) → k < suc i → y_r u s (suc k) ≡ y_at u x (suc k)) → x_r u s (suc i) ≡ x (suc i)
  back_x s x i h =
      let w = w_at u x i in
      let a : w_r u s i ≡ w = back_w s x i (λ k l. h k (omega arith)) in
      let b : y_r u s (suc i) ≡ bit_xor (x (suc i)) (three w) = h i (omega arith) in
      let c : bit_xor (bit_xor (x (suc i)) (three w)) (three w) ≡ x (suc i) = xor_cancel (x (suc i)) (three w) in
      cc

  -- C[k + 1] is where it should be
  pub block_in_lem : (m : List ℕ) → Bytes m → (k : ℕ) → k < blocks m → block_in (stream u m) (spot u (suc k)) ≡ cipher_block u (x_at u m) (suc k)
  block_in_lem m bytes k h =
      let x : ℕ → ℕ = x_at u m in
      let has = stream_has u m k h in
      ap (λ (z : List ℕ). block_in z (spot u (suc k))) has.1
      ∙ block_at_lem (places u x k) has.0 (spot u (suc k)) (cipher_block u x (suc k)) (places_length u x k) (c_small u sound x (λ i. x_at_small u sound m bytes (suc i)) k)

  module _ (m s : List ℕ) (bytes : Bytes m) (begins : Begins s (stream u m)) where
    pub stream_y : (k : ℕ) → k < blocks m → 16 * suc (spot u (suc k)) ≤ length s → y_r u s (suc k) ≡ y_at u (x_at u m) (suc k)
    stream_y k h l =
        let x : ℕ → ℕ = x_at u m in
        let small : Small (y_at u x (suc k)) = y_at_small u sound x (λ i. x_at_small u sound m bytes (suc i)) k in
        back_y s x k small (front_block s (stream u m) (spot u (suc k)) begins l ∙ block_in_lem m bytes k h)

    pub stream_ys : (i : ℕ) → i < blocks m → 16 * suc (spot u (suc i)) ≤ length s → (k : ℕ) → k < suc i → y_r u s (suc k) ≡ y_at u (x_at u m) (suc k)
    stream_ys i h l k g = let d = quo_mono k i (t_of u) (omega arith) in stream_y k (omega arith) (omega arith)

    pub stream_w : (i : ℕ) → i < blocks m → 16 * suc (spot u (suc i)) ≤ length s → w_r u s (suc i) ≡ w_at u (x_at u m) (suc i)
    stream_w i h l = back_w s (x_at u m) (suc i) (stream_ys i h l)

    pub stream_x : (i : ℕ) → i < blocks m → 16 * suc (spot u (suc i)) ≤ length s → x_r u s (suc i) ≡ x_at u m (suc i)
    stream_x i h l = back_x s (x_at u m) i (stream_ys i h l)

    pub stream_p : (i : ℕ) → suc i < blocks m → 16 * suc (spot u (suc i)) ≤ length s → p_r u s (suc i) ≡ block_at m (suc i)
    unfolding p_r
    stream_p i h l =
        let o : ℕ = pow i (base u.cipher) in
        let b : ℕ = block_at m (suc i) in
        let e : x_r u s (suc i) ≡ u.cipher.enc (bit_xor b o) = stream_x i (omega arith) l ∙ inner_x_lem u m (suc i) h in
        let d = sound.lawful.dec_enc (bit_xor b o) (xor_small b o (block_small m (suc i) bytes) (mask_small u sound i)) in
        ap (λ (z : ℕ). bit_xor z o) (ap u.cipher.dec e ∙ d) ∙ xor_cancel b o

pub recovery : Recovery
recovery u sound m s zero bytes begins p h l = absurd (omega arith)
recovery u sound m s (suc i) bytes begins p h l = (stream_w u sound m s bytes begins i (omega arith) l, stream_p u sound m s bytes begins i h l)
