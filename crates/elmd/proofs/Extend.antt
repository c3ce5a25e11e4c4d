-- The checks hold exactly when the bytes begin the stream of a message; and what is released begins it.
use Rattle.std.proofs.Common.{◌≡◌, ℕ, zero, suc, pred, ◌+◌, ◌-◌, ◌*◌, ◌/◌, ◌%◌, ◌<◌, ◌≤◌, cond, eqb, List, [], ◌++◌, length, take, drop, sym, refl, ap, ◌∙◌, subst, ⊎_elim, append_assoc, le_refl, arith, length-append, length-drop, take-append-drop}
use native.Mathlib.Nat.{zero-div}
use Rattle.std.proofs.lemmas.Nat.{mul-le}
use lib.Bits.{bit_xor}
use Rattle.std.proofs.ByRecursion.{All-drop, All-append}
use Rattle.std.proofs.lemmas.List.{take_all}
use Rattle.std.proofs.lemmas.Bool.{cases_lt, cond-true, eq-eqb}
use Rattle.block.specs.Bytes.{bytes_of, padded, Bytes}
use Rattle.block.proofs.Laws.{xor_cancel}
use Rattle.block.proofs.Bytes.{length_bytes_of, number_back}
use Rattle.elmd.specs.Stream.{Frame, t_of, pow, part, block_at, blocks, out_mask, checks, check_spot, tag_spot, tag_size, w_at, cipher_block, check_block, place, places, tag_bytes, mark, x_at, stream}
use Rattle.cipher.specs.Meaning.{base}
use Rattle.elmd.specs.Opening.{blocks_of, block_in, w_r, x_r, p_r, released, Check, Checks}
use Rattle.elmd.specs.Laws.{Begins, Sound, MessageOf, Extends, Extension, Release}
use Rattle.elmd.proofs.Quo.{quo_back, quo_fits, quo_mono}
use Rattle.elmd.proofs.Rows.{part_at, block_at_lem, join_begins, join_same, begins_trans}
use Rattle.elmd.proofs.Bounds.{Small, x_at_small, check_small, padded_bytes, part_bytes, part_short}
use Rattle.block.proofs.Filling.{padded_length, padded_whole}
use Rattle.elmd.proofs.Lengths.{places_length, stream_length}
use Rattle.elmd.proofs.Agree.{same_places, inner_x_lem}
use Rattle.elmd.proofs.Recover.{front_block, stream_w, stream_p}
use Rattle.elmd.proofs.Padding.{inner_part, parts_join}
use Rattle.elmd.proofs.Injective.{same_l}
use Rattle.elmd.proofs.Front.{bytes_of_bytes, block_of, x_small, p_small, again}

pub places_begin : (u : Frame) (m : List ℕ) (i : ℕ) → i < blocks m → Begins (places u (x_at u m) i) (stream u m)
unfolding stream
places_begin u m i h =
    let k : ℕ = pred (blocks m) in
    begins_trans (places u (x_at u m) i) (places u (x_at u m) k) (stream u m) (join_begins (place u (x_at u m)) i k (omega arith)) (bytes_of (cipher_block u (x_at u m) (blocks m)) ++ tag_bytes u m, refl)

-- at a multiple of t the check stands behind C
pub check_place : (u : Frame) (x : ℕ → ℕ) (i j : ℕ) → suc i ≡ j * t_of u → suc i / t_of u ≡ j → place u x (suc i) ≡ bytes_of (cipher_block u x (suc i)) ++ bytes_of (check_block u x j)
check_place u x i j e q =
    let t : ℕ = t_of u in
    let c : List ℕ = bytes_of (cipher_block u x (suc i)) in
    let m : suc i / t * t ≡ suc i = ap (λ (n : ℕ). n * t) q ∙ sym e in
    ap (λ (z : List ℕ). c ++ z) (cond-true (eqb (suc i / t * t) (suc i)) (bytes_of (check_block u x (suc i / t))) [] (eq-eqb (suc i / t * t) (suc i) m)) ∙ ap (λ (n : ℕ). c ++ bytes_of (check_block u x n)) q

times_pos : (j t a : ℕ) → 1 ≤ j → j ≤ a / t → 0 < j * t
times_pos j t a p h = ⊎_elim (λ z. let q = quo_back j t a h in let e : j * t ≡ 0 = omega arith in let w : j ≡ 0 = sym q ∙ ap (λ (n : ℕ). n / t) e ∙ zero-div t in omega arith) (λ z. z) (cases_lt (j * t) 1)

-- the part of a stream before check j, and the check
module _ (u : Frame) (x : ℕ → ℕ) (i j : ℕ) (e : suc i ≡ j * t_of u) (q : suc i / t_of u ≡ j) where
  abbrev before : List ℕ
  before = places u x i ++ bytes_of (cipher_block u x (suc i))

  check_cut : places u x (suc i) ≡ before ++ bytes_of (check_block u x j)
  check_cut =
      ap (λ (z : List ℕ). places u x i ++ z) (check_place u x i j e q)
      ∙ sym (append_assoc (places u x i) (bytes_of (cipher_block u x (suc i))) (bytes_of (check_block u x j)))

  before_length : length before ≡ 16 * check_spot u j
  before_length =
      let whole : length (places u x (suc i)) ≡ 16 * (suc i + suc i / t_of u) = places_length u x (suc i) in
      let parted : length (places u x (suc i)) ≡ length before + length (bytes_of (check_block u x j)) = ap length check_cut ∙ length-append before (bytes_of (check_block u x j)) in
      let k = length_bytes_of (check_block u x j) in
      omega arith

  check_read : (s : List ℕ) → Small (check_block u x j) → Begins (places u x (suc i)) s → block_in s (check_spot u j) ≡ check_block u x j
  check_read s small (rest, g) =
      let k : List ℕ = bytes_of (check_block u x j) in
      let cut : s ≡ before ++ (k ++ rest) = sym g ∙ ap (λ (z : List ℕ). z ++ rest) check_cut ∙ append_assoc before k rest in
      ap (λ (z : List ℕ). block_in z (check_spot u j)) cut ∙ block_at_lem before rest (check_spot u j) (check_block u x j) before_length small

pub check_in : (u : Frame) → Sound u → (m : List ℕ) (j : ℕ) → Bytes m → 1 ≤ j → j ≤ checks u (blocks m) → block_in (stream u m) (check_spot u j) ≡ check_block u (x_at u m) j
check_in u sound m j bytes p h =
    let t : ℕ = t_of u in
    let pos : 0 < j * t = times_pos j t (pred (blocks m)) p h in
    let fits : j * t ≤ pred (blocks m) = quo_fits j t (pred (blocks m)) h in
    let e : suc (pred (j * t)) ≡ j * t = omega arith in
    let q : suc (pred (j * t)) / t ≡ j = ap (λ (n : ℕ). n / t) e ∙ quo_back j t (pred (blocks m)) h in
    check_read u (x_at u m) (pred (j * t)) j e q (stream u m) (check_small u sound (x_at u m) (λ n. x_at_small u sound m bytes (suc n)) j) (places_begin u m (suc (pred (j * t))) (omega arith))

-- the bytes through block i give W[i]
pub front_w : (u : Frame) → Sound u → (m s : List ℕ) (i : ℕ) → Bytes m → Begins s (stream u m) → i < blocks m → 16 * (i + i / t_of u) ≤ length s → w_r u s i ≡ w_at u (x_at u m) i
front_w u sound m s zero bytes b h l = refl
front_w u sound m s (suc i) bytes b h l = let q = quo_mono i (suc i) (t_of u) (omega arith) in stream_w u sound m s bytes b i (omega arith) (omega arith)

-- a message keeps its checks
pub checks_hold : (u : Frame) → Sound u → (m s : List ℕ) (j : ℕ) → Bytes m → 1 ≤ length m → j ≤ checks u (blocks m) → 16 * (j * t_of u + j) ≤ length s → Begins s (stream u m) → Checks u s j
unfolding Check check_block
checks_hold u sound m s j bytes some h l b c p q =
    let t : ℕ = t_of u in
    let less : c * t ≤ j * t = mul-le c t j t q (le_refl t) in
    let fits : j * t ≤ pred (blocks m) = quo_fits j t (pred (blocks m)) h in
    let back : c * t / t ≡ c = quo_back c t (pred (blocks m)) (omega arith) in
    let w : w_r u s (c * t) ≡ w_at u (x_at u m) (c * t) = front_w u sound m s (c * t) bytes b (omega arith) (omega arith) in
    front_block s (stream u m) (check_spot u c) b (omega arith) ∙ check_in u sound m c bytes p (omega arith)
    ∙ ap (λ (z : ℕ). bit_xor (u.cipher.dec z) (out_mask u (check_spot u c))) (sym w)

pub message_bytes : (u : Frame) (s : List ℕ) (i : ℕ) → Bytes (released u s i)
message_bytes u s zero = tt
message_bytes u s (suc i) = All-append (λ b. b < 256) (released u s i) (bytes_of (p_r u s (suc i))) (message_bytes u s i) (bytes_of_bytes (p_r u s (suc i)))

pub message_length : (u : Frame) (s : List ℕ) (i : ℕ) → length (released u s i) ≡ 16 * i
message_length u s zero = refl
message_length u s (suc i) = let a = message_length u s i in simp (length-append, length_bytes_of) (omega arith)

-- any message that begins with what is released has its blocks, and so its encrypted blocks
module _ (u : Frame) (sound : Sound u) (s : List ℕ) (bytes : Bytes s) (i : ℕ) (rest : List ℕ) where
  pub new_block : (k : ℕ) → k < i → block_at (released u s i ++ rest) (suc k) ≡ p_r u s (suc k)
  new_block k h =
      let b = join_begins (λ n. bytes_of (p_r u s n)) (suc k) i (omega arith) in
      let cut : released u s i ++ rest ≡ released u s k ++ (bytes_of (p_r u s (suc k)) ++ (b.0 ++ rest)) = ap (λ (z : List ℕ). z ++ rest) (sym b.1) ∙ simp append_assoc in
      block_of (released u s i ++ rest) (suc k) (p_r u s (suc k)) (ap (λ (z : List ℕ). part z (suc k)) cut ∙ part_at (released u s k) (bytes_of (p_r u s (suc k))) (b.0 ++ rest) (16 * k) (message_length u s k) (length_bytes_of (p_r u s (suc k)))) (p_small s bytes u sound (suc k))

  pub new_x : i < blocks (released u s i ++ rest) → (k : ℕ) → k < i → x_at u (released u s i ++ rest) (suc k) ≡ x_r u s (suc k)
  unfolding p_r
  new_x l k h =
      let m : List ℕ = released u s i ++ rest in
      let o : ℕ = pow k (base u.cipher) in
      inner_x_lem u m (suc k) (omega arith) ∙ ap (λ (z : ℕ). u.cipher.enc (bit_xor z o)) (new_block k h)
      ∙ ap u.cipher.enc (xor_cancel (u.cipher.dec (x_r u s (suc k))) o) ∙ sound.lawful.enc_dec (x_r u s (suc k)) (x_small s bytes u sound (suc k))

  new_stream : i < blocks (released u s i ++ rest) → length s ≡ 16 * (i + i / t_of u) → Checks u s (i / t_of u) → Begins s (stream u (released u s i ++ rest))
  new_stream h l c =
      let n : List ℕ = released u s i ++ rest in
      let same : places u (x_at u n) i ≡ s =
      same_places u (x_at u n) (x_r u s) i (new_x h) ∙ again s bytes u sound i (omega arith) c ∙ take_all (16 * (i + i / t_of u)) s (omega arith) in
      subst (λ (z : List ℕ). Begins z (stream u n)) same (places_begin u n i h)

pub length_size : (u : Frame) (m n : List ℕ) → length m ≡ length n → 1 ≤ length m → length (stream u m) ≡ length (stream u n)
length_size u m n e h =
    stream_length u m h ∙ ap (λ (c : ℕ). 16 * tag_spot u ((c + 15) / 16) + tag_size u (c - 16 * pred ((c + 15) / 16))) e ∙ sym (stream_length u n (omega arith))

pub length_mark : (m n : List ℕ) → length m ≡ length n → mark m ≡ mark n
unfolding mark
length_mark m n e = ap (λ (c : ℕ). cond (eqb (c % 16) 0) 1 0) e

extends : (u : Frame) → Sound u → (S k : ℕ) (m : List ℕ) → MessageOf u S k m → (j : ℕ) (s : List ℕ) → Bytes s → j ≤ checks u (blocks m) → length s ≡ 16 * (j * t_of u + j) → Checks u s j → Extends u S k s
extends u sound S k m hm j s bytes h l c =
    let t : ℕ = t_of u in
    let i : ℕ = j * t in
    let some = hm.some in
    let fits : i ≤ pred (blocks m) = quo_fits j t (pred (blocks m)) h in
    let q : i / t ≡ j = quo_back j t (pred (blocks m)) h in
    let rest : List ℕ = drop (16 * i) m in
    let n : List ℕ = released u s i ++ rest in
    let size : length n ≡ length m = let a = message_length u s i in simp (length-append, length-drop) (omega arith) in
    let message : MessageOf u S k n = record {
      bytes = All-append (λ b. b < 256) (released u s i) rest (message_bytes u s i) (All-drop (λ b. b < 256) (16 * i) m hm.bytes);
      some = omega arith;
      fits = let f = hm.fits in omega arith;
      size = length_size u n m size (omega arith) ∙ hm.size;
      marked = length_mark n m size ∙ hm.marked;
    } in
    (n, message, new_stream u sound s bytes i rest (omega arith) (omega arith) (λ a p r. c a p (omega arith)))

pub extension : Extension
extension u sound S k m hm j s bytes h l =
    let e : blocks m ≡ blocks_of u S = same_l u S k m hm in
    let j-fits : j ≤ checks u (blocks m) = rw e h in (
      extends u sound S k m hm j s bytes j-fits l,
      λ x. let n-fits : j ≤ checks u (blocks x.0) = rw (same_l u S k x.0 x.1) h in
          checks_hold u sound x.0 s j x.1.bytes x.1.some n-fits (omega arith) x.2,
    )

-- a whole block is what its number's bytes are
pub whole_part : (m : List ℕ) (i : ℕ) → Bytes m → suc i < blocks m → bytes_of (block_at m (suc i)) ≡ part m (suc i)
unfolding block_at
whole_part m i h l =
    number_back (padded (part m (suc i))) (padded_length (part m (suc i)) (part_short m (suc i))) (padded_bytes (part m (suc i)) (part_bytes m (suc i) h)) ∙ padded_whole (part m (suc i)) (inner_part m i l)

pub released_is : (u : Frame) → Sound u → (m s : List ℕ) (i : ℕ) → Bytes m → Begins s (stream u m) → i < blocks m → 16 * (i + i / t_of u) ≤ length s → released u s i ≡ take (16 * i) m
released_is u sound m s i bytes b h l =
    join_same (λ n. bytes_of (p_r u s n)) (part m) i (λ k g.
    let q = quo_mono k i (t_of u) (omega arith) in
    ap bytes_of (stream_p u sound m s bytes b k (omega arith) (omega arith)) ∙ whole_part m k bytes (omega arith))
    ∙ parts_join m i

pub release : Release
release u sound S k m hm j s h l b =
    let t : ℕ = t_of u in
    let j-fits : j ≤ checks u (blocks m) = rw (same_l u S k m hm) h in
    let fits : j * t ≤ pred (blocks m) = quo_fits j t (pred (blocks m)) j-fits in
    let back : j * t / t ≡ j = quo_back j t (pred (blocks m)) j-fits in
    let some = hm.some in
    let e = released_is u sound m s (j * t) hm.bytes b (omega arith) (omega arith) in
    (drop (16 * (j * t)) m, ap (λ (z : List ℕ). z ++ drop (16 * (j * t)) m) e ∙ take-append-drop (16 * (j * t)) m)
