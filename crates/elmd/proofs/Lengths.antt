-- How long the parts of a stream are.
use Rattle.std.proofs.Common.{◌≡◌, ℕ, zero, suc, pred, ◌+◌, ◌*◌, ◌/◌, ◌%◌, ◌≤◌, eqb, ◌⊎◌, List, [], ◌++◌, length, get_or, ap, ◌∙◌, inl, inr, ⊎_elim, arith, length-append, length-take}
use native.Mathlib.Nat.{zero-div, div-zero}
use Rattle.std.proofs.lemmas.Bool.{cond_both, cond-true, cond-false, eqb-true, eqb-false, eq-eqb, ne_eqb, cases_lt, cases_eq}
use Rattle.block.specs.Bytes.{bytes_of}
use Rattle.block.proofs.Bytes.{length_bytes_of}
use Rattle.elmd.specs.Stream.{Frame, t_of, f_of, blocks, tag_spot, cipher_block, check_block, places, tag_size, last_size, x_at, stream}
use Rattle.elmd.specs.Opening.{full, blocks_of}
use Rattle.elmd.specs.Laws.{StreamLength, PlacesLength}
use Rattle.elmd.proofs.Quo.{due, not_due, quo_more}

pub places_length : PlacesLength
places_length u x zero = let z = zero-div (t_of u) in omega arith
places_length u x (suc i) =
    let t : ℕ = t_of u in
    let c : List ℕ = bytes_of (cipher_block u x (suc i)) in
    let k : List ℕ = bytes_of (check_block u x (suc i / t)) in
    let before : length (places u x i) ≡ 16 * (i + i / t) = places_length u x i in
    cond_both (eqb (suc i / t * t) (suc i)) k [] (λ (v : List ℕ). length (places u x i ++ (c ++ v)) ≡ 16 * (suc i + suc i / t))
    (λ e. let d = due i t (eqb-true (suc i / t * t) (suc i) e) in simp (length-append, length_bytes_of) (omega arith))
    (λ e. let d = not_due i t (eqb-false (suc i / t * t) (suc i) e) in simp (length-append, length_bytes_of) (omega arith))

pub f_cases : (u : Frame) → (f_of u ≡ 0) ⊎ (f_of u ≡ 1)
unfolding f_of
f_cases u = ⊎_elim (λ h. inl (omega arith)) (λ h. inr (omega arith)) (cases_lt (get_or u.settings 3 0 % 2) 1)

pub size_short : (u : Frame) (r : ℕ) → f_of u ≡ 1 → tag_size u r ≡ r
unfolding tag_size
size_short u r e = cond-true (eqb (f_of u) 1) r 16 (eq-eqb (f_of u) 1 e)

pub size_whole : (u : Frame) (r : ℕ) → f_of u ≡ 0 → tag_size u r ≡ 16
unfolding tag_size
size_whole u r e = cond-false (eqb (f_of u) 1) r 16 (ne_eqb (f_of u) 1 (omega arith))

pub size_range : (u : Frame) (r : ℕ) → 1 ≤ r → r ≤ 16 → (1 ≤ tag_size u r) × (tag_size u r ≤ 16)
size_range u r a b = ⊎_elim (λ e. let z = size_whole u r e in (omega arith, omega arith)) (λ e. let z = size_short u r e in (omega arith, omega arith)) (f_cases u)

-- the last block
module _ (m : List ℕ) (some : 1 ≤ length m) where
  pub l_pos : suc (pred (blocks m)) ≡ blocks m
  l_pos = omega arith

  pub last_pos : 1 ≤ last_size m
  last_pos = omega arith

  pub last_le : last_size m ≤ 16
  last_le = omega arith

  pub last_sum : 16 * pred (blocks m) + last_size m ≡ length m
  last_sum = omega arith

pub stream_length : (u : Frame) (m : List ℕ) → 1 ≤ length m → length (stream u m) ≡ 16 * tag_spot u (blocks m) + tag_size u (last_size m)
unfolding stream
stream_length u m h =
    let p = places_length u (x_at u m) (pred (blocks m)) in
    let r = size_range u (last_size m) (last_pos m h) (last_le m h) in
    let e = l_pos m h in
    simp (length-append, length-take, length_bytes_of) (omega arith)

upto : (n c : ℕ) → 1 ≤ c → c ≤ 16 → full (16 * n + c) ≡ n
upto n c q r = omega arith

pub blocks_back : (u : Frame) (l c : ℕ) → 1 ≤ l → 1 ≤ c → c ≤ 16 → blocks_of u (16 * tag_spot u l + c) ≡ l
unfolding blocks_of
blocks_back u l c p q r =
    let t : ℕ = t_of u in
    let h : ℕ = pred l / t in
    let e : full (16 * (l + h) + c) ≡ l + h = upto (l + h) c q r in
    let g : pred (l + h) ≡ pred l + h = omega arith in
    rw (e, g) (⊎_elim
    (λ z. let w : pred l / t ≡ 0 = ap (λ (n : ℕ). pred l / n) z ∙ div-zero (pred l) in rw (cond-true (eqb t 0) 0 ((pred l + h) / suc t) (eq-eqb t 0 z)) (omega arith))
    (λ n. rw (cond-false (eqb t 0) 0 ((pred l + h) / suc t) (ne_eqb t 0 n), quo_more (pred l) t (omega arith)) (omega arith))
    (cases_eq t 0))

pub lengths : StreamLength
lengths u m h = record {
  short_tag = λ e. let a = size_short u (last_size m) e in let b = stream_length u m h in omega arith;
  whole_tag = λ e. let a = size_whole u (last_size m) e in let b = stream_length u m h in omega arith;
  back = let r = size_range u (last_size m) (last_pos m h) (last_le m h) in rw (stream_length u m h) (blocks_back u (blocks m) (tag_size u (last_size m)) (omega arith) r.0 r.1);
}
