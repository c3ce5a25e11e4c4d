-- The chain of a heading that grows byte by byte.
use Rattle.std.proofs.Common.{◌≡◌, ℕ, zero, suc, pred, ◌+◌, ◌*◌, ◌/◌, ◌%◌, ◌≤◌, ltb, List, [], ◌∷◌, ◌++◌, length, take, drop, set, sym, refl, ap, ◌∙◌, subst, append_assoc, arith, length-append, length-set}
use lib.Bits.{bit_xor, xor_zero_r}
use Rattle.std.proofs.lemmas.List.{append-nil, take-append-le, take_more_set, take_all, drop-append-le, drop_all}
use Rattle.std.proofs.lemmas.Bool.{cond-true, cond-false, lt-ltb, le-ltb}
use Rattle.block.specs.Field.{dbl, three, seven}
use Rattle.block.specs.Bytes.{of_bytes, padded}
use Rattle.block.proofs.Filling.{padded_whole}
use Rattle.cipher.specs.Meaning.{base}
use Rattle.elmd.specs.declared.state.OpenHeading.{OpenHeading}
use Rattle.elmd.specs.Stream.{Frame, pow, block_at, blocks, head_block, head_mask, chain_head, iv}
use Rattle.elmd.specs.Heading.{frame_of, more, inner_head, last_link, Opens}
use Rattle.elmd.proofs.Agree.{same_block}

pub first_head : (u : Frame) → inner_head u 1 ≡ u.cipher.enc (bit_xor (head_block u 0) (three (base u.cipher)))
unfolding dbl
first_head u = xor_zero_r (u.cipher.enc (bit_xor (head_block u 0) (three (base u.cipher))))

-- more bytes leave the whole blocks before
pub inner_more : (u : Frame) (piece : List ℕ) (i : ℕ) → 16 * i ≤ length u.heading → inner_head (more u piece) (suc i) ≡ inner_head u (suc i)
inner_more u piece zero h = refl
inner_more u piece (suc i) h =
    let a : List ℕ = u.heading in
    let e : take (16 * suc i) (a ++ piece) ≡ take (16 * suc i) a = take-append-le (16 * suc i) a piece h in
    let b : block_at (a ++ piece) (suc i) ≡ block_at a (suc i) = same_block (a ++ piece) a i (suc i) (omega arith) e in
    let w = inner_more u piece i (omega arith) in
    cc

-- one byte more, of a heading a of k bytes whose last k % 16 stand in a place p of sixteen
module _ (a p : List ℕ) (k b : ℕ) (size : k ≡ length a) (place : length p ≡ 16) (held : take (k % 16) p ≡ drop (16 * (k / 16)) a) where
  pub held_more : take (suc (k % 16)) (set p (k % 16) b) ≡ drop (16 * (k / 16)) (a ++ b ∷ [])
  held_more =
      let e : suc (k % 16) ≡ k % 16 + 1 = omega arith in
      ap (λ (n : ℕ). take n (set p (k % 16) b)) e ∙ take_more_set p (k % 16) b (omega arith) ∙ ap (λ (z : List ℕ). z ++ b ∷ []) held
      ∙ sym (drop-append-le (16 * (k / 16)) a (b ∷ []) (omega arith))

  pub longer : k + 1 ≡ length (a ++ b ∷ [])
  longer = simp length-append (omega arith)

  pub held_less : (k % 16 ≡ 15 → ⊥) → take ((k + 1) % 16) (set p (k % 16) b) ≡ drop (16 * ((k + 1) / 16)) (a ++ b ∷ [])
  held_less n =
      let e : (k + 1) % 16 ≡ suc (k % 16) = omega arith in
      let q : (k + 1) / 16 ≡ k / 16 = omega arith in
      rw (e, q) held_more

  pub held_none : k % 16 ≡ 15 → take ((k + 1) % 16) (set p (k % 16) b) ≡ drop (16 * ((k + 1) / 16)) (a ++ b ∷ [])
  held_none n =
      let e : (k + 1) % 16 ≡ 0 = omega arith in
      let l = longer in
      rw e (sym (drop_all (16 * ((k + 1) / 16)) (a ++ b ∷ []) (omega arith)))

  pub full_block : k % 16 ≡ 15 → block_at (a ++ b ∷ []) (suc (k / 16)) ≡ of_bytes (set p (k % 16) b)
  unfolding block_at
  full_block n =
      let s : List ℕ = set p (k % 16) b in
      let l : length s ≡ 16 = simp length-set place in
      let e : suc (k % 16) ≡ 16 = omega arith in
      let d : s ≡ drop (16 * (k / 16)) (a ++ b ∷ []) = sym (take_all 16 s (omega arith)) ∙ ap (λ (i : ℕ). take i s) (sym e) ∙ held_more in
      ap (λ (z : List ℕ). of_bytes (padded (take 16 z))) (sym d) ∙ ap (λ (z : List ℕ). of_bytes (padded z)) (take_all 16 s (omega arith)) ∙ ap of_bytes (padded_whole s l)

-- bytes after bytes
pub more_more : (u : Frame) (a b : List ℕ) (h : OpenHeading) → Opens (more (more u a) b) h → Opens (more u (a ++ b)) h
more_more u a b h o = subst (λ (z : List ℕ). Opens (frame_of u.cipher u.settings u.nonce z) h) (append_assoc u.heading a b) o

pub more_none : (u : Frame) (h : OpenHeading) → Opens u h → Opens (more u []) h
more_none u h o = subst (λ (z : List ℕ). Opens (frame_of u.cipher u.settings u.nonce z) h) (sym (append-nil u.heading)) o

-- what was chained is V of the whole blocks
whole_mask : (u : Frame) (i : ℕ) → 16 * i ≤ length u.heading → head_mask u i ≡ three (pow i (base u.cipher))
whole_mask u i h = let l : ℕ = base u.cipher in cond-false (ltb (length u.heading) (16 * i)) (three (seven (pow (pred i) l))) (three (pow i l)) (le-ltb (length u.heading) (16 * i) h)

pub inner_chain : (u : Frame) (i : ℕ) → 16 * i ≤ length u.heading → chain_head u (suc i) ≡ inner_head u (suc i)
inner_chain u zero h = let m = whole_mask u 0 h in cc
inner_chain u (suc i) h = let m = whole_mask u (suc i) h in let w = inner_chain u i (omega arith) in cc

pub closed_whole : (u : Frame) (k : ℕ) → k ≡ length u.heading → k % 16 ≡ 0 → inner_head u (suc (k / 16)) ≡ iv u
unfolding iv
closed_whole u k e z =
    let b : k / 16 ≡ blocks u.heading = omega arith in
    sym (inner_chain u (k / 16) (omega arith)) ∙ ap (λ (n : ℕ). chain_head u (suc n)) b

-- a last block that is not whole
pub closed_short : (u : Frame) (p : List ℕ) (k : ℕ) → k ≡ length u.heading → (k % 16 ≡ 0 → ⊥) → take (k % 16) p ≡ drop (16 * (k / 16)) u.heading
    → last_link u.cipher (inner_head u (suc (k / 16))) (pow (k / 16) (base u.cipher)) (take (k % 16) p) ≡ iv u
unfolding iv block_at
closed_short u p k e z held =
    let n : ℕ = k / 16 in
    let l : ℕ = base u.cipher in
    let b : suc n ≡ blocks u.heading = omega arith in
    let m : head_mask u (suc n) ≡ three (seven (pow n l)) = cond-true (ltb (length u.heading) (16 * suc n)) (three (seven (pow n l))) (three (pow (suc n) l)) (lt-ltb (length u.heading) (16 * suc n) (omega arith)) in
    let w = inner_chain u n (omega arith) in
    let last : of_bytes (padded (take 16 (take (k % 16) p))) ≡ head_block u (suc n) = ap (λ (y : List ℕ). of_bytes (padded (take 16 y))) held in
    let all : bit_xor (u.cipher.enc (bit_xor (of_bytes (padded (take 16 (take (k % 16) p)))) (three (seven (pow n l))))) (dbl (inner_head u (suc n))) ≡ chain_head u (suc (suc n)) = cc in
    all ∙ ap (λ (i : ℕ). chain_head u (suc i)) b
