-- The blocks before the last, one after another.
use Rattle.std.proofs.Common.{◌≡◌, ℕ, suc, ◌+◌, ◌*◌, ◌/◌, ◌≤◌, cond, eqb, List, [], ◌++◌, length, take, sym, refl, ap, ◌∙◌, arith, append_assoc, length-append}
use native.Mathlib.Nat.{zero-div}
use Rattle.std.proofs.lemmas.List.{take-append-le, drop_at}
use Rattle.block.specs.Bytes.{of_bytes, padded}
use Rattle.cipher.specs.Meaning.{Meaning}
use Rattle.elmd.specs.Laws.{inner_x}
use Rattle.elmd.specs.Sizes.{stride}
use Rattle.elmd.specs.Stream.{Frame, block_at, places}
use Rattle.elmd.proofs.Steps.{absorbing}
use Rattle.elmd.proofs.Strides.{stride_is, since_is, stride_fits}
use Rattle.sealing.specs.declared.state.Running.{Running}
use Rattle.sealing.specs.Running.{Runs, Steps, Fronts}

-- more bytes leave the blocks that are sealed
pub runs_more : (u : Frame) (acc part : List ℕ) (i : ℕ) (s : Running) → 16 * i ≤ length acc → Runs u acc i s → Runs u (acc ++ part) i s
runs_more u acc part i s h r =
    let a = absorbing u acc (acc ++ part) i (part, refl) h in
    record { small = r.small; mixes = r.mixes ∙ a.1; masks = r.masks; out_masks = r.out_masks; sums = r.sums ∙ a.2; counts = r.counts }

-- i blocks of the front are sealed, and the rest is still to come
pub record FrontSealed (c : Meaning) (t : ℕ) (first s : Running) (front rest : List ℕ) (at : ℕ) (written : List ℕ) : Type 0 where
  pub i : ℕ
  pub done : List ℕ
  pub joined : done ++ rest ≡ front
  pub size : length done ≡ 16 * i
  pub place : at ≡ 16 * (i + i / t)
  pub since : i ≡ i / t * t + s.since
  pub runs : Fronts c first t front i s written

pub front_none : (c : Meaning) (t : ℕ) (s : Running) (front rest : List ℕ) → rest ≡ front → s.since ≡ 0 → FrontSealed c t s s front rest 0 []
front_none c t s front rest e f =
    let z : 0 / t ≡ 0 = zero-div t in
    let q : 0 / t * t ≡ 0 = ap (λ (n : ℕ). n * t) z ∙ native.Mathlib.Nat.zero-mul t in
    record { i = 0; done = []; joined = e; size = refl; place = omega arith; since = omega arith; runs = λ u ec et r. (r, refl) }

pub block_is : (done part rest : List ℕ) (i : ℕ) → length done ≡ 16 * i → length part ≡ 16 → of_bytes (padded (take 16 part)) ≡ block_at (done ++ (part ++ rest)) (suc i)
unfolding block_at
block_is done part rest i d p =
    ap (λ (z : List ℕ). of_bytes (padded z)) (sym (take-append-le 16 part rest (omega arith))) ∙ ap (λ (z : List ℕ). of_bytes (padded (take 16 z))) (sym (drop_at done (part ++ rest) (16 * i) d))

module _ (c : Meaning) (t : ℕ) (first s : Running) (front rest : List ℕ) (at : ℕ) (written : List ℕ) (f : FrontSealed c t first s front rest at written) where
  -- room for the next block
  pub next_fits : (part rest' : List ℕ) → rest ≡ part ++ rest' → length part ≡ 16 → at + stride t s.since ≤ 16 * (length front / 16 + length front / 16 / t)
  next_fits part rest' er lp =
      let l : length front ≡ length f.done + length rest = sym (ap length f.joined) ∙ length-append f.done rest in
      let h : length rest ≡ length part + length rest' = ap length er ∙ length-append part rest' in
      let d = f.size in
      let p = f.place in
      let fits = stride_fits f.i t s.since (length front / 16) f.since (omega arith) in
      omega arith

  -- and the block sealed
  pub front_more : (c' : Meaning) (s' : Running) (part rest' : List ℕ) (b size : ℕ) (new : List ℕ) → c' ≡ c → rest ≡ part ++ rest' → length part ≡ 16 → b ≡ of_bytes (padded (take 16 part))
      → size ≡ stride t s.since → s'.since ≡ cond (eqb (s.since + 1) t) 0 (s.since + 1) → Steps c' s t b s' new → FrontSealed c t first s' front rest' (at + size) (written ++ new)
  front_more c' s' part rest' b size new ec er lp eb es en steps =
      let i : ℕ = f.i in
      let all : f.done ++ (part ++ rest') ≡ front = ap (λ (z : List ℕ). f.done ++ z) (sym er) ∙ f.joined in
      let block = eb ∙ block_is f.done part rest' i f.size lp ∙ ap (λ (z : List ℕ). block_at z (suc i)) all in
      let d = f.size in
      record {
        i = suc i;
        done = f.done ++ part;
        joined = append_assoc f.done part rest' ∙ all;
        size = simp length-append (omega arith);
        place = ap (λ (z : ℕ). z + size) f.place ∙ ap (λ (z : ℕ). 16 * (i + i / t) + z) es ∙ stride_is i t s.since f.since;
        since = since_is i t s.since f.since ∙ ap (λ (z : ℕ). suc i / t * t + z) (sym en);
        runs = λ u eu et r.
            let before = f.runs u eu et r in
            let after = steps u front i (eu ∙ sym ec) et block before.0 in
            (after.0, ap (λ (z : List ℕ). z ++ new) before.1 ∙ ap (λ (z : List ℕ). places u (inner_x u front) i ++ z) after.1);
      }
