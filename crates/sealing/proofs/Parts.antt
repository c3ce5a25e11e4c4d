-- A seal that takes its bytes in parts.
use Rattle.std.proofs.Common.{◌≡◌, ℕ, suc, ◌+◌, ◌-◌, ◌*◌, ◌/◌, ◌<◌, ◌≤◌, cond, List, [], ◌++◌, length, take, drop, sym, refl, ap, ◌∙◌, subst, append-nil, arith, length-append}
use Rattle.std.proofs.lemmas.List.{take_all, drop-append-le, drop_all}
use Rattle.block.specs.Bytes.{of_bytes, padded}
use Rattle.block.proofs.Filling.{padded_whole}
use Rattle.cipher.specs.Meaning.{Meaning}
use Rattle.elmd.specs.declared.state.ClosedHeading.{ClosedHeading}
use Rattle.elmd.specs.Heading.{Closes}
use Rattle.elmd.specs.Laws.{inner_x}
use Rattle.elmd.specs.Settings.{settings_bytes}
use Rattle.elmd.specs.Sizes.{stream_size, stride}
use Rattle.elmd.specs.Stream.{Frame, block_at, place, places, stream}
use Rattle.elmd.proofs.Counts.{interval_is}
use Rattle.elmd.proofs.Quo.{quo_mono}
use Rattle.elmd.proofs.Steps.{absorbing}
use Rattle.elmd.proofs.Strides.{stride_is}
use Rattle.sealing.specs.declared.begun.Sealer.{Sealer}
use Rattle.sealing.specs.declared.state.Running.{Running}
use Rattle.sealing.specs.Handing.{sealed_blocks, handed_over}
use Rattle.sealing.specs.Running.{Runs, Steps, end_bytes}
use Rattle.sealing.specs.Sealer.{Sealing, Carried, Grows, front, gained, unsealed}
use Rattle.sealing.proofs.Fronts.{runs_more}
use Rattle.sealing.proofs.Whole.{size_is, stream_is}

-- the bytes held, and a block that they fill
held_more : (acc part p p' : List ℕ) (q fill : ℕ) → 16 * q ≤ length acc → take fill p ≡ drop (16 * q) acc → take (fill + length part) p' ≡ take fill p ++ part
    → take (fill + length part) p' ≡ drop (16 * q) (acc ++ part)
held_more acc part p p' q fill h e f = f ∙ ap (λ (z : List ℕ). z ++ part) e ∙ sym (drop-append-le (16 * q) acc part h)

held_block : (m p : List ℕ) (q i : ℕ) → length p ≡ 16 → i ≡ 16 → take i p ≡ drop (16 * q) m → of_bytes p ≡ block_at m (suc q)
unfolding block_at
held_block m p q i l e f =
    let d : p ≡ drop (16 * q) m = sym (take_all i p (omega arith)) ∙ f in
    sym (ap of_bytes (padded_whole p l)) ∙ ap (λ (z : List ℕ). of_bytes (padded z)) (sym (take_all 16 p (omega arith))) ∙ ap (λ (z : List ℕ). of_bytes (padded (take 16 z))) d

module _ (m : Meaning) (s s' : Sealer) (part : List ℕ) (car : Carried s s' (length part))
    (kept : take (unsealed s + length part) s'.pending ≡ take (unsealed s) s.pending ++ part) where
  -- the block is not whole yet, or is the last
  pub grows_on : s'.running ≡ s.running → sealed_blocks s'.n s'.k ≡ sealed_blocks s.n s.k → Grows m s part s' []
  grows_on er eq u acc ec o =
      let q : ℕ = sealed_blocks s.n s.k in
      let q' : ℕ = sealed_blocks s'.n s'.k in
      let c = car.counted in
      let z = o.size in
      let low : 16 * q ≤ s.k = omega arith in
      let h : 16 * q ≤ length acc = omega arith in
      let far : s'.k - 16 * q' ≡ s.k - 16 * q + length part = omega arith in
      let r : Runs u (acc ++ part) q s'.running = subst (λ (x : Running). Runs u (acc ++ part) q x) (sym er) (runs_more u acc part q s.running h o.runs) in (
        record {
          chosen = ap settings_bytes car.settings_kept ∙ o.chosen;
          size = simp length-append (omega arith);
          runs = subst (λ (i : ℕ). Runs u (acc ++ part) i s'.running) (sym eq) r;
          held = ap (λ (i : ℕ). take i s'.pending) far ∙ held_more acc part s.pending s'.pending q (s.k - 16 * q) h o.held kept ∙ ap (λ (i : ℕ). drop (16 * i) (acc ++ part)) (sym eq);
        },
        ap (places u (inner_x u (acc ++ part))) eq ∙ sym (absorbing u acc (acc ++ part) q (part, refl) h).0 ∙ sym (append-nil (front u acc s)),
      )

  -- the block is whole, and sealed
  pub grows_past : (b : ℕ) (written : List ℕ) → length s'.pending ≡ 16 → b ≡ of_bytes s'.pending → sealed_blocks s'.n s'.k ≡ suc (sealed_blocks s.n s.k)
      → unsealed s + length part ≡ 16 → Steps m s.running s.settings.interval b s'.running written → Grows m s part s' written
  grows_past b written lp eb eq full steps u acc ec o =
      let q : ℕ = sealed_blocks s.n s.k in
      let q' : ℕ = sealed_blocks s'.n s'.k in
      let all : List ℕ = acc ++ part in
      let x : ℕ → ℕ = inner_x u all in
      let c = car.counted in
      let z = o.size in
      let low : 16 * q ≤ s.k = omega arith in
      let h : 16 * q ≤ length acc = omega arith in
      let la : length all ≡ s'.k = simp length-append (omega arith) in
      let whole = held_block all s'.pending q (s.k - 16 * q + length part) lp full (held_more acc part s.pending s'.pending q (s.k - 16 * q) h o.held kept) in
      let did = steps u all q ec (interval_is u s.settings o.chosen) (eb ∙ whole) (runs_more u acc part q s.running h o.runs) in
      let none : s'.k - 16 * q' ≡ 0 = omega arith in
      let over : length all ≤ 16 * q' = omega arith in (
        record {
          chosen = ap settings_bytes car.settings_kept ∙ o.chosen;
          size = sym la;
          runs = subst (λ (i : ℕ). Runs u all i s'.running) (sym eq) did.0;
          held = ap (λ (i : ℕ). take i s'.pending) none ∙ sym (drop_all (16 * q') all over);
        },
        ap (places u x) eq ∙ ap (λ (y : List ℕ). y ++ place u x (suc q)) (sym (absorbing u acc all q (part, refl) h).0) ∙ ap (λ (y : List ℕ). front u acc s ++ y) (sym did.1),
      )

-- one block more is sealed where the bytes fill it, and none where they don't
pub one_more : (n k size a b : ℕ) → a ≡ sealed_blocks n k → b ≡ sealed_blocks n (k + size) → a < b → k - 16 * sealed_blocks n k + size ≤ 16
    → (sealed_blocks n (k + size) ≡ suc (sealed_blocks n k)) × (k - 16 * sealed_blocks n k + size ≡ 16)
one_more n k size a b ea eb apart h = (omega arith, omega arith)

pub no_more : (n k size a b : ℕ) → a ≡ sealed_blocks n k → b ≡ sealed_blocks n (k + size) → b ≤ a → sealed_blocks n (k + size) ≡ sealed_blocks n k
no_more n k size a b ea eb h = omega arith

-- what a block more brings
pub gained_one : (s : Sealer) (size : ℕ) → sealed_blocks s.n (s.k + size) ≡ suc (sealed_blocks s.n s.k) → stride s.settings.interval s.running.since ≡ gained s size
gained_one s size e =
    let q : ℕ = sealed_blocks s.n s.k in
    let q' : ℕ = sealed_blocks s.n (s.k + size) in
    let t : ℕ = s.settings.interval in
    let st = stride_is q t s.running.since s.counts in
    let all : 16 * (q' + q' / t) ≡ 16 * (suc q + suc q / t) = ap (λ (i : ℕ). 16 * (i + i / t)) e in
    omega arith

-- how much is handed over
pub handed_le : (t n k k' : ℕ) → k ≤ k' → handed_over t n k ≤ handed_over t n k'
handed_le t n k k' h =
    let a : sealed_blocks n k ≤ sealed_blocks n k' = omega arith in
    let b = quo_mono (sealed_blocks n k) (sealed_blocks n k') t a in
    omega arith

-- before the first byte
pub first_sealing : (u : Frame) (h : ClosedHeading) (s : Sealer) → Closes u h → s.settings ≡ h.settings → s.k ≡ 0 → Runs u [] 0 s.running → Sealing u [] s
first_sealing u h s o es ek r =
    let q : ℕ = sealed_blocks s.n s.k in
    let z : q ≡ 0 = omega arith in
    let none : s.k - 16 * q ≡ 0 = omega arith in
    let zero : 16 * q ≡ 0 = omega arith in
    record {
      chosen = ap settings_bytes es ∙ o.chosen;
      size = ek;
      runs = subst (λ (i : ℕ). Runs u [] i s.running) (sym z) r;
      held = ap (λ (i : ℕ). take i s.pending) none ∙ sym (ap (λ (i : ℕ). drop i []) zero);
    }

-- all bytes are in: the rest of the stream, and the last block
module _ (s : Sealer) (full : s.k ≡ s.n) (tag : ℕ) (et : tag ≡ cond s.settings.short_tag (unsealed s) 16) where
  last_place : sealed_blocks s.n s.n ≡ (s.n - 1) / 16
  last_place = omega arith

  pub last_tag : tag ≡ cond s.settings.short_tag (s.n - 16 * sealed_blocks s.n s.n) 16
  last_tag = et ∙ ap (λ (k : ℕ). cond s.settings.short_tag (k - 16 * sealed_blocks s.n k) 16) full

  pub rest_is : stream_size s.settings.interval s.settings.short_tag s.n - handed_over s.settings.interval s.n s.n ≡ 16 + tag
  rest_is = let z = size_is s.settings s.n (sealed_blocks s.n s.n) tag s.some last_place last_tag in omega arith

  pub whole_stream : (u : Frame) (acc : List ℕ) → Sealing u acc s → stream u acc ≡ places u (inner_x u acc) (sealed_blocks s.n s.n) ++ end_bytes u acc (sealed_blocks s.n s.n) tag
  whole_stream u acc o = stream_is s.settings s.n (sealed_blocks s.n s.n) tag s.some last_place last_tag u acc o.chosen (sym o.size ∙ full)

  pub last_runs : (u : Frame) (acc : List ℕ) → Sealing u acc s → Runs u acc (sealed_blocks s.n s.n) s.running
  last_runs u acc o = subst (λ (i : ℕ). Runs u acc (sealed_blocks s.n i) s.running) full o.runs

  pub last_held : (u : Frame) (acc : List ℕ) (v held : ℕ) → Sealing u acc s → held ≡ unsealed s → v ≡ of_bytes (padded (take 16 (take held s.pending))) → v ≡ block_at acc (suc (sealed_blocks s.n s.n))
  unfolding block_at
  last_held u acc v held o eh ev =
      ev ∙ ap (λ (i : ℕ). of_bytes (padded (take 16 (take i s.pending)))) eh ∙ ap (λ (z : List ℕ). of_bytes (padded (take 16 z))) o.held ∙ ap (λ (i : ℕ). of_bytes (padded (take 16 (drop (16 * sealed_blocks s.n i) acc)))) full
