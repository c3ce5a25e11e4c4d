-- A whole stream from its front and its end.
use Rattle.std.proofs.Common.{◌≡◌, ℕ, suc, ◌+◌, ◌-◌, ◌*◌, ◌/◌, ◌≤◌, Bool, true, false, cond, List, ◌++◌, length, sym, ap, ◌∙◌, arith}
use native.Mathlib.Nat.{zero-div}
use Rattle.block.specs.Field.{five}
use Rattle.block.specs.Value.{value, value_lt}
use Rattle.block.specs.declared.raw.Block.{Block}
use Rattle.cipher.specs.Meaning.{base}
use Rattle.elmd.specs.declared.settings.Settings.{Settings}
use Rattle.elmd.specs.Settings.{settings_bytes}
use Rattle.elmd.specs.Sizes.{stream_size}
use Rattle.elmd.specs.Stream.{Frame, t_of, pow, blocks, last_size, tag_size, places, stream}
use Rattle.elmd.specs.Laws.{inner_x}
use Rattle.elmd.proofs.Steps.{ending}
use Rattle.elmd.proofs.Counts.{tag_size_is, stream_size_lem, size_parts}
use Rattle.sealing.specs.declared.state.Running.{Running}
use Rattle.sealing.specs.Running.{Starts, end_bytes}

-- before the first block
pub starts_at : (l : Block) (v : ℕ) (s : Running) → value s.w ≡ v → value s.mask ≡ value l → value s.out_mask ≡ five (value l) → value s.sum ≡ 0 → s.since ≡ 0 → Starts (value l) v s
starts_at l v s ew em eo es ec u m el ev =
    let t : ℕ = t_of u in
    let z : 0 / t ≡ 0 = zero-div t in
    let e : 0 ≡ 0 + 0 / t = omega arith in
    let q : 0 / t * t ≡ 0 = ap (λ (n : ℕ). n * t) z ∙ native.Mathlib.Nat.zero-mul t in
    let b = value_lt l in
    record {
      small = omega arith;
      mixes = ew ∙ ev;
      masks = em ∙ el;
      out_masks = eo ∙ ap five el ∙ ap (λ (n : ℕ). five (pow n (base u.cipher))) e;
      sums = es;
      counts = omega arith;
    }

tag_le : (f : Bool) (r k : ℕ) → r ≤ 16 → k ≡ cond f r 16 → k ≤ 16
tag_le true r k h e = omega arith
tag_le false r k h e = omega arith

-- p blocks and the last of n bytes, with so many bytes of the tag
module _ (s : Settings) (n p tag : ℕ) (pos : 1 ≤ n) (ep : p ≡ (n - 1) / 16) (et : tag ≡ cond s.short_tag (n - 16 * p) 16) where
  pub size_is : stream_size s.interval s.short_tag n ≡ 16 * (p + p / s.interval) + (16 + tag)
  size_is = let z = size_parts s.interval n p s.short_tag pos ep in omega arith

  pub tag_most : tag ≤ 16
  tag_most = tag_le s.short_tag (n - 16 * p) tag (omega arith) et

  module _ (u : Frame) (m : List ℕ) (es : settings_bytes s ≡ u.settings) (en : length m ≡ n) where
    pub stream_end : length (stream u m) ≡ 16 * (p + p / s.interval) + (16 + tag)
    stream_end = stream_size_lem u m s n es en pos ∙ size_is

    pub stream_is : stream u m ≡ places u (inner_x u m) p ++ end_bytes u m p tag
    stream_is =
        let b : blocks m ≡ suc p = omega arith in
        let l : last_size m ≡ n - 16 * p = omega arith in
        let t : tag_size u (last_size m) ≡ tag = tag_size_is u s (last_size m) es ∙ ap (λ (z : ℕ). cond s.short_tag z 16) l ∙ sym et in
        ending u m p b ∙ ap (λ (z : ℕ). places u (inner_x u m) p ++ end_bytes u m p z) t

-- the lengths of a message's front and its last block tell where the end stands
pub record Ending (s : Settings) (n p at tag : ℕ) : Type 0 where
  pub whole : p ≡ (n - 1) / 16
  pub place : at ≡ 16 * (p + p / s.interval)
  pub tag_is : tag ≡ cond s.short_tag (n - 16 * p) 16

pub ending_at : (s s' : Settings) (n front last at tag : ℕ) → s' ≡ s → front ≡ (n - 1) / 16 * 16 → last + (n - 1) / 16 * 16 ≡ n → at ≡ 16 * (front / 16 + front / 16 / s'.interval) → tag ≡ cond s'.short_tag last 16
    → Ending s n (front / 16) at tag
ending_at s s' n front last at tag e ef el ea et =
    let p : ℕ = front / 16 in
    let held : last ≡ n - 16 * p = omega arith in
    record {
      whole = omega arith;
      place = ea ∙ ap (λ (z : Settings). 16 * (p + p / z.interval)) e;
      tag_is = et ∙ ap (λ (z : Settings). cond z.short_tag last 16) e ∙ ap (λ (z : ℕ). cond s.short_tag z 16) held;
    }
