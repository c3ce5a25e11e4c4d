-- The length of a stream by number.
use Rattle.std.proofs.Common.{◌≡◌, ℕ, suc, pred, ◌+◌, ◌-◌, ◌*◌, ◌/◌, ◌%◌, ◌≤◌, Bool, true, false, cond, ◌||◌, eqb, List, length, get_or, take, drop, sym, refl, ap, ◌∙◌, arith}
use Rattle.std.proofs.lemmas.Bool.{le-ltb}
use Rattle.block.specs.Field.{half, seven}
use Rattle.block.specs.Bytes.{of_bytes, padded}
use Rattle.cipher.specs.Meaning.{base}
use Rattle.elmd.specs.declared.refusal.Mark.{Mark}
use Rattle.elmd.specs.declared.refusal.Mark.TheVariants.{Filled, Whole}
use Rattle.elmd.specs.Refusals.{mark_of}
use Rattle.elmd.specs.declared.settings.Settings.{Settings}
use Rattle.elmd.specs.Settings.{settings_bytes}
use Rattle.elmd.specs.Sizes.{stream_size, blocks_in, last_mask}
use Rattle.elmd.specs.Stream.{Frame, t_of, f_of, pow, in_mask, block_at, mark, blocks, tag_size, last_size, stream}
use Rattle.elmd.proofs.Lengths.{stream_length}

-- t and f stand in the settings' bytes
pub interval_is : (u : Frame) (s : Settings) → settings_bytes s ≡ u.settings → t_of u ≡ s.interval
unfolding t_of
interval_is u s e = sym (ap (λ (b : List ℕ). 256 * get_or b 1 0 + get_or b 2 0) e) ∙ omega arith

flag : (f : Bool) → eqb (cond f 1 0 % 2) 1 ≡ f
flag true = refl
flag false = refl

pub short_is : (u : Frame) (s : Settings) → settings_bytes s ≡ u.settings → eqb (f_of u) 1 ≡ s.short_tag
unfolding f_of
short_is u s e = sym (ap (λ (b : List ℕ). eqb (get_or b 3 0 % 2) 1) e) ∙ flag s.short_tag

pub tag_size_is : (u : Frame) (s : Settings) (r : ℕ) → settings_bytes s ≡ u.settings → tag_size u r ≡ cond s.short_tag r 16
unfolding tag_size
tag_size_is u s r e = ap (λ (b : Bool). cond b r 16) (short_is u s e)

pub stream_size_lem : (u : Frame) (m : List ℕ) (s : Settings) (n : ℕ) → settings_bytes s ≡ u.settings → length m ≡ n → 1 ≤ n → length (stream u m) ≡ stream_size s.interval s.short_tag n
unfolding stream_size
stream_size_lem u m s n e l p =
    let a = stream_length u m (omega arith) in
    let t = interval_is u s e in
    let g = tag_size_is u s (last_size m) e in
    a ∙ ap (λ (z : ℕ). 16 * (blocks m + pred (blocks m) / z) + tag_size u (last_size m)) t
    ∙ ap (λ (z : ℕ). 16 * (blocks m + pred (blocks m) / s.interval) + z) g
    ∙ ap (λ (z : ℕ). 16 * (blocks_in z + pred (blocks_in z) / s.interval) + cond s.short_tag (z - 16 * pred (blocks_in z)) 16) l

by_mark : (b : Bool) (a : ℕ) → cond b a (seven (half a)) ≡ last_mask (cond b Whole Filled) a
by_mark true a = refl
by_mark false a = refl

-- the mask of the last two inputs
pub last_mask_is : (u : Frame) (l k i : ℕ) → l ≤ i → in_mask u l k i ≡ last_mask (mark_of k) (pow (pred i) (base u.cipher))
unfolding in_mask
last_mask_is u l k i h =
    let a : ℕ = pow (pred i) (base u.cipher) in
    ap (λ (b : Bool). cond (b || eqb k 1) a (seven (half a))) (le-ltb i l h) ∙ by_mark (eqb k 1) a

-- what is loaded is a block of the message, and what its length tells is its mark
pub loaded_is : (m : List ℕ) (p v : ℕ) → v ≡ of_bytes (padded (take 16 (drop (16 * p) m))) → v ≡ block_at m (suc p)
unfolding block_at
loaded_is m p v e = e

pub marked_is : (m : List ℕ) (k : Mark) → k ≡ mark_of (cond (eqb (length m % 16) 0) 1 0) → k ≡ mark_of (mark m)
unfolding mark
marked_is m k e = e

-- the same length by the number p of blocks before the last
pub size_parts : (t n p : ℕ) (f : Bool) → 1 ≤ n → p ≡ (n - 1) / 16 → stream_size t f n ≡ 16 * (p + p / t) + 16 + cond f (n - 16 * p) 16
unfolding stream_size
size_parts t n p f h e =
    let a : pred (blocks_in n) ≡ p = omega arith in
    let b : blocks_in n ≡ suc p = omega arith in
    ap (λ (z : ℕ). 16 * (blocks_in n + z / t) + cond f (n - 16 * z) 16) a ∙ ap (λ (z : ℕ). 16 * (z + p / t) + cond f (n - 16 * p) 16) b ∙ omega arith
