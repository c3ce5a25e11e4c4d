-- Which lengths and marks a stream can have, and how it is then laid out.
use Rattle.std.specs.Prelude.{◌≡◌, ℕ, ◌+◌, ◌-◌, ◌*◌, ◌/◌, ◌%◌, ◌^◌, ◌≤◌, Bool, cond, not, List, Some, None, Ok, Err, Option, Result, ◌==◌}
use Rattle.elmd.specs.declared.refusal.Refusal.{Refusal}
use Rattle.elmd.specs.declared.refusal.Refusal.TheVariants.{StreamLength}
use Rattle.elmd.specs.declared.settings.Settings.{Settings}
use Rattle.elmd.specs.declared.shape.Shape.{Shape}
use Rattle.elmd.specs.Settings.{settings_bytes}
use Rattle.elmd.specs.Stream.{Frame, checks}
use Rattle.elmd.specs.Opening.{blocks_of}
use Rattle.elmd.specs.Laws.{MessageOf}

-- a stream of S bytes and mark k is a message's: then its l, its h and its tag's length
pub record Laid (u : Frame) (S k : ℕ) (h : Shape) : Type 0 where
  pub possible : (m : List ℕ) × MessageOf u S k m
  pub l_is : h.blocks ≡ blocks_of u S
  pub h_is : h.checks ≡ checks u h.blocks
  pub some : 1 ≤ h.blocks
  pub most : h.blocks ≤ 2 ^ 20
  pub size : S ≡ 16 * (h.blocks + h.checks) + h.tag
  pub tag_some : 1 ≤ h.tag
  pub tag_most : h.tag ≤ 16

-- found exactly when there is such a message
abbrev pub Shaped : Settings → (S k : ℕ) → Result Shape Refusal → Type 0
Shaped s S k (Ok h) = (u : Frame) → settings_bytes s ≡ u.settings → Laid u S k h
Shaped s S k (Err e) = (e ≡ StreamLength) × ((u : Frame) → settings_bytes s ≡ u.settings → (m : List ℕ) → MessageOf u S k m → ⊥)

-- the checks among so many places before a tag; a check never stands last
abbrev pub checks_among : (places t : ℕ) → Option ℕ
checks_among places t = cond (t == 0) (Some 0) (cond (places % (t + 1) == 0) None (Some ((places - 1) / (t + 1))))

abbrev pub less : ℕ → Option ℕ → Option ℕ
less n (Some h) = Some (n - h)
less n None = None

-- l of the streams of S bytes, where there are such
abbrev pub blocks_for : (t S : ℕ) → Option ℕ
blocks_for t S = less ((S - 1) / 16) (checks_among ((S - 1) / 16) t)

-- the tag has sixteen bytes, or at f as many as a last block of that mark
abbrev pub tag_fits : Bool → (k tag : ℕ) → Bool
tag_fits short k tag = cond (k == 1) (tag == 16) (cond short (not (tag == 16)) (tag == 16))
