-- What an opening finds, by the recovered quantities.
use Rattle.std.specs.Prelude.{◌≡◌, ℕ, suc, pred, ◌+◌, ◌-◌, ◌*◌, ◌/◌, ◌<◌, ◌≤◌, List, ◌++◌, length, take, drop, replicate, Some, None, Ok, Err, Option, Result}
use Rattle.block.specs.declared.raw.Block.{Block}
use Rattle.block.specs.Value.{value}
use Rattle.block.specs.Bytes.{bytes_of, padded}
use Rattle.cipher.specs.Meaning.{Meaning}
use Rattle.elmd.specs.declared.refusal.Refusal.{Refusal}
use Rattle.elmd.specs.declared.refusal.Refusal.TheVariants.{BadCheck, BadTag}
use Rattle.elmd.specs.declared.settings.Settings.{Settings}
use Rattle.elmd.specs.declared.shape.Shape.{Shape}
use Rattle.elmd.specs.Refusals.{mark_number}
use Rattle.elmd.specs.Settings.{settings_bytes}
use Rattle.elmd.specs.Stream.{Frame, t_of, checks, tag_spot, tag_size}
use Rattle.elmd.specs.Opening.{released, Check, Checks, Right, opened, last_r, tag_r}
use Rattle.opening.specs.declared.state.Outline.{Outline}
use Rattle.opening.specs.declared.state.Reading.{Reading}
use Rattle.opening.specs.Reading.{Reads}

-- which causes an opening past its lengths can have, and a fact for each
abbrev pub Cause : (check : ℕ → Type 0) (tag : Type 0) → Refusal → Type 0
Cause check tag (BadCheck j) = check j
Cause check tag BadTag = tag
Cause check tag e = ⊥

-- check j is the first that does not hold
pub record FirstBad (u : Frame) (s : List ℕ) (h j : ℕ) : Type 0 where
  pub some : 1 ≤ j
  pub most : j ≤ h
  pub before : Checks u s (pred j)
  pub bad : Check u s j → ⊥

-- p blocks and the checks among them
pub record Passed (u : Frame) (s : List ℕ) (p : ℕ) (r : Reading) (out : List ℕ) : Type 0 where
  pub reads : Reads u s p r
  pub checked : Checks u s (p / t_of u)
  pub written : out ≡ released u s p

abbrev pub Fronted : (u : Frame) (s : List ℕ) (p : ℕ) → Result Reading Refusal → (out : List ℕ) → Type 0
Fronted u s p (Ok r) out = Passed u s p r out
Fronted u s p (Err e) out = Cause (FirstBad u s (p / t_of u)) ⊥ e

abbrev pub Fronts : Meaning → Reading → (t : ℕ) (s : List ℕ) (p : ℕ) → Result Reading Refusal → (out : List ℕ) → Type 0
Fronts c first t s p r out = (u : Frame) → u.cipher ≡ c → t_of u ≡ t → Reads u s 0 first → Fronted u s p r out

-- the tag or the last block is wrong behind checks that hold
pub record BadEnd (u : Frame) (s : List ℕ) (k l : ℕ) : Type 0 where
  pub checked : Checks u s (checks u l)
  pub wrong : (q : ℕ) → Right u s k l q → ⊥

-- q bytes in the last block, which are right
pub record Good (u : Frame) (s : List ℕ) (k l n : ℕ) (part : List ℕ) (q : ℕ) : Type 0 where
  pub right : Right u s k l q
  pub counted : n ≡ 16 * pred l + q
  pub written : part ≡ opened u s k l q ++ replicate (16 - q) 0

abbrev pub Judged : (u : Frame) (s : List ℕ) (k l : ℕ) → Result ℕ Refusal → (part : List ℕ) → Type 0
Judged u s k l (Ok n) part = (q : ℕ) × Good u s k l n part q
Judged u s k l (Err e) part = (part ≡ replicate (16 * l) 0) × Cause (FirstBad u s (checks u l)) (BadEnd u s k l) e

-- the last block with q message bytes and the tag are right, whatever the checks are
pub record EndRight (u : Frame) (s : List ℕ) (k l q : ℕ) : Type 0 where
  pub some : 1 ≤ q
  pub whole : k ≡ 1 → q ≡ 16
  pub short : k ≡ 0 → q < 16
  pub filled : padded (take q (bytes_of (last_r u s l k))) ≡ bytes_of (last_r u s l k)
  pub sized : length s ≡ 16 * tag_spot u l + tag_size u q
  pub tagged : take (tag_size u q) (bytes_of (tag_r u s l k)) ≡ drop (16 * tag_spot u l) s

-- what is handed on of a last block: its bytes before the filling
pub record Held (v q : ℕ) : Type 0 where
  pub some : 1 ≤ q
  pub most : q ≤ 16
  pub filled : padded (take q (bytes_of v)) ≡ bytes_of v

abbrev pub Ended : (u : Frame) (s : List ℕ) (k l : ℕ) → Option (Block × ℕ) → Type 0
Ended u s k l (Some x) = EndRight u s k l x.1 × (value x.0 ≡ last_r u s l k)
Ended u s k l None = (q : ℕ) → EndRight u s k l q → ⊥

-- `bytes` are what a stream has behind its first p blocks
abbrev pub Ends : Meaning → Outline → Reading → (bytes : List ℕ) → Option (Block × ℕ) → Type 0
Ends c o state bytes r =
    (u : Frame) (s : List ℕ) (p : ℕ) → u.cipher ≡ c → settings_bytes o.settings ≡ u.settings → bytes ≡ drop (16 * (p + p / t_of u)) s
    → Reads u s p state → Ended u s (mark_number o.mark) (suc p) r

abbrev pub Judges : Meaning → Outline → Reading → (s : List ℕ) → Result ℕ Refusal → (part : List ℕ) → Type 0
Judges c o first s r part =
    (u : Frame) → u.cipher ≡ c → settings_bytes o.settings ≡ u.settings → Reads u s 0 first → Judged u s (mark_number o.mark) o.shape.blocks r part

-- the layout fits a stream of S bytes
pub record Fits (settings : Settings) (h : Shape) (S : ℕ) : Type 0 where
  pub some : 1 ≤ h.blocks
  pub most : h.blocks ≤ 1048576
  pub h_is : h.checks ≡ pred h.blocks / settings.interval
  pub size : S ≡ 16 * (h.blocks + h.checks) + h.tag
  pub tag_most : h.tag ≤ 16
