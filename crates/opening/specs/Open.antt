-- Whole opening: which answer comes, and what is left in the output.
use Rattle.std.specs.Prelude.{◌≡◌, ℕ, pred, ◌+◌, ◌-◌, ◌*◌, ◌<◌, ◌≤◌, List, ◌++◌, length, take, drop, replicate, Ok, Err, Result}
use Rattle.elmd.specs.declared.refusal.Refusal.{Refusal}
use Rattle.elmd.specs.declared.refusal.Refusal.TheVariants.{StreamLength, RoomShort}
use Rattle.elmd.specs.Refusals.{next}
use Rattle.elmd.specs.Settings.{settings_answer}
use Rattle.elmd.specs.Heading.{add_answer}
use Rattle.elmd.specs.Stream.{Frame, t_of, checks, stream}
use Rattle.elmd.specs.Opening.{blocks_of}
use Rattle.elmd.specs.Laws.{MessageOf, Extends}
use Rattle.opening.specs.Judging.{Cause}

-- a stream s with mark k is a seal: the message m has exactly this stream and mark
abbrev pub SealOf : (u : Frame) (s : List ℕ) (k : ℕ) (m : List ℕ) → Type 0
SealOf u s k m = MessageOf u (length s) k m × (stream u m ≡ s)

-- the bytes of a stream through its check j
abbrev pub through : Frame → List ℕ → ℕ → List ℕ
through u s j = take (16 * (j * t_of u + j)) s

-- check j is bad: the bytes through it begin the stream of no message of that length and mark, those through the check before do
pub record FirstBadCheck (u : Frame) (s : List ℕ) (k j : ℕ) : Type 0 where
  pub some : 1 ≤ j
  pub most : j ≤ checks u (blocks_of u (length s))
  pub before : Extends u (length s) k (through u s (pred j))
  pub bad : Extends u (length s) k (through u s j) → ⊥

-- a stream that is no seal: refused with its first bad check, or else for its end
abbrev pub NoSeal : (u : Frame) (s : List ℕ) (k : ℕ) → Result ℕ Refusal → Type 0
NoSeal u s k (Ok n) = ⊥
NoSeal u s k (Err e) = Cause (FirstBadCheck u s k) (Extends u (length s) k (through u s (checks u (blocks_of u (length s))))) e

-- accepted exactly when it is a seal; zeros stand behind the message, and in its place where there is none
pub record Judgement (u : Frame) (s : List ℕ) (k : ℕ) (out : List ℕ) (r : Result ℕ Refusal) (out' : List ℕ) : Type 0 where
  pub accepts : (m : List ℕ) → SealOf u s k m → (r ≡ Ok (length m)) × (out' ≡ m ++ (replicate (16 * blocks_of u (length s) - length m) 0 ++ drop (16 * blocks_of u (length s)) out))
  pub refuses : ((m : List ℕ) → SealOf u s k m → ⊥) → NoSeal u s k r × (out' ≡ replicate (16 * blocks_of u (length s)) 0 ++ drop (16 * blocks_of u (length s)) out)
  pub one : (m n : List ℕ) → SealOf u s k m → SealOf u s k n → m ≡ n

-- under settings and a heading that are accepted
pub record StreamOpened (u : Frame) (s : List ℕ) (k : ℕ) (out : List ℕ) (r : Result ℕ Refusal) (out' : List ℕ) : Type 0 where
  pub no_length : ((m : List ℕ) → MessageOf u (length s) k m → ⊥) → (r ≡ Err StreamLength) × (out' ≡ out)
  pub no_room : (m : List ℕ) → MessageOf u (length s) k m → length out < 16 * blocks_of u (length s) → (r ≡ Err RoomShort) × (out' ≡ out)
  pub judged : (m : List ℕ) → MessageOf u (length s) k m → 16 * blocks_of u (length s) ≤ length out → Judgement u s k out r out'

-- the first cause of settings and heading comes before all else
abbrev pub front_answer : Frame → Result Unit Refusal
front_answer u = next (settings_answer u.cipher.label u.settings) (add_answer 0 (length u.heading))

pub record Opened (u : Frame) (s : List ℕ) (k : ℕ) (out : List ℕ) (r : Result ℕ Refusal) (out' : List ℕ) : Type 0 where
  pub early : (e : Refusal) → front_answer u ≡ Err e → (r ≡ Err e) × (out' ≡ out)
  pub later : front_answer u ≡ Ok tt → StreamOpened u s k out r out'

-- what is accepted is the seal of some message, of the length that is answered
pub record Found (u : Frame) (s : List ℕ) (k : ℕ) (r : Result ℕ Refusal) : Type 0 where
  pub found : (n : ℕ) → r ≡ Ok n → (m : List ℕ) × SealOf u s k m × (length m ≡ n)
