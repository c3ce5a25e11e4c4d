-- What a begun seal stands for, and what its calls do.
use Rattle.std.specs.Prelude.{◌≡◌, ℕ, ◌+◌, ◌-◌, ◌*◌, List, [], ◌++◌, length, take, drop, Ok, Err, Result}
use Rattle.cipher.specs.Meaning.{Meaning}
use Rattle.elmd.specs.declared.refusal.Refusal.{Refusal}
use Rattle.elmd.specs.declared.refusal.Mark.{Mark}
use Rattle.elmd.specs.declared.state.ClosedHeading.{ClosedHeading}
use Rattle.elmd.specs.Heading.{Closes}
use Rattle.elmd.specs.Laws.{inner_x}
use Rattle.elmd.specs.Settings.{settings_bytes}
use Rattle.elmd.specs.Stream.{Frame, places, stream}
use Rattle.sealing.specs.declared.begun.Sealer.{Sealer}
use Rattle.sealing.specs.Handing.{sealed_blocks, handed_over}
use Rattle.sealing.specs.Running.{Runs}

-- an answer without what is handed back
abbrev pub bare : {A B : Type 0} → Result A (Refusal × B) → Result A Refusal
bare (Ok x) = Ok x
bare (Err p) = Err p.0

-- how many bytes are in that are not sealed
abbrev pub unsealed : Sealer → ℕ
unsealed s = s.k - 16 * sealed_blocks s.n s.k

-- a begun seal has accepted the bytes acc: it holds those that are not sealed yet
pub record Sealing (u : Frame) (acc : List ℕ) (s : Sealer) : Type 0 where
  pub chosen : settings_bytes s.settings ≡ u.settings
  pub size : s.k ≡ length acc
  pub runs : Runs u acc (sealed_blocks s.n s.k) s.running
  pub held : take (s.k - 16 * sealed_blocks s.n s.k) s.pending ≡ drop (16 * sealed_blocks s.n s.k) acc

-- what was handed over for the bytes acc
abbrev pub front : Frame → List ℕ → Sealer → List ℕ
front u acc s = places u (inner_x u acc) (sealed_blocks s.n s.k)

-- how much is handed over when k bytes are in, and how much more when size more are
abbrev pub handed : Sealer → (k : ℕ) → ℕ
handed s k = handed_over s.settings.interval s.n k

abbrev pub gained : Sealer → (size : ℕ) → ℕ
gained s size = handed s (s.k + size) - handed s s.k

-- a refusal hands the heading back
abbrev pub Begun : ClosedHeading → ℕ → Result Sealer (Refusal × ClosedHeading) → Type 0
Begun h n (Ok s) = (s.n ≡ n) × (s.k ≡ 0) × (s.settings ≡ h.settings) × ((u : Frame) → Closes u h → Sealing u [] s)
Begun h n (Err p) = p.1 ≡ h

-- what every seal keeps under any cipher, as it takes some bytes
pub record Carried (s s' : Sealer) (size : ℕ) : Type 0 where
  pub n_kept : s'.n ≡ s.n
  pub settings_kept : s'.settings ≡ s.settings
  pub counted : s'.k ≡ s.k + size

-- a refused piece changes nothing
abbrev pub Put : Sealer → (size : ℕ) (out : List ℕ) → Result ℕ Refusal → Sealer → List ℕ → Type 0
Put s size out (Ok w) s' out' = Carried s s' size × (drop w out' ≡ drop w out)
Put s size out (Err e) s' out' = (s' ≡ s) × (out' ≡ out)

-- some bytes join those so far, and what is written goes on with the stream
abbrev pub Grows : Meaning → Sealer → (part : List ℕ) → Sealer → (written : List ℕ) → Type 0
Grows m s part s' written =
    (u : Frame) (acc : List ℕ) → u.cipher ≡ m → Sealing u acc s → Sealing u (acc ++ part) s' × (front u (acc ++ part) s' ≡ front u acc s ++ written)

-- so does an accepted piece
abbrev pub Handed : Meaning → Sealer → (piece : List ℕ) → Result ℕ Refusal → Sealer → (out : List ℕ) → Type 0
Handed m s piece (Ok w) s' out = Grows m s piece s' (take w out)
Handed m s piece (Err e) s' out = Unit {0}

-- a refused end hands the seal back, and writes nothing
abbrev pub Finished : Sealer → (out : List ℕ) → Result (ℕ × Mark) (Refusal × Sealer) → List ℕ → Type 0
Finished s out (Ok p) out' = drop p.0 out' ≡ drop p.0 out
Finished s out (Err e) out' = (e.1 ≡ s) × (out' ≡ out)

-- the end of the stream is written
abbrev pub Ended : Meaning → Sealer → Result (ℕ × Mark) (Refusal × Sealer) → (out : List ℕ) → Type 0
Ended m s (Ok p) out =
    (u : Frame) (acc : List ℕ) → u.cipher ≡ m → Sealing u acc s → stream u acc ≡ places u (inner_x u acc) (sealed_blocks s.n s.n) ++ take p.0 out
Ended m s (Err e) out = Unit {0}
