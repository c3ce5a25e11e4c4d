-- Some blocks behind a check, opened in their place.
use Rattle.std.specs.Prelude.{◌≡◌, ℕ, suc, ◌+◌, ◌*◌, ◌<◌, ◌≤◌, List, ◌++◌, length, take, drop, Some, None, Ok, Err, Option, Result}
use Rattle.cipher.specs.Meaning.{Meaning}
use Rattle.elmd.specs.declared.refusal.Refusal.{Refusal}
use Rattle.elmd.specs.Refusals.{mark_number}
use Rattle.elmd.specs.Settings.{settings_bytes}
use Rattle.elmd.specs.Stream.{Frame, t_of}
use Rattle.elmd.specs.Opening.{released, Check, last_r}
use Rattle.block.specs.Bytes.{bytes_of}
use Rattle.opening.specs.declared.state.Outline.{Outline}
use Rattle.opening.specs.declared.state.Reading.{Reading}
use Rattle.opening.specs.Reading.{ReadsPast}
use Rattle.opening.specs.Judging.{EndRight}

-- n blocks behind the first i and j checks
pub record Ran (u : Frame) (stream : List ℕ) (i j n : ℕ) (s' : Reading) (plain : List ℕ) : Type 0 where
  pub reads : ReadsPast u stream (i + n) j s'
  pub written : released u stream (i + n) ≡ released u stream i ++ plain

-- what stands at the start of `bytes` is what a stream has behind its first i blocks and j checks
abbrev pub There : (bytes stream : List ℕ) (i j n : ℕ) → Type 0
There bytes stream i j n = take n bytes ≡ take n (drop (16 * (i + j)) stream)

abbrev pub Runs : Meaning → Reading → (bytes : List ℕ) → Reading → (plain : List ℕ) → Type 0
Runs c s bytes s' plain =
    (u : Frame) (stream : List ℕ) (i j n : ℕ) → u.cipher ≡ c → i ≡ j * t_of u → n ≤ t_of u → length bytes ≡ 16 * n → There bytes stream i j (16 * n)
    → ReadsPast u stream i j s → Ran u stream i j n s' plain

-- a segment: its t blocks, let out where its check is good
pub record Segment (u : Frame) (stream : List ℕ) (t i j : ℕ) (s' : Reading) (out' : List ℕ) : Type 0 where
  pub reads : ReadsPast u stream (i + t) (suc j) s'
  pub written : released u stream (i + t) ≡ released u stream i ++ take (16 * t) out'
  pub checked : Check u stream (suc j)

abbrev pub Segmented : (u : Frame) (stream : List ℕ) (t i j : ℕ) → Result Reading Refusal → (out' : List ℕ) → Type 0
Segmented u stream t i j (Ok s') out' = Segment u stream t i j s' out'
Segmented u stream t i j (Err e) out' = Check u stream (suc j) → ⊥

abbrev pub Segments : Meaning → Reading → (t : ℕ) (bytes : List ℕ) → Result Reading Refusal → (out' : List ℕ) → Type 0
Segments c s t bytes r out' =
    (u : Frame) (stream : List ℕ) (i j : ℕ) → u.cipher ≡ c → t_of u ≡ t → i ≡ j * t_of u → There bytes stream i j (16 * t + 16)
    → ReadsPast u stream i j s → Segmented u stream t i j r out'

-- what stands in the output: only a good check changes its start
abbrev pub LetOut : (n : ℕ) → Result Reading Refusal → (out out' : List ℕ) → Type 0
LetOut n (Ok s) out out' = drop n out' ≡ drop n out
LetOut n (Err e) out out' = out' ≡ out

-- the end: n blocks, the last block with q message bytes, and the tag
pub record Rest (u : Frame) (stream : List ℕ) (k i n : ℕ) (q : ℕ) (out' : List ℕ) : Type 0 where
  pub right : EndRight u stream k (suc (i + n)) q
  pub written : released u stream i ++ take (16 * n + q) out' ≡ released u stream (i + n) ++ take q (bytes_of (last_r u stream (suc (i + n)) k))

abbrev pub Rested : (u : Frame) (stream : List ℕ) (k i n : ℕ) → Option ℕ → (out' : List ℕ) → Type 0
Rested u stream k i n (Some m) out' = (q : ℕ) × (m ≡ 16 * n + q) × Rest u stream k i n q out'
Rested u stream k i n None out' = (q : ℕ) → EndRight u stream k (suc (i + n)) q → ⊥

abbrev pub Rests : Meaning → Outline → Reading → (n : ℕ) (bytes : List ℕ) → Option ℕ → (out' : List ℕ) → Type 0
Rests c o s n bytes r out' =
    (u : Frame) (stream : List ℕ) (i j : ℕ) → u.cipher ≡ c → settings_bytes o.settings ≡ u.settings → i ≡ j * t_of u
    → bytes ≡ drop (16 * (i + j)) stream → ReadsPast u stream i j s → Rested u stream (mark_number o.mark) i n r out'

abbrev pub WroteRest : Option ℕ → (n : ℕ) (out out' : List ℕ) → Type 0
WroteRest (Some m) n out out' = (16 * n < m) × (m ≤ 16 * n + 16) × (drop m out' ≡ drop m out)
WroteRest None n out out' = out' ≡ out
