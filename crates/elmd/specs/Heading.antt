-- What an open and a closed heading stand for.
use Rattle.std.specs.Prelude.{◌≡◌, ℕ, zero, suc, ◌+◌, ◌*◌, ◌/◌, ◌%◌, List, ◌++◌, length, take, drop, Ok, Err, Result, bit_xor, nat_lt}
use Rattle.block.specs.Field.{dbl, three, seven}
use Rattle.block.specs.Bytes.{of_bytes, padded}
use Rattle.block.specs.Value.{value}
use Rattle.cipher.specs.Meaning.{Meaning, base}
use Rattle.elmd.specs.declared.refusal.Refusal.{Refusal}
use Rattle.elmd.specs.declared.refusal.Refusal.TheVariants.{HeadingLength}
use Rattle.elmd.specs.declared.state.OpenHeading.{OpenHeading}
use Rattle.elmd.specs.declared.state.ClosedHeading.{ClosedHeading}
use Rattle.elmd.specs.Refusals.{refuse}
use Rattle.elmd.specs.Settings.{settings_bytes}
use Rattle.elmd.specs.Stream.{Frame, pow, head_block, iv}

abbrev pub frame_of : Meaning → (settings nonce heading : List ℕ) → Frame
frame_of m settings nonce heading = record { cipher = m; settings = settings; nonce = nonce; heading = heading }

-- with more bytes of heading
abbrev pub more : Frame → List ℕ → Frame
more u piece = frame_of u.cipher u.settings u.nonce (u.heading ++ piece)

-- V over the first i blocks of a heading that goes on, so that each of them is whole
abbrev pub inner_head : Frame → ℕ → ℕ
inner_head u zero = 0
inner_head u (suc i) = bit_xor (u.cipher.enc (bit_xor (head_block u i) (three (pow i (base u.cipher))))) (dbl (inner_head u i))

-- V after a last block that is filled
abbrev pub last_link : Meaning → (chain mask : ℕ) → List ℕ → ℕ
last_link m chain mask tail = bit_xor (m.enc (bit_xor (of_bytes (padded (take 16 tail))) (three (seven mask)))) (dbl chain)

-- an open heading stands for the frame whose heading are the bytes accepted so far
pub record Opens (u : Frame) (h : OpenHeading) : Type 0 where
  pub chosen : settings_bytes h.settings ≡ u.settings
  pub based : value h.base ≡ base u.cipher
  pub size : h.len ≡ length u.heading
  pub chained : value h.chain ≡ inner_head u (suc (h.len / 16))
  pub masked : value h.mask ≡ pow (h.len / 16) (base u.cipher)
  pub held : take (h.len % 16) h.pending ≡ drop (16 * (h.len / 16)) u.heading

-- a closed heading stands for the frame whose IV it holds
pub record Closes (u : Frame) (h : ClosedHeading) : Type 0 where
  pub chosen : settings_bytes h.settings ≡ u.settings
  pub based : value h.base ≡ base u.cipher
  pub started : value h.iv ≡ iv u

-- a piece is refused where the heading would pass 65,536 bytes
abbrev pub add_answer : ℕ → ℕ → Result Unit Refusal
add_answer len size = refuse (nat_lt 65536 (len + size)) HeadingLength (Ok tt)

-- what every heading keeps under any cipher
pub record Carried (h h' : OpenHeading) (n : ℕ) : Type 0 where
  pub settings_kept : h'.settings ≡ h.settings
  pub base_kept : h'.base ≡ h.base
  pub counted : h'.len ≡ h.len + n

-- a piece: a refusal changes nothing
abbrev pub Added : OpenHeading → ℕ → Result Unit Refusal → OpenHeading → Type 0
Added h n (Ok u) h' = Carried h h' n
Added h n (Err e) h' = h' ≡ h

-- and under the cipher of its frame the accepted bytes join the frame's heading
abbrev pub Grows : Meaning → OpenHeading → List ℕ → OpenHeading → Type 0
Grows m h piece h' = (u : Frame) → u.cipher ≡ m → Opens u h → Opens (more u piece) h'

abbrev pub Joined : Meaning → OpenHeading → List ℕ → Result Unit Refusal → OpenHeading → Type 0
Joined m h piece (Ok u) h' = Grows m h piece h'
Joined m h piece (Err e) h' = Unit {0}
