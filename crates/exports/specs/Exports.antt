-- A cipher over many blocks.
use Rattle.std.specs.Prelude.{◌≡◌, ℕ, zero, suc, ◌*◌, ◌/◌, ◌<◌, ◌≤◌, Bool, true, false, cond, List, [], ◌++◌, length, take, drop, replicate, None, Option, Ok, Err, Result, ◌==◌, ◌≢◌}
use Rattle.std.specs.Option.{option_map, unwrap_or}
use Rattle.elmd.specs.declared.refusal.Refusal.{Refusal}
use Rattle.elmd.specs.declared.refusal.Mark.{Mark}
use Rattle.block.specs.Bytes.{bytes_of, of_bytes, padded}
use Rattle.cipher.specs.Meaning.{Meaning}
use Rattle.aes.specs.Fips197.{aes10, aes6}
use Rattle.speck.specs.Speck.{speck}
use Rattle.labelled.specs.Labels.{cipher_of}
use Rattle.elmd.specs.Opening.{block_in}
use Rattle.elmd.specs.Stream.{Frame}
use Rattle.elmd.specs.Heading.{frame_of}
use Rattle.sealing.specs.Seal.{seal_answer, sealed}
use Rattle.opening.specs.Open.{Opened}

-- E, or D
abbrev pub turned : Meaning → Bool → ℕ → ℕ
turned m true b = m.enc b
turned m false b = m.dec b

-- f of each of the first n blocks
abbrev pub each_block : (ℕ → ℕ) → List ℕ → ℕ → List ℕ
each_block f xs zero = []
each_block f xs (suc n) = each_block f xs n ++ bytes_of (f (block_in xs n))

-- the length that a seal answers, or 0
abbrev pub sealed_length : Result (ℕ × Mark) Refusal → ℕ
sealed_length (Ok p) = p.0
sealed_length (Err e) = 0

-- a key of fewer bytes is filled, of more is cut; other lengths than eight stand for eight zeros
abbrev pub key_of : List ℕ → ℕ
key_of key = of_bytes (padded (take 16 (drop 0 key)))

abbrev pub eight_of : List ℕ → List ℕ
eight_of s = cond (length s == 8) s (replicate 8 0)

-- the cipher that a label names, but for the paper cipher
abbrev pub cipher_named : (label key : ℕ) → Option Meaning
cipher_named label key = cond (label == 255) None (cipher_of label key)

-- by the label; what an unknown one gives
abbrev pub chosen : {A : Type 0} → (label key : ℕ) → (Meaning → A) → A → A
chosen label key f none = unwrap_or (option_map f (cipher_named label key)) none

abbrev pub all_blocks : Meaning → Bool → List ℕ → List ℕ
all_blocks m forth xs = each_block (turned m forth) xs (length xs / 16) ++ drop (16 * (length xs / 16)) xs

abbrev pub blocks_for : (label key : ℕ) (forth : Bool) → List ℕ → List ℕ
blocks_for label key forth xs = chosen label key (λ m. all_blocks m forth xs) xs

abbrev pub seal_for : (label key : ℕ) (settings nonce heading message : List ℕ) (room : ℕ) → ℕ
seal_for label key settings nonce heading message room = chosen label key (λ m. sealed_length (seal_answer (frame_of m settings nonce heading) message room)) 0

-- and what stands in the output then
abbrev pub sealed_output : Frame → (m out : List ℕ) → List ℕ
sealed_output u m out = sealed u m out (seal_answer u m (length out))

abbrev pub output_for : (label key : ℕ) (settings nonce heading message out : List ℕ) → List ℕ
output_for label key settings nonce heading message out = chosen label key (λ m. sealed_output (frame_of m settings nonce heading) message out) out

-- the length that an opening answers, or 0
abbrev pub opened_length : Result ℕ Refusal → ℕ
opened_length (Ok n) = n
opened_length (Err e) = 0

abbrev pub OpenedTo : Frame → (s : List ℕ) (k : ℕ) (out out' : List ℕ) → ℕ → Type 0
OpenedTo u s k out out' n = (r : Result ℕ Refusal) × (Opened u s k out r out' × (n ≡ opened_length r))

pub record OpenFor (label key : ℕ) (settings nonce heading stream : List ℕ) (mark : ℕ) (out out' : List ℕ) (n : ℕ) : Type 0 where
  pub bad_mark : 1 < mark → (n ≡ 0) × (out' ≡ out)
  pub by_aes10 : mark ≤ 1 → label ≡ 10 → OpenedTo (frame_of (aes10 key) settings nonce heading) stream mark out out' n
  pub by_aes6 : mark ≤ 1 → label ≡ 6 → OpenedTo (frame_of (aes6 key) settings nonce heading) stream mark out out' n
  pub by_speck : mark ≤ 1 → label ≡ 32 → OpenedTo (frame_of (speck key) settings nonce heading) stream mark out out' n
  pub unknown : (label ≢ 10) → (label ≢ 6) → (label ≢ 32) → (n ≡ 0) × (out' ≡ out)
