-- Opening a pay file: which answer comes, and what is left in the output.
use Rattle.std.specs.Prelude.{◌≡◌, ℕ, ◌-◌, ◌*◌, ◌^◌, ◌≤◌, List, ◌++◌, length, take, drop, replicate, IfOk, Ok, Err, Result}
use Rattle.block.specs.Bytes.{Bytes}
use Rattle.cipher.specs.Meaning.{Meaning}
use Rattle.elmd.specs.declared.refusal.Refusal.{Refusal}
use Rattle.elmd.specs.Stream.{Frame, blocks}
use Rattle.opening.specs.Open.{StreamOpened, Found}
use Rattle.payfile.specs.declared.refusal.FileRefusal.{FileRefusal}
use Rattle.payfile.specs.Refusals.{after, of_seal}
use Rattle.payfile.specs.Layout.{pay_file, frame_in, stream_in, settings_in, mark_in, front_answer, label_answer}

-- the first cause of front, settings and label
abbrev pub file_answer : Meaning → List ℕ → Result Unit FileRefusal
file_answer c file = after (front_answer file) (label_answer c.label (settings_in file))

-- it comes before all else; then the seal in the file is opened whole
pub record FileOpened (c : Meaning) (file out : List ℕ) (r : Result ℕ FileRefusal) (out' : List ℕ) : Type 0 where
  pub early : (e : FileRefusal) → file_answer c file ≡ Err e → (r ≡ Err e) × (out' ≡ out)
  pub later : file_answer c file ≡ Ok tt → (q : Result ℕ Refusal) × (r ≡ of_seal q) × StreamOpened (frame_in c file) (stream_in file) (mark_in file) out q out' × Found (frame_in c file) (stream_in file) (mark_in file) q

-- what a file can be laid out round: a message and all that it is sealed under
pub record Filed (u : Frame) (m : List ℕ) : Type 0 where
  pub nonce_size : length u.nonce ≡ 8
  pub settings_size : length u.settings ≡ 8
  pub accepted : label_answer u.cipher.label u.settings ≡ Ok tt
  pub heading_size_is : length u.heading ≤ 65536
  pub bytes : Bytes m
  pub some : 1 ≤ length m
  pub fits : length m ≤ 2 ^ 24

-- the message, zeros up to the end of its last block, and what was behind it
abbrev pub let_out : (m out : List ℕ) → List ℕ
let_out m out = m ++ (replicate (16 * blocks m - length m) 0 ++ drop (16 * blocks m) out)

-- accepted are exactly the files that are the layout round a seal
pub record Exactly (c : Meaning) (file out : List ℕ) (r : Result ℕ FileRefusal) (out' : List ℕ) : Type 0 where
  pub only : (n : ℕ) → r ≡ Ok n → (u : Frame) × (m : List ℕ) × (u.cipher ≡ c) × Filed u m × (file ≡ pay_file u m) × (length m ≡ n)
  pub all : (u : Frame) (m : List ℕ) → u.cipher ≡ c → Filed u m → file ≡ pay_file u m → 16 * blocks m ≤ length out → (r ≡ Ok (length m)) × (out' ≡ let_out m out)

-- what was written opens: under the same cipher, with room enough, it gives the message back
abbrev pub GivenBack : Meaning → (m written : List ℕ) → Result ℕ FileRefusal → Type 0
GivenBack c m written r =
    IfOk r (λ n. (room back : List ℕ) (q : Result ℕ FileRefusal) → FileOpened c (take n written) room q back → 16 * blocks m ≤ length room → (q ≡ Ok (length m)) × (back ≡ let_out m room))
