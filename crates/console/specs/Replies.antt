-- The reply to a command, from what earlier lines gave.
use Rattle.std.specs.Prelude.{◌≡◌, ℕ, ◌+◌, ◌/◌, ◌%◌, List, [], ◌∷◌, ◌++◌, length, Some, None, Ok, Err, Option, Result, slice_index}
use Rattle.block.specs.Bytes.{of_bytes, bytes_of}
use Rattle.cipher.specs.Meaning.{Meaning}
use Rattle.labelled.specs.Labels.{cipher_of}
use Rattle.elmd.specs.declared.refusal.Refusal.{Refusal}
use Rattle.elmd.specs.declared.refusal.Mark.{Mark}
use Rattle.elmd.specs.Refusals.{number, mark_number}
use Rattle.elmd.specs.Stream.{Frame, stream as streamOf}
use Rattle.elmd.specs.Heading.{frame_of}
use Rattle.elmd.specs.declared.refusal.Refusal.TheVariants.{OtherLabel, StreamLength}
use Rattle.elmd.specs.Laws.{MessageOf}
use Rattle.sealing.specs.Seal.{seal_answer}
use Rattle.opening.specs.Open.{SealOf, NoSeal, front_answer}
use Rattle.console.specs.Hex.{to_hex}
use Rattle.console.specs.Commands.{Command, key, nonce, settings, heading, message, block, stream, unknown, malformed, read_line}
use Rattle.console.specs.declared.line.LineFault.TheVariants.{UnknownLetter, Malformed}
use Rattle.console.specs.declared.fault.Fault.TheVariants.{Line, NotGiven, Refused}
use Rattle.console.specs.declared.fault.Failure.{Failure}
use Rattle.console.specs.declared.fault.Failure.TheVariants.{Fault, Memory}
use Rattle.console.specs.Faults.{fault_number}
use Rattle.console.specs.Known.{Known, after}

-- R, a space and the number, which always has two digits
abbrev pub refusal_line : ℕ → List ℕ
refusal_line n = 82 ∷ 32 ∷ (48 + n / 10) ∷ (48 + n % 10) ∷ 10 ∷ []

-- a letter, a space and the digits of bytes
abbrev pub bytes_line : (letter : ℕ) → List ℕ → List ℕ
bytes_line letter b = (letter ∷ 32 ∷ []) ++ (to_hex b ++ 10 ∷ [])

-- S, a space, the mark, a space and the digits of the stream
abbrev pub stream_line : (mark : ℕ) → List ℕ → List ℕ
stream_line m b = (83 ∷ 32 ∷ (48 + m) ∷ 32 ∷ []) ++ (to_hex b ++ 10 ∷ [])

-- B: E of the block
abbrev pub block_reply : Meaning → List ℕ → List ℕ
block_reply c b = bytes_line 66 (bytes_of (c.enc (of_bytes b)))

-- M: the stream of the message, or the seal's refusal
abbrev pub seal_line : Frame → (m : List ℕ) → Result (ℕ × Mark) Refusal → List ℕ
seal_line u m (Ok p) = stream_line (mark_number p.1) (streamOf u m)
seal_line u m (Err e) = refusal_line (number e)

-- into room for the whole stream
abbrev pub seal_reply : Frame → (m : List ℕ) → List ℕ
seal_reply u m = seal_line u m (seal_answer u m (length (streamOf u m)))

-- what has to be given, and a cipher that the settings name
abbrev pub given : Option (List ℕ) → (List ℕ → List ℕ) → List ℕ
given None f = refusal_line (fault_number NotGiven)
given (Some x) f = f x

abbrev pub picked : Option Meaning → (Meaning → List ℕ) → List ℕ
picked None f = refusal_line (fault_number (Refused OtherLabel))
picked (Some c) f = f c

abbrev pub under : (settings key : List ℕ) → (Meaning → List ℕ) → List ℕ
under p k f = picked (cipher_of (slice_index p 0) (of_bytes k)) f

abbrev pub block_answer : Known → List ℕ → List ℕ
block_answer g b = given g.the_key (λ k. given g.the_settings (λ p. under p k (λ c. block_reply c b)))

abbrev pub message_answer : Known → List ℕ → List ℕ
message_answer g m =
    given g.the_key (λ k. given g.the_settings (λ p. given g.the_nonce (λ n. given g.the_heading (λ h.
    under p k (λ c. seal_reply (frame_of c p n h) m)))))

-- the same of a relation
abbrev pub WhereGiven : Option (List ℕ) → (out : List ℕ) → (List ℕ → Type 0) → Type 0
WhereGiven None out P = out ≡ refusal_line (fault_number NotGiven)
WhereGiven (Some x) out P = P x

abbrev pub WherePicked : Option Meaning → (out : List ℕ) → (Meaning → Type 0) → Type 0
WherePicked None out P = out ≡ refusal_line (fault_number (Refused OtherLabel))
WherePicked (Some c) out P = P c

-- S: the message of which this is the stream and mark; else the refusal of the settings or the heading, of a length that no
-- message's stream has, of the first check that does not hold, or of the end
pub record OpenReply (u : Frame) (mark : ℕ) (s out : List ℕ) : Type 0 where
  pub early : (e : Refusal) → front_answer u ≡ Err e → out ≡ refusal_line (number e)
  pub no_length : front_answer u ≡ Ok tt → ((m : List ℕ) → MessageOf u (length s) mark m → ⊥) → out ≡ refusal_line (number StreamLength)
  pub opens : front_answer u ≡ Ok tt → (m : List ℕ) → SealOf u s mark m → out ≡ bytes_line 77 m
  pub refuses : front_answer u ≡ Ok tt → (m : List ℕ) → MessageOf u (length s) mark m → ((n : List ℕ) → SealOf u s mark n → ⊥)
      → (e : Refusal) × NoSeal u s mark (Err e) × (out ≡ refusal_line (number e))

abbrev pub StreamAnswer : Known → (mark : ℕ) → (s out : List ℕ) → Type 0
StreamAnswer g k s out =
    WhereGiven g.the_key out (λ x. WhereGiven g.the_settings out (λ p. WhereGiven g.the_nonce out (λ n. WhereGiven g.the_heading out (λ h.
    WherePicked (cipher_of (slice_index p 0) (of_bytes x)) out (λ c. OpenReply (frame_of c p n h) k s out)))))

-- what is printed for a line
abbrev pub Reply : Known → Command → (out : List ℕ) → Type 0
Reply g (key b) out = out ≡ []
Reply g (nonce b) out = out ≡ []
Reply g (settings b) out = out ≡ []
Reply g (heading b) out = out ≡ []
Reply g (message m) out = out ≡ message_answer g m
Reply g (block b) out = out ≡ block_answer g b
Reply g (stream k s) out = StreamAnswer g k s out
Reply g unknown out = out ≡ refusal_line (fault_number (Line UnknownLetter))
Reply g malformed out = out ≡ refusal_line (fault_number (Line Malformed))

-- what is printed for lines: each reply, from what the lines before gave
abbrev pub Replies : Known → List (List ℕ) → (out : List ℕ) → Type 0
Replies g [] out = out ≡ []
Replies g (l ∷ ls) out =
    (first : List ℕ) × (rest : List ℕ) × (out ≡ first ++ rest) × Reply g (read_line l) first × Replies (after g (read_line l)) ls rest

-- something is written behind what stands there
abbrev pub Adds : (before after : List ℕ) → (List ℕ → Type 0) → Type 0
Adds old new P = (more : List ℕ) × (new ≡ old ++ more) × P more

-- P holds of what was written behind `old`, and Q besides; or of the fault that is still to be printed, and then nothing was
-- written. Where memory ran out nothing is said
abbrev pub Gives : Result Unit Failure → (old new : List ℕ) → (List ℕ → Type 0) → Type 0 → Type 0
Gives (Ok u) old new P Q = Adds old new P × Q
Gives (Err (Fault f)) old new P Q = (new ≡ old) × P (refusal_line (fault_number f)) × Q
Gives (Err (Memory e)) old new P Q = Unit {0}
