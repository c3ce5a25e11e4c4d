-- Whole sealing: which answer comes, and what is written.
use Rattle.std.specs.Prelude.{ℕ, ◌||◌, List, ◌++◌, length, drop, Ok, Err, Result, ◌==◌, nat_lt}
use Rattle.elmd.specs.declared.refusal.Refusal.{Refusal}
use Rattle.elmd.specs.declared.refusal.Refusal.TheVariants.{MessageLength, OutputShort}
use Rattle.elmd.specs.declared.refusal.Mark.{Mark}
use Rattle.elmd.specs.Refusals.{refuse, next, mark_of}
use Rattle.elmd.specs.Settings.{settings_answer}
use Rattle.elmd.specs.Heading.{add_answer}
use Rattle.elmd.specs.Stream.{Frame, mark, stream}

-- of a message under a frame whose settings and heading are accepted
abbrev pub message_answer : Frame → (m : List ℕ) (room : ℕ) → Result (ℕ × Mark) Refusal
message_answer u m room =
    refuse (length m == 0 || nat_lt 16777216 (length m)) MessageLength
    (refuse (nat_lt room (length (stream u m))) OutputShort (Ok (length (stream u m), mark_of (mark m))))

-- the first cause of the settings, the heading, the message and the room; else the stream's length and the mark
abbrev pub seal_answer : Frame → (m : List ℕ) (room : ℕ) → Result (ℕ × Mark) Refusal
seal_answer u m room = next (settings_answer u.cipher.label u.settings) (next (add_answer 0 (length u.heading)) (message_answer u m room))

-- the output then: the stream and what was behind it, or all as it was
abbrev pub sealed : Frame → (m out : List ℕ) → Result (ℕ × Mark) Refusal → List ℕ
sealed u m out (Ok p) = stream u m ++ drop (length (stream u m)) out
sealed u m out (Err e) = out
