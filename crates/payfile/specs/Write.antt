-- Writing a pay file: which answer comes, and what is written.
use Rattle.std.specs.Prelude.{ℕ, cond, ◌||◌, List, ◌++◌, length, drop, Ok, Err, Result, ◌==◌, nat_lt}
use Rattle.elmd.specs.declared.refusal.Refusal.TheVariants.{MessageLength, OutputShort}
use Rattle.elmd.specs.Stream.{Frame}
use Rattle.payfile.specs.declared.refusal.FileRefusal.{FileRefusal}
use Rattle.payfile.specs.declared.refusal.FileRefusal.TheVariants.{Seal}
use Rattle.payfile.specs.Refusals.{after}
use Rattle.payfile.specs.Layout.{pay_file, heading_answer, label_answer}

-- of a message whose shed, week and settings are accepted
abbrev pub message_answer : Frame → (m : List ℕ) (room : ℕ) → Result ℕ FileRefusal
message_answer u m room =
    cond (length m == 0 || nat_lt 16777216 (length m)) (Err (Seal MessageLength))
    (cond (nat_lt room (length (pay_file u m))) (Err (Seal OutputShort)) (Ok (length (pay_file u m))))

-- under a heading that is accepted
abbrev pub sealed_answer : Frame → (m : List ℕ) (room : ℕ) → Result ℕ FileRefusal
sealed_answer u m room = after (label_answer u.cipher.label u.settings) (message_answer u m room)

-- the first cause of shed, week, settings, label, message and room; else the file's length
abbrev pub write_answer : Frame → (shed week : ℕ) (m : List ℕ) (room : ℕ) → Result ℕ FileRefusal
write_answer u shed week m room = after (heading_answer shed week) (sealed_answer u m room)

-- the output then: the file and what was behind it, or all as it was
abbrev pub written : Frame → (m out : List ℕ) → Result ℕ FileRefusal → List ℕ
written u m out (Ok n) = pay_file u m ++ drop (length (pay_file u m)) out
written u m out (Err e) = out
