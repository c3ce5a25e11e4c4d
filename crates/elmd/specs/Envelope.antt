-- The frame of an envelope under a cipher, and what it is refused for.
use Rattle.std.specs.Prelude.{length, Result}
use Rattle.cipher.specs.Meaning.{Meaning}
use Rattle.elmd.specs.declared.envelope.Envelope.{Envelope}
use Rattle.elmd.specs.declared.refusal.Refusal.{Refusal}
use Rattle.elmd.specs.Refusals.{next}
use Rattle.elmd.specs.Settings.{settings_answer}
use Rattle.elmd.specs.Heading.{frame_of, add_answer}
use Rattle.elmd.specs.Stream.{Frame}

abbrev pub frame_under : Meaning → Envelope → Frame
frame_under m e = frame_of m e.settings e.nonce e.heading.now

-- the first cause of the settings, then of the heading's length
abbrev pub heading_answer : Frame → Result Unit Refusal
heading_answer u = next (settings_answer u.cipher.label u.settings) (add_answer 0 (length u.heading))
