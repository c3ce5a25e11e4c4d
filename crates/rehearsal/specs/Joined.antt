-- A heading in pieces.
use Rattle.std.specs.Prelude.{ℕ, List}
use Rattle.std.specs.Borrow.{Bor}
use Rattle.std.specs.List.{flat_map}
use Rattle.cipher.specs.Meaning.{Meaning}
use Rattle.elmd.specs.Heading.{frame_of}
use Rattle.elmd.specs.Stream.{Frame}
use Rattle.rehearsal.specs.declared.joined.Heading.{Heading}

abbrev pub joined_bytes : List (Bor (List ℕ)) → List ℕ
joined_bytes ps = flat_map (λ (p : Bor (List ℕ)). p.now) ps

abbrev pub frame_under : Meaning → Heading → Frame
frame_under m h = frame_of m h.settings h.nonce (joined_bytes h.pieces.now)
