use Rattle.std.proofs.Common.{◌≡◌, ◌+◌, length, take}
use Rattle.elmd.specs.Heading.{Grows}
use Rattle.rehearsal.specs.Joined.{joined_bytes}
use Rattle.rehearsal.proofs.joined.add_all.Given as goal

abbrev pub invariant-loop-piece : goal.invariant-loop-piece
invariant-loop-piece g l =
    let m = g.C.Cipher.meaning in
    let bytes = joined_bytes (take l.piece-index l.pieces) in
    record {
      same : m l.c ≡ m l.initial.c;
      counted : l.h.len ≡ l.initial.h.len + length bytes;
      grows : Grows (m l.initial.c) l.initial.h bytes l.h;
    }
