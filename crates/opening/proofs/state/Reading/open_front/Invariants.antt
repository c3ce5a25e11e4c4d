use Rattle.std.proofs.Common.{◌≡◌, ◌+◌, ◌*◌, ◌/◌, take}
use Rattle.elmd.specs.Stream.{Frame, t_of}
use Rattle.opening.specs.Reading.{Reads}
use Rattle.opening.specs.Judging.{Passed}
use Rattle.opening.proofs.state.Reading.open_front.Given as goal

abbrev pub invariant-loop-i : goal.invariant-loop-i
invariant-loop-i g l =
    let m = g.C.Cipher.meaning in
    record {
      same : m l.c ≡ m l.initial.c;
      count : l.i ≡ l.i / l.t * l.t + l.since;
      checks : l.s.checks ≡ l.i / l.t;
      passed : (u : Frame) → u.cipher ≡ m l.initial.c → t_of u ≡ l.t → Reads u l.stream 0 l.initial.s → Passed u l.stream l.i l.s (take (16 * l.i) l.out);
    }
