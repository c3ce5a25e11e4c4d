use Rattle.std.proofs.Common.{◌≡◌, ℕ, ◌*◌, ◌≤◌, List, length, take, drop}
use Rattle.elmd.specs.Stream.{Frame, t_of}
use Rattle.opening.specs.Reading.{ReadsPast}
use Rattle.opening.specs.Segment.{There, Ran}
use Rattle.opening.proofs.segment.open_run.Given as goal

abbrev pub invariant-loop-i : goal.invariant-loop-i
invariant-loop-i g l =
    let m = g.C.Cipher.meaning in
    record {
      same : m l.c ≡ m l.initial.c;
      checks : l.s.checks ≡ l.initial.s.checks;
      rest : drop (16 * l.i) l.held ≡ drop (16 * l.i) l.initial.held;
      ran : (u : Frame) (stream : List ℕ) (i j n : ℕ) → u.cipher ≡ m l.initial.c → i ≡ j * t_of u → n ≤ t_of u → length l.initial.held ≡ 16 * n → There l.initial.held stream i j (16 * n)
          → ReadsPast u stream i j l.initial.s → Ran u stream i j l.i l.s (take (16 * l.i) l.held);
    }
