use Rattle.std.proofs.Common.{◌≡◌, ◌≤◌, length, drop, take}
use Rattle.std.specs.Slice.Iter.{chunks_exact_rest, chunks_exact_size}
use Rattle.sealing.proofs.Fronts.{FrontSealed}
use Rattle.sealing.proofs.state.Running.seal_front.Given as goal

abbrev pub invariant-loop-part : goal.invariant-loop-part
invariant-loop-part g l =
    record {
      callable : (goal.iterator-loop-part g).can_next l.part-iterator;
      finite : (goal.iterator-loop-part g).is_finite l.part-iterator;
      by_sixteen : chunks_exact_size l.part-iterator ≡ 16;
      same : g.C.Cipher.meaning l.c ≡ g.C.Cipher.meaning l.initial.c;
      fits : l.at ≤ length l.out;
      back : drop l.at l.out ≡ drop l.at l.initial.out;
      sealed : FrontSealed (g.C.Cipher.meaning l.initial.c) l.t l.initial.self l.self l.fn.front (chunks_exact_rest l.part-iterator) l.at (take l.at l.out);
    }
