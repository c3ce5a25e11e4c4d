use Rattle.std.proofs.Common.{◌≡◌, ◌%◌, ◌<◌, ◌≤◌, length, take, drop}
use Rattle.std.specs.Slice.Iter.{chunks_rest, chunks_size}
use Rattle.sealing.proofs.Pieces.{Taken}
use Rattle.sealing.proofs.begun.Sealer.push_all.Given as goal

abbrev pub invariant-loop-part : goal.invariant-loop-part
invariant-loop-part g l =
    record {
      callable : (goal.iterator-loop-part g).can_next l.part-iterator;
      finite : (goal.iterator-loop-part g).is_finite l.part-iterator;
      by_sixteen : chunks_size l.part-iterator ≡ 16;
      same : g.C.Cipher.meaning l.c ≡ g.C.Cipher.meaning l.fn.c;
      fits : l.at ≤ length l.out;
      back : drop l.at l.out ≡ drop l.at l.fn.out;
      whole : 0 < length (chunks_rest l.part-iterator) → l.self.k % 16 ≡ 0;
      taken : Taken (g.C.Cipher.meaning l.fn.c) l.fn.self l.self l.fn.piece (chunks_rest l.part-iterator) l.at (take l.at l.out);
    }
