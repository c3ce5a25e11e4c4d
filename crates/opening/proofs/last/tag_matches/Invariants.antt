use Rattle.std.proofs.Common.{◌≡◌, take, length}
use Rattle.std.specs.Iterator.Adapters.{zip_first, zip_second}
use Rattle.std.specs.Slice.Iter.{iter_rest}
use Rattle.opening.proofs.last.tag_matches.Given as goal

abbrev pub invariant-loop-a : goal.invariant-loop-a
invariant-loop-a l =
    let a = iter_rest (zip_first l.initial.a-iterator) in
    let b = iter_rest (zip_second l.initial.a-iterator) in
    let n = length l.yielded in
    record {
      alike : l.diff ≡ 0 → take n a ≡ take n b;
      none : take n a ≡ take n b → l.diff ≡ 0;
    }
