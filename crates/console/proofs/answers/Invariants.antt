use Rattle.std.proofs.Common.{vec_items}
use Rattle.std.specs.Slice.Iter.{split_inclusive_rest}
use Rattle.console.specs.Known.{known_of}
use Rattle.console.proofs.Texts.{Goes}
use Rattle.console.proofs.answers.Given as goal

abbrev pub invariant-loop-part : goal.invariant-loop-part
invariant-loop-part l = Goes l.text (known_of l.given) (split_inclusive_rest l.part-iterator) (vec_items l.out)
