use Rattle.std.proofs.Common.{ℕ}
use Rattle.fileparts.specs.Parts.{layout_of}
use Rattle.fileparts.proofs.Joining.{Copied, Walking}
use Rattle.fileparts.proofs.copy.join.Given as goal

abbrev pub invariant-loop-part : goal.invariant-loop-part
invariant-loop-part l =
    (goal.iterator-loop-part).can_next l.part-iterator ×
    (goal.iterator-loop-part).is_finite l.part-iterator ×
    ((at : ℕ) × Walking l.initial.part-iterator.file.now (layout_of l.initial.part-iterator) l.part-iterator at × Copied l.initial.part-iterator.file.now l.initial.out at l.out)
