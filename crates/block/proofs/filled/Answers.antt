use Rattle.std.proofs.Common.{ap, ◌∙◌}
use Rattle.block.specs.Bytes.{of_bytes}
use Rattle.block.proofs.Filling.{fill_set}
use Rattle.block.proofs.filled.Goals as goal

pub returns : goal.returns
returns c = c.from_bytes.ensures ∙ ap of_bytes (let f = fill_set c.args.tail.now c.requires in let e = c.copy_from_slice.ensures.after in cc)
