use Rattle.std.proofs.Common.{◌∙◌, rules}
use Rattle.block.specs.Value.{value}
use Rattle.block.proofs.Halves.{double_halves}
use Rattle.block.proofs.raw.Block.double.Goals as goal

pub returns : goal.returns
unfolding value
returns c = c.new.ensures ∙ double_halves _ _ (search rules) (search rules)
