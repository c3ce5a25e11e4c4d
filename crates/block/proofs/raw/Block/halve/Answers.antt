use Rattle.std.proofs.Common.{◌∙◌, rules}
use Rattle.block.specs.Value.{value}
use Rattle.block.proofs.Halves.{halve_halves}
use Rattle.block.proofs.raw.Block.halve.Goals as goal

pub returns : goal.returns
unfolding value
returns c = c.new.ensures ∙ halve_halves _ _ (search rules) (search rules)
